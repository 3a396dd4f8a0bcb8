-- The definitions that the contracts of the lines cite.
pub mod Lines
