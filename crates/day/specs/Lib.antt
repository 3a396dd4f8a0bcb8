-- The definitions that the contracts of the day cite.
pub mod BookLength
