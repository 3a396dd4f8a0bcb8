-- The definitions that the contracts of the program cite.
pub mod PrintedValue
