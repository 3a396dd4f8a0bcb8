-- What the test of a cell asks.
pub mod Admits
