-- What a row is.
pub mod Row
