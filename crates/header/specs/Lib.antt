-- What a header line is.
pub mod Header
