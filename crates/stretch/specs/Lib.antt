-- What a stretch is.
pub mod Stretch
