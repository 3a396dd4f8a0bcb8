-- What a load line is.
pub mod LoadLine
