-- Laws that the function's proof and the callers cite.
pub mod SizeLaws
