-- Laws that the functions' proofs cite.
pub mod DueLaws
pub mod SheetChoiceLaws
