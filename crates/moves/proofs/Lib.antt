-- Laws that the functions' proofs cite.
pub mod MoveLaws
pub mod LoadLaws
