-- Laws that the functions' proofs cite.
pub mod MillLaws
pub mod ReadLaws
