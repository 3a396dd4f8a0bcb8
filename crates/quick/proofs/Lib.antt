-- Laws that the functions' proofs cite.
pub mod OrderLaws
pub mod TrackLaws
