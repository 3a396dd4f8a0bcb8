-- Laws that the functions' proofs cite.
pub mod CallLaws
pub mod FoundLaws
