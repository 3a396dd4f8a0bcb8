-- Laws of the sums, for the functions' proofs and for the crates that call them.
pub mod SumsLaws
pub mod PickLaws
