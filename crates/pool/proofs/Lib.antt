-- Laws that the functions' proofs cite.
pub mod HeldPairLaws
pub mod ResultLaws
