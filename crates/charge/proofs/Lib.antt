-- Laws that the functions' proofs cite.
pub mod SlotLaws
pub mod ResultLaws
