-- Laws that the functions' proofs and the callers cite, by subject.
pub mod ArrayLaws
pub mod SlotLaws
pub mod GeometryLaws
