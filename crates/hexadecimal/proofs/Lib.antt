-- Laws that the functions' proofs and the callers cite.
pub mod WrittenLaws
pub mod FieldLaws
pub mod RangeLaws
pub mod RoomLaws
