-- Laws that the functions' proofs cite.
pub mod StepLaws
pub mod ResultLaws
pub mod SheetsLaws
