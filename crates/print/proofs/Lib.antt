-- Laws of printing.
pub mod PrintLaws
