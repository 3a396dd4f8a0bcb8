-- Laws of the day.
pub mod SplitLaws
pub mod BookLaws
pub mod ProgressLaws
pub mod ResultLaws
