-- What a count leaves in the tally.
pub mod Tally
