-- What a comparison leaves in the tally.
pub mod Settled
