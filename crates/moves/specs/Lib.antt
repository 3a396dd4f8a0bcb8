-- What the settings of a load do.
pub mod Moves
