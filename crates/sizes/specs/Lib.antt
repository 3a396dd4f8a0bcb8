-- What the sizes are.
pub mod Sizes
