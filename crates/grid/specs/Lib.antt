-- What the geometry of a table is.
pub mod Geometry
