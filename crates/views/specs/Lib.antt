-- The definitions that the contracts of the views cite.
pub mod Read
pub mod MillLine
