-- The definitions that the contracts of the choice on a sheet cite.
pub mod Chosen
