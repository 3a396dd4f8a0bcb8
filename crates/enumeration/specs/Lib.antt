-- How many choices a book has.
pub mod Choices
