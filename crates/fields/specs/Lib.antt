-- What is read of a book.
pub mod Slots
pub mod Used
