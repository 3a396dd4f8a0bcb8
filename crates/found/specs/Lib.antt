-- What the search finds.
pub mod Found
