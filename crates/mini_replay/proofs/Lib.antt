pub mod Indices
pub mod Searches
pub mod Drafts
pub mod Entries
pub mod Checks
