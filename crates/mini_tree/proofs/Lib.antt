pub mod Outlines
pub mod Sums
pub mod Edits
pub mod Reaching
pub mod Joining
pub mod Walks
pub mod Passing
