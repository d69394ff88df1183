pub mod Copies
pub mod Walks
pub mod Unnegated
pub mod Missing
pub mod Replays
