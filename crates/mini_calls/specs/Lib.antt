pub mod Joined
pub mod OwnRows
