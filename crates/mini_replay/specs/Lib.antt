pub mod Seeking
pub mod Logged
pub mod Checking
