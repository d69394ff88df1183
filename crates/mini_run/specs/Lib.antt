pub mod Causes
pub mod Generated
pub mod Memory
pub mod Words
