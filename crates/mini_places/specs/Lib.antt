pub mod Nexts
pub mod Standing
