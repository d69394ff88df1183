pub mod Booleans
pub mod Lighter
