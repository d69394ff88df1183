pub mod Holding
pub mod Lighter
pub mod Further
