pub mod Depth
pub mod Faults
pub mod There
pub mod Wants
