pub mod Fronts
pub mod Ordered
pub mod Texts
