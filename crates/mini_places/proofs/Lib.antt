pub mod Asked
pub mod Stands
