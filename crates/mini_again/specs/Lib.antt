pub mod Again
pub mod Families
pub mod Carrying
