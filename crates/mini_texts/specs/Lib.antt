pub mod Minified
pub mod Options
pub mod Texts
pub mod Inputs
