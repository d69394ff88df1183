pub mod Minified
pub mod Ordered
pub mod Told
pub mod Read
