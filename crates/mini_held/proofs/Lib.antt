pub mod Enclosing
pub mod NeverEqual
pub mod PartsGone
