pub mod Called
pub mod Steps
pub mod Taken
pub mod Rows
pub mod ListCalled
pub mod Laws
pub mod Examples
