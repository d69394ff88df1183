mod Called
mod Families
mod Held
pub mod Following
mod Keeping
mod Knowing
mod Others
mod Small
mod Telling
pub mod Ways
