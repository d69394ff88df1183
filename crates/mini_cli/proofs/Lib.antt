pub mod Delivered
pub mod Valid
