pub mod Offers
pub mod Sites
