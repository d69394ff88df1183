pub mod Told
pub mod Offered
pub mod Sites
pub mod Numbers
