pub mod Units
pub mod Under
pub mod Ends
pub mod Inside
pub mod Joins
pub mod Raw
pub mod Decimals
pub mod Safe
