pub mod Asked
pub mod Walk
pub mod Symbols
pub mod Going
