pub mod Told
pub mod Walks
pub mod Marks
pub mod Symbols
pub mod Agreeing
pub mod Losing
pub mod Every
pub mod Later
