pub mod Options
pub mod Context
pub mod Rule
pub mod Wider
pub mod Lighter
pub mod Walk
pub mod Passes
