pub mod Edited
pub mod Negating
pub mod Declaring
pub mod Unwrapping
pub mod Stepping
