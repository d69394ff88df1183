pub mod AnyOrder
pub mod Filled
pub mod Known
pub mod Named
pub mod Reading
pub mod Sizes
pub mod Spelled
pub mod Taken
