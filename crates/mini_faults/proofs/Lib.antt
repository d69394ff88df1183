pub mod Depths
pub mod Filled
pub mod Scans
pub mod Searches
pub mod Shapes
pub mod There
pub mod Wanted
