pub mod Firsts
pub mod Pieces
pub mod Sorts
pub mod Views
