pub mod Blanks
pub mod Inserted
pub mod Lasts
pub mod Literals
pub mod Scans
pub mod Slashed
pub mod Tight
pub mod Words
