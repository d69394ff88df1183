pub mod Spelling
pub mod Styles
pub mod Writable
