pub mod Made
pub mod Forms
pub mod Checked
