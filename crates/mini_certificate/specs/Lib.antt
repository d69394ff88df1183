pub mod Logs
pub mod Certificates
pub mod Checked
