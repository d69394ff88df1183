pub mod Answered
pub mod Faith
pub mod Forms
pub mod Lighter
pub mod Links
pub mod Names
pub mod Turning
pub mod Words
