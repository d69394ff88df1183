pub mod Chain
pub mod Shaking
pub mod Shaken
