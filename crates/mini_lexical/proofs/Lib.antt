pub mod HeldNames
pub mod SwitchRows
pub mod LoopRows
pub mod Joined
