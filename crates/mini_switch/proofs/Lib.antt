pub mod DeadCases
pub mod Switches
pub mod DeadCaseRows
