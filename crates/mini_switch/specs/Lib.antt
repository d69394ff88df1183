pub mod MinimizeSwitchStatements
pub mod DropUnreachableSwitchCases
pub mod Lighter
