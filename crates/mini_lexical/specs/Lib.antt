pub mod Held
pub mod MinimizeLexicalStatement
pub mod Open
