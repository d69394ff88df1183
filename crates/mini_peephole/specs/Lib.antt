pub mod Environments
pub mod SteadyRows
pub mod Rules
pub mod Minified
pub mod Faithful
pub mod AnyPasses
pub mod ComesBack
pub mod Answer
