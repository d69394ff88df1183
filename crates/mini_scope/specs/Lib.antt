pub mod ScopeAt
pub mod Pointers
pub mod Spelled
pub mod Paths
pub mod Errors
pub mod Declarators
