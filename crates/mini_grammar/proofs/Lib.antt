pub mod Before
pub mod Leads
pub mod Nameless
pub mod Numbered
pub mod Same
