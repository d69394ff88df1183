pub mod Paces
pub mod Either
pub mod Fitting
pub mod Lifting
pub mod Finding
pub mod Owns
pub mod Deeper
pub mod Programs
pub mod Telling
pub mod Moments
pub mod Alone
pub mod Regulars
pub mod Bound
pub mod Foreigns
pub mod ToldOn
pub mod Ports
pub mod PortSteps
pub mod Tops
pub mod Within
pub mod Exact
pub mod Spelled
pub mod Debts
pub mod Silence
pub mod Provided
pub mod Covering
mod Unended
mod Covered
mod Parts
mod Slotted
mod Items
pub mod Always
pub mod SameForeign
pub mod Homes
mod Bodies
mod Outside
mod Inside
pub mod Functions
mod Around
mod EarlyMoments
