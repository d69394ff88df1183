mod Chains
mod CodeLawful
mod ComesBack
mod Everywhere
mod Lightest
mod Own
mod Placing
mod SeenLater
mod SteadyKnown
mod Survives
mod ToldAgain
mod ToldExactly
mod WrittenAlike
pub mod AnswerFloats
pub mod Answered
pub mod AnyPasses
pub mod Due
pub mod Faith
pub mod Finished
pub mod Floats
pub mod Gathered
pub mod Heaviest
pub mod Known
pub mod Refused
pub mod Repeats
pub mod Rules
pub mod Told
pub mod Written
