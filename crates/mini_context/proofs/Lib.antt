mod Equal
mod Counting
mod Numbers
mod Kept
mod Gathering
mod Marking
mod Joining
mod Housing
mod Spellings
mod Enclosing
mod Passing
mod Surveys
mod Listings
mod Evals
mod Told
mod Reached
mod Shares
pub mod Known
mod Patterns
mod Values
pub mod Foreigns
mod Uses
mod Holding
mod Askings
