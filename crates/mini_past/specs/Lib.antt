pub mod SubstitutePast
pub mod LetPlaces
pub mod Looks
pub mod Lighter
pub mod PastInBlocks
pub mod PastEnds
pub mod RareReads
