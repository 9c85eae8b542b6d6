pub mod Intervals
pub mod Splits
pub mod Chunks
pub mod Laws
pub mod Dealt
