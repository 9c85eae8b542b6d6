pub mod Links
pub mod Steps
pub mod Sound
pub mod Pieces
pub mod Reads
