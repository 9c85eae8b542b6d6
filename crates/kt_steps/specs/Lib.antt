pub mod Laws
pub mod CoreMoves
pub mod Told
