pub mod Puts
pub mod Cores
pub mod Sums
pub mod Shelf
pub mod Words
pub mod LoopsStay
pub mod Moves
