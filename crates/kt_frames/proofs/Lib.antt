pub mod Layouts
pub mod Standing
pub mod Alike
pub mod Rests
pub mod Turns
pub mod Zeroed
pub mod LoopTurns
