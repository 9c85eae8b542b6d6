pub mod Doing
pub mod Endings
pub mod Moves
pub mod Scenes
pub mod Forking
pub mod Starts
pub mod Widths
