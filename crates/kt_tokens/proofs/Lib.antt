pub mod WordNames
pub mod Places
pub mod Moves
pub mod Signs
pub mod WordSigns
