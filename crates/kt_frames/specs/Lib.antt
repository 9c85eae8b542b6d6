pub mod Stack
pub mod Layout
pub mod Owned
pub mod Rest
pub mod Loops
