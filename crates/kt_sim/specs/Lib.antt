pub mod Left
pub mod Simulated
pub mod Choosing
pub mod Turns
pub mod Answering
