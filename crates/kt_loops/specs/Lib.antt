pub mod Hands
pub mod Told
pub mod Calls
pub mod Operations
pub mod LoopEvents
pub mod Laws
