pub mod Streams
pub mod Memory
pub mod Standard
pub mod Over
pub mod Ending
pub mod Laws
