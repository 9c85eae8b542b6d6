pub mod Readings
pub mod Zeroings
