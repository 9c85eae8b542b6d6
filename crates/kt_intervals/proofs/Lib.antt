pub mod Acts
pub mod Stands
pub mod Faults
pub mod Running
pub mod Retiring
pub mod AllMet
