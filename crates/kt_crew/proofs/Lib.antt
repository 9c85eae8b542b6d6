pub mod Crossing
pub mod Leasts
pub mod Together
pub mod Ending
