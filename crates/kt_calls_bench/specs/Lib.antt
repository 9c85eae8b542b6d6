pub mod Asking
pub mod Together
