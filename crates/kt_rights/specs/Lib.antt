pub mod Acts
pub mod Plan
pub mod Rights
pub mod Theorems
pub mod Rows
pub mod Example
