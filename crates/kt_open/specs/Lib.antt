pub mod Answers
pub mod Unopened
