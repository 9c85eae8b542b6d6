pub mod Tokens
pub mod Words
pub mod Gauge
pub mod Ahead
pub mod Reading
