pub mod Zeroing
pub mod Stands
pub mod Begun
pub mod Requests
pub mod Turning
pub mod Intervals
