pub mod Openings
pub mod Seats
pub mod Exact
pub mod Closing
pub mod Laws
