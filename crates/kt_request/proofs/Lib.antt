pub mod Words
pub mod Seeing
pub mod Claiming
pub mod Turning
pub mod Pieces
pub mod Dealing
pub mod Reporting
