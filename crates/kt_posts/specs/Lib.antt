pub mod Desks
pub mod Told
pub mod Answered
pub mod Laws
