pub mod Accesses
pub mod Claims
pub mod Climbs
pub mod Fields
pub mod Hands
pub mod Publications
