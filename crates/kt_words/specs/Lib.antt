pub mod Places
pub mod BitFields
pub mod Words
pub mod Laws
