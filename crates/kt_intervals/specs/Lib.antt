pub mod Programs
pub mod Faults
pub mod Indexes
pub mod Chunks
pub mod Drains
