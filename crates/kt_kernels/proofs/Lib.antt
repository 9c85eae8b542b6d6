pub mod Cells
pub mod Neighbours
pub mod Scanned
pub mod Shifted
pub mod Stored
pub mod Sums
pub mod Vectors
