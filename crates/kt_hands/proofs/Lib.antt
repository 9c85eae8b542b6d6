pub mod Seats
mod LoopSeats
