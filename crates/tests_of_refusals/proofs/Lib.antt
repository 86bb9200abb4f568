pub mod Living
pub mod Seats
