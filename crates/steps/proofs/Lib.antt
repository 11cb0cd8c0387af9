pub mod Counters
pub mod Written
