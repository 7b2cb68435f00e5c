mod NumbersIn
mod Spelled
mod Values
mod Acts
mod Runs
pub mod Rounds
