pub mod Ordered
mod Counted
mod Rows
mod Tables
mod Parts
pub mod Kept
pub mod Keys
pub mod Chosen
mod Dirty
mod Changes
