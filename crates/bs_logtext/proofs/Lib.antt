mod Asking
mod Causes
mod Entries
mod Gathered
mod InWords
mod Joined
mod Keys
pub mod Lengths
mod Rows
mod Whole
mod Written
