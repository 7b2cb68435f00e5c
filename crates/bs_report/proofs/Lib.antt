mod Rising
mod LoadLemmas
mod Joined
pub mod SideBySide
mod Placed
mod Groups
mod Rowed
mod Heads
mod Causes
mod Written
mod Once
