pub mod Reached
pub mod Stop
pub mod World
pub mod Emulated
