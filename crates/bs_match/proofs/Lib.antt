pub mod Keys
pub mod Finds
pub mod Sent
