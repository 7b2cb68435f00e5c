pub mod News
pub mod Asked
pub mod Chare
pub mod Fault
pub mod State
