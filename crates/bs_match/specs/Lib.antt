pub mod Keyed
pub mod Mail
pub mod Fault
pub mod Filled
