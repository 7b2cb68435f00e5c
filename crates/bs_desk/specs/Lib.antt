pub mod Outside
pub mod Whole
pub mod Host
pub mod Planned
pub mod Plans
pub mod InMemory
pub mod Versions
pub mod Memory
