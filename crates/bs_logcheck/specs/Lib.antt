pub mod Lines
pub mod Rules
pub mod Ranges
pub mod Places
pub mod Faults
pub mod Searched
