pub mod Places
mod Keys
mod Considered
mod Course
mod Depending
pub mod Relabel
pub mod Lines
