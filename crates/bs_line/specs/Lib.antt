pub mod Places
pub mod Layout
pub mod Making
pub mod Listing
pub mod Line
