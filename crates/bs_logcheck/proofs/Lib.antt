pub mod Spots
pub mod Kept
pub mod Lined
pub mod Found
pub mod Listed
pub mod Held
