pub mod Sent
pub mod Serving
pub mod Refusals
pub mod Chares
pub mod Steps
pub mod Ends
pub mod Told
