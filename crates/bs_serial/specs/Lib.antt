pub mod Times
pub mod Example
