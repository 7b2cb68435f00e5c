pub mod Ring
pub mod Range
pub mod Torus
pub mod Home
pub mod Latency
