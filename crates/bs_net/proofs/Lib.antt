pub mod Products
pub mod Hops
pub mod Bounds
