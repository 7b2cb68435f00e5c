pub mod Line
pub mod Words
pub mod Spelled
pub mod Order
pub mod Lines
pub mod Draft
pub mod Fault
