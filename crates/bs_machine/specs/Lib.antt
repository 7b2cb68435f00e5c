pub mod Answer
pub mod Keys
pub mod Values
pub mod Machine
pub mod File
pub mod Fitted
