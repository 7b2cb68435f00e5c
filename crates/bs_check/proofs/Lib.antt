pub mod Placed
pub mod Twice
pub mod Fitting
pub mod Nothing
pub mod Rows
pub mod Unrolled
pub mod Clashes
pub mod PartByPart
pub mod Everything
pub mod Verdict
pub mod Fitness
mod Owners
mod Agreeing
mod Overlaps
pub mod Ends
pub mod Standing
