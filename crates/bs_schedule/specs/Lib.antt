pub mod Plan
pub mod Queue
pub mod Dependants
pub mod Whole
pub mod Local
