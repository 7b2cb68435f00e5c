pub mod ClosedTests
pub mod Decided
pub mod Links
pub mod Numbers
pub mod Order
pub mod Chains
pub mod ValidTests
