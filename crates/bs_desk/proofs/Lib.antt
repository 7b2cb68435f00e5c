pub mod WrittenLemmas
pub mod Parts
pub mod VersionLemmas
pub mod MemoryReads
pub mod MemoryWrites
pub mod PlanLemmas
