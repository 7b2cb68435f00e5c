pub mod Pieces
pub mod Steps
pub mod Induction
pub mod Spans
pub mod Spelled
pub mod FaultLemmas
pub mod WrittenLemmas
