pub mod Points
pub mod Rescaled
pub mod Figures
pub mod Best
pub mod Texts
