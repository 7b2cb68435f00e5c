pub mod Chain
pub mod Sound
pub mod Ended
pub mod Checked
pub mod Text
