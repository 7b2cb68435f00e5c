pub mod Reading
pub mod Seen
pub mod Whole
pub mod Text
pub mod Naming
pub mod TextLaws
pub mod Names
