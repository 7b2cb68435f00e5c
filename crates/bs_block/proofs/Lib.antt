pub mod Within
pub mod Values
pub mod Drafts
pub mod Sends
pub mod Items
pub mod Steps
pub mod Blocks
