mod Listed
mod Whole
pub mod Passed
mod Budget
mod Joined
mod Columns
mod Lines
mod Held
pub mod Premises
mod Sorted
mod Holds
mod Refreshed
mod Waved
mod Consistent
mod Fields
mod Within
mod Added
mod Shared
mod Made
mod Early
mod WaveLists
mod OneNoting
mod SomeNoting
pub mod FirstStill
