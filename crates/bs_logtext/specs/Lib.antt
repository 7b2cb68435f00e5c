pub mod Declared
pub mod Text
pub mod Words
