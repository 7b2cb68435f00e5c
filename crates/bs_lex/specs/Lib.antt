pub mod Spelling
pub mod Lexed
pub mod Symbols
pub mod Written
