pub mod NewSends
pub mod Askers
pub mod Mails
pub mod Equal
pub mod Steps
