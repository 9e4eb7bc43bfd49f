pub mod Command
pub mod Texts
pub mod Options
pub mod Requests
