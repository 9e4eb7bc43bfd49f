pub mod Claims
pub mod Laws
pub mod Settings
pub mod Shown
pub mod StatementLaws
pub mod Entries
pub mod Programs
pub mod Accepted
