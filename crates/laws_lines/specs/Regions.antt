pub mod Indexes
pub mod Places
pub mod Names
pub mod Laws
pub mod Lines
pub mod LineLaws
