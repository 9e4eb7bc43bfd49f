pub mod Phrases
pub mod Lists
pub mod Parts
pub mod Specifications
pub mod Executables
pub mod Causes
pub mod Statements
pub mod Gives
