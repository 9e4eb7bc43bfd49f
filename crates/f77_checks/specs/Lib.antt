pub mod Expressions
pub mod Statements
pub mod Parameters
pub mod Dimensions
pub mod Sizes
pub mod Views
