pub mod Words
pub mod State
pub mod Operators
pub mod Lexical
pub mod Grammar
pub mod Laws
