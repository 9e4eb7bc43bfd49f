pub mod SystemText
pub mod Reading
pub mod Meaning
pub mod Printed
pub mod Laws
