pub mod Reading
pub mod Printed
pub mod Laws
pub mod Added
