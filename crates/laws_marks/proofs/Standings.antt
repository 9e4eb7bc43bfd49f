pub mod Both
pub mod Leaves
pub mod Clear
pub mod Adding
pub mod Body
