pub mod Forms
pub mod Scalars
pub mod Comparisons
pub mod Conditions
pub mod Claims
