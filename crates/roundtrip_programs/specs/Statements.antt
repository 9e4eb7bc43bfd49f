pub mod Formed
pub mod Follows
pub mod Written
pub mod Declared
pub mod Phrased
pub mod Weights
pub mod Laws
pub mod Fitting
