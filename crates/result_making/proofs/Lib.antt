pub mod Several
pub mod Fitting
