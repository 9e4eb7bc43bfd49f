pub mod Good
pub mod Evaluations
pub mod Targets
pub mod Leads
pub mod Activation
pub mod Placed
pub mod Results
pub mod Laws
