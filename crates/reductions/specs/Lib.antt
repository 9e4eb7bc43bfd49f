pub mod Accumulations
pub mod Standings
pub mod Reduced
