pub mod Differences
pub mod InSets
pub mod Iterations
pub mod InStatements
pub mod InPrograms
