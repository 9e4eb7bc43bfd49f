pub mod CalleePieces
pub mod CalleeLinks
pub mod OutSets
pub mod OutStatements
pub mod OutPrograms
