pub mod Tests
pub mod GraphTests
pub mod SymbolTests
pub mod StmtTests
pub mod DeclTests
