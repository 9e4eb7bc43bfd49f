pub mod TestLaws
pub mod GraphLaws
pub mod SymbolLaws
pub mod StmtLaws
pub mod DeclLaws
