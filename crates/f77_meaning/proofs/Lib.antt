pub mod CaseWords
pub mod UnitLaws
pub mod ModuleLaws
pub mod LinkLaws
pub mod CellLaws
pub mod BlockLaws
pub mod InitialLaws
pub mod LinkedLaws
pub mod CommonCellLaws
pub mod Alike
pub mod StraightLaws
pub mod StraightNames
pub mod StraightProgram
pub mod cases
pub mod ClaimCases
mod ParallelCase
pub mod SymbolNames
