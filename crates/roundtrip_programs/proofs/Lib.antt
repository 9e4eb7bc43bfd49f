mod Found
mod Bare
mod Seen
mod Told
mod Sorts
mod Values
mod Shapes
mod Judged
mod Items
mod Filled
mod Put
pub mod Shared
mod Symbols
mod Tables
pub mod Graphs
pub mod Shown
pub mod Names
pub mod Assigned
pub mod Named
pub mod ElaboratedNames
pub mod Body
pub mod Listed
mod Back
mod Pieces
pub mod Written
pub mod Cards
pub mod ModuleTexts
pub mod Statements
pub mod Texts
