mod ConstantsExample
mod SymbolExample
pub mod UnitsLaws
pub mod NumbersLaws
pub mod ValueLaws
pub mod SharingLaws
mod StorageExample
pub mod StorageLaws
pub mod Plainly
pub mod PlainlyStmt
pub mod PlainlyDecl
pub mod StepLaws
pub mod WalkLaws
pub mod Example
pub mod ExampleLoops
mod ExampleWalks
mod OrderLaws
mod UnionLaws
pub mod MapLaws
pub mod NumberOrder
pub mod Shared
pub mod SameLaws
pub mod HiddenLaws
pub mod NumberedNames
pub mod KeptNumbers
