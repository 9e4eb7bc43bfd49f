pub mod RowsFit
pub mod Pairs
pub mod ShortNames
