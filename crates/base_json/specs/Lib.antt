pub mod Written
pub mod Shapes
pub mod Gives
pub mod Scopes
pub mod Distinct
pub mod Read
pub mod RowsWritten
