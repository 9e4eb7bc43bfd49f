pub mod Values
pub mod Fits
pub mod Rows
pub mod RowChanges
pub mod Seen
pub mod Stamps
