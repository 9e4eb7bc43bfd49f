pub mod Cells
pub mod Forms
pub mod Links
pub mod Positions
pub mod Rows
pub mod Sides
