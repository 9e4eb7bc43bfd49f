pub mod Naming
pub mod ClaimLineLaws
pub mod SpotLaws
pub mod Steps
pub mod RegionLineLaws
pub mod SaidLines
pub mod ReducedLines
pub mod Clauses
