pub mod Directives
pub mod Marked
pub mod Lines
pub mod Laws
pub mod WholeLaws
pub mod ClaimsRead
pub mod ClaimLaws
pub mod MarkedLoops
