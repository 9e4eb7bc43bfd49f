pub mod Units
pub mod Items
pub mod Initials
pub mod Runs
pub mod Laws
pub mod OffsetNodes
pub mod GroupLaws
pub mod Spans
