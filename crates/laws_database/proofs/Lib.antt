pub mod Stamps
pub mod Keeping
pub mod InOrder
pub mod Modules
pub mod Needs
pub mod Called
pub mod Made
pub mod Same
pub mod Linked
pub mod Whole
pub mod Changes
pub mod Unverified
pub mod Going
pub mod Rests
pub mod AtLines
pub mod ResultEffectLaws
pub mod ResultRegionLaws
pub mod ResultInLaws
pub mod ResultLists
pub mod ResultOrders
pub mod ResultBottomUp
pub mod ResultTopDown
pub mod ResultSites
pub mod ResultPhases
pub mod ResultEntries
pub mod ResultGraphs
pub mod ResultFollows
pub mod ResultSameNeeds
mod TextRead
mod TextSame
pub mod TextPieces
mod TextNamed
mod Sources
