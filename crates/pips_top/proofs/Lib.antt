pub mod Joining
pub mod LinkLaws
pub mod Said
pub mod LinesFound
pub mod Programs
pub mod Entries
pub mod EntryClaims
pub mod BlockNames
pub mod MarkNames
pub mod ClaimsPlain
pub mod ModulesSaid
pub mod Marking
pub mod DirectivesFound
pub mod DirectiveMarks
pub mod Covering
pub mod MarkedBack
pub mod Interleaved
pub mod AddedLines
pub mod ReadBack
pub mod LinesMeant
pub mod ClaimsBack
pub mod SampleSize
pub mod Sessions
pub mod Endings
pub mod Soundness
pub mod Stopping
pub mod FreshKeys
pub mod Alone
pub mod KeptTexts
pub mod Analysed
pub mod Lent
pub mod ReadAlike
pub mod PrintedOver
pub mod OverBase
mod ExampleReading
mod FunctionReading
mod FunctionResults
mod SumResults
mod BoundsResults
mod Runs
mod Claiming
mod Schedules
pub mod Parts
