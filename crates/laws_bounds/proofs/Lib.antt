pub use Rattle.laws_analyses.proofs as LawsAnalyses
pub use Rattle.laws_marks.proofs as LawsMarks
pub mod Rows
pub mod Inside
pub mod Forms
pub mod Bounds
pub mod Safe
pub mod Reached
pub mod Accepted
pub mod Faults
pub mod Indexed
pub mod Lines
pub mod Texts
pub mod Passed
pub mod SafeLines
pub mod Keeping
pub mod Whats
pub mod Parts
