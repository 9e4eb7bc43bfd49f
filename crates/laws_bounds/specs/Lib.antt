pub use Rattle.bound_check.specs as bound_check
pub use Rattle.laws_analyses.specs as laws_analyses
pub use Rattle.laws_marks.specs as laws_marks
pub mod Claims
pub mod Accepted
pub mod Faults
pub mod Lines
pub mod Said
pub mod LinesPass
pub mod SafeLines
pub mod Evaluations
