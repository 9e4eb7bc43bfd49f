pub use Rattle.session_texts.specs.roundtrip_programs as roundtrip_programs
pub use Rattle.call_equations.specs as call_equations
pub use Rattle.result_lines.specs as result_lines
pub use Rattle.session_texts.specs.pipsmake_rules as pipsmake_rules
pub use Rattle.session_texts.specs.pipsmake_meaning as pipsmake_meaning
pub use Rattle.session_texts.specs as session_texts
pub use Rattle.result_store.specs as result_store
pub use Rattle.result_making.specs as result_making
pub use Rattle.laws_database.specs as laws_database
pub use Rattle.base_values.specs as base_values
pub mod Refusals
pub mod Graphs
pub mod Links
pub mod Fresh
pub mod State
pub mod Shown
pub mod Asked
pub mod Texts
pub mod Calls
pub mod Bring
pub mod Kept
pub mod Walked
pub mod Puts
pub mod Answers
pub mod Scripts
pub mod Outlines
pub mod AnswerTexts
pub mod AnswerSteps
pub mod AnswerLaws
pub mod SmallSession
pub mod KeptModules
