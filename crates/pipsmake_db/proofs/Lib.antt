pub use Rattle.session_texts.proofs.RoundtripPrograms as RoundtripPrograms
pub use Rattle.call_equations.proofs as CallEquations
pub use Rattle.result_lines.proofs as ResultLines
pub use Rattle.session_texts.proofs.PipsmakeRules as PipsmakeRules
pub use Rattle.session_texts.proofs.PipsmakeMeaning as PipsmakeMeaning
pub use Rattle.session_texts.proofs as SessionTexts
pub use Rattle.result_store.proofs as ResultStore
pub use Rattle.result_making.proofs as ResultMaking
pub use Rattle.laws_database.proofs as LawsDatabase
pub use Rattle.base_values.proofs as BaseValues
pub mod ListLaws
pub mod LinkLaws
pub mod AskedLaws
pub mod RestLaws
pub mod TextLaws
pub mod BringLaws
pub mod MakeLaws
pub mod ShowLaws
pub mod PutLaws
pub mod CommandLemmas
pub mod WalkedLists
pub mod UpToDate
pub mod WalkedLaws
pub mod PrintLemmas
pub mod ScriptLemmas
pub mod Once
pub mod Staying
pub mod Printing
pub mod SmallSession
pub mod Walking
