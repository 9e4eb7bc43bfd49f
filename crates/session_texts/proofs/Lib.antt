pub use Rattle.roundtrip_programs.proofs as RoundtripPrograms
pub use Rattle.pipsmake_rules.proofs as PipsmakeRules
pub use Rattle.pipsmake_meaning.proofs as PipsmakeMeaning
pub mod Puts
pub mod Replaced
pub mod Removed
pub mod AtPlaces
pub mod PutAt
pub mod Keeping
pub mod Named
pub mod SourceNames
pub mod SourceTexts
pub mod SymbolLaws
pub mod Sizes
pub mod LineLemmas
pub mod WordLemmas
pub mod TextLemmas
pub mod ScriptLemmas
