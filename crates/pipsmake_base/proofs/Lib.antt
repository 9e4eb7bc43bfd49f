pub use Rattle.loop_marker.proofs.OutRegions as OutRegions
pub use Rattle.loop_marker.proofs.Privatizer as Privatizer
pub use Rattle.loop_marker.proofs.ModulePhases as ModulePhases
pub use Rattle.loop_marker.proofs as LoopMarker
pub use Rattle.pipsmake_db.proofs.ResultLines as ResultLines
pub use Rattle.pipsmake_db.proofs.PipsmakeRules as PipsmakeRules
pub use Rattle.pipsmake_db.proofs.PipsmakeMeaning as PipsmakeMeaning
pub use Rattle.pipsmake_db.proofs.SessionTexts as SessionTexts
pub use Rattle.pipsmake_db.proofs.LawsDatabase as LawsDatabase
pub use Rattle.pipsmake_db.proofs.BaseValues as BaseValues
pub use Rattle.base_text.proofs as BaseText
pub use Rattle.laws_stored.proofs as LawsStored
pub use Rattle.pipsmake_db.proofs as PipsmakeDb
pub mod SameTexts
pub mod ModuleLaws
pub mod Names
pub mod ResultLaws
pub mod InOrder
pub mod SavingLaws
pub mod Lists
pub mod Distinct
pub mod Sources
pub mod Taking
pub mod NeedLaws
pub mod StoredCan
pub mod Defined
pub mod LoadLaws
pub mod Ordered
pub mod WholeLaws
pub mod MadeLaws
pub mod StoredLaws
pub mod StaleLaws
pub mod BaseLaws
pub mod Current
pub mod CurrentAnswers
pub mod LongTexts
pub mod FittingLaws
