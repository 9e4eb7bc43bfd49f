pub use Rattle.region_translation.proofs.Effects as Effects
pub use Rattle.transformers.proofs.TransformerAlgebra as TransformerAlgebra
pub use Rattle.transformers.proofs.CallTranslation as CallTranslation
pub use Rattle.transformers.proofs as Transformers
pub use Rattle.region_translation.proofs.RegionSets as RegionSets
pub use Rattle.region_translation.proofs.CallEquations as CallEquations
pub use Rattle.region_translation.proofs as RegionTranslation
pub mod Steps
pub mod NameLaws
pub mod StatementLaws
pub mod CallLaws
pub mod ModuleLaws
pub mod Exact
pub mod Fitting
