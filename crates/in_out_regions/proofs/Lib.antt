pub use Rattle.array_regions.proofs.Effects as Effects
pub use Rattle.array_regions.proofs.TransformerAlgebra as TransformerAlgebra
pub use Rattle.array_regions.proofs.CallTranslation as CallTranslation
pub use Rattle.array_regions.proofs.Transformers as Transformers
pub use Rattle.array_regions.proofs.RegionSets as RegionSets
pub use Rattle.array_regions.proofs.CallEquations as CallEquations
pub use Rattle.array_regions.proofs.RegionTranslation as RegionTranslation
pub use Rattle.array_regions.proofs as ArrayRegions
pub mod Steps
pub mod FixedLaws
pub mod StatementLaws
pub mod CallLaws
pub mod ModuleLaws
pub mod WriteLaws
pub mod ListLaws
pub mod Fitting
