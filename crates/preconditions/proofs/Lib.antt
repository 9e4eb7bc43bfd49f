pub use Rattle.transformers.proofs.TransformerAlgebra as TransformerAlgebra
pub use Rattle.transformers.proofs.CallTranslation as CallTranslation
pub use Rattle.transformers.proofs as Transformers
pub mod Steps
pub mod StatementLaws
pub mod WalkLaws
pub mod WhileLaws
pub mod Copies
pub mod Shared
