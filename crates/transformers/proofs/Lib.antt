pub use Rattle.call_translation.proofs.TransformerAlgebra as TransformerAlgebra
pub use Rattle.call_translation.proofs as CallTranslation
pub mod Steps
pub mod StatementLaws
pub mod WhatLaws
pub mod WhileSteps
pub mod WhileLaws
pub mod PartLaws
