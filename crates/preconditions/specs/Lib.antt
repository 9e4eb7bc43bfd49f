pub use Rattle.transformers.specs.transformer_algebra as transformer_algebra
pub use Rattle.transformers.specs.call_translation as call_translation
pub use Rattle.transformers.specs as transformers
pub mod Statement
pub mod WhileParts
pub mod Known
pub mod Entry
pub mod Modules
