pub use Rattle.call_translation.specs.transformer_algebra as transformer_algebra
pub use Rattle.call_translation.specs as call_translation
pub mod Given
pub mod Jumps
pub mod Lists
pub mod Loops
pub mod Simple
pub mod Whiles
pub mod Statement
pub mod WhileParts
pub mod Modules
