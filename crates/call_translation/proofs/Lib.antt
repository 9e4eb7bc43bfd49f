pub use Rattle.transformer_algebra.proofs as TransformerAlgebra
pub mod NamedSiteLaws
pub mod Steps
pub mod FormLaws
pub mod SiteLaws
pub mod CallerCells
