pub use Rattle.transformer_algebra.specs as transformer_algebra
pub mod Scopes
pub mod Common
pub mod Actuals
pub mod Variables
pub mod Call
pub mod Summary
pub mod Sites
pub mod NamedSites
pub mod SiteEntry
