-- Rules by which tactics go, of the crates below.
pub use Rattle.region_translation.proofs.RegionSets.Steps.{fitting}
