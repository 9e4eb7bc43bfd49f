-- Rules by which tactics go, of the crates below.
pub use Rattle.array_regions.proofs.RegionSets.Steps.{fitting}
