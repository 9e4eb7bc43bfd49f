-- Rules by which tactics go, of the crates below.
pub use Rattle.in_out_regions.proofs.RegionSets.Steps.{fitting}
pub use Rattle.in_out_regions.proofs.Steps.{regions}
