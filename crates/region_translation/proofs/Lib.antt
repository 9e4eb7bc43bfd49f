pub use Rattle.effects.proofs as Effects
pub use Rattle.region_sets.proofs as RegionSets
pub use Rattle.call_equations.proofs as CallEquations
pub mod Steps
pub mod PutSteps
pub mod PutLaws
pub mod NamingLaws
pub mod PieceLaws
pub mod RegionLaws
pub mod FormLaws
pub mod ArrayLaws
pub mod ElementLaws
pub mod PositionLaws
pub mod LinkLaws
pub mod CalleeSteps
pub mod UnitLaws
pub mod CalleePieceLaws
pub mod CalleeRegionLaws
pub mod CalleeLinkLaws
