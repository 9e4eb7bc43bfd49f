pub use Rattle.transformers.specs.transformer_algebra as transformer_algebra
pub use Rattle.region_sets.specs as region_sets
pub use Rattle.out_regions.specs as out_regions
pub use Rattle.dependence_test.specs as dependence_test
pub use Rattle.privatizer.specs as privatizer
pub use Rattle.module_phases.specs as module_phases
pub mod Names
pub mod Jumps
pub mod Variables
pub mod Marks
pub mod Known
pub mod Results
pub mod Phases
pub mod Views
