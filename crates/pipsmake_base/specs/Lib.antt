pub use Rattle.loop_marker.specs.out_regions as out_regions
pub use Rattle.loop_marker.specs.privatizer as privatizer
pub use Rattle.loop_marker.specs.module_phases as module_phases
pub use Rattle.loop_marker.specs as loop_marker
pub use Rattle.pipsmake_db.specs.result_lines as result_lines
pub use Rattle.pipsmake_db.specs.pipsmake_rules as pipsmake_rules
pub use Rattle.pipsmake_db.specs.pipsmake_meaning as pipsmake_meaning
pub use Rattle.pipsmake_db.specs.session_texts as session_texts
pub use Rattle.pipsmake_db.specs.laws_database as laws_database
pub use Rattle.pipsmake_db.specs.base_values as base_values
pub use Rattle.base_text.specs as base_text
pub use Rattle.laws_stored.specs as laws_stored
pub use Rattle.pipsmake_db.specs as pipsmake_db
pub mod Saving
pub mod Fitting
pub mod Saved
pub mod Whole
pub mod Current
pub mod Texts
pub mod Taken
pub mod Plain
pub mod Stale
pub mod Made
pub mod Bases
