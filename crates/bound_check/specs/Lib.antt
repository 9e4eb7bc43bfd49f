pub use Rattle.loop_marker.specs as loop_marker
pub mod References
pub mod Safe
pub mod Checked
pub mod CheckLines
pub mod Judged
pub mod Views
