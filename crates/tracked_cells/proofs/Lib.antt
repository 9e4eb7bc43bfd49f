pub mod ScalarLaws
pub mod TrackedLaws
pub mod ReachLaws
