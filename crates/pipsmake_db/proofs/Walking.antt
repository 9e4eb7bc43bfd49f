-- Rules by which tactics go, of the crates below.
pub use Rattle.session_texts.proofs.PipsmakeRules.StepLaws.{walk_steps}
