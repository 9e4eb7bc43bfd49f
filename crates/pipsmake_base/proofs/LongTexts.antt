-- Rules by which tactics go, of the crates below.
pub use Rattle.pipsmake_db.proofs.SessionTexts.Sizes.{long_texts}
