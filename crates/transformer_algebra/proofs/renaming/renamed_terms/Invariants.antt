use Rattle.std.proofs.Common.{◌≡◌, ◌≤◌, length, drop}
use Rattle.affine_systems.specs.Terms.{renamed_terms}
use Rattle.transformer_algebra.specs.Renaming.{renamed_by}
use Rattle.transformer_algebra.proofs.renaming.renamed_terms.Given as goal

abbrev pub invariant-loop-left : goal.invariant-loop-left
invariant-loop-left l = record { within : l.left ≤ length l.terms; same : l.out.items ≡ renamed_terms (renamed_by l.names) (drop l.left l.terms) }

abbrev pub decreases-loop-left : goal.decreases-loop-left
decreases-loop-left l = l.left
