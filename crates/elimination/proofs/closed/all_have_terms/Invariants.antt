use Rattle.std.proofs.Common.{take}
use Rattle.affine_systems.specs.Lone.{AllHaveTerms}
use Rattle.elimination.proofs.closed.all_have_terms.Given as goal

abbrev pub invariant-loop-item : goal.invariant-loop-item
invariant-loop-item l = AllHaveTerms (take l.item-index l.items)
