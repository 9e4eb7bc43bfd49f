use Rattle.std.proofs.Common.{◌∙◌, ◌+◌, pos, drop, arith, ap, refl, sym}
use Rattle.affine_systems.specs.declared.row.Var.TheVariants.{Cell}
use Rattle.affine_systems.specs.Terms.{term}
use Rattle.affine_systems.specs.Places.{key_of}
use Rattle.affine_systems.proofs.PlaceSteps.{key-more, key-end}
use Rattle.affine_systems.proofs.places.key.Goals as goal

pub loop-t-init : goal.loop-t-init
loop-t-init c = (omega arith, refl)

pub loop-t-preserved : goal.loop-t-preserved
loop-t-preserved c = (
  c.next_key-n.ensures.within,
  ap (λ m. key_of m (drop (c.loop-t.t-index + 1) c.args.terms.now)) c.next_key-n.ensures.defined
      ∙ (sym (key-more c.loop-t.n c.args.terms.now c.loop-t.t-index (term (Cell 0) (pos 0)) c.loop-t-test.true) ∙ c.loop-t.invariant.1),
)

pub returns-clause-defined : goal.returns-clause-defined
returns-clause-defined c = sym (key-end c.loop-t.n c.args.terms.now c.loop-t.t-index c.loop-t-test.false) ∙ c.loop-t.invariant.1

pub returns-clause-within : goal.returns-clause-within
returns-clause-within c = c.loop-t.invariant.0
