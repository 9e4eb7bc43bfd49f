use Rattle.std.proofs.Common.{◌∙◌, pos, sym, get_or, SFits, to_z-of_z, rules}
use Rattle.std.specs.Int.{w128}
use Rattle.affine_systems.specs.declared.row.Var.TheVariants.{Cell}
use Rattle.affine_systems.specs.Terms.{term}
use Rattle.affine_systems.proofs.Merges.{factor_of-skip, factor_of-found, factor_of-passed, factor_of-end}
use Rattle.affine_systems.proofs.terms.factor_of.Goals as goal

pub returns-in-Equal : goal.returns-in-Equal
returns-in-Equal c =
    let f : SFits w128 (get_or c.args.terms.now c.loop-t.t-index (term (Cell 0) (pos 0))).factor = search rules in
    to_z-of_z f
    ∙ (sym (factor_of-found c.args.v c.args.terms.now c.loop-t.t-index (term (Cell 0) (pos 0)) c.loop-t-test.true c.requires (sym c.in-Equal.ensures)) ∙ c.loop-t.invariant)

pub returns-in-Greater : goal.returns-in-Greater
returns-in-Greater c =
    sym (factor_of-passed c.args.v c.args.terms.now c.loop-t.t-index (term (Cell 0) (pos 0)) c.loop-t-test.true c.requires (sym c.in-Greater.ensures)) ∙ c.loop-t.invariant

pub loop-t-preserved : goal.loop-t-preserved
loop-t-preserved c =
    sym (factor_of-skip c.args.v c.args.terms.now c.loop-t.t-index (term (Cell 0) (pos 0)) c.loop-t-test.true (sym c.in-Less.ensures)) ∙ c.loop-t.invariant

pub returns : goal.returns
returns c = sym (factor_of-end c.args.v c.args.terms.now c.loop-t.t-index c.loop-t-test.false) ∙ c.loop-t.invariant
