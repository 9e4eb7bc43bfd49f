use Rattle.std.proofs.Common.{◌<◌, ◌+◌, ◌-◌, ◌^◌, length, sym, ap, ◌∙◌, subst, unsigned_abs, get_or, pos, SFits, to_z-of_z, rules, arith}
use Rattle.std.specs.Int.{w128}
use Rattle.affine_systems.specs.declared.row.Term.{Term}
use Rattle.affine_systems.specs.declared.row.Var.TheVariants.{Cell}
use Rattle.affine_systems.specs.Terms.{term}
use Rattle.transformer_algebra.specs.Renaming.{renamed_by}
use Rattle.transformer_algebra.proofs.Steps.{renamed_given}
use Rattle.transformer_algebra.proofs.renaming.renamed_terms.Goals as goal
use Rattle.affine_systems.proofs.Merges.{factor_at}

pub add_term-requires-clause-terms : goal.add_term-requires-clause-terms
add_term-requires-clause-terms c =
    let l : length c.args.terms.now < 2 ^ 64 = search rules in
    renamed_given (renamed_by c.args.names.now) c.args.terms.now c.loop-left.out.items c.loop-left.left c.requires.1 l c.loop-left.invariant.same

pub add_term-requires-clause-factor : goal.add_term-requires-clause-factor
add_term-requires-clause-factor c =
    let i : c.loop-left.left - 1 < length c.args.terms.now = omega arith in
    let t = get_or c.args.terms.now (c.loop-left.left - 1) (term (Cell 0) (pos 0)) in
    let f : SFits w128 t.factor = search rules in
    subst (λ z. unsigned_abs z < 2 ^ 62) (sym (to_z-of_z f)) (factor_at (2 ^ 62) c.args.terms.now (c.loop-left.left - 1) (term (Cell 0) (pos 0)) c.requires.1 i)

pub returns-clause-fits : goal.returns-clause-fits
returns-clause-fits c =
    let l : length c.args.terms.now < 2 ^ 64 = search rules in
    renamed_given (renamed_by c.args.names.now) c.args.terms.now c.loop-left.out.items c.loop-left.left c.requires.1 l c.loop-left.invariant.same
