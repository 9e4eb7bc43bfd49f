use Rattle.std.proofs.Common.{◌<◌, ◌^◌, ◌∙◌, sym, ap, subst, unsigned_abs, to_z, of_z, SFits, to_z-of_z, rules, arith}
use Rattle.std.specs.Int.{w128}
use Rattle.affine_systems.specs.Terms.{renamed_terms}
use Rattle.affine_systems.specs.Given.{FactorsBelow}
use Rattle.transformer_algebra.specs.Renaming.{renamed_by}
use Rattle.transformer_algebra.proofs.Steps.{row_given}
use Rattle.transformer_algebra.proofs.renaming.renamed_row.Goals as goal

pub returns-clause-fits : goal.returns-clause-fits
returns-clause-fits c =
    let f : SFits w128 c.args.row.now.bound = search rules in
    let b : unsigned_abs c.args.row.now.bound < 2 ^ 126 = omega (arith, c.requires.1) in
    row_given (renamed_by c.args.names.now) c.args.row.now.terms c.from_vec.result (to_z w128 (of_z w128 c.args.row.now.bound)) c.args.row.now.equal
    (c.from_vec.ensures ∙ (c.in_ok-renamed_terms.ensures.defined ∙ ap (renamed_terms (renamed_by c.args.names.now)) c.as_slice.ensures))
    (subst (FactorsBelow (2 ^ 126)) (sym c.from_vec.ensures) c.in_ok-renamed_terms.ensures.fits)
    (subst (λ z. unsigned_abs z < 2 ^ 126) (sym (to_z-of_z f)) b)
