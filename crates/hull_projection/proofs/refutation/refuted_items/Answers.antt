use Rattle.std.proofs.Common.{◌∙◌, List, false, ap, sym, subst}
use Rattle.affine_systems.specs.declared.items.Item.{Item}
use Rattle.hull_projection.specs.declared.eliminations.Left.{Left}
use Rattle.affine_systems.specs.Items.{rows_of, any_false}
use Rattle.affine_systems.specs.Given.{ItemsFit}
use Rattle.hull_projection.specs.Variables.{row_vars}
use Rattle.hull_projection.specs.Refute.{eliminate_all}
use Rattle.hull_projection.proofs.FitLaws.{originals_fit}
use Rattle.hull_projection.proofs.RefuteSteps.{refutes_items}
use Rattle.hull_projection.proofs.refutation.refuted_items.Goals as goal

pub eliminate_all-requires-clause-fits : goal.eliminate_all-requires-clause-fits
eliminate_all-requires-clause-fits c = subst (λ (s : Left). ItemsFit false s.items) (sym c.in_ok-start.ensures) (originals_fit false c.args.items c.requires)

pub returns : goal.returns
returns c =
    refutes_items c.args.items c.in_ok-vars.vars.items c.in_ok-start.start c.in_ok-left.left c.any_false.result
    (c.in_ok-vars.ensures ∙ ap (λ (is : List Item). row_vars (rows_of is)) c.as_slice.ensures) c.in_ok-start.ensures
    (c.in_ok-left.ensures.defined ∙ ap (eliminate_all false c.in_ok-start.start) c.as_slice-2.ensures.value) (c.any_false.ensures ∙ ap any_false c.as_slice-3.ensures)
