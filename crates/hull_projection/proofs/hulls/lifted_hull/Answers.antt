use Rattle.std.proofs.Common.{◌≡◌, ◌∙◌, List, true, length, ap, ap₂, sym, subst, add-one, rules}
use Rattle.std.proofs.lemmas.Result.{IfOk-weaker}
use Rattle.affine_systems.specs.declared.row.Row.{Row}
use Rattle.affine_systems.specs.declared.row.System.{System}
use Rattle.hull_projection.specs.declared.eliminations.Left.{Left}
use Rattle.affine_systems.specs.Rows.{AllRows}
use Rattle.affine_systems.specs.Given.{IsSmallRow, ItemsFit}
use Rattle.affine_systems.proofs.RenameSteps.{fits_small}
use Rattle.affine_systems.proofs.SystemSteps.{items_given_from}
use Rattle.hull_projection.specs.Fresh.{aux_from}
use Rattle.hull_projection.specs.Hull.{lift_rows, hull_left, lifted_hull}
use Rattle.hull_projection.specs.Refute.{eliminate_all}
use Rattle.hull_projection.proofs.FitLaws.{originals_fit}
use Rattle.hull_projection.proofs.GivenLaws.{lifted_given}
use Rattle.hull_projection.proofs.HullSteps.{hull_is}
use Rattle.hull_projection.proofs.hulls.lifted_hull.Goals as goal

pub lift_rows-requires-clause-one : goal.lift_rows-requires-clause-one
lift_rows-requires-clause-one c = subst (λ (rs : List Row). AllRows IsSmallRow rs) (sym c.as_slice.ensures) (fits_small c.args.one.now.rows c.requires.fits)

pub lift_rows-requires-clause-other : goal.lift_rows-requires-clause-other
lift_rows-requires-clause-other c = subst (λ (rs : List Row). AllRows IsSmallRow rs) (sym c.as_slice-2.ensures) (fits_small c.args.other.now.rows c.requires.other_fits)

pub tidy_items-requires : goal.tidy_items-requires
tidy_items-requires c =
    let e = c.in_ok-rows.ensures ∙ ap₂ (λ (rs ss : List Row). lift_rows c.args.first c.args.vars.now rs ss) c.as_slice.ensures c.as_slice-2.ensures in
    let g = lifted_given c.args.first c.args.vars.now c.args.one.now c.args.other.now c.in_ok-rows.rows.items c.requires.vars c.requires.number (fits_small c.args.one.now.rows c.requires.fits) (fits_small c.args.other.now.rows c.requires.other_fits) e in
    record { fits = items_given_from c.in_ok-rows.rows.items c.in_ok-items.items g c.in_ok-items.ensures }

pub eliminate_all-requires-clause-fits : goal.eliminate_all-requires-clause-fits
eliminate_all-requires-clause-fits c = subst (λ (s : Left). ItemsFit true s.items) (sym c.in_ok-start.ensures) (originals_fit true c.in_ok-t.t.items c.in_ok-t.ensures.fits)

pub returns-clause-defined : goal.returns-clause-defined
returns-clause-defined c =
    let e = c.in_ok-rows.ensures ∙ ap₂ (λ (rs ss : List Row). lift_rows c.args.first c.args.vars.now rs ss) c.as_slice.ensures c.as_slice-2.ensures in
    IfOk-weaker c.hull_left.result (λ (s : System). s ≡ hull_left c.either-weak.result c.in_ok-left.left) (λ (s : System). s ≡ lifted_hull c.args.first c.args.vars.now c.args.one.now c.args.other.now)
    (λ s f. hull_is c.args.first c.args.vars.now c.args.one.now c.args.other.now c.in_ok-rows.rows.items c.in_ok-items.items c.in_ok-t.t c.either-weak.result c.in_ok-start.start c.in_ok-left.left c.in_ok-aux.aux.items s
    e c.in_ok-items.ensures c.in_ok-t.ensures.defined (search rules) c.in_ok-start.ensures (c.in_ok-aux.ensures ∙ ap (aux_from c.args.first) (add-one (length c.args.vars.now)))
    (c.in_ok-left.ensures.defined ∙ ap (eliminate_all true c.in_ok-start.start) c.as_slice-3.ensures.value) f) c.hull_left.ensures.defined
