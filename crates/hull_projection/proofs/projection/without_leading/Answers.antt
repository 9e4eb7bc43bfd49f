use Rattle.std.proofs.Common.{◌≡◌, ◌∙◌, ◌<◌, ◌≤◌, Bool, false, ap, sym, subst, take, length, List}
use Rattle.affine_systems.specs.declared.row.Row.{Row}
use Rattle.affine_systems.specs.declared.items.Item.{Item}
use Rattle.affine_systems.specs.Rows.{system}
use Rattle.affine_systems.specs.Items.{items_from, rows_of}
use Rattle.affine_systems.specs.Given.{AreNormal, ItemsSmall, Fits}
use Rattle.affine_systems.specs.Lone.{IsClosed, left_by, AllLone}
use Rattle.affine_systems.proofs.FitLaws.{items_fit, system_fits}
use Rattle.elimination.proofs.ElimSteps.{fit_small}
use Rattle.hull_projection.specs.Project.{shadow}
use Rattle.hull_projection.proofs.LoneLaws.{lone_shadow, left_fits}
use Rattle.hull_projection.proofs.projection.without_leading.Goals as goal

pub without_lone-left-requires-clause-len : goal.without_lone-left-requires-clause-len
without_lone-left-requires-clause-len c =
    let e = c.into_vec-2.ensures ∙ (c.in_ok-items.ensures ∙ ap (items_from 0) c.into_vec.ensures) in
    subst (λ (js : List Item). length js ≤ 512) (sym e) (items_fit 0 c.args.s.system.rows c.requires).0

pub without_lone-left-requires-clause-each : goal.without_lone-left-requires-clause-each
without_lone-left-requires-clause-each c =
    let e = c.into_vec-2.ensures ∙ (c.in_ok-items.ensures ∙ ap (items_from 0) c.into_vec.ensures) in
    subst ItemsSmall (sym e) (fit_small false (items_from 0 c.args.s.system.rows) (items_fit 0 c.args.s.system.rows c.requires))

pub returns-clause-defined : goal.returns-clause-defined
returns-clause-defined c =
    let is = items_from 0 c.args.s.system.rows in
    let n = c.without_lone-left.result.1 in
    let vs = take n c.args.vars.now in
    let w = c.args.s.system.weak in
    let x = c.args.s.exact in
    let e : c.into_vec-2.result.items ≡ is = c.into_vec-2.ensures ∙ (c.in_ok-items.ensures ∙ ap (items_from 0) c.into_vec.ensures) in
    let lone : AllLone vs is = subst (AllLone vs) e c.without_lone-left.ensures.lone in
    let closed : 0 < n → (r : Bool) → AreNormal r (rows_of is) → IsClosed r (rows_of is)
    = subst (λ (js : List Item). 0 < n → (r : Bool) → AreNormal r (rows_of js) → IsClosed r (rows_of js)) e c.without_lone-left.ensures.closed in
    ap (λ (rs : List Row). shadow (system rs w) x) (c.in_ok-rows.ensures ∙ ap rows_of (c.from_vec.ensures ∙ (c.without_lone-left.ensures.left ∙ ap (left_by vs) e)))
    ∙ sym (lone_shadow n c.args.vars.now c.args.s.system.rows w x (items_fit 0 c.args.s.system.rows c.requires) closed lone)

pub returns-clause-fits : goal.returns-clause-fits
returns-clause-fits c =
    let is = items_from 0 c.args.s.system.rows in
    let n = c.without_lone-left.result.1 in
    let vs = take n c.args.vars.now in
    let w = c.args.s.system.weak in
    let e : c.into_vec-2.result.items ≡ is = c.into_vec-2.ensures ∙ (c.in_ok-items.ensures ∙ ap (items_from 0) c.into_vec.ensures) in
    let closed : 0 < n → (r : Bool) → AreNormal r (rows_of is) → IsClosed r (rows_of is)
    = subst (λ (js : List Item). 0 < n → (r : Bool) → AreNormal r (rows_of js) → IsClosed r (rows_of js)) e c.without_lone-left.ensures.closed in
    subst (λ (rs : List Row). Fits (system rs w)) (sym (c.in_ok-rows.ensures ∙ ap rows_of (c.from_vec.ensures ∙ (c.without_lone-left.ensures.left ∙ ap (left_by vs) e))))
    (system_fits (left_by vs is) w (left_fits false n c.args.vars.now is (items_fit 0 c.args.s.system.rows c.requires) closed))
