use Rattle.std.proofs.Common.{◌≡◌, ◌∙◌, ◌<◌, Bool, true, ap, sym, subst, take, List}
use Rattle.affine_systems.specs.declared.items.Item.{Item}
use Rattle.affine_systems.specs.Items.{AllItems, rows_of}
use Rattle.affine_systems.specs.Given.{AreNormal, ItemsSmall, ItemsFit}
use Rattle.affine_systems.specs.Lone.{IsClosed, left_by, AllLone}
use Rattle.elimination.proofs.ElimSteps.{fit_small}
use Rattle.hull_projection.specs.Refute.{left, has_few}
use Rattle.hull_projection.proofs.LoneLaws.{lone_left, left_fits}
use Rattle.hull_projection.proofs.eliminations.without_leading.Goals as goal

pub without_lone-items-requires-clause-each : goal.without_lone-items-requires-clause-each
without_lone-items-requires-clause-each c = subst ItemsSmall (sym c.into_vec.ensures) (fit_small c.args.rational c.args.left.items c.requires.fits)

pub returns-clause-defined : goal.returns-clause-defined
returns-clause-defined c =
    let is = c.args.left.items in
    let n = c.without_lone-items.result.1 in
    let vs = take n c.args.vars.now in
    let few : AllItems (λ (i : Item). has_few c.args.left.pairs i ≡ true) is
    = subst (λ (js : List Item). AllItems (λ (i : Item). has_few c.args.left.pairs i ≡ true) js) c.as_slice.ensures (c.all_have_few.ensures c.if-not-all_have_few.false) in
    let lone : AllLone vs is = subst (AllLone vs) c.into_vec.ensures c.without_lone-items.ensures.lone in
    let closed : 0 < n → (r : Bool) → AreNormal r (rows_of is) → IsClosed r (rows_of is)
    = subst (λ (js : List Item). 0 < n → (r : Bool) → AreNormal r (rows_of js) → IsClosed r (rows_of js)) c.into_vec.ensures c.without_lone-items.ensures.closed in
    ap (λ (js : List Item). left js c.args.left.lost c.args.left.pairs) (c.from_vec.ensures ∙ (c.without_lone-items.ensures.left ∙ ap (left_by vs) c.into_vec.ensures))
    ∙ sym (lone_left c.args.rational n c.args.vars.now is c.args.left.lost c.args.left.pairs c.requires.fits closed lone few)

pub returns-clause-fits : goal.returns-clause-fits
returns-clause-fits c =
    let is = c.args.left.items in
    let n = c.without_lone-items.result.1 in
    let vs = take n c.args.vars.now in
    let closed : 0 < n → (r : Bool) → AreNormal r (rows_of is) → IsClosed r (rows_of is)
    = subst (λ (js : List Item). 0 < n → (r : Bool) → AreNormal r (rows_of js) → IsClosed r (rows_of js)) c.into_vec.ensures c.without_lone-items.ensures.closed in
    subst (ItemsFit c.args.rational) (sym (c.from_vec.ensures ∙ (c.without_lone-items.ensures.left ∙ ap (left_by vs) c.into_vec.ensures))) (left_fits c.args.rational n c.args.vars.now is c.requires.fits closed)
