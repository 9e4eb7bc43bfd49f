use Rattle.std.proofs.Common.{◌≡◌, ◌∙◌, suc, ◌-◌, ◌<◌, ◌≤◌, length, arith, ap, sym}
use Rattle.std.specs.Prelude.{slice_index}
use Rattle.affine_systems.specs.declared.items.Item.{Item}
use Rattle.affine_systems.specs.Points.{occurs}
use Rattle.elimination.proofs.LoneSteps.{none_at, lacks_found}
use Rattle.elimination.proofs.lone.find_home.Goals as goal

pub returns-then-home-eq0 : goal.returns-then-home-eq0
returns-then-home-eq0 c =
    none_at c.args.v c.args.table.now c.args.items.now c.requires.homed (ap (slice_index c.args.table.now) (sym c.place.ensures.defined) ∙ c.if-home-eq0.true)

pub returns-then-not-occurs : goal.returns-then-not-occurs
returns-then-not-occurs c =
    let home = slice_index c.args.table.now c.place.result in
    let p : 0 < home = omega (arith, c.if-home-eq0.false) in
    let l : home ≤ length c.args.items.now = omega (arith, c.if-home-items.false) in
    let s : suc (home - 1) ≡ home = omega (arith, p) in
    lacks_found c.args.v c.args.table.now c.args.items.now home (home - 1) c.index-items-at.result c.requires.homed c.requires.len (ap (slice_index c.args.table.now) (sym c.place.ensures.defined)) p l s c.index-items-at.is
    (ap (λ (j : Item). occurs c.args.v j.row) c.index-items-at.is ∙ (sym c.occurs.ensures ∙ c.if-not-occurs.true))
