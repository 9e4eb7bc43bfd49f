use Rattle.std.proofs.Common.{◌≡◌, Vec, Global, ap, List, get_or, take, ◌+◌, sym, subst}
use Rattle.std.specs.Prelude.{slice_set}
use Rattle.std.proofs.lemmas.List.{get_or_default}
use Rattle.affine_systems.specs.declared.items.Item.{Item}
use Rattle.affine_systems.specs.declared.row.Var.TheVariants.{Cell}
use Rattle.elimination.specs.declared.lone.Home.TheVariants.{Nowhere, Here}
use Rattle.elimination.specs.Homes.{FindsHome}
use Rattle.elimination.proofs.LoneSteps.{Blanked, blanked_nowhere, blanked_here}
use Rattle.elimination.proofs.lone.blank_lone.Goals.{in-Nowhere, in-Here}
use Rattle.elimination.proofs.lone.blank_lone.Goals as goal

pub loop-i-preserved : goal.loop-i-preserved
loop-i-preserved c =
    let v = get_or c.args.vars.now c.loop-i.i (Cell 0) in
    let e : v ≡ get_or c.args.vars.now c.loop-i.i v = get_or_default c.args.vars.now c.loop-i.i (Cell 0) v c.loop-i-test.true in
    elim c.match-find_home.branch [
      | in-Nowhere w ↦
          let h = subst (λ (js : List Item). FindsHome v js Nowhere) c.as_slice-in-loop-i.ensures.value w.in-Nowhere.ensures in
          let s : c.match-find_home.items.items ≡ c.loop-i.items.items = ap (λ (x : Vec Item Global). x.items) w.items-is in
          subst (λ (js : List Item). Blanked c.args.items.now.items js c.homes-table.result (take (c.loop-i.i + 1) c.args.vars.now)) (sym s)
          (blanked_nowhere c.args.items.now.items c.loop-i.items.items c.homes-table.result c.args.vars.now c.loop-i.i v c.loop-i-test.true e c.loop-i.invariant h)
      | in-Here w ↦
          let h = subst (λ (js : List Item). FindsHome v js (Here w.in-Here.at)) c.as_slice-in-loop-i.ensures.value w.in-Here.ensures in
          let s : c.match-find_home.items.items ≡ slice_set c.loop-i.items.items w.in-Here.at w.blank.result = ap (λ (x : Vec Item Global). x.items) w.items-is in
          blanked_here c.args.items.now.items c.loop-i.items.items c.match-find_home.items.items c.homes-table.result c.args.vars.now c.loop-i.i v w.in-Here.at w.blank.result c.loop-i-test.true e c.loop-i.invariant h.0 h.1 h.2
          w.blank.ensures.no_terms w.blank.ensures.small w.blank.ensures.no_variable s
    ]
