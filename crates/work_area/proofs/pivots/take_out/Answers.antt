use Rattle.std.proofs.Common.{◌≡◌, ◌∙◌, ◌-◌, ◌++◌, take, drop, set, length, arith, ap, ap₂, sym}
use Rattle.std.proofs.lemmas.List.{map-append, take_rest}
use Rattle.work_area.specs.Slots.{item_in, items_in}
use Rattle.work_area.proofs.Swaps.{keeps_taken_out, taken_out, length-items_in, items_in-set, items_in-take, items_in-drop}
use Rattle.work_area.proofs.pivots.take_out.Goals as goal

pub returns-clause-items : goal.returns-clause-items
returns-clause-items c =
    let ss = c.args.rows.now in
    let at = c.args.at in
    let xs = set ss at c.swap.new.x in
    let n = length xs - at in
    let rest = drop n (drop at xs) in
    let turned = c.rotate_left.new.self in
    let m = length-items_in ss in
    let t : items_in turned ≡ drop 1 (drop at (items_in xs)) ++ take 1 (drop at (items_in xs))
    = ap items_in (c.rotate_left.ensures.after ∙ ap (λ us. drop 1 us ++ take 1 us) (take_rest xs at)) ∙ (map-append item_in (drop 1 (drop at xs)) (take 1 (drop at xs))
    ∙ ap₂ (λ us vs. us ++ vs) (items_in-drop (drop at xs) 1 ∙ ap (drop 1) (items_in-drop xs at)) (items_in-take (drop at xs) 1 ∙ ap (take 1) (items_in-drop xs at))) in
    ap (λ k. take (k - 1) (items_in (take at xs ++ (turned ++ rest)))) (sym m)
    ∙ (ap (take (length (items_in ss) - 1)) (map-append item_in (take at xs) (turned ++ rest) ∙ ap₂ (λ us vs. us ++ vs) (items_in-take xs at) (map-append item_in turned rest))
    ∙ taken_out (items_in ss) (items_in xs) (items_in turned) (items_in rest) at (item_in c.swap.new.x) (omega (arith, m, c.requires)) (items_in-set ss at c.swap.new.x) t)

pub returns-clause-room : goal.returns-clause-room
returns-clause-room c =
    let xs = set c.args.rows.now c.args.at c.swap.new.x in
    keeps_taken_out c.args.pivot.now c.args.rows.now c.rotate_left.new.self c.args.at 1 (length xs - c.args.at) (length xs - c.args.at) c.swap.new.x c.swap.new.y c.index-rows-at.result
    c.requires c.swap.ensures.x_after c.swap.ensures.y_after c.rotate_left.ensures.after
