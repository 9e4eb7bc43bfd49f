use Rattle.std.proofs.Common.{◌≡◌, Bool, false, List, [], get_or, sym, ap, ◌∙◌}
use Rattle.std.specs.Prelude.{unwrap_or}
use Rattle.std.proofs.lemmas.Option.{unwrap_or-slice_get}
use Rattle.call_graph.proofs.recursion.cell.Goals as goal

pub returns-in-None : goal.returns-in-None
returns-in-None c =
    let t = c.args.table.now in
    let row : get_or t c.args.from [] ≡ [] = sym (unwrap_or-slice_get t c.args.from []) ∙ ap (λ o. unwrap_or o []) (sym c.in-None.ensures) in
    ap (λ (r : List Bool). get_or r c.args.to false) (sym row)

pub returns-in-Some : goal.returns-in-Some
returns-in-Some c =
    let t = c.args.table.now in
    let row : get_or t c.args.from [] ≡ c.in-Some.row.now = sym (unwrap_or-slice_get t c.args.from []) ∙ ap (λ o. unwrap_or o []) (sym c.in-Some.ensures) in
    c.at.ensures ∙ ap (λ (r : List Bool). get_or r c.args.to false) (sym row)
