use Rattle.std.proofs.Common.{◌≡◌, ℕ, Bool, List, [], ◌∷◌, ◌+◌, ◌-◌, ◌++◌, sym, ap, ◌∙◌, append_assoc}
use Rattle.call_graph.specs.Tables.{row_from}
use Rattle.call_graph.proofs.TableLaws.{row_step}
use Rattle.call_graph.proofs.recursion.longer_row.Goals as goal

pub loop-to-preserved : goal.loop-to-preserved
loop-to-preserved c =
    let table : List (List Bool) = c.args.table.now in
    let to : ℕ = c.loop-to.to in
    let row : List Bool = c.loop-to.row in
    let rest : List Bool = row_from table c.args.callees.now c.args.from (to + 1) (c.args.size - (to + 1)) in
    ap (λ xs. xs ++ rest) c.in_ok-push.ensures.ok ∙ append_assoc row (c.leads.result ∷ []) rest
    ∙ ap (λ x. row ++ x ∷ rest) c.leads.ensures
    ∙ ap (λ xs. row ++ xs) (sym (row_step table c.args.callees.now c.args.from to c.args.size c.loop-to-test.true))
    ∙ c.loop-to.invariant
