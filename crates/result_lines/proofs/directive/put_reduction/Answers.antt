use Rattle.std.proofs.Common.{◌≡◌, List, ℕ, subst}
use Rattle.std.specs.Prelude.{OnOk}
use Rattle.result_lines.proofs.Clauses.{clause_made}
use Rattle.result_lines.proofs.directive.put_reduction.Goals as goal

pub returns : goal.returns
returns c =
    subst (λ (t : List ℕ). OnOk c.append-4.result (c.append-4.new.self ≡ t))
    (clause_made c.args.names.now c.args.part.now c.args.out.now _ _ _ _ _ c.in_ok-append.ensures.ok c.op_word.ensures c.in_ok-append-2.ensures.ok c.in_ok-append-3.ensures.ok c.in_ok-put_variable.ensures)
    c.append-4.ensures.ok
