use Rattle.std.proofs.Common.{◌≡◌, ◌++◌, drop, if◌then◌else◌}
use Rattle.f77_ast.specs.Plain.{expr_trees}
use Rattle.f77_printer.specs.ExprText.{exprs_text, items_text}
use Rattle.f77_printer.proofs.expr.+write.Given as goal

abbrev pub invariant-write_row-loop-e : goal.invariant-write_row-loop-e
invariant-write_row-loop-e l =
    let rest = expr_trees (drop l.e-index l.es) in
    l.out ++ (if l.is_first then exprs_text rest else items_text rest) ≡ l.initial.out ++ exprs_text (expr_trees l.es)
