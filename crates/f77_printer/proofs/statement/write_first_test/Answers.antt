use Rattle.std.proofs.Common.{◌<◌, ◌++◌, ap, sym, ◌∙◌, length, arith, append-nil}
use Rattle.f77_ast.specs.PlainStmt.{arm_trees}
use Rattle.f77_printer.specs.StatementText.{first_test_text}
use Rattle.f77_printer.proofs.TextLemmas.{first-none, first-some}
use Rattle.f77_printer.proofs.statement.write_first_test.Goals as goal

pub returns-in-empty : goal.returns-in-empty
returns-in-empty c =
    let none : length c.args.arms.now < 1 = omega (arith, ap length c.as_slice.ensures) in
    let e = first-none c.args.arms.now none in
    sym (ap (λ t. c.args.out.now ++ t) e ∙ append-nil c.args.out.now)

pub returns-in-len1-up : goal.returns-in-len1-up
returns-in-len1-up c =
    let some : 0 < length c.as_slice.result.now = omega arith in
    let e = first-some c.as_slice.result.now c.arm-item.result some c.arm-item.is in
    let f = ap (λ arms. first_test_text (arm_trees arms)) (sym c.as_slice.ensures) ∙ e in
    rw f c.write_expr.ensures
