use Rattle.std.proofs.Common.{◌≡◌, sym, subst}
use Rattle.std.specs.Prelude.{IfOk}
use Rattle.f77_ast.specs.PlainDecl.{module_tree}
use Rattle.f77_meaning.proofs.SymbolNames.{names-same}
use Rattle.module_phases.specs.ScalarViews.{known_in}
use Rattle.privatizer.specs.Functions.{module_functions}
use Rattle.result_lines.specs.ReductionLines.{loop_lines}
use Rattle.result_lines.proofs.ReducedLines.{lines_of_some}
use Rattle.result_lines.proofs.lines.lines_on_reduced.Goals as goal

-- the names of the symbols are also those by which functions are known
pub returns : goal.returns
returns c =
    let view = c.args.view.now in
    let rs = c.args.reduced.now in
    let ms = c.args.marks.now in
    subst (λ ls. IfOk c.loop_lines.result (λ lines. lines ≡ ls)) (sym (lines_of_some (known_in view) c.args.why c.is_empty.result rs ms c.is_empty.ensures c.if-is_empty.false))
    (subst (λ names. IfOk c.loop_lines.result (λ lines. lines ≡ loop_lines (module_functions (module_tree view.«module».now)) names c.args.why rs ms)) (names-same view.symbols.now) c.loop_lines.ensures)
