use Rattle.std.proofs.Common.{◌≡◌, subst}
use Rattle.std.specs.Prelude.{IfOk}
use Rattle.f77_ast.specs.PlainDecl.{module_tree}
use Rattle.f77_meaning.proofs.SymbolNames.{names-same}
use Rattle.result_lines.specs.MarkLines.{mark_lines_of}
use Rattle.result_lines.specs.ShownMarks.{shown_marks}
use Rattle.result_lines.proofs.lines.lines_on_loops.Goals as goal

-- the names of the symbols are also those by which functions are known
abbrev pub returns : goal.returns
returns c =
    let view = c.args.view.now in
    subst (λ names. IfOk c.mark_lines.result (λ lines. lines ≡ mark_lines_of names c.args.why (shown_marks (module_tree view.«module».now) names c.args.marks.now)))
    (names-same view.symbols.now) c.mark_lines.ensures
