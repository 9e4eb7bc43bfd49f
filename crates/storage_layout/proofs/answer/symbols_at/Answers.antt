use Rattle.f77_ast.specs.PlainDecl.{module_tree}
use Rattle.f77_names.specs.Views.{line_in, table_tree}
use Rattle.f77_checks.specs.Views.{valued_tree}
use Rattle.storage_layout.proofs.AnswerLaws.{given-at}
use Rattle.storage_layout.proofs.answer.symbols_at.Goals as goal

pub returns : goal.returns
returns c =
    given-at c.check_and_lay_out.result (line_in c.args.lines.now) (module_tree c.args.«module».now) (table_tree c.in_ok-table.table) c.in_ok-table.found (valued_tree c.parameters_valued.new.table c.in_ok-found.found)
    c.in_ok-table.ensures.table c.in_ok-table.ensures.found c.in_ok-found.ensures c.check_and_lay_out.ensures
