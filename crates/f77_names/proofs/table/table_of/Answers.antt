use Rattle.f77_ast.specs.PlainDecl.{module_tree}
use Rattle.f77_names.specs.Views.{line_in, told_tree}
use Rattle.f77_names.proofs.TableLaws.{judged-as}
use Rattle.f77_names.proofs.table.table_of.Goals as goal

pub returns-clause-found : goal.returns-clause-found
returns-clause-found c =
    judged-as c.judge-found.result c.in_ok-kinds.kinds c.in_ok-arrays.arrays (told_tree c.in_ok-names.field-0) (line_in c.args.lines.now) (module_tree c.args.«module».now)
    c.judge-found.ensures c.in_ok-kinds.ensures c.in_ok-arrays.ensures c.in_ok-names.ensures
