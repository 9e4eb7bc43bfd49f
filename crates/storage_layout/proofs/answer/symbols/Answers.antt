use Rattle.f77_ast.specs.PlainDecl.{parsed_tree}
use Rattle.f77_names.specs.Views.{line_in}
use Rattle.storage_layout.proofs.AnswerLaws.{given-of}
use Rattle.storage_layout.proofs.answer.symbols.Goals as goal

pub returns : goal.returns
returns c =
    given-of c.symbols_at.result (parsed_tree c.args.parsed.now) (line_in c.in_ok-lines.lines) c.as_slice.result.now
    c.in_ok-lines.ensures c.as_slice.ensures c.symbols_at.ensures
