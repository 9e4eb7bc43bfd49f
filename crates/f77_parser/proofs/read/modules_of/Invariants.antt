use Rattle.std.proofs.Common.{◌≡◌, [], map, length}
use Rattle.f77_ast.specs.PlainDecl.{parsed_tree}
use Rattle.f77_parser.specs.Statements.{statement_tree}
use Rattle.f77_parser.specs.Modules.{modules_from}
use Rattle.f77_parser.proofs.read.modules_of.Given as goal

abbrev pub invariant-loop-statement : goal.invariant-loop-statement
invariant-loop-statement l =
    modules_from l.closing (map parsed_tree l.done) (map statement_tree l.begun) (map statement_tree l.rest)
    ≡ modules_from l.closing [] [] (map statement_tree l.fn.statements)

abbrev pub decreases-loop-statement : goal.decreases-loop-statement
decreases-loop-statement l = length l.rest
