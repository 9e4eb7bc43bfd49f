-- The names that stand in expressions and statements.
use Rattle.std.proofs.Common.{append_assoc, append-nil}
use Rattle.f77_ast.proofs.Plainly as plain
use Rattle.f77_ast.proofs.PlainlyStmt as stmts

pub ruleset expr_calls = (plain.expr_calls, append_assoc, append-nil)

pub ruleset expr_items = (plain.expr_items)

pub ruleset values = (plain.expr_cases, append_assoc, append-nil)

pub ruleset whats = (stmts.what_cases, append_assoc, append-nil)
