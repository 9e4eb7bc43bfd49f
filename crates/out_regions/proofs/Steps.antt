-- Steps of the loops over rows and statements, and what is handed on may be handed on.
use Rattle.std.proofs.Common.{append_assoc, append-nil}
use Rattle.f77_ast.proofs.PlainlyStmt.{what_calls, list_calls, loop_calls as do_calls, arm_calls as if_calls}
use Rattle.in_out_regions.proofs.CallTranslation.Steps.{given-push}

pub ruleset rows = (given-push, append_assoc, append-nil)

pub ruleset part_calls = (what_calls, append_assoc, append-nil)

pub ruleset statement_calls = (list_calls, append_assoc, append-nil)

pub ruleset arm_calls = (if_calls, append_assoc, append-nil)

pub ruleset body_calls = (do_calls, append_assoc, append-nil)
