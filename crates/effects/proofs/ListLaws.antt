-- What is known of statements and their parts, and of a list into which a place is filled later.
use Rattle.std.proofs.Common.{◌≡◌, ℕ, List, [], ◌∷◌, ◌++◌, length, ap, ◌∙◌, append_assoc, append-nil}
use Rattle.std.specs.Prelude.{slice_set}
use Rattle.std.proofs.Math.Seq.{set-append_seam}
use Rattle.f77_ast.proofs.PlainlyStmt.{what_calls, list_calls, loop_calls as do_calls, arm_calls as if_calls}
use Rattle.fx_lists.proofs.Lists.{filled}

pub ruleset part_calls = (what_calls, append_assoc, append-nil)

pub ruleset statement_calls = (list_calls, append_assoc, append-nil)

pub ruleset body_calls = (do_calls, append_assoc, append-nil)

pub ruleset arm_calls = (if_calls, append_assoc, append-nil)
