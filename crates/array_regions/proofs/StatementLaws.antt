-- What is known of statements, their parts, and the sets at them.
use Rattle.std.proofs.Common.{◌≡◌, false, List, append_assoc, append-nil, ap, sym, ◌∙◌}
use Rattle.f77_ast.specs.declared.stmt.Loop.{Loop, out-Loop}
use Rattle.f77_ast.specs.Trees.{LoopTree}
use Rattle.f77_ast.specs.PlainStmt.{stmt_trees, loop_tree}
use Rattle.f77_ast.proofs.PlainlyStmt.{what_calls, list_calls, loop_calls as do_calls, arm_calls as if_calls, loop_tree-out}
use Rattle.transformers.specs.call_translation.Scopes.{ScopeTree}
use Rattle.region_translation.specs.region_sets.declared.region.Region.{Region}
use Rattle.array_regions.specs.Loops.{Found, do_set}
use Rattle.array_regions.specs.Calls.{Called}
use Rattle.array_regions.specs.Statement.{list_set, body_set, at_list, at_loop}

pub ruleset part_calls = (what_calls, append_assoc, append-nil)

pub ruleset statement_calls = (list_calls, append_assoc, append-nil)

pub ruleset arm_calls = (if_calls, append_assoc, append-nil)

-- a DO, from the set of its body
pub body-made : (l : Loop) (m : ScopeTree) (t : Found) (c : Called) (rs : List Region) → rs ≡ list_set false (stmt_trees (out-Loop l).body) m t c → do_set (loop_tree l) m t rs ≡ body_set (loop_tree l) m t c
body-made l m t c rs e =
    let body = list_set false (stmt_trees (out-Loop l).body) m t c in
    ap (do_set (loop_tree l) m t) e ∙ (ap (λ (y : LoopTree). do_set y m t body) (loop_tree-out l) ∙ sym (ap (λ (y : LoopTree). body_set y m t c) (loop_tree-out l)))

pub body-at : (l : Loop) (m : ScopeTree) (t : Found) (c : Called) → at_loop (loop_tree l) m t c ≡ at_list (stmt_trees (out-Loop l).body) m t c
body-at l m t c = ap (λ (y : LoopTree). at_loop y m t c) (loop_tree-out l)

pub ruleset body_calls = (do_calls, body-made, body-at, append_assoc, append-nil)
