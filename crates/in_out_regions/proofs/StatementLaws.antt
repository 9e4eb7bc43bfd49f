-- What is known of statements, their parts, and the sets at them.
use Rattle.std.proofs.Common.{◌≡◌, false, List, append_assoc, append-nil, ap, sym, ◌∙◌}
use Rattle.f77_ast.specs.declared.stmt.Loop.{Loop, out-Loop}
use Rattle.f77_ast.specs.Trees.{LoopTree}
use Rattle.f77_ast.specs.PlainStmt.{stmt_trees, loop_tree}
use Rattle.f77_ast.proofs.PlainlyStmt.{what_calls, list_calls, loop_calls as do_calls, arm_calls as if_calls, loop_tree-out}
use Rattle.f77_ast.specs.declared.results.At.{At}
use Rattle.array_regions.specs.region_sets.declared.region.Region.{Region}
use Rattle.array_regions.specs.Loops.{range_of}
use Rattle.in_out_regions.specs.Known.{KnownTree}
use Rattle.in_out_regions.specs.Loops.{do_with, do_in}
use Rattle.in_out_regions.specs.Statement.{list_of, body_accesses, do_of, at_list, at_loop}

pub ruleset part_calls = (what_calls, append_assoc, append-nil)

pub ruleset statement_calls = (list_calls, append_assoc, append-nil)

pub ruleset arm_calls = (if_calls, append_assoc, append-nil)

-- a DO, from the sets of its body
pub do-made : (l : Loop) (k : KnownTree) (as' : List (At (List Region))) (ws is rs : List Region) → ws ≡ body_accesses (stmt_trees (out-Loop l).body) k → is ≡ list_of false (stmt_trees (out-Loop l).body) k as' →
    rs ≡ do_with (range_of (loop_tree l) k.scope k.does) (loop_tree l) k.scope ws is → rs ≡ do_of (loop_tree l) k as'
do-made l k as' ws is rs e f h =
    let body = stmt_trees (out-Loop l).body in
    let all = list_of false body k as' in
    h ∙ (ap (λ (xs : List Region). do_in (loop_tree l) k xs is) e ∙ (ap (do_in (loop_tree l) k (body_accesses body k)) f
    ∙ (ap (λ (y : LoopTree). do_in y k (body_accesses body k) all) (loop_tree-out l) ∙ sym (ap (λ (y : LoopTree). do_of y k as') (loop_tree-out l)))))

pub ruleset loop_parts = (do-made)

pub body-at : (l : Loop) (k : KnownTree) → at_loop (loop_tree l) k ≡ at_list (stmt_trees (out-Loop l).body) k
body-at l k = ap (λ (y : LoopTree). at_loop y k) (loop_tree-out l)

pub body-made : (l : Loop) (k : KnownTree) (as' : List (At (List Region))) (rs : List Region) → as' ≡ at_list (stmt_trees (out-Loop l).body) k → rs ≡ do_of (loop_tree l) k as' → rs ≡ do_of (loop_tree l) k (at_loop (loop_tree l) k)
body-made l k as' rs e h = h ∙ ap (do_of (loop_tree l) k) (e ∙ sym (body-at l k))

pub ruleset body_calls = (do_calls, body-made, body-at, append_assoc, append-nil)
