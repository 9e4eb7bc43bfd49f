-- What is shown of each DO that is found by its number, is shown of the DOs of the list.
use Rattle.std.proofs.Common.{◌≡◌, ℕ, List, [], ◌∷◌, ◌++◌, ◌||◌, Option, Some, None, Bool, true, false, refl, sym, ◌∙◌}
use Rattle.std.proofs.lemmas.Bool.{or_parts}
use Rattle.f77_ast.specs.Trees.{StmtTree, WhatTree, ArmTree, ArmTrees, ElseTree, LoopTree, StmtTrees}
use Rattle.f77_ast.specs.Trees as tree
use Rattle.f77_ast.specs.StatementNumbers.{stmt_numbers, part_numbers, list_numbers, arms_numbers, else_numbers, loop_numbers, HasNumbers}
use Rattle.f77_ast.specs.declared.results.At.{At}
use Rattle.preconditions.specs.transformer_algebra.Cells.{has}
use Rattle.loop_marker.specs.dependence_test.Finding.{loop_in}
use Rattle.call_graph.specs.CallsIn.{Each}
use Rattle.laws_analyses.proofs.Regions.Programs.{distinct_numbers}
use Rattle.laws_marks.proofs.ConflictModules.{numbered_above}
use Rattle.laws_marks.proofs.ConflictWhats.{stmt_whats, part_whats, list_whats, arms_whats, else_whats, loop_whats, as_loop, FoundAt, each_found}
use Rattle.laws_marks.specs.Loops.{StmtDos, WhatDos, LoopDos, ArmsDos, ElseDos, ListDos}
use Rattle.laws_analyses.proofs.Statements.Placing.{each_parts as each_split}
use Rattle.preconditions.proofs.TransformerAlgebra.HasLaws.{has_parts}

-- F: the DO of each number
module _ (P : ℕ → LoopTree → Type 0) (F : ℕ → Option LoopTree) (shown : (n : ℕ) (l : LoopTree) → F n ≡ Some l → has (loop_numbers l) 0 ≡ false → P n l) where
  mutual
    stmt_dos : (s : StmtTree) → Each (FoundAt F) (stmt_whats s) → has (stmt_numbers s) 0 ≡ false → StmtDos P s
    stmt_dos (tree.stmt n label w) h p = what_dos w n h.0 h.1 (or_parts _ (has (part_numbers w) 0) p).1

    what_dos : (w : WhatTree) (n : ℕ) → F n ≡ as_loop w → Each (FoundAt F) (part_whats w) → has (part_numbers w) 0 ≡ false → WhatDos P n w
    what_dos (tree.assign a b) n e h p = tt
    what_dos (tree.block_if arms other) n e h p =
        let q = has_parts (arms_numbers arms) (else_numbers other) 0 p in
        let k = each_split (FoundAt F) (arms_whats arms) (else_whats other) h in
        (arms_dos arms k.0 q.0, else_dos other k.1 q.1)
    what_dos (tree.logical_if test s) n e h p = stmt_dos s h p
    what_dos (tree.do_loop l) n e h p = (shown n l e p, loop_dos l h p)
    what_dos (tree.call x es) n e h p = tt
    what_dos (tree.goto l) n e h p = tt
    what_dos tree.continue n e h p = tt
    what_dos tree.return n e h p = tt
    what_dos (tree.stop text) n e h p = tt
    what_dos (tree.print es) n e h p = tt
    what_dos (tree.read es) n e h p = tt

    loop_dos : (l : LoopTree) → Each (FoundAt F) (loop_whats l) → has (loop_numbers l) 0 ≡ false → LoopDos P l
    loop_dos (tree.loop index first last step body) h p = list_dos body h p

    arms_dos : (arms : ArmTrees) → Each (FoundAt F) (arms_whats arms) → has (arms_numbers arms) 0 ≡ false → ArmsDos P arms
    arms_dos tree.no_arms h p = tt
    arms_dos (tree.more_arms (tree.arm test body) rest) h p =
        let q = has_parts (list_numbers body) (arms_numbers rest) 0 p in
        let k = each_split (FoundAt F) (list_whats body) (arms_whats rest) h in
        (list_dos body k.0 q.0, arms_dos rest k.1 q.1)

    else_dos : (other : ElseTree) → Each (FoundAt F) (else_whats other) → has (else_numbers other) 0 ≡ false → ElseDos P other
    else_dos tree.no_else h p = tt
    else_dos (tree.otherwise body) h p = list_dos body h p

    list_dos : (ss : StmtTrees) → Each (FoundAt F) (list_whats ss) → has (list_numbers ss) 0 ≡ false → ListDos P ss
    list_dos tree.no_stmts h p = tt
    list_dos (tree.more_stmts s rest) h p =
        let q = has_parts (stmt_numbers s) (list_numbers rest) 0 p in
        let k = each_split (FoundAt F) (stmt_whats s) (list_whats rest) h in
        (stmt_dos s k.0 q.0, list_dos rest k.1 q.1)

-- in a module whose statements are numbered, none of which has the number 0
pub all_dos : (P : ℕ → LoopTree → Type 0) (body : StmtTrees) → HasNumbers body → ((n : ℕ) (l : LoopTree) → loop_in n body ≡ Some l → has (loop_numbers l) 0 ≡ false → P n l) → ListDos P body
all_dos P body numbered h = list_dos P (λ n. loop_in n body) h body (each_found body (distinct_numbers body numbered)) (numbered_above body numbered)
