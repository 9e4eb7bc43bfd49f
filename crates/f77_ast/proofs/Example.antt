-- Small programs run, as equations.
use Rattle.std.proofs.Common.{◌≡◌, [], ◌∷◌, None, true, false, refl, pos}
use Rattle.std.specs.Prelude.{codes}
use Rattle.f77_ast.specs.declared.expr.BinaryOp.TheVariants.{Add}
use Rattle.f77_ast.specs.Trees.{ExprTree, int, name, binary, no_exprs, more_exprs, StmtTrees, stmt, assign, print, no_stmts, more_stmts}
use Rattle.f77_ast.specs.DeclTrees.{ModuleTree}
use Rattle.f77_ast.specs.Store.{Int, content}
use Rattle.f77_ast.specs.Faults.{Arithmetic, Unset}
use Rattle.f77_ast.specs.Steps.{Faulty, Value}
use Rattle.f77_ast.specs.Runs.{Arrived, Read, Wrote, Printed, Gave, Broke}
use Rattle.f77_ast.specs.Plans.{Normal}
use Rattle.f77_ast.specs.Statements.{spot}
use Rattle.f77_ast.specs.Programs.{program_run}
use Rattle.f77_ast.specs.Straight.{straight_program, is_straight}

abbrev pub i : ExprTree
i = name (codes "I")

abbrev main_of : StmtTrees → ModuleTree
main_of body = record { name = codes "MAIN"; main = true; titled = false; dummies = []; decls = []; body = body; function = None; references = []; whiles = [] }

-- I=1; I=I+1; PRINT *,I
abbrev counts : ModuleTree
counts = main_of
    (more_stmts (stmt 1 None (assign i (int (pos 1))))
    (more_stmts (stmt 2 None (assign i (binary Add i (int (pos 1)))))
    (more_stmts (stmt 3 None (print (more_exprs i no_exprs))) no_stmts)))

counts_is_straight : is_straight counts ≡ true
counts_is_straight = refl

counts_runs : (program_run (straight_program counts) 0 []).trace ≡
    Arrived (spot (codes "MAIN") 0)
    ∷ Arrived (spot (codes "MAIN") 1)
    ∷ Wrote 1 (content Int (pos 1))
    ∷ Arrived (spot (codes "MAIN") 2)
    ∷ Read 1 (content Int (pos 1))
    ∷ Wrote 1 (content Int (pos 2))
    ∷ Arrived (spot (codes "MAIN") 3)
    ∷ Read 1 (content Int (pos 2))
    ∷ Printed (Value (content Int (pos 2)) ∷ [])
    ∷ []
counts_runs = refl

counts_ends : (program_run (straight_program counts) 0 []).answer ≡ Gave Normal
counts_ends = refl

-- I=2147483647; I=I+1
abbrev overflows : ModuleTree
overflows = main_of
    (more_stmts (stmt 1 None (assign i (int (pos 2147483647))))
    (more_stmts (stmt 2 None (assign i (binary Add i (int (pos 1))))) no_stmts))

overflow_is_fault : (program_run (straight_program overflows) 0 []).answer ≡ Broke (Faulty Arithmetic)
overflow_is_fault = refl

-- PRINT *,I
abbrev unset : ModuleTree
unset = main_of (more_stmts (stmt 1 None (print (more_exprs i no_exprs))) no_stmts)

unset_is_fault : (program_run (straight_program unset) 0 []).answer ≡ Broke (Faulty Unset)
unset_is_fault = refl
