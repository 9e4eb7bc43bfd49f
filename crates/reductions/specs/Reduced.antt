-- Which DO statements run in parallel with reduction variables.
use Rattle.std.specs.Prelude.{ℕ, Bool, true, false, not, ◌&&◌, ◌||◌, if◌then◌else◌, bytes_eq, codes, List, [], ◌∷◌, ◌++◌, Option, Some, None}
use Rattle.std.specs.List.{list_any}
use Rattle.f77_ast.specs.Trees.{LoopTree, StmtTrees}
use Rattle.f77_ast.specs.DeclTrees.{ModuleTree}
use Rattle.f77_ast.specs.Symbols.{SymbolTree}
use Rattle.f77_ast.specs.Shared.{symbol_at}
use Rattle.f77_ast.specs.Variables.{union}
use Rattle.f77_ast.specs.declared.variable.Variable.{Variable}
use Rattle.f77_ast.specs.declared.variable.Variable.TheVariants.{Own, Block, Saved}
use Rattle.f77_ast.specs.declared.results.At.{At}
use Rattle.f77_ast.specs.declared.marks.Mark.{Mark}
use Rattle.f77_ast.specs.declared.marks.Mark.TheVariants.{Parallel, Serial}
use Rattle.f77_ast.specs.declared.marks.Reason.{Reason}
use Rattle.f77_ast.specs.declared.marks.Reason.TheVariants.{Jump, InputOutput, Step, Index, Carries}
use Rattle.loop_marker.specs.dependence_test.declared.body.LoopBody.{LoopBody}
use Rattle.loop_marker.specs.dependence_test.Finding.{loop_in}
use Rattle.loop_marker.specs.privatizer.Names.{may_copy}
use Rattle.loop_marker.specs.privatizer.Uses.{Uses}
use Rattle.loop_marker.specs.declared.verdict.Verdict.{Verdict}
use Rattle.loop_marker.specs.declared.verdict.Verdict.TheVariants.{Free, Copied, Bad}
use Rattle.loop_marker.specs.Jumps.{body_of}
use Rattle.loop_marker.specs.Marks.{Knowledge, is_in_bounds, with_own, verdict_of}
use Rattle.loop_marker.specs.Variables.{inner_in, written_in}
use Rattle.result_lines.specs.declared.reduction.ReduceOp.{ReduceOp}
use Rattle.result_lines.specs.declared.reduction.ReduceOp.TheVariants.{Sum, Max, Min, And, Or}
use Rattle.result_lines.specs.declared.reduction.Part.{Part}
use Rattle.result_lines.specs.declared.reduction.Reduction.{Reduction}
use Rattle.reductions.specs.Standings.{standing_in}
use Rattle.reductions.specs.declared.standing.Standing.{Standing}
use Rattle.reductions.specs.declared.standing.Standing.TheVariants.{Absent, Accumulated, Otherwise}

-- ---- words of clauses

abbrev pub is_symbol : List SymbolTree → List ℕ → Bool
is_symbol ss word = list_any (λ (s : SymbolTree). bytes_eq word s.name) ss

-- a symbol of the module, or a module of the program
abbrev pub is_known : List SymbolTree → List (List ℕ) → List ℕ → Bool
is_known ss modules word = is_symbol ss word || list_any (bytes_eq word) modules

-- the word of the operator in a clause has another meaning too: compilers refuse REDUCTION(MAX:K) where MAX is one of these names
abbrev pub has_other_meaning : List SymbolTree → List (List ℕ) → ReduceOp → Bool
has_other_meaning ss modules Sum = false
has_other_meaning ss modules Max = is_known ss modules (codes "MAX")
has_other_meaning ss modules Min = is_known ss modules (codes "MIN")
has_other_meaning ss modules And = false
has_other_meaning ss modules Or = false

-- ---- reduction variables

abbrev pub by_standing : List SymbolTree → List (List ℕ) → Standing → Option ReduceOp
by_standing ss modules Absent = None
by_standing ss modules (Accumulated p) = if has_other_meaning ss modules p then None else Some p
by_standing ss modules Otherwise = None

abbrev pub has_some : {T : Type 0} → List T → Bool
has_some [] = false
has_some (x ∷ xs) = true

-- the operator by which the body accumulates in a scalar that it does not name otherwise
abbrev pub symbol_operator : List SymbolTree → List (List ℕ) → StmtTrees → SymbolTree → Option ReduceOp
symbol_operator ss modules body s = if has_some s.bounds then None else by_standing ss modules (standing_in ss s body)

abbrev pub if_symbol : List SymbolTree → List (List ℕ) → StmtTrees → Option SymbolTree → Option ReduceOp
if_symbol ss modules body None = None
if_symbol ss modules body (Some s) = symbol_operator ss modules body s

-- its name allows copies, and it is not in the first, the last or the step of the DO
abbrev pub operator_of : ModuleTree → List SymbolTree → List (List ℕ) → LoopTree → ℕ → Option ReduceOp
operator_of m ss modules l n = if not (may_copy m ss (Own n)) || is_in_bounds ss l (Own n) then None else if_symbol ss modules (body_of l) (symbol_at ss n)

abbrev pub part_with : ℕ → Option ReduceOp → Option Part
part_with n None = None
part_with n (Some p) = Some (record { cell = n; op = p })

-- of a DO, in a program of these modules
abbrev pub part_of : ModuleTree → List SymbolTree → List (List ℕ) → LoopTree → Variable → Option Part
part_of m ss modules l (Own n) = part_with n (operator_of m ss modules l n)
part_of m ss modules l (Block x) = None
part_of m ss modules l (Saved x y) = None

-- ---- a DO

-- none without a reduction variable
abbrev pub reduction_with : List ℕ → List Part → Option Reduction
reduction_with ns [] = None
reduction_with ns (p ∷ ps) = Some (record { private = ns; parts = p ∷ ps })

abbrev pub by_part : List Part → Option Part → (List Part → Option Reduction) → Option Reduction
by_part ps None next = None
by_part ps (Some p) next = next (ps ++ p ∷ [])

abbrev pub by_verdict : List ℕ → List Part → Variable → Option Part → Verdict → (List ℕ → List Part → Option Reduction) → Option Reduction
by_verdict ns ps v part Free next = next ns ps
by_verdict ns ps v part Copied next = next (with_own ns v) ps
by_verdict ns ps v part (Bad ks p) next = by_part ps part (next ns)

-- `ns` and `ps` have the symbols of which iterations have copies, and the reduction variables, so far; none where another variable is an obstacle
abbrev pub reduction_from : Knowledge → List (List ℕ) → LoopTree → (Variable → Verdict) → List ℕ → List Part → List Variable → Option Reduction
reduction_from k modules l f ns ps [] = reduction_with ns ps
reduction_from k modules l f ns ps (v ∷ vs) = by_verdict ns ps v (part_of k.tree k.symbols modules l v) (f v) (λ ms qs. reduction_from k modules l f ms qs vs)

abbrev pub reduction_by : Knowledge → List (List ℕ) → LoopBody → Uses → LoopTree → List Variable → Option Reduction
reduction_by k modules b u l inner = reduction_from k modules l (verdict_of k b u l inner) [] [] (union inner (written_in b.regions))

-- of the DO with this number, that nothing but its variables stands against
abbrev pub reduction_of : Knowledge → List (List ℕ) → ℕ → LoopTree → Option Reduction
reduction_of k modules n l = reduction_by k modules (k.body l) (k.uses n l) l (inner_in k.names k.tree l)

-- ---- a module

-- a variable is the obstacle
abbrev pub is_carried_by : Reason → Bool
is_carried_by Jump = false
is_carried_by InputOutput = false
is_carried_by Step = false
is_carried_by Index = false
is_carried_by (Carries v ks p) = true

abbrev pub is_carried : Mark → Bool
is_carried (Parallel ns) = false
is_carried (Serial r) = is_carried_by r

abbrev pub reduction_in : Knowledge → List (List ℕ) → ℕ → Option LoopTree → Option Reduction
reduction_in k modules n None = None
reduction_in k modules n (Some l) = reduction_of k modules n l

abbrev pub at_number : ℕ → Option Reduction → List (At Reduction)
at_number n None = []
at_number n (Some r) = record { id = n; value = r } ∷ []

abbrev pub found_at : Knowledge → List (List ℕ) → At Mark → List (At Reduction)
found_at k modules m = if is_carried m.value then at_number m.id (reduction_in k modules m.id (loop_in m.id k.tree.body)) else []

-- each DO with reduction variables, in the order of the marks; the modules are those of the program
abbrev pub reduced_of : Knowledge → List (List ℕ) → List (At Mark) → List (At Reduction)
reduced_of k modules [] = []
reduced_of k modules (m ∷ ms) = found_at k modules m ++ reduced_of k modules ms
