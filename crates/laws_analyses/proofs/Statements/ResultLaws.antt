-- Results that are looked up are the defined ones.
use Rattle.std.proofs.Common.{◌≡◌, ℕ, List, Bool, true, false, ap}
use Rattle.affine_systems.specs.declared.row.System.{System}
use Rattle.f77_ast.specs.Trees.{ExprTrees, StmtTrees}
use Rattle.preconditions.specs.call_translation.Scopes.{ScopeTree}
use Rattle.preconditions.specs.transformers.Given.{Callees}
use Rattle.preconditions.specs.transformers.Jumps.{list_has}
use Rattle.preconditions.specs.transformers.Lists.{or_unchanging}
use Rattle.preconditions.specs.transformers.Modules.{transformers_of}
use Rattle.preconditions.specs.Modules.{preconditions_of}
use Rattle.laws_analyses.specs.Statements.Targets.{lacks_targets}
use Rattle.laws_analyses.specs.Statements.Placed.{Found, PlacedList}
use Rattle.call_graph.specs.CallsIn.{Each, list_calls}
use Rattle.f77_ast.specs.StatementNumbers.{HasNumbers}
use Rattle.laws_analyses.specs.Statements.Results.{or_no_rows, found_in, pre_in}
use Rattle.laws_analyses.proofs.Statements.Placing.{Owed, placed_list}
use Rattle.laws_analyses.proofs.Statements.MainResults.{each_found_at}
use Rattle.laws_analyses.proofs.Statements.NumberLaws.{own_numbers, t_list, p_list}

pub results_placed : (body : StmtTrees) (m : ScopeTree) (cs : Callees) (entry : System) (scalar : List ℕ → Bool) (covers : List ℕ → ExprTrees → System → Type 0) → HasNumbers body → list_has (lacks_targets scalar) body ≡ false → (let r : Found = record { pre = pre_in body m cs entry; transformer = found_in body m cs } in Each (Owed r covers m cs scalar) (list_calls body) → PlacedList r covers m cs scalar body true entry)
results_placed body m cs entry scalar covers numbered targets owed =
    placed_list (record { pre = pre_in body m cs entry; transformer = found_in body m cs }) covers m cs scalar body true entry targets
    (each_found_at _ (transformers_of body m cs).at (own_numbers (transformers_of body m cs).at body (t_list m cs body true) numbered) (λ a n v. (n, ap or_unchanging v)))
    (each_found_at _ (preconditions_of body m (found_in body m cs) entry).at (own_numbers (preconditions_of body m (found_in body m cs) entry).at body (p_list m (found_in body m cs) true body entry) numbered) (λ a n v. ap or_no_rows v))
    owed
