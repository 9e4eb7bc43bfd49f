-- IN of a CALL (ANSI X3.9-1978 §15.9): its actuals are evaluated, and then the called module is executed.
use Rattle.std.specs.Prelude.{ℕ, List, [], ◌++◌, Option, Some, None}
use Rattle.f77_ast.specs.Trees.{ExprTrees}
use Rattle.f77_ast.specs.declared.variable.Unit.{Unit as BlockUnit}
use Rattle.f77_ast.specs.Summaries.{SummaryTree}
use Rattle.array_regions.specs.call_translation.Scopes.{ScopeTree}
use Rattle.array_regions.specs.region_sets.declared.region.Region.{Region}
use Rattle.array_regions.specs.region_sets.Sets.{unite_all}
use Rattle.array_regions.specs.Calls.{Called, Callees, actuals_reads, sides, all_in_caller}
use Rattle.in_out_regions.specs.Kinds.{all_in}

-- of a module with this summary, in one some of whose cells change, in a program with these untracked units; what a CALL of a module without a summary reads
-- is left out
abbrev pub summary_in : ScopeTree → List ℕ → List BlockUnit → List ℕ → ExprTrees → Option (SummaryTree (List Region)) → List Region
summary_in m changed untracked x es None = []
summary_in m changed untracked x es (Some s) = unite_all (all_in (actuals_reads es m) ++ all_in_caller (sides m changed untracked x es s.symbols) s.value)

-- `cs` has the IN regions of the modules that are called, as their callers see them
abbrev pub call_in : ScopeTree → List ℕ → List BlockUnit → Callees → Called
call_in m changed untracked cs x es = summary_in m changed untracked x es (cs x)
