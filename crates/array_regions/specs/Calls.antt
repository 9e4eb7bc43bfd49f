-- READ and WRITE of a CALL (ANSI X3.9-1978 §15.9): its actuals are evaluated, and the called module accesses what its callers see of it, here in the
-- terms of the caller.
use Rattle.std.specs.Prelude.{ℕ, Bool, List, [], ◌∷◌, ◌++◌, map, Option, Some, None, option_to_list}
use Rattle.f77_ast.specs.Trees.{ExprTree, ExprTrees}
use Rattle.f77_ast.specs.Trees as tree
use Rattle.f77_ast.specs.declared.variable.Unit.{Unit as BlockUnit}
use Rattle.f77_ast.specs.Symbols.{SymbolTree, value_in}
use Rattle.f77_ast.specs.Summaries.{SummaryTree}
use Rattle.affine_forms.specs.Scalars.{cell_in}
use Rattle.transformers.specs.call_translation.Scopes.{ScopeTree}
use Rattle.region_translation.specs.region_sets.declared.region.Region.{Region}
use Rattle.region_translation.specs.region_sets.Sets.{SetFits, unite_all}
use Rattle.region_translation.specs.call_equations.Sides.{SidesTree, entry_cells}
use Rattle.region_translation.specs.Caller.{to_caller}
use Rattle.array_regions.specs.Reads.{reads, inner_reads}

-- what a CALL of the module of a name with these actuals accesses
abbrev pub Called : Type 0
Called = List ℕ → ExprTrees → List Region

-- the summary of the module of a name
abbrev pub Callees : Type 0
Callees = List ℕ → Option (SummaryTree (List Region))

abbrev pub SummaryFits : Option (SummaryTree (List Region)) → Type 0
SummaryFits None = Unit {0}
SummaryFits (Some s) = SetFits s.value

-- each of the summaries
abbrev pub CalleesFit : Callees → Type 0
CalleesFit cs = (x : List ℕ) → SummaryFits (cs x)

-- ---- actuals

-- what is read to associate an actual with its dummy (§15.9.3): nothing for a name, the subscripts of an element, the arguments of an intrinsic
-- function, and all that another expression names
abbrev pub actual_reads : ExprTree → ScopeTree → List Region
actual_reads (tree.int n) m = reads (tree.int n) m
actual_reads (tree.log b) m = reads (tree.log b) m
actual_reads (tree.name x) m = inner_reads (tree.name x) m
actual_reads (tree.element x es) m = inner_reads (tree.element x es) m
actual_reads (tree.paren e) m = reads (tree.paren e) m
actual_reads (tree.unary o e) m = reads (tree.unary o e) m
actual_reads (tree.binary o a b) m = reads (tree.binary o a b) m
actual_reads (tree.chars x) m = reads (tree.chars x) m

abbrev pub actuals_reads : ExprTrees → ScopeTree → List Region
actuals_reads tree.no_exprs m = []
actuals_reads (tree.more_exprs e es) m = actual_reads e m ++ actuals_reads es m

-- ---- the callee

-- a module with these symbols, of which these are tracked cells
abbrev pub scope_with : List SymbolTree → List Bool → ScopeTree
scope_with ss flags = record {
  symbols = ss;
  tracked = flags;
  names = map (λ s. s.name) ss;
  scalars = record { value = value_in ss; cell = cell_in (map (λ s. s.name) ss) flags };
}

-- a CALL in a module some of whose cells change, of a module with these symbols, in a program with these untracked units
abbrev pub sides : ScopeTree → List ℕ → List BlockUnit → List ℕ → ExprTrees → List SymbolTree → SidesTree
sides m changed untracked x es ss = record { caller = m; changed = changed; name = x; actuals = es; callee = scope_with ss (entry_cells untracked ss) }

-- regions of the callee in the terms of the caller; what is nothing to the caller is left out
abbrev pub all_in_caller : SidesTree → List Region → List Region
all_in_caller k [] = []
all_in_caller k (r ∷ rs) = option_to_list (to_caller k r) ++ all_in_caller k rs

-- of the callee nothing is said where it has no summary
abbrev pub summary_in_caller : ScopeTree → List ℕ → List BlockUnit → List ℕ → ExprTrees → Option (SummaryTree (List Region)) → List Region
summary_in_caller m changed untracked x es None = []
summary_in_caller m changed untracked x es (Some s) = all_in_caller (sides m changed untracked x es s.symbols) s.value

-- the actuals are evaluated, in their order, and then the callee is executed
abbrev pub call_set : ScopeTree → List ℕ → List BlockUnit → Callees → Called
call_set m changed untracked cs x es = unite_all (actuals_reads es m ++ summary_in_caller m changed untracked x es (cs x))
