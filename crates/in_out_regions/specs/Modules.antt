-- IN of a module: at each statement, and as its callers see it. The bounds of its arrays are read where it is entered.
use Rattle.std.specs.Prelude.{true, List, ◌++◌}
use Rattle.f77_ast.specs.Trees.{StmtTrees}
use Rattle.f77_ast.specs.declared.variable.Unit.{Unit as BlockUnit}
use Rattle.f77_ast.specs.declared.results.At.{At}
use Rattle.f77_ast.specs.declared.results.Results.{Results}
use Rattle.array_regions.specs.transformer_algebra.declared.transformer.Transformer.{Transformer}
use Rattle.array_regions.specs.call_translation.Scopes.{ScopeTree}
use Rattle.array_regions.specs.transformers.Lists.{transformer_at}
use Rattle.array_regions.specs.region_sets.declared.region.Region.{Region}
use Rattle.array_regions.specs.region_sets.Sets.{unite_all}
use Rattle.array_regions.specs.call_equations.Sides.{changed_cells}
use Rattle.array_regions.specs.Calls.{Callees}
use Rattle.array_regions.specs.Entry.{symbols_reads, seen, locals}
use Rattle.in_out_regions.specs.Kinds.{all_in}
use Rattle.in_out_regions.specs.Known.{KnownTree}
use Rattle.in_out_regions.specs.Calls.{call_in}
use Rattle.in_out_regions.specs.Statement.{list_set, at_list}

-- of a module whose body has this set
abbrev pub summary_of : ScopeTree → List Region → List Region
summary_of m rs = unite_all (seen m.symbols (locals m.symbols) (unite_all (all_in (symbols_reads m.symbols m) ++ rs)))

abbrev pub ins_of : StmtTrees → KnownTree → Results (List Region)
ins_of body k = record { at = at_list body k; summary = summary_of k.scope (list_set true body k) }

-- what is known in a module, from the transformers of its statements, their READ and WRITE, and the IN regions of what it calls
abbrev pub known_of : ScopeTree → List BlockUnit → List (At Transformer) → List (At (List Region)) → Callees → KnownTree
known_of m untracked own accesses cs = record { scope = m; does = transformer_at own; accesses = accesses; called = call_in m (changed_cells own) untracked cs }

-- from these and those
abbrev pub ins_with : StmtTrees → ScopeTree → List BlockUnit → List (At Transformer) → List (At (List Region)) → Callees → Results (List Region)
ins_with body m untracked own accesses cs = ins_of body (known_of m untracked own accesses cs)
