-- IN of a module, from the sets of its body.
use Rattle.std.proofs.Common.{◌≡◌, ℕ, Bool, true, List, [], ◌++◌, ap, ◌∙◌}
use Rattle.f77_ast.specs.Trees.{StmtTrees}
use Rattle.f77_ast.specs.declared.symbol.Symbol.{Symbol}
use Rattle.f77_ast.specs.declared.variable.Unit.{Unit as BlockUnit}
use Rattle.f77_ast.specs.declared.results.At.{At}
use Rattle.f77_ast.specs.declared.results.Results.{Results}
use Rattle.array_regions.specs.transformer_algebra.declared.transformer.Transformer.{Transformer}
use Rattle.array_regions.specs.call_translation.Scopes.{ScopeTree, scope_tree}
use Rattle.array_regions.specs.transformers.Lists.{transformer_at}
use Rattle.array_regions.specs.region_sets.declared.region.Region.{Region}
use Rattle.array_regions.specs.call_equations.Sides.{changed_cells}
use Rattle.array_regions.specs.Calls.{Callees}
use Rattle.in_out_regions.specs.Known.{KnownTree}
use Rattle.in_out_regions.specs.Calls.{call_in}
use Rattle.in_out_regions.specs.Statement.{list_set, at_list}
use Rattle.in_out_regions.specs.Modules.{summary_of, ins_of, ins_with}
use Rattle.array_regions.proofs.ModuleLaws.{both}

abbrev pub known_with : List BlockUnit → List (At Transformer) → List (At (List Region)) → Callees → ScopeTree → List ℕ → KnownTree
known_with untracked own accesses cs m d = record { scope = m; does = transformer_at own; accesses = accesses; called = call_in m d untracked cs }

-- with these flags and changed cells, and a slice of the set of its body
pub module-ins : (body : StmtTrees) (ss : List Symbol) (flags tracked : List Bool) (changed : List ℕ) (untracked : List BlockUnit) (own : List (At Transformer)) (accesses : List (At (List Region))) (cs : Callees)
    (old found : List (At (List Region))) (set given summary : List Region) →
    flags ≡ tracked → changed ≡ changed_cells own → old ≡ [] →
    found ≡ old ++ at_list body (known_with untracked own accesses cs (scope_tree ss flags) changed) →
    set ≡ list_set true body (known_with untracked own accesses cs (scope_tree ss flags) changed) →
    given ≡ set → summary ≡ summary_of (scope_tree ss flags) given →
    both found summary ≡ ins_with body (scope_tree ss tracked) untracked own accesses cs
module-ins body ss flags tracked changed untracked own accesses cs old found set given summary same cells none at' is q end =
    let k : ScopeTree → List ℕ → KnownTree = known_with untracked own accesses cs in
    let m = scope_tree ss flags in
    ap (λ xs. both xs summary) (at' ∙ ap (λ xs. xs ++ at_list body (k m changed)) none)
    ∙ ap (λ xs. both (at_list body (k m changed)) xs) (end ∙ ap (λ xs. summary_of m xs) (q ∙ is))
    ∙ ap (λ fs. ins_of body (k (scope_tree ss fs) changed)) same
    ∙ ap (λ d. ins_of body (k (scope_tree ss tracked) d)) cells
