-- The regions of a module, from the sets of its body.
use Rattle.std.proofs.Common.{◌≡◌, ℕ, Bool, true, List, [], ◌++◌, ap, ◌∙◌}
use Rattle.f77_ast.specs.Trees.{StmtTrees}
use Rattle.f77_ast.specs.declared.symbol.Symbol.{Symbol}
use Rattle.f77_ast.specs.declared.variable.Unit.{Unit as BlockUnit}
use Rattle.f77_ast.specs.declared.results.At.{At}
use Rattle.f77_ast.specs.declared.results.Results.{Results}
use Rattle.transformers.specs.transformer_algebra.declared.transformer.Transformer.{Transformer}
use Rattle.transformers.specs.call_translation.Scopes.{ScopeTree, scope_tree}
use Rattle.transformers.specs.Lists.{transformer_at}
use Rattle.region_translation.specs.region_sets.declared.region.Region.{Region}
use Rattle.region_translation.specs.call_equations.Sides.{changed_cells}
use Rattle.array_regions.specs.Calls.{Called, Callees, call_set}
use Rattle.array_regions.specs.Statement.{list_set, at_list}
use Rattle.array_regions.specs.Entry.{summary_of}
use Rattle.array_regions.specs.Modules.{regions_of, regions_with}

abbrev pub both : List (At (List Region)) → List Region → Results (List Region)
both found set = record { at = found; summary = set }

-- with these flags and changed cells, and a slice of the set of its body
pub module-regions : (body : StmtTrees) (ss : List Symbol) (flags tracked : List Bool) (changed : List ℕ) (untracked : List BlockUnit) (own : List (At Transformer)) (cs : Callees) (old found : List (At (List Region))) (set given summary : List Region) →
    flags ≡ tracked → changed ≡ changed_cells own → old ≡ [] →
    found ≡ old ++ at_list body (scope_tree ss flags) (transformer_at own) (call_set (scope_tree ss flags) changed untracked cs) →
    set ≡ list_set true body (scope_tree ss flags) (transformer_at own) (call_set (scope_tree ss flags) changed untracked cs) →
    given ≡ set → summary ≡ summary_of (scope_tree ss flags) given →
    both found summary ≡ regions_with body (scope_tree ss tracked) untracked own cs
module-regions body ss flags tracked changed untracked own cs old found set given summary same cells none at' is q end =
    let m = scope_tree ss flags in
    let t = transformer_at own in
    let c : Called = call_set m changed untracked cs in
    let whole : ScopeTree → List ℕ → Results (List Region) = λ n d. regions_of body n t (call_set n d untracked cs) in
    ap (λ xs. both xs summary) (at' ∙ ap (λ xs. xs ++ at_list body m t c) none)
    ∙ ap (λ xs. both (at_list body m t c) xs) (end ∙ ap (λ xs. summary_of m xs) (q ∙ is))
    ∙ ap (λ fs. whole (scope_tree ss fs) changed) same
    ∙ ap (λ d. whole (scope_tree ss tracked) d) cells
