-- OUT of a module, from that of its body.
use Rattle.std.proofs.Common.{◌≡◌, Bool, true, List, [], ◌++◌, ap, ◌∙◌}
use Rattle.f77_ast.specs.Trees.{StmtTrees}
use Rattle.f77_ast.specs.declared.symbol.Symbol.{Symbol}
use Rattle.f77_ast.specs.declared.results.At.{At}
use Rattle.f77_ast.specs.declared.results.Results.{Results}
use Rattle.in_out_regions.specs.transformer_algebra.declared.transformer.Transformer.{Transformer}
use Rattle.in_out_regions.specs.call_translation.Scopes.{ScopeTree, scope_tree}
use Rattle.in_out_regions.specs.transformers.Lists.{transformer_at}
use Rattle.in_out_regions.specs.region_sets.declared.region.Region.{Region}
use Rattle.out_regions.specs.Known.{KnownTree}
use Rattle.out_regions.specs.Statement.{body_out, at_list}
use Rattle.out_regions.specs.Modules.{summary_of, outs_from, outs_of, outs_with}
use Rattle.in_out_regions.proofs.ArrayRegions.ModuleLaws.{both}

abbrev pub known_with : List (At Transformer) → List (At (List Region)) → List (At (List Region)) → ScopeTree → KnownTree
known_with own accesses ins m = record { scope = m; does = transformer_at own; accesses = accesses; ins = ins }

-- with these flags, and slices of OUT of its body
pub module-outs : (body : StmtTrees) (ss : List Symbol) (flags tracked : List Bool) (own : List (At Transformer)) (accesses ins : List (At (List Region))) (us out given seen : List Region) (old found : List (At (List Region))) (summary : List Region) →
    flags ≡ tracked → out ≡ body_out (known_with own accesses ins (scope_tree ss flags)) true body us → given ≡ out → old ≡ [] →
    found ≡ old ++ at_list true body (known_with own accesses ins (scope_tree ss flags)) given → seen ≡ out → summary ≡ summary_of (scope_tree ss flags) seen →
    both found summary ≡ outs_with body (scope_tree ss tracked) own accesses ins us
module-outs body ss flags tracked own accesses ins us out given seen old found summary same is g none at' q end =
    let k : ScopeTree → KnownTree = known_with own accesses ins in
    let m = scope_tree ss flags in
    ap (λ xs. both xs summary) (at' ∙ (ap (λ xs. xs ++ at_list true body (k m) given) none ∙ ap (at_list true body (k m)) g))
    ∙ (ap (λ xs. both (at_list true body (k m) out) xs) (end ∙ ap (summary_of m) q)
    ∙ (ap (outs_from body (k m)) is
    ∙ ap (λ fs. outs_of body (k (scope_tree ss fs)) us) same))
