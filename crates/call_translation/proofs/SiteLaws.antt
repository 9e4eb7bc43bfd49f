-- A CALL that is copied and added.
use Rattle.std.proofs.Common.{◌≡◌, ℕ, Bool, List, [], ◌∷◌, ◌++◌, map, refl, sym, ap, ap₂, ◌∙◌}
use Rattle.f77_ast.specs.Trees.{ExprTrees}
use Rattle.f77_ast.specs.Plain.{expr_trees}
use Rattle.f77_ast.specs.declared.symbol.Symbol.{Symbol}
use Rattle.f77_ast.specs.Symbols.{SymbolTree, symbol_tree, value_in}
use Rattle.f77_ast.specs.Index.{names_of}
use Rattle.affine_forms.specs.Scalars.{cell_in}
use Rattle.call_translation.specs.declared.sites.Site.{Site}
use Rattle.call_translation.specs.Scopes.{ScopeTree, scope_tree}
use Rattle.call_translation.specs.Sites.{SiteTree, caller_tree, site_tree}

abbrev tree_names : List SymbolTree → List (List ℕ)
tree_names ts = map (λ (t : SymbolTree). t.name) ts

names_same : (ss : List Symbol) → names_of ss ≡ tree_names (map symbol_tree ss)
names_same [] = refl
names_same (s ∷ ss) = ap (λ (xs : List (List ℕ)). s.name ∷ xs) (names_same ss)

-- a module by its symbols as trees, and their names
abbrev scope_named : List SymbolTree → List Bool → List (List ℕ) → ScopeTree
scope_named ts flags ns = record { symbols = ts; tracked = flags; names = ns; scalars = record { value = value_in ts; cell = cell_in ns flags } }

abbrev scope_from : List SymbolTree → List Bool → ScopeTree
scope_from ts flags = scope_named ts flags (tree_names ts)

scope_is : (ss : List Symbol) (flags : List Bool) → scope_tree ss flags ≡ scope_from (map symbol_tree ss) flags
scope_is ss flags = ap (scope_named (map symbol_tree ss) flags) (names_same ss)

-- a copy of the symbols gives the same
pub scope_same : (ss ts : List Symbol) (flags gs : List Bool) → map symbol_tree ss ≡ map symbol_tree ts → flags ≡ gs → scope_tree ss flags ≡ scope_tree ts gs
scope_same ss ts flags gs e f = scope_is ss flags ∙ (ap₂ scope_from e f ∙ sym (scope_is ts gs))

abbrev pub site_of : {T : Type 0} → ScopeTree → ExprTrees → T → SiteTree T
site_of m es x = record { caller = m; actuals = es; value = x }

map_behind : {T : Type 0} (xs : List (Site T)) (s : Site T) → map site_tree (xs ++ s ∷ []) ≡ map site_tree xs ++ site_tree s ∷ []
map_behind [] s = refl
map_behind {T} (x ∷ xs) s = ap (λ (ys : List (SiteTree T)). site_tree x ∷ ys) (map_behind xs s)

pub site_added : {T : Type 0} (old new : List (Site T)) (s : Site T) (m : ScopeTree) (es : ExprTrees) → new ≡ old ++ s ∷ [] → caller_tree s.caller.value ≡ m → expr_trees s.actuals ≡ es → map site_tree new ≡ map site_tree old ++ site_of m es s.value ∷ []
site_added {T} old new s m es e f g =
    ap (map site_tree) e ∙ (map_behind old s ∙ ap₂ (λ (n : ScopeTree) (fs : ExprTrees). map site_tree old ++ site_of n fs s.value ∷ []) f g)
