-- The region of a scalar or an element by the number of its symbol.
use Rattle.std.proofs.Common.{◌≡◌, ℕ, zero, suc, ◌-◌, Bool, true, false, Option, Some, None, List, [], ◌∷◌, ◌++◌, map, refl, append-nil, ap, sym, ◌∙◌}
use Rattle.std.specs.Prelude.{if◌then◌else◌, nat_eq, slice_get}
use Rattle.f77_ast.specs.Trees.{ExprTrees}
use Rattle.f77_ast.specs.declared.symbol.Symbol.{Symbol}
use Rattle.f77_ast.specs.Symbols.{SymbolTree, bound_tree, symbol_tree}
use Rattle.f77_ast.specs.Shared.{numbered, symbol_at}
use Rattle.tracked_cells.specs.Standing.{has_bounds}
use Rattle.transformers.specs.call_translation.Scopes.{ScopeTree}
use Rattle.region_translation.specs.region_sets.declared.region.Access.{Access}
use Rattle.region_translation.specs.region_sets.declared.region.Region.{Region}
use Rattle.region_translation.proofs.RegionSets.Steps.{set-push}
use Rattle.array_regions.specs.References.{is_constant, scalar, scalar_at, array_at, element_at}

-- ---- the symbol of a number, as it is and as a tree

get-none : (ss : List Symbol) (k : ℕ) → slice_get ss k ≡ None → slice_get (map symbol_tree ss) k ≡ None
get-none [] k e = refl
get-none (s ∷ ss) zero e = cc
get-none (s ∷ ss) (suc k) e = get-none ss k e

get-some : (ss : List Symbol) (k : ℕ) (x : Symbol) → slice_get ss k ≡ Some x → slice_get (map symbol_tree ss) k ≡ Some (symbol_tree x)
get-some [] k x e = cc
get-some (s ∷ ss) zero x e = let same : s ≡ x = cc in ap (λ (y : Symbol). Some (symbol_tree y)) same
get-some (s ∷ ss) (suc k) x e = get-some ss k x e

pub symbol-none : (ss : List Symbol) (n : ℕ) → numbered ss n ≡ None → symbol_at (map symbol_tree ss) n ≡ None
symbol-none ss n = go (nat_eq n 0)
  where
    go : (b : Bool) → (if b then None else slice_get ss (n - 1)) ≡ None → (if b then None else slice_get (map symbol_tree ss) (n - 1)) ≡ None
    go true e = refl
    go false e = get-none ss (n - 1) e

pub symbol-some : (ss : List Symbol) (n : ℕ) (x : Symbol) → numbered ss n ≡ Some x → symbol_at (map symbol_tree ss) n ≡ Some (symbol_tree x)
symbol-some ss n x = go (nat_eq n 0)
  where
    go : (b : Bool) → (if b then None else slice_get ss (n - 1)) ≡ Some x → (if b then None else slice_get (map symbol_tree ss) (n - 1)) ≡ Some (symbol_tree x)
    go true e = cc
    go false e = get-some ss (n - 1) x e

-- ---- a scalar by its number

pub scalar-none : (a : Access) (n : ℕ) (ss : List Symbol) (out : List Region) → None ≡ numbered ss n → out ≡ out ++ scalar_at a n (symbol_at (map symbol_tree ss) n)
scalar-none a n ss out e = sym (ap (λ (o : Option SymbolTree). out ++ scalar_at a n o) (symbol-none ss n (sym e)) ∙ append-nil out)

pub scalar-constant : (a : Access) (n : ℕ) (ss : List Symbol) (out : List Region) (x : Symbol) → Some x ≡ numbered ss n → is_constant x.place ≡ true → out ≡ out ++ scalar_at a n (symbol_at (map symbol_tree ss) n)
scalar-constant a n ss out x e k =
    sym (ap (λ (o : Option SymbolTree). out ++ scalar_at a n o) (symbol-some ss n x (sym e)) ∙ (ap (λ (b : Bool). out ++ (if b then [] else scalar a n ∷ [])) k ∙ append-nil out))

pub scalar-pushed : (a : Access) (n : ℕ) (ss : List Symbol) (out new : List Region) (x : Symbol) (r : Region) → Some x ≡ numbered ss n → is_constant x.place ≡ false → r ≡ scalar a n → new ≡ out ++ r ∷ [] → new ≡ out ++ scalar_at a n (symbol_at (map symbol_tree ss) n)
scalar-pushed a n ss out new x r e k f h =
    h ∙ (ap (λ (z : Region). out ++ z ∷ []) f
    ∙ sym (ap (λ (o : Option SymbolTree). out ++ scalar_at a n o) (symbol-some ss n x (sym e)) ∙ ap (λ (b : Bool). out ++ (if b then [] else scalar a n ∷ [])) k))

pub ruleset scalars_at = (scalar-none, scalar-constant, scalar-pushed, set-push)

-- ---- an element by the number of its array

pub element-none : (m : ScopeTree) (a : Access) (n : ℕ) (es : ExprTrees) (ss : List Symbol) (out : List Region) → None ≡ numbered ss n → out ≡ out ++ element_at m a n es (symbol_at (map symbol_tree ss) n)
element-none m a n es ss out e = sym (ap (λ (o : Option SymbolTree). out ++ element_at m a n es o) (symbol-none ss n (sym e)) ∙ append-nil out)

pub element-flat : (m : ScopeTree) (a : Access) (n : ℕ) (es : ExprTrees) (ss : List Symbol) (out : List Region) (x : Symbol) → Some x ≡ numbered ss n → has_bounds (symbol_tree x).bounds ≡ false → out ≡ out ++ element_at m a n es (symbol_at (map symbol_tree ss) n)
element-flat m a n es ss out x e k =
    sym (ap (λ (o : Option SymbolTree). out ++ element_at m a n es o) (symbol-some ss n x (sym e)) ∙ (ap (λ (b : Bool). out ++ (if b then array_at m a n es (symbol_tree x).bounds ∷ [] else [])) k ∙ append-nil out))

pub element-pushed : (m : ScopeTree) (a : Access) (n : ℕ) (es : ExprTrees) (ss : List Symbol) (out new : List Region) (x : Symbol) (r : Region) → Some x ≡ numbered ss n → has_bounds (symbol_tree x).bounds ≡ true → r ≡ array_at m a n es (map bound_tree x.bounds) → new ≡ out ++ r ∷ [] → new ≡ out ++ element_at m a n es (symbol_at (map symbol_tree ss) n)
element-pushed m a n es ss out new x r e k f h =
    h ∙ (ap (λ (z : Region). out ++ z ∷ []) f
    ∙ sym (ap (λ (o : Option SymbolTree). out ++ element_at m a n es o) (symbol-some ss n x (sym e)) ∙ ap (λ (b : Bool). out ++ (if b then array_at m a n es (symbol_tree x).bounds ∷ [] else [])) k))

pub ruleset elements_at = (element-none, element-flat, element-pushed, set-push)
