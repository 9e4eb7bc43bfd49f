-- The symbol of a name is the one with its number.
use Rattle.std.proofs.Common.{◌≡◌, ℕ, zero, suc, ◌+◌, ◌-◌, ◌≤◌, Bool, true, false, List, [], ◌∷◌, map, Option, Some, None, refl, sym, ap, ◌∙◌, arith}
use Rattle.std.specs.Prelude.{if◌then◌else◌, bytes_eq, nat_eq, slice_get, option_map}
use Rattle.std.proofs.lemmas.Bool.{eqb-true}
use Rattle.f77_ast.specs.declared.symbol.Symbol.{Symbol}
use Rattle.f77_ast.specs.Symbols.{SymbolTree, number_from, symbol_tree}
use Rattle.f77_ast.specs.Shared.{numbered}
use Rattle.f77_ast.specs.Index.{names_of}
use Rattle.call_graph.specs.Actuals.{symbol_with_name}
use Rattle.f77_ast.proofs.ValueLaws.{one_up}

-- a name without a number has no symbol
pub named-none : (n : ℕ) (ss : List Symbol) (x : List ℕ) → number_from n (names_of ss) x ≡ None → symbol_with_name (map symbol_tree ss) x ≡ None
named-none n [] x e = refl
named-none n (s ∷ ss) x e = go (bytes_eq x s.name) e (named-none (suc n) ss x)
  where
    go : (b : Bool) → (if b then Some n else number_from (suc n) (names_of ss) x) ≡ None → (number_from (suc n) (names_of ss) x ≡ None → symbol_with_name (map symbol_tree ss) x ≡ None) → (if b then Some (symbol_tree s) else symbol_with_name (map symbol_tree ss) x) ≡ None
    go true q ih = cc
    go false q ih = ih q

named-from : (n k : ℕ) (ss : List Symbol) (x : List ℕ) → number_from n (names_of ss) x ≡ Some k → (n ≤ k) × (symbol_with_name (map symbol_tree ss) x ≡ option_map symbol_tree (slice_get ss (k - n)))
named-from n k [] x e = cc
named-from n k (s ∷ ss) x e = go (bytes_eq x s.name) e (named-from (suc n) k ss x)
  where
    go : (b : Bool) → (if b then Some n else number_from (suc n) (names_of ss) x) ≡ Some k → (number_from (suc n) (names_of ss) x ≡ Some k → (suc n ≤ k) × (symbol_with_name (map symbol_tree ss) x ≡ option_map symbol_tree (slice_get ss (k - suc n)))) → (n ≤ k) × ((if b then Some (symbol_tree s) else symbol_with_name (map symbol_tree ss) x) ≡ option_map symbol_tree (slice_get (s ∷ ss) (k - n)))
    go true q ih =
        let same : n ≡ k = cc in
        let z : k - n ≡ zero = omega arith in
        (omega arith, ap (λ i. option_map symbol_tree (slice_get (s ∷ ss) i)) (sym z))
    go false q ih =
        let rest = ih q in
        let z : k - n ≡ suc (k - suc n) = omega (arith, rest.0) in
        (omega (arith, rest.0), rest.1 ∙ ap (λ i. option_map symbol_tree (slice_get (s ∷ ss) i)) (sym z))

pub named-numbered : (k : ℕ) (ss : List Symbol) (x : List ℕ) → number_from 1 (names_of ss) x ≡ Some k → option_map symbol_tree (numbered ss k) ≡ symbol_with_name (map symbol_tree ss) x
named-numbered k ss x e =
    let found = named-from 1 k ss x e in
    ap (option_map symbol_tree) (sym (one_up k ss found.0)) ∙ sym found.1
