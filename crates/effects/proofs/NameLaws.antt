-- The number of the variable of a name is that of its first symbol.
use Rattle.std.proofs.Common.{◌≡◌, ℕ, zero, suc, ◌+◌, ◌-◌, ◌≤◌, Bool, true, false, List, [], ◌∷◌, map, Option, Some, None, refl, sym, ap, ◌∙◌, arith, subst}
use Rattle.std.specs.Prelude.{if◌then◌else◌, bytes_eq, nat_eq, slice_get, option_map}
use Rattle.std.proofs.lemmas.Bool.{eqb-true}
use Rattle.f77_ast.specs.declared.symbol.Symbol.{Symbol}
use Rattle.f77_ast.specs.Symbols.{SymbolTree, number_from, symbol_tree}
use Rattle.f77_ast.specs.Shared.{numbered}
use Rattle.f77_ast.specs.Index.{names_of}
use Rattle.effects.specs.Names.{variable_number, number_of}
use Rattle.f77_ast.proofs.ValueLaws.{one_up}

-- a name without a symbol
pub number-none : (n : ℕ) (ss : List Symbol) (x : List ℕ) → number_from n (names_of ss) x ≡ None → number_of n (map symbol_tree ss) x ≡ None
number-none n [] x e = refl
number-none n (s ∷ ss) x e = go (bytes_eq x s.name) e (number-none (suc n) ss x)
  where
    go : (b : Bool) → (if b then Some n else number_from (suc n) (names_of ss) x) ≡ None → (number_from (suc n) (names_of ss) x ≡ None → number_of (suc n) (map symbol_tree ss) x ≡ None) → (if b then variable_number n (symbol_tree s) else number_of (suc n) (map symbol_tree ss) x) ≡ None
    go true q ih = cc
    go false q ih = ih q

-- what a symbol that may be missing gives
abbrev pub number_at_symbol : ℕ → Option Symbol → Option ℕ
number_at_symbol k None = None
number_at_symbol k (Some s) = variable_number k (symbol_tree s)

number-from : (n k : ℕ) (ss : List Symbol) (x : List ℕ) → number_from n (names_of ss) x ≡ Some k → (n ≤ k) × (number_of n (map symbol_tree ss) x ≡ number_at_symbol k (slice_get ss (k - n)))
number-from n k [] x e = cc
number-from n k (s ∷ ss) x e = go (bytes_eq x s.name) e (number-from (suc n) k ss x)
  where
    go : (b : Bool) → (if b then Some n else number_from (suc n) (names_of ss) x) ≡ Some k → (number_from (suc n) (names_of ss) x ≡ Some k → (suc n ≤ k) × (number_of (suc n) (map symbol_tree ss) x ≡ number_at_symbol k (slice_get ss (k - suc n)))) → (n ≤ k) × ((if b then variable_number n (symbol_tree s) else number_of (suc n) (map symbol_tree ss) x) ≡ number_at_symbol k (slice_get (s ∷ ss) (k - n)))
    go true q ih =
        let same : n ≡ k = cc in
        let z : k - n ≡ zero = omega arith in
        (omega arith, ap (λ m. variable_number m (symbol_tree s)) same ∙ ap (λ i. number_at_symbol k (slice_get (s ∷ ss) i)) (sym z))
    go false q ih =
        let rest = ih q in
        let z : k - n ≡ suc (k - suc n) = omega (arith, rest.0) in
        (omega (arith, rest.0), rest.1 ∙ ap (λ i. number_at_symbol k (slice_get (s ∷ ss) i)) (sym z))

pub number-numbered : (k : ℕ) (ss : List Symbol) (x : List ℕ) → number_from 1 (names_of ss) x ≡ Some k → number_of 1 (map symbol_tree ss) x ≡ number_at_symbol k (numbered ss k)
number-numbered k ss x e =
    let found = number-from 1 k ss x e in
    found.1 ∙ ap (number_at_symbol k) (one_up k ss found.0)
