-- The constant of a name is that of the symbol with its number.
use Rattle.std.proofs.Common.{◌≡◌, ℕ, zero, suc, ◌-◌, ◌≤◌, Bool, true, false, List, [], ◌∷◌, map, Option, Some, None, refl, sym, ap, ◌∙◌, arith}
use Rattle.std.specs.Prelude.{if◌then◌else◌, bytes_eq, nat_eq, slice_get}
use Rattle.std.proofs.lemmas.Bool.{eqb-true}
use Rattle.f77_ast.specs.declared.constant.Constant.{Constant}
use Rattle.f77_ast.specs.declared.symbol.Symbol.{Symbol}
use Rattle.f77_ast.specs.Symbols.{number_from, symbol_tree, value_in, constant_at}
use Rattle.f77_ast.specs.Shared.{numbered}
use Rattle.f77_ast.specs.Index.{names_of}

abbrev constant_maybe : Option Symbol → Option Constant
constant_maybe None = None
constant_maybe (Some s) = constant_at (symbol_tree s)

-- a name without a number has no constant
pub value_in-none : (n : ℕ) (ss : List Symbol) (x : List ℕ) → number_from n (names_of ss) x ≡ None → value_in (map symbol_tree ss) x ≡ None
value_in-none n [] x e = refl
value_in-none n (s ∷ ss) x e = go (bytes_eq x s.name) e (value_in-none (suc n) ss x)
  where
    go : (b : Bool) → (if b then Some n else number_from (suc n) (names_of ss) x) ≡ None → (number_from (suc n) (names_of ss) x ≡ None → value_in (map symbol_tree ss) x ≡ None) → (if b then constant_at (symbol_tree s) else value_in (map symbol_tree ss) x) ≡ None
    go true q ih = cc
    go false q ih = ih q

value_in-from : (n k : ℕ) (ss : List Symbol) (x : List ℕ) → number_from n (names_of ss) x ≡ Some k → (n ≤ k) × (value_in (map symbol_tree ss) x ≡ constant_maybe (slice_get ss (k - n)))
value_in-from n k [] x e = cc
value_in-from n k (s ∷ ss) x e = go (bytes_eq x s.name) e (value_in-from (suc n) k ss x)
  where
    go : (b : Bool) → (if b then Some n else number_from (suc n) (names_of ss) x) ≡ Some k → (number_from (suc n) (names_of ss) x ≡ Some k → (suc n ≤ k) × (value_in (map symbol_tree ss) x ≡ constant_maybe (slice_get ss (k - suc n)))) → (n ≤ k) × ((if b then constant_at (symbol_tree s) else value_in (map symbol_tree ss) x) ≡ constant_maybe (slice_get (s ∷ ss) (k - n)))
    go true q ih =
        let same : n ≡ k = cc in
        let z : k - n ≡ zero = omega arith in
        (omega arith, ap (λ i. constant_maybe (slice_get (s ∷ ss) i)) (sym z))
    go false q ih =
        let rest = ih q in
        let z : k - n ≡ suc (k - suc n) = omega (arith, rest.0) in
        (omega (arith, rest.0), rest.1 ∙ ap (λ i. constant_maybe (slice_get (s ∷ ss) i)) (sym z))

pub one_up : (k : ℕ) (ss : List Symbol) → 1 ≤ k → slice_get ss (k - 1) ≡ numbered ss k
one_up k ss h = go (nat_eq k 0) refl
  where
    go : (b : Bool) → nat_eq k 0 ≡ b → slice_get ss (k - 1) ≡ (if b then None else slice_get ss (k - 1))
    go true e = absurd (omega (arith, eqb-true k 0 e))
    go false e = refl

-- a name's constant is that of the symbol with its number
pub value_in-numbered : (k : ℕ) (ss : List Symbol) (x : List ℕ) (s : Symbol) → number_from 1 (names_of ss) x ≡ Some k → numbered ss k ≡ Some s → value_in (map symbol_tree ss) x ≡ constant_at (symbol_tree s)
value_in-numbered k ss x s e f =
    let found = value_in-from 1 k ss x e in
    found.1 ∙ ap constant_maybe (one_up k ss found.0 ∙ f)

-- no name has a number without a symbol
pub value_in-past : (k : ℕ) (ss : List Symbol) (x : List ℕ) → number_from 1 (names_of ss) x ≡ Some k → numbered ss k ≡ None → value_in (map symbol_tree ss) x ≡ None
value_in-past k ss x e f =
    let found = value_in-from 1 k ss x e in
    found.1 ∙ ap constant_maybe (one_up k ss found.0 ∙ f)
