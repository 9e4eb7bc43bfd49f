-- The names and places of a straight main program, by its table of symbols.
use Rattle.std.proofs.Common.{◌≡◌, ℕ, zero, suc, ◌+◌, ◌-◌, ◌<◌, ◌≤◌, Bool, true, false, not, List, [], ◌∷◌, Option, Some, None, refl, sym, ap, ◌∙◌, subst, arith}
use Rattle.std.specs.Prelude.{if◌then◌else◌, nat_eq, bytes_eq, slice_get, is_some}
use Rattle.std.proofs.lemmas.Bool.{and_parts, not-true, ne_eqb}
use Rattle.f77_ast.specs.Store.{Int}
use Rattle.f77_ast.specs.Numbers.{intrinsic_named}
use Rattle.f77_ast.specs.Places.{Variable, Function, scalar_place}
use Rattle.f77_ast.specs.Straight as straight
use Rattle.f77_ast.specs.Straight.{as_variable, numbered}
use Rattle.f77_ast.specs.Symbols.{SymbolTree, number_from}
use Rattle.f77_ast.specs.Shared.{symbol_at}
use Rattle.f77_meaning.specs.Areas.{group, Numbering, unit_at}
use Rattle.f77_meaning.specs.Modules.{symbol_names, names, meant_in, meant_at, fixed_maybe}
use Rattle.f77_meaning.specs.Laws.{IsKnown}
use Rattle.f77_meaning.specs.StraightRuns.{scalar_alone, scalars_from, have_no_function}
use Rattle.f77_meaning.proofs.UnitLaws.{units_differ}
use Rattle.f77_meaning.proofs.StraightLaws.{Alias, alias_function, alias_variable}

-- ---- names

names_same : (n k : ℕ) (ys : List (List ℕ)) (x : List ℕ) → number_from n (symbol_names (scalars_from k ys)) x ≡ straight.number_from n ys x
names_same n k [] x = refl
names_same n k (y ∷ ys) x = ap (λ o. if bytes_eq x y then Some n else o) (names_same (suc n) (suc k) ys x)

-- a name that is found, at the place of its symbol
record Named (ys : List (List ℕ)) (n k : ℕ) : Type 0 where
  name : List ℕ
  symbol : slice_get (scalars_from n ys) (k - n) ≡ Some (scalar_alone k name)
  no_function : is_some (intrinsic_named name) ≡ false
  from : n ≤ k

found_name : (n k : ℕ) (ys : List (List ℕ)) (x : List ℕ) → have_no_function ys ≡ true → straight.number_from n ys x ≡ Some k → Named ys n k
found_name n k [] x h e = cc
found_name n k (y ∷ ys) x h e = go (bytes_eq x y) (and_parts (not (is_some (intrinsic_named y))) (have_no_function ys) h) e (found_name (suc n) k ys x)
  where
    go : (b : Bool) → (not (is_some (intrinsic_named y)) ≡ true) × (have_no_function ys ≡ true) → (if b then Some n else straight.number_from (suc n) ys x) ≡ Some k → (have_no_function ys ≡ true → straight.number_from (suc n) ys x ≡ Some k → Named ys (suc n) k) → Named (y ∷ ys) n k
    go true p q ih =
        let same : n ≡ k = cc in
        let none : k - n ≡ 0 = omega (arith, same) in
        record { name = y; symbol = ap (slice_get (scalars_from n (y ∷ ys))) none ∙ ap (λ j. Some (scalar_alone j y)) same; no_function = not-true (is_some (intrinsic_named y)) p.0; from = omega (arith, same) }
    go false p q ih =
        let r = ih p.1 q in
        let low : suc n ≤ k = r.from in
        let next : k - n ≡ suc (k - suc n) = omega (arith, low) in
        record { name = r.name; symbol = ap (slice_get (scalars_from n (y ∷ ys))) next ∙ r.symbol; no_function = r.no_function; from = omega (arith, low) }

at_number : {A : Type 0} (xs : List A) (k : ℕ) (o : Option A) → 1 ≤ k → slice_get xs (k - 1) ≡ o → (if nat_eq k 0 then None else slice_get xs (k - 1)) ≡ o
at_number xs zero o h e = absurd (omega (arith, h))
at_number xs (suc k) o h e = ap (λ b. if b then None else slice_get xs (suc k - 1)) (ne_eqb (suc k) 0 (λ q. absurd (omega (arith, q)))) ∙ e

-- a symbol of the table has a group of its own number
own_group : (n : ℕ) (ys : List (List ℕ)) (i : ℕ) (s : SymbolTree) → slice_get (scalars_from n ys) i ≡ Some s → s ≡ scalar_alone (n + i) s.name
own_group n [] i s e = cc
own_group n (y ∷ ys) zero s e =
    let same : scalar_alone n y ≡ s = cc in
    let at : n ≡ n + zero = omega arith in
    subst (λ t. t ≡ scalar_alone (n + zero) t.name) same (ap (λ j. scalar_alone j y) at)
own_group n (y ∷ ys) (suc i) s e =
    let at : suc n + i ≡ n + suc i = omega arith in
    own_group (suc n) ys i s e ∙ ap (λ j. scalar_alone j s.name) at

module _ (ys : List (List ℕ)) where
  abbrev table : List SymbolTree
  table = scalars_from 1 ys

  abbrev pub is_declared : ℕ → Bool
  is_declared v = is_some (symbol_at table v)

  pub names_alias : have_no_function ys ≡ true → (x : List ℕ) → Alias is_declared (numbered ys x) (names table x)
  names_alias h x = subst (λ o. Alias is_declared (numbered ys x) (meant_in table o)) (sym (names_same 1 1 ys x)) (go (straight.number_from 1 ys x) refl)
    where
      go : (o : Option ℕ) → straight.number_from 1 ys x ≡ o → Alias is_declared (as_variable o) (meant_in table o)
      go None e = alias_function
      go (Some k) e =
          let r = found_name 1 k ys x h e in
          let at : symbol_at table k ≡ Some (scalar_alone k r.name) = at_number table k (Some (scalar_alone k r.name)) r.from r.symbol in
          let d : is_declared k ≡ true = ap is_some at in
          subst (λ q. Alias is_declared (Variable k) (meant_at k q)) (sym at) (subst (λ b. Alias is_declared (Variable k) (if b then Function else Variable k)) (sym r.no_function) (alias_variable d))

  -- ---- places

  symbol_number : (v : ℕ) (s : SymbolTree) → symbol_at table v ≡ Some s → s ≡ scalar_alone v s.name
  symbol_number zero s e = cc
  symbol_number (suc v) s e = let at : 1 + v ≡ suc v = omega arith in let less : suc v - 1 ≡ v = omega arith in own_group 1 ys v s (sym (at_number table (suc v) (slice_get table v) (omega arith) (ap (slice_get table) less)) ∙ e) ∙ ap (λ j. scalar_alone j s.name) at

  module _ (g : Numbering) (m : List ℕ) where
    abbrev pub first_of : ℕ → ℕ
    first_of v = (fixed_maybe g m table (symbol_at table v)).first

    placed_at : (o : Option SymbolTree) (v : ℕ) → symbol_at table v ≡ o → is_some o ≡ true → fixed_maybe g m table o ≡ scalar_place (fixed_maybe g m table o).first Int
    placed_at None v e h = cc
    placed_at (Some s) v e h = subst (λ t. fixed_maybe g m table (Some t) ≡ scalar_place (fixed_maybe g m table (Some t)).first Int) (sym (symbol_number v s e)) refl

    pub placed_alone : (v : ℕ) → is_declared v ≡ true → fixed_maybe g m table (symbol_at table v) ≡ scalar_place (first_of v) Int
    placed_alone v h = placed_at (symbol_at table v) v refl h

    first_at : (v : ℕ) (s : SymbolTree) → symbol_at table v ≡ Some s → first_of v ≡ unit_at g (group m v) 0
    first_at v s e = ap (λ o. (fixed_maybe g m table o).first) (e ∙ ap Some (symbol_number v s e))

    -- a unit that is declared is none of another number
    pub first_apart : 0 < g.room → IsKnown g (group m 0) → (u v : ℕ) → is_declared u ≡ true → (v ≡ u → ⊥) → first_of v ≡ first_of u → ⊥
    first_apart room known u v d n e = go (symbol_at table u) (symbol_at table v) refl refl d
      where
        go : (o p : Option SymbolTree) → symbol_at table u ≡ o → symbol_at table v ≡ p → is_some o ≡ true → ⊥
        go None p q r t = cc
        go (Some s) None q r t =
            let a : first_of v ≡ 0 = ap (λ o. (fixed_maybe g m table o).first) r in
            let b = first_at u s q in
            let z : unit_at g (group m u) 0 ≡ 0 = sym b ∙ sym e ∙ a in
            absurd (omega (arith, z, room))
        go (Some s) (Some y) q r t =
            let z : unit_at g (group m v) 0 ≡ unit_at g (group m u) 0 = sym (first_at v y r) ∙ e ∙ first_at u s q in
            let same = units_differ g (group m v) (group m u) 0 0 known known room room z in
            n (let h = same.0 in cc)
