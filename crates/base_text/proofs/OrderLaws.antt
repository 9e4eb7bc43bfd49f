-- Results in their order.
use Rattle.std.proofs.Common.{◌≡◌, ◌⊎◌, inl, inr, ℕ, ◌<◌, true, ◌&&◌, ◌||◌, List, [], ◌∷◌, Some, None, refl, ap, ◌∙◌, length, arith}
use Rattle.std.specs.Prelude.{unwrap_or, nat_lt, nat_eq}
use Rattle.std.proofs.lemmas.Bool.{or_left, or_right, eq-eqb}
use Rattle.std.proofs.lemmas.Bool.Decides.{Decides-ltb, Decides-eqb}
use Rattle.f77_ast.specs.Symbols.{number_from}
use Rattle.session_texts.specs.pipsmake_rules.declared.kind.Kind.{Kind}
use Rattle.session_texts.specs.pipsmake_rules.Kinds.{number_of}
use Rattle.base_values.specs.Naming.{Each}
use Rattle.base_values.proofs.Options.{each_map}
use Rattle.base_text.specs.Order.{module_place, comes_before, in_order_by}
use Rattle.fx_lists.proofs.Booleans.{and_from, and_parts, or_cases}

pub place_there : (names : List (List ℕ)) (x : List ℕ) (i : ℕ) → Some i ≡ number_from 0 names x → i ≡ module_place names x
place_there names x i e = ap (λ o. unwrap_or o (length names)) e

pub place_absent : (names : List (List ℕ)) (x : List ℕ) → None ≡ number_from 0 names x → length names ≡ module_place names x
place_absent names x e = ap (λ o. unwrap_or o (length names)) e

pub ruleset place_steps = (place_there, place_absent)

-- ---- what is before one is before those after it

-- a place, then a number at this place
abbrev IsLess : ℕ → ℕ → ℕ → ℕ → Type 0
IsLess a b c d = (a < c) ⊎ ((a ≡ c) × (b < d))

less_from : (a b c d : ℕ) → (nat_lt a c || (nat_eq a c && nat_lt b d)) ≡ true → IsLess a b c d
less_from a b c d e =
    elim (or_cases (nat_lt a c) (nat_eq a c && nat_lt b d) e) [
      | inl l ↦ inl ((Decides-ltb a c).0 l)
      | inr h ↦ inr (both (and_parts (nat_eq a c) (nat_lt b d) h))
    ]
  where
    both : (nat_eq a c ≡ true) × (nat_lt b d ≡ true) → (a ≡ c) × (b < d)
    both p = ((Decides-eqb a c).0 p.0, (Decides-ltb b d).0 p.1)

less_to : (a b c d : ℕ) → IsLess a b c d → (nat_lt a c || (nat_eq a c && nat_lt b d)) ≡ true
less_to a b c d (inl l) = or_left (nat_lt a c) (nat_eq a c && nat_lt b d) ((Decides-ltb a c).1 l)
less_to a b c d (inr h) = or_right (nat_lt a c) (nat_eq a c && nat_lt b d) (and_from (nat_eq a c) (nat_lt b d) (eq-eqb a c h.0) ((Decides-ltb b d).1 h.1))

less_on : (a b c d e f : ℕ) → IsLess a b c d → IsLess c d e f → IsLess a b e f
less_on a b c d e f (inl l) (inl m) = let lt : a < e = omega (arith, l, m) in inl lt
less_on a b c d e f (inl l) (inr m) = let lt : a < e = omega (arith, l, m.0) in inl lt
less_on a b c d e f (inr l) (inl m) = let lt : a < e = omega (arith, l.0, m) in inl lt
less_on a b c d e f (inr l) (inr m) = let lt : b < f = omega (arith, l.1, m.1) in inr (l.0 ∙ m.0, lt)

before_on : (names : List (List ℕ)) (x y z : List ℕ) (k j i : Kind) → comes_before names x k y j ≡ true → comes_before names y j z i ≡ true → comes_before names x k z i ≡ true
before_on names x y z k j i e f =
    let a = module_place names x in
    let b = module_place names y in
    let c = module_place names z in
    less_to a (number_of k) c (number_of i) (less_on a (number_of k) b (number_of j) c (number_of i) (less_from a (number_of k) b (number_of j) e) (less_from b (number_of j) c (number_of i) f))

-- ---- lists in order

pub rest_ordered : {A : Type 0} (name : A → List ℕ) (kind : A → Kind) (names : List (List ℕ)) (a : A) (rest : List A) → in_order_by name kind names (a ∷ rest) ≡ true → in_order_by name kind names rest ≡ true
rest_ordered name kind names a [] e = refl
rest_ordered name kind names a (b ∷ rest) e = (and_parts (comes_before names (name a) (kind a) (name b) (kind b)) (in_order_by name kind names (b ∷ rest)) e).1

-- the first is before each other
pub each_after : {A : Type 0} (name : A → List ℕ) (kind : A → Kind) (names : List (List ℕ)) (a : A) (rest : List A) → in_order_by name kind names (a ∷ rest) ≡ true
    → Each (λ c. comes_before names (name a) (kind a) (name c) (kind c) ≡ true) rest
each_after name kind names a [] e = tt
each_after {A} name kind names a (b ∷ rest) e =
    let p = and_parts (comes_before names (name a) (kind a) (name b) (kind b)) (in_order_by name kind names (b ∷ rest)) e in (
      p.0,
      each_map (λ (c : A). comes_before names (name b) (kind b) (name c) (kind c) ≡ true) (λ (c : A). comes_before names (name a) (kind a) (name c) (kind c) ≡ true)
          (λ c h. before_on names (name a) (name b) (name c) (kind a) (kind b) (kind c) p.0 h) rest (each_after name kind names b rest p.1),
    )

-- one that is before each of a list in order, with that list
pub ordered_with : {A : Type 0} (name : A → List ℕ) (kind : A → Kind) (names : List (List ℕ)) (a : A) (rest : List A) → Each (λ c. comes_before names (name a) (kind a) (name c) (kind c) ≡ true) rest
    → in_order_by name kind names rest ≡ true → in_order_by name kind names (a ∷ rest) ≡ true
ordered_with name kind names a [] h e = refl
ordered_with name kind names a (b ∷ rest) h e = and_from (comes_before names (name a) (kind a) (name b) (kind b)) (in_order_by name kind names (b ∷ rest)) h.0 e
