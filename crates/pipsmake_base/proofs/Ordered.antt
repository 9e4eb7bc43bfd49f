-- Results that come in order are of different kinds or modules, so each is the one that is found.
use Rattle.std.proofs.Common.{◌≡◌, ◌⊎◌, inl, inr, ℕ, Bool, true, false, ◌<◌, ◌&&◌, ◌||◌, List, [], ◌∷◌, length, map, Some, None, refl, ap, ◌∙◌, arith}
use Rattle.std.specs.Prelude.{nat_lt, nat_eq, unwrap_or, if◌then◌else◌}
use Rattle.std.proofs.lemmas.Bool.{and_parts, or_cases}
use Rattle.std.proofs.lemmas.Bool.Decides.{Decides-ltb, Decides-eqb}
use Rattle.f77_ast.specs.Symbols.{number_from}
use Rattle.pipsmake_db.specs.pipsmake_rules.declared.kind.Kind.{Kind}
use Rattle.pipsmake_db.specs.pipsmake_rules.declared.key.Key.{Key}
use Rattle.pipsmake_db.specs.pipsmake_rules.Kinds.{number_of}
use Rattle.pipsmake_db.specs.pipsmake_rules.Keys.{same_key, holds}
use Rattle.pipsmake_db.proofs.PipsmakeRules.KeyLaws.{same_key-true, same_key_self}
use Rattle.pipsmake_db.specs.base_values.Naming.{Each}
use Rattle.pipsmake_db.specs.base_values.Sizes.{kind_of}
use Rattle.base_text.specs.declared.base.StoredResult.{StoredResult}
use Rattle.base_text.specs.Order.{place_of, kind_place, is_before, are_in_order}
use Rattle.pipsmake_db.specs.Calls.{key}
use Rattle.pipsmake_base.specs.Saved.{key_at, value_in}
use Rattle.pipsmake_base.specs.Whole.{value_among}

-- ---- each is before all that come after it

abbrev Before : List (List ℕ) → StoredResult → StoredResult → Type 0
Before names r q = (place_of names r < place_of names q) ⊎ ((place_of names r ≡ place_of names q) × (kind_place r < kind_place q))

is_before_so : (names : List (List ℕ)) (r q : StoredResult) → is_before names r q ≡ true → Before names r q
is_before_so names r q e =
    elim (or_cases (nat_lt (place_of names r) (place_of names q)) (nat_eq (place_of names r) (place_of names q) && nat_lt (kind_place r) (kind_place q)) e) [
      | inl l ↦ inl ((Decides-ltb (place_of names r) (place_of names q)).0 l)
      | inr b ↦ inr (both (and_parts (nat_eq (place_of names r) (place_of names q)) (nat_lt (kind_place r) (kind_place q)) b))
    ]
  where
    both : (nat_eq (place_of names r) (place_of names q) ≡ true) × (nat_lt (kind_place r) (kind_place q) ≡ true) → (place_of names r ≡ place_of names q) × (kind_place r < kind_place q)
    both p = ((Decides-eqb (place_of names r) (place_of names q)).0 p.0, (Decides-ltb (kind_place r) (kind_place q)).0 p.1)

before_on : (names : List (List ℕ)) (r q s : StoredResult) → Before names r q → Before names q s → Before names r s
before_on names r q s (inl a) (inl b) = let lt : place_of names r < place_of names s = omega (arith, a, b) in inl lt
before_on names r q s (inl a) (inr b) = let lt : place_of names r < place_of names s = omega (arith, a, b.0) in inl lt
before_on names r q s (inr a) (inl b) = let lt : place_of names r < place_of names s = omega (arith, a.0, b) in inl lt
before_on names r q s (inr a) (inr b) = let lt : kind_place r < kind_place s = omega (arith, a.1, b.1) in inr (a.0 ∙ b.0, lt)

each_on : (names : List (List ℕ)) (r q : StoredResult) (rs : List StoredResult) → Before names r q → Each (Before names q) rs → Each (Before names r) rs
each_on names r q [] b h = tt
each_on names r q (s ∷ rs) b h = (before_on names r q s b h.0, each_on names r q rs b h.1)

each_after : (names : List (List ℕ)) (r : StoredResult) (rs : List StoredResult) → are_in_order names (r ∷ rs) ≡ true → Each (Before names r) rs
each_after names r [] e = tt
each_after names r (q ∷ rs) e =
    let p = and_parts (is_before names r q) (are_in_order names (q ∷ rs)) e in
    let b : Before names r q = is_before_so names r q p.0 in
    (b, each_on names r q rs b (each_after names q rs p.1))

rest_in_order : (names : List (List ℕ)) (r : StoredResult) (rs : List StoredResult) → are_in_order names (r ∷ rs) ≡ true → are_in_order names rs ≡ true
rest_in_order names r [] e = refl
rest_in_order names r (q ∷ rs) e = (and_parts (is_before names r q) (are_in_order names (q ∷ rs)) e).1

-- ---- so it is another result

is_apart : (names : List (List ℕ)) (r q : StoredResult) → Before names r q → same_key (key_at r) (key_at q) ≡ false
is_apart names r q b = go (same_key (key_at r) (key_at q)) refl b
  where
    go : (t : Bool) → same_key (key_at r) (key_at q) ≡ t → Before names r q → t ≡ false
    go false e h = refl
    go true e (inl h) =
        let place : place_of names r ≡ place_of names q = ap (λ (k : Key). unwrap_or (number_from 0 names k.name) (length names)) (same_key-true (key_at r) (key_at q) e) in
        absurd (omega (arith, place, h))
    go true e (inr h) =
        let kind : kind_place r ≡ kind_place q = ap (λ (k : Key). number_of k.kind) (same_key-true (key_at r) (key_at q) e) in
        absurd (omega (arith, kind, h.1))

-- ---- what is found

-- a stored result is the one of its kind and module
abbrev IsFoundIn : List StoredResult → StoredResult → Type 0
IsFoundIn rs r = value_among rs (kind_of r.value) r.name ≡ Some (value_in r.value)

found_later : (names : List (List ℕ)) (r : StoredResult) (rs qs : List StoredResult) → Each (Before names r) qs → Each (IsFoundIn rs) qs → Each (IsFoundIn (r ∷ rs)) qs
found_later names r rs [] b f = tt
found_later names r rs (q ∷ qs) b f =
    (ap (λ t. if t then Some (value_in r.value) else value_among rs (kind_of q.value) q.name) (is_apart names r q b.0) ∙ f.0, found_later names r rs qs b.1 f.1)

pub all_found : (names : List (List ℕ)) (rs : List StoredResult) → are_in_order names rs ≡ true → Each (IsFoundIn rs) rs
all_found names [] e = tt
all_found names (r ∷ rs) e = (
  ap (λ t. if t then Some (value_in r.value) else value_among rs (kind_of r.value) r.name) (same_key_self (key_at r)),
  found_later names r rs rs (each_after names r rs e) (all_found names rs (rest_in_order names r rs e)),
)

pub none_found : (rs : List StoredResult) (kind : Kind) (x : List ℕ) → holds (map key_at rs) (key kind x) ≡ false → value_among rs kind x ≡ None
none_found [] kind x e = refl
none_found (r ∷ rs) kind x e = go (same_key (key_at r) (key kind x)) e (none_found rs kind x)
  where
    go : (t : Bool) → (t || holds (map key_at rs) (key kind x)) ≡ false → (holds (map key_at rs) (key kind x) ≡ false → value_among rs kind x ≡ None) → (if t then Some (value_in r.value) else value_among rs kind x) ≡ None
    go true f ih = cc
    go false f ih = ih f

-- a result that is there, with its value
pub some_found : (rs : List StoredResult) (kind : Kind) (x : List ℕ) → holds (map key_at rs) (key kind x) ≡ true → (q : StoredResult) × (value_among rs kind x ≡ Some (value_in q.value)) × (kind_of q.value ≡ kind)
some_found [] kind x e = cc
some_found (r ∷ rs) kind x e = go (same_key (key_at r) (key kind x)) refl e (some_found rs kind x)
  where
    go : (t : Bool) → same_key (key_at r) (key kind x) ≡ t → (t || holds (map key_at rs) (key kind x)) ≡ true
        → (holds (map key_at rs) (key kind x) ≡ true → (q : StoredResult) × (value_among rs kind x ≡ Some (value_in q.value)) × (kind_of q.value ≡ kind))
        → (q : StoredResult) × ((if t then Some (value_in r.value) else value_among rs kind x) ≡ Some (value_in q.value)) × (kind_of q.value ≡ kind)
    go true s f ih = (r, refl, ap (λ (k : Key). k.kind) (same_key-true (key_at r) (key kind x) s))
    go false s f ih = ih f
