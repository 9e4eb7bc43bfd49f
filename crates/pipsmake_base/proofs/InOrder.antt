-- Saved results come by modules, and then by kinds.
use Rattle.std.proofs.Common.{◌≡◌, ◌⊎◌, inl, inr, ℕ, suc, ◌<◌, ◌≤◌, true, ◌&&◌, List, [], ◌∷◌, ◌++◌, length, refl, sym, ap, ◌∙◌, subst, append_assoc, arith, eq-eqb, length-append, zero-add}
use Rattle.std.specs.Prelude.{bytes_eq, nat_lt, nat_eq, unwrap_or}
use Rattle.std.specs.List.{IsDistinct}
use Rattle.std.proofs.lemmas.Bool.{and_from, or_left, or_right}
use Rattle.std.proofs.lemmas.Bool.Decides.{Decides-ltb}
use Rattle.pipsmake_db.specs.pipsmake_rules.declared.kind.Kind.{Kind}
use Rattle.pipsmake_db.specs.pipsmake_rules.Kinds.{number_of}
use Rattle.pipsmake_db.specs.base_values.declared.stored.StoredValue.{StoredValue}
use Rattle.pipsmake_db.specs.base_values.Sizes.{kind_of}
use Rattle.base_text.specs.declared.base.StoredResult.{StoredResult}
use Rattle.base_text.specs.Order.{place_of, kind_place, is_before, are_in_order}
use Rattle.call_graph.specs.CallsIn.{Each}
use Rattle.pipsmake_db.specs.declared.db.Db.{Db}
use Rattle.pipsmake_base.specs.Saving.{stored_result, result_saved, results_of_kinds, stored_kinds, results_saved}
use Rattle.pipsmake_base.proofs.Names.{place_after}

-- ---- what is saved of a kind and a module

-- one result, of that kind
pub record IsOneOf (d : Db) (x : List ℕ) (k : Kind) : Type 0 where
  pub value : StoredValue
  pub is : result_saved d x k ≡ stored_result x value ∷ []
  pub kind : number_of (kind_of value) ≡ number_of k

abbrev pub AtMostOne : Db → List ℕ → Kind → Type 0
AtMostOne d x k = (result_saved d x k ≡ []) ⊎ IsOneOf d x k

-- ---- results from a place and a kind on

abbrev IsFrom : List (List ℕ) → ℕ → ℕ → List StoredResult → Type 0
IsFrom names i j [] = Unit {0}
IsFrom names i j (r ∷ rs) = (i < place_of names r) ⊎ ((place_of names r ≡ i) × (j ≤ kind_place r))

pub record Ahead (names : List (List ℕ)) (i j : ℕ) (rs : List StoredResult) : Type 0 where
  pub ordered : are_in_order names rs ≡ true
  pub first : IsFrom names i j rs

first_less : (names : List (List ℕ)) (i j k : ℕ) (rs : List StoredResult) → k ≤ j → IsFrom names i j rs → IsFrom names i k rs
first_less names i j k [] l h = tt
first_less names i j k (r ∷ rs) l (inl h) = inl h
first_less names i j k (r ∷ rs) l (inr h) = let le : k ≤ kind_place r = omega (arith, l, h.1) in inr (h.0, le)

ahead_less : (names : List (List ℕ)) (i j k : ℕ) (rs : List StoredResult) → k ≤ j → Ahead names i j rs → Ahead names i k rs
ahead_less names i j k rs l a = record { ordered = a.ordered; first = first_less names i j k rs l a.first }

first_next : (names : List (List ℕ)) (i j : ℕ) (rs : List StoredResult) → IsFrom names (suc i) 0 rs → IsFrom names i j rs
first_next names i j [] h = tt
first_next names i j (r ∷ rs) (inl h) = let lt : i < place_of names r = omega (arith, h) in inl lt
first_next names i j (r ∷ rs) (inr h) = let lt : i < place_of names r = omega (arith, h.0) in inl lt

before_first : (names : List (List ℕ)) (i j : ℕ) (r q : StoredResult) → place_of names r ≡ i → kind_place r ≡ j → (i < place_of names q) ⊎ ((place_of names q ≡ i) × (suc j ≤ kind_place q)) → is_before names r q ≡ true
before_first names i j r q p k (inl h) =
    let lt : place_of names r < place_of names q = omega (arith, p, h) in
    or_left (nat_lt (place_of names r) (place_of names q)) (nat_eq (place_of names r) (place_of names q) && nat_lt (kind_place r) (kind_place q)) ((Decides-ltb (place_of names r) (place_of names q)).1 lt)
before_first names i j r q p k (inr h) =
    let lt : kind_place r < kind_place q = omega (arith, k, h.1) in
    or_right (nat_lt (place_of names r) (place_of names q)) (nat_eq (place_of names r) (place_of names q) && nat_lt (kind_place r) (kind_place q))
    (and_from (nat_eq (place_of names r) (place_of names q)) (nat_lt (kind_place r) (kind_place q)) (eq-eqb (place_of names r) (place_of names q) (p ∙ sym h.0)) ((Decides-ltb (kind_place r) (kind_place q)).1 lt))

ahead_cons : (names : List (List ℕ)) (i j : ℕ) (r : StoredResult) (rs : List StoredResult) → place_of names r ≡ i → kind_place r ≡ j → Ahead names i (suc j) rs → Ahead names i j (r ∷ rs)
ahead_cons names i j r [] p k a = let le : j ≤ kind_place r = omega (arith, k) in record { ordered = refl; first = inr (p, le) }
ahead_cons names i j r (q ∷ rs) p k a =
    let le : j ≤ kind_place r = omega (arith, k) in
    record { ordered = and_from (is_before names r q) (are_in_order names (q ∷ rs)) (before_first names i j r q p k a.first) a.ordered; first = inr (p, le) }

-- ---- the results of a module

-- kinds that follow one another
abbrev AreNumbered : ℕ → List Kind → Type 0
AreNumbered j [] = Unit {0}
AreNumbered j (k ∷ ks) = (number_of k ≡ j) × AreNumbered (suc j) ks

one_more : (d : Db) (names : List (List ℕ)) (i j : ℕ) (x : List ℕ) (k : Kind) (rs : List StoredResult) → ((r : StoredResult) → r.name ≡ x → place_of names r ≡ i) → number_of k ≡ j → AtMostOne d x k → Ahead names i (suc j) rs → Ahead names i j (result_saved d x k ++ rs)
one_more d names i j x k rs place n (inl q) a =
    let le : j ≤ suc j = omega arith in
    subst (λ qs. Ahead names i j (qs ++ rs)) (sym q) (ahead_less names i (suc j) j rs le a)
one_more d names i j x k rs place n (inr p) a =
    let r : StoredResult = stored_result x p.value in
    subst (λ qs. Ahead names i j (qs ++ rs)) (sym p.is) (ahead_cons names i j r rs (place r refl) (p.kind ∙ n) a)

of_kinds : (d : Db) (names : List (List ℕ)) (i : ℕ) (x : List ℕ) (place : (r : StoredResult) → r.name ≡ x → place_of names r ≡ i) (j : ℕ) (ks : List Kind) (rs : List StoredResult) → AreNumbered j ks → Each (AtMostOne d x) ks → Ahead names (suc i) 0 rs → Ahead names i j (results_of_kinds d x ks ++ rs)
of_kinds d names i x place j [] rs n h a = record { ordered = a.ordered; first = first_next names i j rs a.first }
of_kinds d names i x place j (k ∷ ks) rs n h a =
    subst (Ahead names i j) (sym (append_assoc (result_saved d x k) (results_of_kinds d x ks) rs))
    (one_more d names i j x k (results_of_kinds d x ks ++ rs) place n.0 h.0 (of_kinds d names i x place (suc j) ks rs n.1 h.1 a))

-- ---- the results of all modules

place_is : (front : List (List ℕ)) (x : List ℕ) (back : List (List ℕ)) → IsDistinct bytes_eq (front ++ x ∷ back) → (r : StoredResult) → r.name ≡ x → place_of (front ++ x ∷ back) r ≡ length front
place_is front x back d r e =
    let names : List (List ℕ) = front ++ x ∷ back in
    let found = ap (λ (y : List ℕ). place_of names (record { name = y; value = r.value })) e in
    found ∙ ap (λ o. unwrap_or o (length names)) (place_after 0 front x back d) ∙ zero-add (length front)

of_modules : (d : Db) (front xs : List (List ℕ)) → IsDistinct bytes_eq (front ++ xs) → Each (λ x. Each (AtMostOne d x) stored_kinds) xs → Ahead (front ++ xs) (length front) 0 (results_saved d xs)
of_modules d front [] distinct h = record { ordered = refl; first = tt }
of_modules d front (x ∷ xs) distinct h =
    let names : List (List ℕ) = front ++ x ∷ xs in
    let same : (front ++ x ∷ []) ++ xs ≡ names = append_assoc front (x ∷ []) xs in
    let count : length (front ++ x ∷ []) ≡ suc (length front) = omega (arith, length-append front (x ∷ [])) in
    let later : Ahead ((front ++ x ∷ []) ++ xs) (length (front ++ x ∷ [])) 0 (results_saved d xs) = of_modules d (front ++ x ∷ []) xs (subst (IsDistinct bytes_eq) (sym same) distinct) h.1 in
    let rest : Ahead names (suc (length front)) 0 (results_saved d xs) = subst (λ n. Ahead names n 0 (results_saved d xs)) count (subst (λ ns. Ahead ns (length (front ++ x ∷ [])) 0 (results_saved d xs)) same later) in
    let all : Ahead names (length front) 4 (results_of_kinds d x stored_kinds ++ results_saved d xs) = of_kinds d names (length front) x (place_is front x xs distinct) 4 stored_kinds (results_saved d xs) (refl, (refl, (refl, (refl, (refl, (refl, (refl, tt))))))) h.0 rest in
    let le : 0 ≤ 4 = omega arith in
    ahead_less names (length front) 4 0 (results_of_kinds d x stored_kinds ++ results_saved d xs) le all

pub saved_in_order : (d : Db) (names : List (List ℕ)) → IsDistinct bytes_eq names → Each (λ x. Each (AtMostOne d x) stored_kinds) names → are_in_order names (results_saved d names) ≡ true
saved_in_order d names distinct h = (of_modules d [] names distinct h).ordered
