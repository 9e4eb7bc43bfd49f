-- Names of which none is new to those before it are different.
use Rattle.std.proofs.Common.{◌≡◌, ℕ, suc, Bool, true, false, List, [], ◌∷◌, ◌++◌, Option, Some, None, refl, sym}
use Rattle.std.specs.Prelude.{bytes_eq, is_none, if◌then◌else◌}
use Rattle.std.specs.List.{AllByRecursion, IsDistinct}
use Rattle.std.specs.Cmp.Lexicographic.{nat_list_eq_equiv}
use Rattle.std.proofs.lemmas.Bool.{and_parts}
use Rattle.f77_ast.specs.Symbols.{number_from}
use Rattle.base_json.specs.Distinct.{are_new}

-- a name that is none of these is not this one
abbrev Excludes : List ℕ → List (List ℕ) → Type 0
Excludes b before = (n : ℕ) (x : List ℕ) → number_from n before x ≡ None → bytes_eq b x ≡ false

none_of : (o : Option ℕ) → is_none o ≡ true → o ≡ None
none_of None e = refl
none_of (Some n) e = cc

front_none : (n : ℕ) (before more : List (List ℕ)) (x : List ℕ) → number_from n (before ++ more) x ≡ None → number_from n before x ≡ None
front_none n [] more x e = refl
front_none n (b ∷ before) more x e = go (bytes_eq x b) e (front_none (suc n) before more x)
  where
    go : (t : Bool) → (if t then Some n else number_from (suc n) (before ++ more) x) ≡ None → (number_from (suc n) (before ++ more) x ≡ None → number_from (suc n) before x ≡ None) → (if t then Some n else number_from (suc n) before x) ≡ None
    go true q ih = cc
    go false q ih = ih q

excludes_more : (b : List ℕ) (before : List (List ℕ)) (k : List ℕ) → Excludes b before → Excludes b (before ++ k ∷ [])
excludes_more b before k h n x e = h n x (front_none n before (k ∷ []) x e)

excludes_last : (before : List (List ℕ)) (k : List ℕ) → Excludes k (before ++ k ∷ [])
excludes_last [] k n x e = go (bytes_eq x k) (nat_list_eq_equiv.symm x k) e
  where
    go : (t : Bool) → t ≡ bytes_eq k x → (if t then Some n else None) ≡ None → bytes_eq k x ≡ false
    go true s q = cc
    go false s q = sym s
excludes_last (b ∷ before) k n x e = go (bytes_eq x b) e (excludes_last before k (suc n) x)
  where
    go : (t : Bool) → (if t then Some n else number_from (suc n) (before ++ k ∷ []) x) ≡ None → (number_from (suc n) (before ++ k ∷ []) x ≡ None → bytes_eq k x ≡ false) → bytes_eq k x ≡ false
    go true q ih = cc
    go false q ih = ih q

all_others : (b : List ℕ) (before ks : List (List ℕ)) → Excludes b before → are_new before ks ≡ true → AllByRecursion (λ y. bytes_eq b y ≡ false) ks
all_others b before [] h e = tt
all_others b before (k ∷ ks) h e =
    let p = and_parts (is_none (number_from 1 before k)) (are_new (before ++ k ∷ []) ks) e in
    (h 1 k (none_of (number_from 1 before k) p.0), all_others b (before ++ k ∷ []) ks (excludes_more b before k h) p.1)

pub new_differ : (before ks : List (List ℕ)) → are_new before ks ≡ true → IsDistinct bytes_eq ks
unfolding IsDistinct
new_differ before [] e = tt
new_differ before (k ∷ ks) e =
    let p = and_parts (is_none (number_from 1 before k)) (are_new (before ++ k ∷ []) ks) e in
    (all_others k (before ++ k ∷ []) ks (excludes_last before k) p.1, new_differ (before ++ k ∷ []) ks p.1)
