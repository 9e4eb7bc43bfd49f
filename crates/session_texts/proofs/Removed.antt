-- Texts without those of one name.
use Rattle.std.proofs.Common.{◌≡◌, ℕ, zero, suc, ◌+◌, ◌<◌, Bool, true, false, ◌||◌, List, [], ◌∷◌, ◌++◌, length, map, Option, Some, None, refl, sym, ap, ◌∙◌, subst, arith}
use Rattle.std.specs.Prelude.{bytes_eq, filter, not, remove, is_some, if◌then◌else◌}
use Rattle.std.specs.List.{AllByRecursion, IsDistinct}
use Rattle.std.proofs.lemmas.Map.Keys.{IsDistinct-head, IsDistinct-tail, IsDistinct-cons}
use Rattle.f77_ast.specs.Symbols.{number_from}
use Rattle.pipsmake_rules.specs.Neighbours.{has_name}
use Rattle.pipsmake_meaning.specs.Texts.{ModuleText, IsModule, AreModules, names_in, text_of}
use Rattle.session_texts.specs.Modules.{NamesDiffer}
use Rattle.session_texts.specs.Changes.{without}
use Rattle.session_texts.specs.Laws.{WithoutKeeps}
use Rattle.session_texts.proofs.Puts.{apart}
use Rattle.fx_lists.proofs.Texts.{turned as either_way, same_name_2 as same_name}

-- ---- the text of a name

none_anyway : (a : Bool) → None ≡ (if a then None else (let o : Option (List ℕ) = None in o))
none_anyway true = refl
none_anyway false = refl

gone : (a c : Bool) (old later found : Option (List ℕ)) → c ≡ a → found ≡ (if a then None else later) → found ≡ (if a then None else if c then old else later)
gone true c old later found e h = h
gone false true old later found e h = cc
gone false false old later found e h = h

stays : (a c : Bool) (old later found : Option (List ℕ)) → (a ≡ true → c ≡ true → ⊥) → found ≡ (if a then None else later)
    → (if c then old else found) ≡ (if a then None else if c then old else later)
stays true true old later found n h = absurd (n refl refl)
stays true false old later found n h = h
stays false true old later found n h = refl
stays false false old later found n h = h

pub text_of_without : (x : List ℕ) (ts : List ModuleText) (y : List ℕ) → text_of (without x ts) y ≡ (if bytes_eq x y then None else text_of ts y)
text_of_without x [] y = none_anyway (bytes_eq x y)
text_of_without x (t ∷ ts) y = go (bytes_eq t.name x) refl (text_of_without x ts y)
  where
    go : (b : Bool) → bytes_eq t.name x ≡ b → text_of (without x ts) y ≡ (if bytes_eq x y then None else text_of ts y)
        → text_of (if not b then t ∷ without x ts else without x ts) y ≡ (if bytes_eq x y then None else if bytes_eq t.name y then Some t.text else text_of ts y)
    go true e ih =
        gone (bytes_eq x y) (bytes_eq t.name y) (Some t.text) (text_of ts y) (text_of (without x ts) y) (ap (λ n. bytes_eq n y) (same_name t.name x e)) ih
    go false e ih =
        stays (bytes_eq x y) (bytes_eq t.name y) (Some t.text) (text_of ts y) (text_of (without x ts) y) (apart t.name x y e) ih

-- ---- what they keep

modules_without : (x : List ℕ) (ts : List ModuleText) → AreModules ts → AreModules (without x ts)
modules_without x [] ms = tt
modules_without x (t ∷ ts) ms = go (bytes_eq t.name x) (modules_without x ts ms.1)
  where
    go : (b : Bool) → AreModules (without x ts) → AreModules (if not b then t ∷ without x ts else without x ts)
    go true ih = ih
    go false ih = (ms.0, ih)

pub names_without : (x : List ℕ) (ts : List ModuleText) → names_in (without x ts) ≡ filter (λ y. not (bytes_eq y x)) (names_in ts)
names_without x [] = refl
names_without x (t ∷ ts) = go (bytes_eq t.name x) (names_without x ts)
  where
    go : (b : Bool) → names_in (without x ts) ≡ filter (λ y. not (bytes_eq y x)) (names_in ts)
        → names_in (if not b then t ∷ without x ts else without x ts) ≡ (if not b then t.name ∷ filter (λ y. not (bytes_eq y x)) (names_in ts) else filter (λ y. not (bytes_eq y x)) (names_in ts))
    go true ih = ih
    go false ih = ap (λ ns. t.name ∷ ns) ih

-- names that pass a test
apart_filter : (test : List ℕ → Bool) (x : List ℕ) (ys : List (List ℕ)) → AllByRecursion (λ y. bytes_eq x y ≡ false) ys → AllByRecursion (λ y. bytes_eq x y ≡ false) (filter test ys)
apart_filter test x [] h = tt
apart_filter test x (y ∷ ys) h = go (test y) (apart_filter test x ys h.1)
  where
    go : (b : Bool) → AllByRecursion (λ z. bytes_eq x z ≡ false) (filter test ys) → AllByRecursion (λ z. bytes_eq x z ≡ false) (if b then y ∷ filter test ys else filter test ys)
    go true k = (h.0, k)
    go false k = k

distinct_filter : (test : List ℕ → Bool) (xs : List (List ℕ)) → IsDistinct bytes_eq xs → IsDistinct bytes_eq (filter test xs)
distinct_filter test [] d = d
distinct_filter test (x ∷ xs) d = go (test x) (distinct_filter test xs (IsDistinct-tail bytes_eq x xs d))
  where
    go : (b : Bool) → IsDistinct bytes_eq (filter test xs) → IsDistinct bytes_eq (if b then x ∷ filter test xs else filter test xs)
    go true k = IsDistinct-cons bytes_eq x (filter test xs) (apart_filter test x xs (IsDistinct-head bytes_eq x xs d)) k
    go false k = k

pub without_keeps : (x : List ℕ) (ts : List ModuleText) → WithoutKeeps x ts
without_keeps x ts = record {
  modules = modules_without x ts;
  distinct = λ d. subst (IsDistinct bytes_eq) (sym (names_without x ts)) (distinct_filter (λ y. not (bytes_eq y x)) (names_in ts) d);
}

-- ---- the place of the text that goes

skipped : (x : List ℕ) (t : ModuleText) (ts rest : List ModuleText) → bytes_eq t.name x ≡ true → without x ts ≡ rest → without x (t ∷ ts) ≡ rest
skipped x t ts rest e h = ap (λ b. if not b then t ∷ without x ts else without x ts) e ∙ h

passed : (x : List ℕ) (t : ModuleText) (ts rest : List ModuleText) → bytes_eq t.name x ≡ false → without x ts ≡ rest → without x (t ∷ ts) ≡ t ∷ rest
passed x t ts rest e h = ap (λ b. if not b then t ∷ without x ts else without x ts) e ∙ ap (λ r. t ∷ r) h

all_stay : (x : List ℕ) (ts : List ModuleText) → AllByRecursion (λ y. bytes_eq x y ≡ false) (names_in ts) → without x ts ≡ ts
all_stay x [] h = refl
all_stay x (t ∷ ts) h = passed x t ts ts (either_way t.name x ∙ h.0) (all_stay x ts h.1)

-- a name that is not there
pub none_removed : (n : ℕ) (ts : List ModuleText) (x : List ℕ) → number_from n (names_in ts) x ≡ None → without x ts ≡ ts
none_removed n [] x e = refl
none_removed n (t ∷ ts) x e = go (bytes_eq x t.name) refl e (none_removed (suc n) ts x)
  where
    go : (b : Bool) → bytes_eq x t.name ≡ b → (if b then Some n else number_from (suc n) (names_in ts) x) ≡ None
        → (number_from (suc n) (names_in ts) x ≡ None → without x ts ≡ ts) → without x (t ∷ ts) ≡ t ∷ ts
    go true d f ih = cc
    go false d f ih = passed x t ts ts (either_way t.name x ∙ d) (ih f)

-- one that is there, at a place that counts from n
pub record RemovedAt (n : ℕ) (ts : List ModuleText) (x : List ℕ) (k : ℕ) : Type 0 where
  pub place : ℕ
  pub counted : k ≡ n + place
  pub within : place < length ts
  pub same : without x ts ≡ remove ts place

pub one_removed : (n : ℕ) (ts : List ModuleText) (x : List ℕ) (k : ℕ) → NamesDiffer ts → number_from n (names_in ts) x ≡ Some k → RemovedAt n ts x k
one_removed n [] x k d e = cc
one_removed n (t ∷ ts) x k d e = go (bytes_eq x t.name) refl e (one_removed (suc n) ts x k (IsDistinct-tail bytes_eq t.name (names_in ts) d))
  where
    go : (b : Bool) → bytes_eq x t.name ≡ b → (if b then Some n else number_from (suc n) (names_in ts) x) ≡ Some k
        → (number_from (suc n) (names_in ts) x ≡ Some k → RemovedAt (suc n) ts x k) → RemovedAt n (t ∷ ts) x k
    go true f g ih =
        let here : n ≡ k = cc in
        let others : AllByRecursion (λ y. bytes_eq x y ≡ false) (names_in ts) =
        subst (λ z. AllByRecursion (λ y. bytes_eq z y ≡ false) (names_in ts)) (sym (same_name x t.name f)) (IsDistinct-head bytes_eq t.name (names_in ts) d) in
        record {
          place = zero;
          counted = omega arith;
          within = omega arith;
          same = skipped x t ts ts (either_way t.name x ∙ f) (all_stay x ts others);
        }
    go false f g ih =
        let r = ih g in record {
          place = suc r.place;
          counted = omega (arith, r.counted);
          within = omega (arith, r.within);
          same = passed x t ts (remove ts r.place) (either_way t.name x ∙ f) r.same;
        }

pub there : (n : ℕ) (names : List (List ℕ)) (x : List ℕ) → has_name names x ≡ is_some (number_from n names x)
there n [] x = refl
there n (y ∷ ys) x = go (bytes_eq x y) (bytes_eq y x) (either_way x y) (there (suc n) ys x)
  where
    go : (a b : Bool) → a ≡ b → has_name ys x ≡ is_some (number_from (suc n) ys x) → (b || has_name ys x) ≡ is_some (if a then Some n else number_from (suc n) ys x)
    go true true e ih = refl
    go true false e ih = cc
    go false true e ih = cc
    go false false e ih = ih

-- a name has a place where it is there
pub placed : (names : List (List ℕ)) (x : List ℕ) → has_name names x ≡ is_some (number_from 0 names x)
placed names x = there 0 names x
