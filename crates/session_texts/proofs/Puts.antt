-- A text in the place of the one of its name, or as the last.
use Rattle.std.proofs.Common.{◌≡◌, ℕ, Bool, true, false, ◌||◌, List, [], ◌∷◌, ◌++◌, map, Option, Some, None, refl, sym, ap, ◌∙◌, subst}
use Rattle.std.specs.Prelude.{bytes_eq, if◌then◌else◌}
use Rattle.std.specs.List.{list_any, IsDistinct}
use Rattle.std.specs.Cmp.Lexicographic.{nat_list_eq_equiv}
use Rattle.std.proofs.lemmas.Map.Keys.{IsDistinct-push}
use Rattle.std.proofs.lemmas.Slice.Eq.{bytes_eq-Decides}
use Rattle.pipsmake_rules.specs.Neighbours.{has_name, name_put}
use Rattle.pipsmake_meaning.specs.Texts.{ModuleText, IsModule, AreModules, names_in, text_of}
use Rattle.session_texts.specs.Modules.{NamesDiffer}
use Rattle.session_texts.specs.Changes.{put}
use Rattle.session_texts.specs.Laws.{PutKeeps}
use Rattle.fx_lists.proofs.Texts.{turned as either_way, same_name as name_itself, same_name_2 as same_name}

pub any_either_way : (y : List ℕ) (xs : List (List ℕ)) → list_any (bytes_eq y) xs ≡ has_name xs y
any_either_way y [] = refl
any_either_way y (x ∷ xs) = ap (λ b. b || list_any (bytes_eq y) xs) (either_way y x) ∙ ap (λ b. bytes_eq x y || b) (any_either_way y xs)

-- ---- the text of a name

put_here : (a b : Bool) (new old later : Option (List ℕ)) → b ≡ a → (if a then new else later) ≡ (if a then new else if b then old else later)
put_here true b new old later e = refl
put_here false true new old later e = cc
put_here false false new old later e = refl

put_later : (a b : Bool) (new old later found : Option (List ℕ)) → (a ≡ true → b ≡ true → ⊥) → found ≡ (if a then new else later)
    → (if b then old else found) ≡ (if a then new else if b then old else later)
put_later true true new old later found h e = absurd (h refl refl)
put_later true false new old later found h e = e
put_later false true new old later found h e = refl
put_later false false new old later found h e = e

-- two names that differ are not both this one
pub apart : (x y z : List ℕ) → bytes_eq x y ≡ false → bytes_eq y z ≡ true → bytes_eq x z ≡ true → ⊥
apart x y z f e d =
    let s : x ≡ y = same_name x z d ∙ sym (same_name y z e) in
    let t : bytes_eq x y ≡ true = (bytes_eq-Decides x y).1 s in
    cc

pub text_of_put : (u : ModuleText) (ts : List ModuleText) (x : List ℕ) → text_of (put u ts) x ≡ (if bytes_eq u.name x then Some u.text else text_of ts x)
text_of_put u [] x = refl
text_of_put u (t ∷ ts) x = go (bytes_eq t.name u.name) refl (text_of_put u ts x)
  where
    go : (b : Bool) → bytes_eq t.name u.name ≡ b → text_of (put u ts) x ≡ (if bytes_eq u.name x then Some u.text else text_of ts x)
        → text_of (if b then u ∷ ts else t ∷ put u ts) x ≡ (if bytes_eq u.name x then Some u.text else if bytes_eq t.name x then Some t.text else text_of ts x)
    go true e ih =
        put_here (bytes_eq u.name x) (bytes_eq t.name x) (Some u.text) (Some t.text) (text_of ts x) (ap (λ n. bytes_eq n x) (same_name t.name u.name e))
    go false e ih =
        put_later (bytes_eq u.name x) (bytes_eq t.name x) (Some u.text) (Some t.text) (text_of ts x) (text_of (put u ts) x) (apart t.name u.name x e) ih

-- ---- names

names_later : (h : Bool) (x : List ℕ) (names found more : List (List ℕ)) → found ≡ (if h then names else more) → x ∷ found ≡ (if h then x ∷ names else x ∷ more)
names_later true x names found more e = ap (λ ns. x ∷ ns) e
names_later false x names found more e = ap (λ ns. x ∷ ns) e

pub names_put : (u : ModuleText) (ts : List ModuleText) → names_in (put u ts) ≡ name_put u.name (names_in ts)
names_put u [] = refl
names_put u (t ∷ ts) = go (bytes_eq t.name u.name) refl (names_put u ts)
  where
    go : (b : Bool) → bytes_eq t.name u.name ≡ b → names_in (put u ts) ≡ name_put u.name (names_in ts)
        → names_in (if b then u ∷ ts else t ∷ put u ts) ≡ (if b || has_name (names_in ts) u.name then t.name ∷ names_in ts else (t.name ∷ names_in ts) ++ u.name ∷ [])
    go true e ih = ap (λ n. n ∷ names_in ts) (sym (same_name t.name u.name e))
    go false e ih = names_later (has_name (names_in ts) u.name) t.name (names_in ts) (names_in (put u ts)) (names_in ts ++ u.name ∷ []) ih

name_put_distinct : (x : List ℕ) (names : List (List ℕ)) → IsDistinct bytes_eq names → IsDistinct bytes_eq (name_put x names)
name_put_distinct x names d = go (has_name names x) refl
  where
    go : (b : Bool) → has_name names x ≡ b → IsDistinct bytes_eq (if b then names else names ++ x ∷ [])
    go true e = d
    go false e = IsDistinct-push nat_list_eq_equiv names x d (any_either_way x names ∙ e)

-- ---- modules

modules_put : (u : ModuleText) (ts : List ModuleText) → IsModule u → AreModules ts → AreModules (put u ts)
modules_put u [] m ms = (m, tt)
modules_put u (t ∷ ts) m ms = go (bytes_eq t.name u.name) (modules_put u ts m ms.1)
  where
    go : (b : Bool) → AreModules (put u ts) → AreModules (if b then u ∷ ts else t ∷ put u ts)
    go true ih = (m, ms.1)
    go false ih = (ms.0, ih)

pub put_keeps : (u : ModuleText) (ts : List ModuleText) → PutKeeps u ts
put_keeps u ts = record {
  names = names_put u ts;
  modules = modules_put u ts;
  distinct = λ d. subst (IsDistinct bytes_eq) (sym (names_put u ts)) (name_put_distinct u.name (names_in ts) d);
}
