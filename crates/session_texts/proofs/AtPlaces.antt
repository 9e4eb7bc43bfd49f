-- Texts, trees and tables that change at the same places.
use Rattle.std.proofs.Common.{◌≡◌, ℕ, zero, suc, ◌+◌, ◌<◌, Bool, true, false, List, [], ◌∷◌, ◌++◌, length, map, Option, Some, None, refl, sym, ap, ◌∙◌, arith}
use Rattle.std.specs.Prelude.{bytes_eq, option_map, option_to_list, unwrap_or, remove, if◌then◌else◌}
use Rattle.f77_ast.specs.declared.places.Parsed.{Parsed}
use Rattle.f77_ast.specs.Symbols.{number_from}
use Rattle.pipsmake_rules.specs.Neighbours.{name_put}
use Rattle.pipsmake_meaning.specs.Texts.{ModuleText, ReadModule, IsModule, AreModules, modules_in, names_in}
use Rattle.session_texts.specs.declared.source.Source.{Source}
use Rattle.session_texts.specs.Modules.{source_text, source_read, IsSource, AreSources}
use Rattle.session_texts.specs.Changes.{put, replaced}
use Rattle.session_texts.specs.Places.{place_for, places_from, names_after, put_at, all_put}
use Rattle.session_texts.proofs.Puts.{names_put}
use Rattle.fx_lists.proofs.Texts.{turned as either_way}

-- ---- the place of a name

pub number_later : (n : ℕ) (xs : List (List ℕ)) (x : List ℕ) → number_from (suc n) xs x ≡ option_map suc (number_from n xs x)
number_later n [] x = refl
number_later n (y ∷ ys) x = go (bytes_eq x y) (number_later (suc n) ys x)
  where
    go : (b : Bool) → number_from (suc (suc n)) ys x ≡ option_map suc (number_from (suc n) ys x)
        → (if b then Some (suc n) else number_from (suc (suc n)) ys x) ≡ option_map suc (if b then Some n else number_from (suc n) ys x)
    go true ih = refl
    go false ih = ih

one_later : (o : Option ℕ) (n : ℕ) → unwrap_or (option_map suc o) (suc n) ≡ suc (unwrap_or o n)
one_later None n = refl
one_later (Some k) n = refl

place_here : (y : List ℕ) (ys : List (List ℕ)) (x : List ℕ) → bytes_eq x y ≡ true → place_for (y ∷ ys) x ≡ zero
place_here y ys x e = ap (λ b. unwrap_or (if b then Some 0 else number_from 1 ys x) (length (y ∷ ys))) e

place_later : (y : List ℕ) (ys : List (List ℕ)) (x : List ℕ) → bytes_eq x y ≡ false → place_for (y ∷ ys) x ≡ suc (place_for ys x)
place_later y ys x e =
    ap (λ b. unwrap_or (if b then Some 0 else number_from 1 ys x) (length (y ∷ ys))) e
    ∙ ap (λ o. unwrap_or o (suc (length ys))) (number_later 0 ys x)
    ∙ one_later (number_from 0 ys x) (length ys)

put_is : (u : ModuleText) (ts : List ModuleText) → put u ts ≡ put_at (place_for (names_in ts) u.name) u ts
put_is u [] = refl
put_is u (t ∷ ts) = go (bytes_eq t.name u.name) refl (put_is u ts)
  where
    go : (b : Bool) → bytes_eq t.name u.name ≡ b → put u ts ≡ put_at (place_for (names_in ts) u.name) u ts
        → (if b then u ∷ ts else t ∷ put u ts) ≡ put_at (place_for (t.name ∷ names_in ts) u.name) u (t ∷ ts)
    go true e ih = ap (λ n. put_at n u (t ∷ ts)) (sym (place_here t.name (names_in ts) u.name (either_way u.name t.name ∙ e)))
    go false e ih =
        ap (λ r. t ∷ r) ih
        ∙ ap (λ n. put_at n u (t ∷ ts)) (sym (place_later t.name (names_in ts) u.name (either_way u.name t.name ∙ e)))

pub replaced_is : (ts us : List ModuleText) → replaced ts us ≡ all_put (places_from (names_in ts) (names_in us)) us ts
replaced_is ts [] = refl
replaced_is ts (u ∷ us) =
    replaced_is (put u ts) us
    ∙ ap (λ ns. all_put (places_from ns (names_in us)) us (put u ts)) (names_put u ts)
    ∙ ap (λ r. all_put (places_from (name_put u.name (names_in ts)) (names_in us)) us r) (put_is u ts)

pub names_replaced : (ts us : List ModuleText) → names_after (names_in ts) (names_in us) ≡ names_in (replaced ts us)
names_replaced ts [] = refl
names_replaced ts (u ∷ us) = ap (λ ns. names_after ns (names_in us)) (sym (names_put u ts)) ∙ names_replaced (put u ts) us

-- ---- what is made of each element

map_put_at : {A B : Type 0} (g : A → B) (n : ℕ) (x : A) (ys : List A) → map g (put_at n x ys) ≡ put_at n (g x) (map g ys)
map_put_at g n x [] = refl
map_put_at g zero x (y ∷ ys) = refl
map_put_at g (suc n) x (y ∷ ys) = ap (λ zs. g y ∷ zs) (map_put_at g n x ys)

pub map_all_put : {A B : Type 0} (g : A → B) (ns : List ℕ) (xs ys : List A) → map g (all_put ns xs ys) ≡ all_put ns (map g xs) (map g ys)
map_all_put g [] xs ys = refl
map_all_put g (n ∷ ns) [] ys = refl
map_all_put g (n ∷ ns) (x ∷ xs) ys = map_all_put g ns xs (put_at n x ys) ∙ ap (λ zs. all_put ns (map g xs) zs) (map_put_at g n x ys)

-- ---- what is made of the module of each text

module _ {B : Type 0} (f : ReadModule → B) where
  pub part_first : (t : ModuleText) (ts : List ModuleText) (m : IsModule t) → map f (modules_in (t ∷ ts)) ≡ f m.found ∷ map f (modules_in ts)
  part_first t ts m = ap (λ o. map f (option_to_list o ++ modules_in ts)) m.is_read

  part_put : (n : ℕ) (u : ModuleText) (m : IsModule u) (ts : List ModuleText) → AreModules ts → map f (modules_in (put_at n u ts)) ≡ put_at n (f m.found) (map f (modules_in ts))
  part_put n u m [] ms = part_first u [] m
  part_put zero u m (t ∷ ts) ms = part_first u ts m ∙ ap (λ bs. put_at zero (f m.found) bs) (sym (part_first t ts ms.0))
  part_put (suc n) u m (t ∷ ts) ms =
      part_first t (put_at n u ts) ms.0
      ∙ ap (λ bs. f ms.0.found ∷ bs) (part_put n u m ts ms.1)
      ∙ ap (λ bs. put_at (suc n) (f m.found) bs) (sym (part_first t ts ms.0))

  pub part_removed : (ts : List ModuleText) → AreModules ts → (k : ℕ) → k < length ts → map f (modules_in (remove ts k)) ≡ remove (map f (modules_in ts)) k
  part_removed [] ms k h = absurd (omega arith)
  part_removed (t ∷ ts) ms zero h = ap (λ bs. remove bs zero) (sym (part_first t ts ms.0))
  part_removed (t ∷ ts) ms (suc k) h =
      part_first t (remove ts k) ms.0
      ∙ ap (λ bs. f ms.0.found ∷ bs) (part_removed ts ms.1 k (omega arith))
      ∙ ap (λ bs. remove bs (suc k)) (sym (part_first t ts ms.0))

  pub part_length : (ts : List ModuleText) → AreModules ts → length (map f (modules_in ts)) ≡ length ts
  part_length [] ms = refl
  part_length (t ∷ ts) ms = ap length (part_first t ts ms.0) ∙ ap suc (part_length ts ms.1)

modules_put_at : (n : ℕ) (u : ModuleText) (ts : List ModuleText) → IsModule u → AreModules ts → AreModules (put_at n u ts)
modules_put_at n u [] m ms = (m, tt)
modules_put_at zero u (t ∷ ts) m ms = (m, ms.1)
modules_put_at (suc n) u (t ∷ ts) m ms = (ms.0, modules_put_at n u ts m ms.1)

abbrev pub is_module : (s : Source) → IsSource s → IsModule (source_text s)
is_module s h = record { found = source_read s; is_read = h.is_read; is_named = h.is_named }

pub are_modules : (ss : List Source) → AreSources ss → AreModules (map source_text ss)
are_modules [] h = tt
are_modules (s ∷ ss) h = (is_module s h.0, are_modules ss h.1)

pub parts_put : {B : Type 0} (f : ReadModule → B) (ns : List ℕ) (ss : List Source) → AreSources ss → (ts : List ModuleText) → AreModules ts
    → map f (modules_in (all_put ns (map source_text ss) ts)) ≡ all_put ns (map (λ s. f (source_read s)) ss) (map f (modules_in ts))
parts_put f [] ss h ts ms = refl
parts_put f (n ∷ ns) [] h ts ms = refl
parts_put f (n ∷ ns) (s ∷ ss) h ts ms =
    parts_put f ns ss h.1 (put_at n (source_text s) ts) (modules_put_at n (source_text s) ts (is_module s h.0) ms)
    ∙ ap (λ bs. all_put ns (map (λ t. f (source_read t)) ss) bs) (part_put f n (source_text s) (is_module s h.0) ts ms)
