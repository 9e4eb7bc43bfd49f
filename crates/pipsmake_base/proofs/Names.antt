-- The names of saved modules, and what their results may name.
use Rattle.std.proofs.Common.{◌≡◌, ℕ, suc, ◌+◌, ◌≤◌, Bool, true, false, ◌&&◌, ◌||◌, List, [], ◌∷◌, ◌++◌, length, map, Some, None, refl, ap, ◌∙◌, arith}
use Rattle.std.specs.Prelude.{bytes_eq, nat_le, nat_lt, is_none, slice_get, option_map, option_and_then, if◌then◌else◌}
use Rattle.std.specs.Cmp.Lexicographic.{bytes_decides, nat_list_eq_equiv}
use Rattle.std.specs.List.{AllByRecursion, IsDistinct}
use Rattle.std.proofs.lemmas.Bool.{and_from}
use Rattle.std.proofs.lemmas.Bool.Decides.{Decides-ltb}
use Rattle.f77_ast.specs.Symbols.{number_from}
use Rattle.pipsmake_db.specs.pipsmake_rules.Neighbours.{has_name}
use Rattle.base_json.specs.Distinct.{are_new}
use Rattle.pipsmake_db.specs.base_values.Modules.{ModuleNames}
use Rattle.pipsmake_db.proofs.BaseValues.Options.{Decides-leb}
use Rattle.pipsmake_db.proofs.BaseValues.RowsBack.{when_true}
use Rattle.base_text.specs.Modules.{module_names_in, names_read, names_if, names_of, names_each, known, names_at}
use Rattle.pipsmake_db.specs.pipsmake_meaning.Definitions.{module_named}
use Rattle.pipsmake_db.specs.pipsmake_meaning.Texts.{ModuleText, ReadModule, module_read, IsModule, AreModules, names_in, text_of}
use Rattle.laws_stored.specs.Laws.{IsCounted, ShortTextsAreCounted}
use Rattle.pipsmake_base.specs.Saving.{module_of, AreShort}
use Rattle.base_text.proofs.Names.{none_more}
use Rattle.fx_lists.proofs.Texts.{apart_back as apart}
use Rattle.fx_lists.proofs.Booleans.{chosen}

-- ---- names that differ

abbrev AreAbsent : List (List ℕ) → List (List ℕ) → Type 0
AreAbsent before ks = AllByRecursion (λ j. number_from 1 before j ≡ None) ks

none_later : (before : List (List ℕ)) (k : List ℕ) (ks : List (List ℕ)) → AllByRecursion (λ y. bytes_eq k y ≡ false) ks → AreAbsent before ks → AreAbsent (before ++ k ∷ []) ks
none_later before k [] d h = tt
none_later before k (j ∷ js) d h = (none_more 1 before k j (apart k j d.0) h.0, none_later before k js d.1 h.1)

new_after : (before ks : List (List ℕ)) → IsDistinct bytes_eq ks → AreAbsent before ks → are_new before ks ≡ true
unfolding IsDistinct
new_after before [] d h = refl
new_after before (k ∷ ks) d h =
    and_from (is_none (number_from 1 before k)) (are_new (before ++ k ∷ []) ks) (ap is_none h.0) (new_after (before ++ k ∷ []) ks d.1 (none_later before k ks d.0 h.1))

none_before : (ks : List (List ℕ)) → AreAbsent [] ks
none_before [] = tt
none_before (k ∷ ks) = (refl, none_before ks)

pub names_are : (ts : List ModuleText) → module_names_in (map module_of ts) ≡ names_in ts
names_are [] = refl
names_are (t ∷ ts) = ap (λ xs. t.name ∷ xs) (names_are ts)

pub names_once : (ts : List ModuleText) → IsDistinct bytes_eq (names_in ts) → are_new [] (module_names_in (map module_of ts)) ≡ true
names_once ts d = ap (are_new []) (names_are ts) ∙ new_after [] (names_in ts) d (none_before (names_in ts))

-- ---- where a name stands

others_at : (f x : List ℕ) (front back : List (List ℕ)) → AllByRecursion (λ y. bytes_eq f y ≡ false) (front ++ x ∷ back) → bytes_eq f x ≡ false
others_at f x [] back h = h.0
others_at f x (y ∷ front) back h = others_at f x front back h.1

pub place_after : (n : ℕ) (front : List (List ℕ)) (x : List ℕ) (back : List (List ℕ)) → IsDistinct bytes_eq (front ++ x ∷ back) → number_from n (front ++ x ∷ back) x ≡ Some (n + length front)
unfolding IsDistinct
place_after n [] x back d =
    let same : n ≡ n + 0 = omega arith in
    ap (λ b. if b then Some n else number_from (suc n) back x) ((bytes_decides x x).1 refl) ∙ ap (λ m. Some m) same
place_after n (f ∷ front) x back d =
    let same : suc n + length front ≡ n + suc (length front) = omega arith in
    ap (λ b. if b then Some n else number_from (suc n) (front ++ x ∷ back) x) (apart f x (others_at f x front back d.0)) ∙ place_after (suc n) front x back d.1 ∙ ap (λ m. Some m) same

-- ---- what results may name

abbrev pub found_of : (ts : List ModuleText) → AreModules ts → List ModuleNames
found_of [] ms = []
found_of (t ∷ ts) ms = names_read ms.0.found ∷ found_of ts ms.1

-- the module of a name, and what its results may name
pub record HasNames (ts : List ModuleText) (found : List ModuleNames) (n : ℕ) (x : List ℕ) : Type 0 where
  pub read : ReadModule
  pub is_read : module_named ts x ≡ Some read
  pub few : IsCounted read
  pub place : ℕ
  pub number : ℕ
  pub is_number : number_from n (names_in ts) x ≡ Some number
  pub is_place : number ≡ n + place
  pub at : slice_get found place ≡ Some (names_read read)

-- the module of a name of a base that is saved
pub record IsNamed (ts : List ModuleText) (found : List ModuleNames) (x : List ℕ) : Type 0 where
  pub read : ReadModule
  pub is_read : module_named ts x ≡ Some read
  pub few : IsCounted read
  pub at : names_at (known (map module_of ts) found) x ≡ Some (names_read read)

module _ (counted : ShortTextsAreCounted) where
  one_named : (t : ModuleText) (is : IsModule t) → length t.text ≤ 16777216 → names_of (module_of t) ≡ Some (names_read is.found)
  one_named t is short =
      let few : nat_lt (length is.found.table) 4294967296 ≡ true = (Decides-ltb (length is.found.table) 4294967296).1 (counted t.text is.found is.is_read short) in
      let named : bytes_eq is.found.module_is.module_read.name t.name ≡ true = (bytes_decides is.found.module_is.module_read.name t.name).1 is.is_named in
      chosen (nat_le (length t.text) 16777216) (option_and_then (names_if t.name) (module_read t.text)) None ((Decides-leb (length t.text) 16777216).1 short)
      ∙ ap (option_and_then (names_if t.name)) is.is_read
      ∙ when_true (bytes_eq is.found.module_is.module_read.name t.name && nat_lt (length is.found.table) 4294967296) (names_read is.found)
      (and_from (bytes_eq is.found.module_is.module_read.name t.name) (nat_lt (length is.found.table) 4294967296) named few)

  pub each_named : (ts : List ModuleText) (ms : AreModules ts) → AreShort (map module_of ts) → names_each (map module_of ts) ≡ Some (found_of ts ms)
  each_named [] ms short = refl
  each_named (t ∷ ts) ms short =
      ap (option_and_then (λ n. option_map (λ ns. n ∷ ns) (names_each (map module_of ts)))) (one_named t ms.0 short.0)
      ∙ ap (option_map (λ ns. names_read ms.0.found ∷ ns)) (each_named ts ms.1 short.1)

  names_for : (n : ℕ) (ts : List ModuleText) (ms : AreModules ts) → AreShort (map module_of ts) → (x : List ℕ) → has_name (names_in ts) x ≡ true → HasNames ts (found_of ts ms) n x
  names_for n [] ms short x e = cc
  names_for n (t ∷ ts) ms short x e = go (bytes_eq t.name x) refl e (nat_list_eq_equiv.symm x t.name) (λ f. names_for (suc n) ts ms.1 short.1 x f)
    where
      go : (b : Bool) → bytes_eq t.name x ≡ b → (b || has_name (names_in ts) x) ≡ true → bytes_eq x t.name ≡ bytes_eq t.name x → (has_name (names_in ts) x ≡ true → HasNames ts (found_of ts ms.1) (suc n) x) → HasNames (t ∷ ts) (names_read ms.0.found ∷ found_of ts ms.1) n x
      go true q f s later =
          let zero_more : n ≡ n + 0 = omega arith in
          record {
            read = ms.0.found;
            is_read = ap (λ b. option_and_then module_read (if b then Some t.text else text_of ts x)) q ∙ ms.0.is_read;
            few = counted t.text ms.0.found ms.0.is_read short.0;
            place = 0;
            number = n;
            is_number = ap (λ b. if b then Some n else number_from (suc n) (names_in ts) x) (s ∙ q);
            is_place = zero_more;
            at = refl;
          }
      go false q f s later =
          let r = later f in
          let more : r.number ≡ n + suc r.place = omega (arith, r.is_place) in
          record {
            read = r.read;
            is_read = ap (λ b. option_and_then module_read (if b then Some t.text else text_of ts x)) q ∙ r.is_read;
            few = r.few;
            place = suc r.place;
            number = r.number;
            is_number = ap (λ b. if b then Some n else number_from (suc n) (names_in ts) x) (s ∙ q) ∙ r.is_number;
            is_place = more;
            at = r.at;
          }

  pub named : (ts : List ModuleText) (ms : AreModules ts) → AreShort (map module_of ts) → (x : List ℕ) → has_name (names_in ts) x ≡ true → IsNamed ts (found_of ts ms) x
  named ts ms short x e =
      let h = names_for 0 ts ms short x e in
      let place : h.number ≡ h.place = omega (arith, h.is_place) in
      record {
        read = h.read;
        is_read = h.is_read;
        few = h.few;
        at =
            ap (λ xs. option_and_then (slice_get (found_of ts ms)) (number_from 0 xs x)) (names_are ts)
            ∙ ap (option_and_then (slice_get (found_of ts ms))) h.is_number
            ∙ ap (slice_get (found_of ts ms)) place
            ∙ h.at;
      }
