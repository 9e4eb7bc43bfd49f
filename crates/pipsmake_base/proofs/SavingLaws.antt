-- What is saved of a session is a base in the grammar, with results of its own texts.
use Rattle.std.proofs.Common.{◌≡◌, inl, inr, ℕ, Bool, true, false, List, [], ◌∷◌, ◌++◌, map, Option, Some, None, refl, sym, ap, ◌∙◌, subst, eq-eqb}
use Rattle.std.specs.Prelude.{bytes_eq, option_map, option_and_then, option_to_list, if◌then◌else◌}
use Rattle.std.specs.List.{IsDistinct}
use Rattle.std.specs.Cmp.Lexicographic.{bytes_decides}
use Rattle.std.proofs.lemmas.Bool.{or_left, or_right}
use Rattle.std.proofs.lemmas.List.{map-append}
use Rattle.pipsmake_db.specs.pipsmake_rules.declared.kind.Kind.{Kind}
use Rattle.pipsmake_db.specs.pipsmake_rules.Keys.{holds}
use Rattle.pipsmake_db.specs.pipsmake_rules.Kinds.{number_of}
use Rattle.pipsmake_db.specs.pipsmake_rules.Neighbours.{has_name}
use Rattle.pipsmake_db.proofs.PipsmakeRules.KindLaws.{same_kind-true}
use Rattle.pipsmake_db.specs.roundtrip_programs.Laws.{TablesIgnorePlaces, GraphsIgnorePlaces}
use Rattle.pipsmake_db.specs.base_values.declared.stored.StoredValue.{StoredValue}
use Rattle.pipsmake_db.specs.base_values.Modules.{ModuleNames}
use Rattle.pipsmake_db.specs.base_values.Naming.{Each as EachStored}
use Rattle.pipsmake_db.specs.base_values.Sizes.{kind_of}
use Rattle.base_text.specs.declared.base.StoredResult.{StoredResult}
use Rattle.base_text.specs.Grammar.{IsBase, ResultFits}
use Rattle.base_text.specs.Modules.{KnownNames, known, names_at, names_read}
use Rattle.base_text.specs.Order.{are_in_order}
use Rattle.call_graph.specs.CallsIn.{Each}
use Rattle.pipsmake_db.specs.pipsmake_meaning.Definitions.{definition, module_named}
use Rattle.pipsmake_db.specs.pipsmake_meaning.MemoCells.{kept_of}
use Rattle.pipsmake_db.specs.pipsmake_meaning.Texts.{ReadModule, AreModules, names_in}
use Rattle.pipsmake_db.proofs.LawsDatabase.AtLines.{definition_same}
use Rattle.laws_stored.specs.Laws.{ShortTextsAreCounted}
use Rattle.pipsmake_db.specs.declared.db.Db.{Db}
use Rattle.pipsmake_db.specs.Calls.{key}
use Rattle.pipsmake_db.specs.Shown.{stored_in}
use Rattle.pipsmake_db.specs.State.{State, texts_of, memo_cells_in, IsIn}
use Rattle.pipsmake_base.specs.Current.{FreshIsCurrent}
use Rattle.pipsmake_base.specs.Saved.{texts_in, key_at, value_in, IsDefinedAt, IsSaved}
use Rattle.pipsmake_base.specs.Fitting.{IsFitting, SavedFits, KindsFit, ModuleFits}
use Rattle.pipsmake_base.specs.Saving.{module_of, stored_result, kept_results, result_saved, results_of_kinds, stored_kinds, results_saved, fresh_keys, stored_keys, saved_base, AreShort, HaveBytes}
use Rattle.pipsmake_base.proofs.InOrder.{AtMostOne, saved_in_order}
use Rattle.pipsmake_base.proofs.Names.{names_are, names_once, found_of, each_named, named}
use Rattle.pipsmake_base.proofs.ResultLaws.{OneResult, all_results}
use Rattle.pipsmake_base.proofs.SameTexts.{as_saved}

-- ---- what holds of each saved result

each_join : (P : StoredResult → Type 0) (rs qs : List StoredResult) → EachStored P rs → EachStored P qs → EachStored P (rs ++ qs)
each_join P [] qs h k = k
each_join P (r ∷ rs) qs h k = (h.0, each_join P rs qs h.1 k)

-- it holds of what is present
abbrev Holds : (StoredResult → Type 0) → Db → List ℕ → Kind → Type 0
Holds P d x k = (w : StoredValue) → kind_of w ≡ k → definition (texts_of d) k x ≡ Some (value_in w) → P (stored_result x w)

module _ (P : StoredResult → Type 0) (d : Db) where
  of_one : (x : List ℕ) (k : Kind) → Holds P d x k → OneResult d x k → EachStored P (result_saved d x k)
  of_one x k h (inl a) = subst (EachStored P) (sym a.is) tt
  of_one x k h (inr p) = subst (EachStored P) (sym p.is) (h p.value p.kind p.defined, tt)

  of_kinds : (x : List ℕ) (ks : List Kind) → ((k : Kind) → Holds P d x k) → Each (OneResult d x) ks → EachStored P (results_of_kinds d x ks)
  of_kinds x [] h o = tt
  of_kinds x (k ∷ ks) h o = each_join P (result_saved d x k) (results_of_kinds d x ks) (of_one x k (h k) o.0) (of_kinds x ks h o.1)

  of_all : (xs : List (List ℕ)) → Each (λ x. (k : Kind) → Holds P d x k) xs → Each (λ x. Each (OneResult d x) stored_kinds) xs → EachStored P (results_saved d xs)
  of_all [] h o = tt
  of_all (x ∷ xs) h o = each_join P (results_of_kinds d x stored_kinds) (results_saved d xs) (of_kinds x stored_kinds h.0 o.0) (of_all xs h.1 o.1)

-- ---- results of their own texts

own_text : (d : Db) (x : List ℕ) (k : Kind) → Holds (IsDefinedAt (texts_in (saved_base d))) d x k
own_text d x k w e h =
    sym (definition_same (texts_of d) (texts_in (saved_base d)) (as_saved (texts_of d)) (kind_of w) x) ∙ ap (λ j. definition (texts_of d) j x) e ∙ h

each_name : {Q : List ℕ → Type 0} (xs : List (List ℕ)) → ((x : List ℕ) → Q x) → Each Q xs
each_name [] f = tt
each_name (x ∷ xs) f = (f x, each_name xs f)

module _ (tables_law : TablesIgnorePlaces) (graphs_law : GraphsIgnorePlaces) (d : Db) (s : State) (i : IsIn d s) (f : FreshIsCurrent s) where
  results_are : Each (λ x. Each (OneResult d x) stored_kinds) (names_in (texts_of d))
  results_are = each_name (names_in (texts_of d)) (λ x. all_results tables_law graphs_law d s i f x stored_kinds (tt, (tt, (tt, (tt, (tt, (tt, (tt, tt))))))))

  pub saved_is_saved : IsSaved (saved_base d)
  saved_is_saved = of_all (IsDefinedAt (texts_in (saved_base d))) d (names_in (texts_of d)) (each_name (names_in (texts_of d)) (own_text d)) results_are

-- ---- results that fit

-- what is saved of a kind and a module
one_saved : (names : ModuleNames) (d : Db) (x : List ℕ) (k : Kind) → SavedFits names d x k → AtMostOne d x k
one_saved names d x k h = go (holds d.fresh (key k x)) refl
  where
    some : (o : Option StoredValue) → result_saved d x k ≡ option_to_list (option_map (stored_result x) o) → AtMostOne d x k
    some None e = inl e
    some (Some v) e = inr (record { value = v; is = e; kind = (subst (EachStored (λ (r : StoredResult). IsFitting names k r.value)) e h.1).0.kind })

    go : (b : Bool) → holds d.fresh (key k x) ≡ b → AtMostOne d x k
    go true e = some (option_and_then stored_in (kept_of (memo_cells_in d) k x)) (ap (λ b. if b then kept_results d k x else []) e)
    go false e = inl (ap (λ b. if b then kept_results d k x else []) e)

all_at_most : (names : ModuleNames) (d : Db) (x : List ℕ) (ks : List Kind) → KindsFit names d x ks → Each (AtMostOne d x) ks
all_at_most names d x [] h = tt
all_at_most names d x (k ∷ ks) h = (one_saved names d x k h.0, all_at_most names d x ks h.1)

modules_at_most : (d : Db) (xs : List (List ℕ)) → EachStored (ModuleFits d) xs → Each (λ x. Each (AtMostOne d x) stored_kinds) xs
modules_at_most d [] h = tt
modules_at_most d (x ∷ xs) h = (all_at_most (names_read h.0.read) d x stored_kinds h.0.fits, modules_at_most d xs h.1)

module _ (known_names : KnownNames) (names : ModuleNames) (d : Db) (x : List ℕ) (at : names_at known_names x ≡ Some names) where
  result_fits : (k : Kind) → SavedFits names d x k → AtMostOne d x k → EachStored (ResultFits known_names) (result_saved d x k)
  result_fits k h (inl e) = subst (EachStored (ResultFits known_names)) (sym e) tt
  result_fits k h (inr p) =
      let f = subst (EachStored (λ (r : StoredResult). IsFitting names k r.value)) p.is h.1 in
      subst (EachStored (ResultFits known_names)) (sym p.is) (record { names = names; of_module = at; fits = f.0.fits }, tt)

  kinds_fit : (ks : List Kind) → KindsFit names d x ks → EachStored (ResultFits known_names) (results_of_kinds d x ks)
  kinds_fit [] h = tt
  kinds_fit (k ∷ ks) h = each_join (ResultFits known_names) (result_saved d x k) (results_of_kinds d x ks) (result_fits k h.0 (one_saved names d x k h.0)) (kinds_fit ks h.1)

-- ---- which results

-- the one result of a kind where it is fresh
one_key : (names : ModuleNames) (d : Db) (x : List ℕ) (k : Kind) → SavedFits names d x k → map key_at (result_saved d x k) ≡ (if holds d.fresh (key k x) then key k x ∷ [] else [])
one_key names d x k h = go (one_saved names d x k h) (holds d.fresh (key k x)) refl
  where
    go : AtMostOne d x k → (b : Bool) → holds d.fresh (key k x) ≡ b → map key_at (result_saved d x k) ≡ (if holds d.fresh (key k x) then key k x ∷ [] else [])
    go (inl e) true f = let no : [] ≡ x ∷ [] = sym (ap (map (λ (r : StoredResult). r.name)) e) ∙ h.0 ∙ ap (λ b. if b then x ∷ [] else []) f in cc
    go (inl e) false f = ap (map key_at) e ∙ sym (ap (λ b. if b then key k x ∷ [] else []) f)
    go (inr p) true f =
        let same : kind_of p.value ≡ k = same_kind-true (kind_of p.value) k (eq-eqb (number_of (kind_of p.value)) (number_of k) p.kind) in
        ap (map key_at) p.is ∙ ap (λ j. key j x ∷ []) same ∙ sym (ap (λ b. if b then key k x ∷ [] else []) f)
    go (inr p) false f = let no : x ∷ [] ≡ [] = sym (ap (map (λ (r : StoredResult). r.name)) p.is) ∙ h.0 ∙ ap (λ b. if b then x ∷ [] else []) f in cc

kinds_keys : (names : ModuleNames) (d : Db) (x : List ℕ) (ks : List Kind) → KindsFit names d x ks → map key_at (results_of_kinds d x ks) ≡ fresh_keys d.fresh x ks
kinds_keys names d x [] h = refl
kinds_keys names d x (k ∷ ks) h =
    let one = one_key names d x k h.0 in
    let rest = kinds_keys names d x ks h.1 in
    map-append key_at (result_saved d x k) (results_of_kinds d x ks) ∙ (λ i. one i ++ rest i)

pub saved_keys : (d : Db) (xs : List (List ℕ)) → EachStored (ModuleFits d) xs → map key_at (results_saved d xs) ≡ stored_keys d.fresh xs
saved_keys d [] h = refl
saved_keys d (x ∷ xs) h =
    let one = kinds_keys (names_read h.0.read) d x stored_kinds h.0.fits in
    let rest = saved_keys d xs h.1 in
    map-append key_at (results_of_kinds d x stored_kinds) (results_saved d xs) ∙ (λ i. one i ++ rest i)

-- ---- the grammar

same_read : (o : Option ReadModule) (a b : ReadModule) → o ≡ Some a → o ≡ Some b → a ≡ b
same_read o a b e f = let both : Some a ≡ Some b = sym e ∙ f in cc

first_named : (x : List ℕ) (xs : List (List ℕ)) → has_name (x ∷ xs) x ≡ true
first_named x xs = or_left (bytes_eq x x) (has_name xs x) ((bytes_decides x x).1 refl)

later_named : (y x : List ℕ) (xs : List (List ℕ)) → has_name xs x ≡ true → has_name (y ∷ xs) x ≡ true
later_named y x xs e = or_right (bytes_eq y x) (has_name xs x) e

module _ (counted : ShortTextsAreCounted) (d : Db) (ms : AreModules (texts_of d)) (short : AreShort (map module_of (texts_of d))) where
  abbrev names : KnownNames
  names = known (map module_of (texts_of d)) (found_of (texts_of d) ms)

  module_fits : (x : List ℕ) → has_name (names_in (texts_of d)) x ≡ true → ModuleFits d x → EachStored (ResultFits names) (results_of_kinds d x stored_kinds)
  module_fits x e m =
      let n = named counted (texts_of d) ms short x e in
      let same : n.read ≡ m.read = same_read (module_named (texts_of d) x) n.read m.read n.is_read m.is_read in
      kinds_fit names (names_read m.read) d x (n.at ∙ ap (λ (r : ReadModule). Some (names_read r)) same) stored_kinds m.fits

  all_fit : (xs : List (List ℕ)) → ((x : List ℕ) → has_name xs x ≡ true → has_name (names_in (texts_of d)) x ≡ true) → EachStored (ModuleFits d) xs → EachStored (ResultFits names) (results_saved d xs)
  all_fit [] there h = tt
  all_fit (x ∷ xs) there h = each_join (ResultFits names) (results_of_kinds d x stored_kinds) (results_saved d xs) (module_fits x (there x (first_named x xs)) h.0) (all_fit xs (λ y e. there y (later_named x y xs e)) h.1)

pub saved_is_base : (counted : ShortTextsAreCounted) (d : Db) → IsDistinct bytes_eq (names_in (texts_of d)) → AreModules (texts_of d) → AreShort (map module_of (texts_of d)) → HaveBytes (map module_of (texts_of d)) →
    EachStored (ModuleFits d) (names_in (texts_of d)) → IsBase (saved_base d)
saved_is_base counted d distinct ms short bytes fits =
    let ts = texts_of d in
    record {
      bytes = bytes;
      found = found_of ts ms;
      are_modules = each_named counted ts ms short;
      once = names_once ts distinct;
      fit = all_fit counted d ms short (names_in ts) (λ x e. e) fits;
      ordered = subst (λ xs. are_in_order xs (results_saved d (names_in ts)) ≡ true) (sym (names_are ts)) (saved_in_order d (names_in ts) distinct (modules_at_most d (names_in ts) fits));
    }
