-- What was made stands where results are forgotten, values are seen, and stored results are taken over.
use Rattle.std.proofs.Common.{◌≡◌, ◌⊎◌, inl, inr, ℕ, Bool, true, false, List, [], Option, Some, None, refl, sym, ap, ◌∙◌, subst, true≢false}
use Rattle.std.specs.Prelude.{bytes_eq, slice_get, option_map, IfSome, if◌then◌else◌}
use Rattle.std.proofs.lemmas.Slice.Eq.{bytes_eq-Decides}
use Rattle.session_texts.specs.pipsmake_rules.declared.kind.Kind.{Kind}
use Rattle.session_texts.specs.pipsmake_rules.declared.key.Key.{Key}
use Rattle.session_texts.specs.pipsmake_rules.Keys.{same_key}
use Rattle.session_texts.proofs.PipsmakeRules.KeyLaws.{same_key-true, same_key_self}
use Rattle.session_texts.specs.pipsmake_meaning.Values.{Value, source, Item, text, result}
use Rattle.session_texts.specs.pipsmake_meaning.Texts.{ModuleText, text_of}
use Rattle.session_texts.specs.pipsmake_meaning.Definitions.{definition}
use Rattle.session_texts.specs.pipsmake_meaning.Session.{Makings, made_without}
use Rattle.session_texts.specs.pipsmake_meaning.MemoCells.{MemoCells, MemoCell, Kept, value_under, kept_value, AreDistinct, KeepsIn, SeenIn, Forgets}
use Rattle.laws_database.specs.Stands.{KeptStands, StandsFor, Valuation, HasValue, KeepsValues}
use Rattle.laws_database.specs.Laws.{ResultsMayGo, ValuesMayBeSeen, ResultsMayBeKept, NothingStands, LoadedStands, NothingIsGiven, GivenMayBeKept, GivenMayBeSeen, GivenTextsMayStay}
use Rattle.laws_database.proofs.Stamps.{adds_keep, adds_distinct, Distinct, Grows}
use Rattle.laws_database.proofs.Keeping.{kept_grow, stands_later}
use Rattle.laws_database.proofs.Changes.{grows, distinct_now, results_stay, text_kept}
use Rattle.laws_database.proofs.Unverified.{value_grows, keeps_later}
use Rattle.fx_lists.proofs.Texts.{differs}

abbrev key : Kind → List ℕ → Key
key k x = record { kind = k; name = x }

-- ---- results that are forgotten

module _ (sh new : MemoCells) (x : List ℕ) (forgets : Forgets sh new x) where
  by_name : (P : List ℕ → Type 0) → P x → ((y : List ℕ) → (y ≡ x → ⊥) → P y) → (y : List ℕ) → P y
  by_name P here other y = go (bytes_eq y x) refl
    where
      go : (b : Bool) → bytes_eq y x ≡ b → P y
      go true e = subst P (sym ((bytes_eq-Decides y x).0 e)) here
      go false e = other y (differs y x e)

  values_same : (item : Item) (y : List ℕ) → (new item y).values ≡ (sh item y).values
  values_same text = by_name (λ y. (new text y).values ≡ (sh text y).values) (ap (λ (s : MemoCell). s.values) forgets.text) (λ y n. ap (λ (s : MemoCell). s.values) (forgets.others text y n))
  values_same (result k) =
      by_name (λ y. (new (result k) y).values ≡ (sh (result k) y).values) (ap (λ (s : MemoCell). s.values) (forgets.results k))
      (λ y n. ap (λ (s : MemoCell). s.values) (forgets.others (result k) y n))

  texts_same : (y : List ℕ) → new text y ≡ sh text y
  texts_same = by_name (λ y. new text y ≡ sh text y) forgets.text (λ y n. forgets.others text y n)

  still_there : Grows sh new
  still_there item y i w e = subst (λ vs. slice_get vs i ≡ Some w) (sym (values_same item y)) e

  module _ (ts : List ModuleText) (made : Makings) (stands : StandsFor sh ts made) where
    kept_without : (k : Kind) (y : List ℕ) → KeptStands new (key k y) ((new (result k) y).kept) (made_without made x k y)
    kept_without k y = go (bytes_eq y x) refl
      where
        go : (b : Bool) → bytes_eq y x ≡ b → KeptStands new (key k y) ((new (result k) y).kept) (if b then None else made k y)
        go true e =
            let none : (new (result k) x).kept ≡ None = ap (λ (s : MemoCell). s.kept) (forgets.results k) in
            let here : (new (result k) y).kept ≡ None = subst (λ z. (new (result k) z).kept ≡ None) (sym ((bytes_eq-Decides y x).0 e)) none in
            subst (λ o. KeptStands new (key k y) o None) (sym here) tt
        go false e =
            subst (λ (s : MemoCell). KeptStands new (key k y) s.kept (made k y)) (sym (forgets.others (result k) y (differs y x e)))
            (kept_grow sh new still_there (key k y) ((sh (result k) y).kept) (made k y) (stands.kept k y))

pub results_may_go : ResultsMayGo
results_may_go sh new ts made x stands forgets = record {
  modules = stands.modules;
  texts = λ y. subst (λ (s : MemoCell). IfSome (text_of ts y) (λ t. kept_value s ≡ Some (source t))) (sym (texts_same sh new x forgets y)) (stands.texts y);
  distinct = λ item y. subst AreDistinct (sym (values_same sh new x forgets item y)) (stands.distinct item y);
  kept = λ k y. kept_without sh new x forgets ts made stands k y;
}

-- ---- values that are seen

same_item : (a b : Item) → (a ≡ b) ⊎ ((a ≡ b) → ⊥)
same_item text text = inl refl
same_item text (result k) = inr (λ e. (let f : text ≡ result k = e in cc))
same_item (result j) text = inr (λ e. (let f : result j ≡ text = e in cc))
same_item (result j) (result k) = go (same_key (key j []) (key k [])) refl
  where
    go : (b : Bool) → same_key (key j []) (key k []) ≡ b → (result j ≡ result k) ⊎ ((result j ≡ result k) → ⊥)
    go true e = inl (ap (λ (d : Key). result d.kind) (same_key-true (key j []) (key k []) e))
    go false e =
        inr (λ p. (let f : result j ≡ result k = p in let q : j ≡ k = cc in true≢false (sym (same_key_self (key k [])) ∙ (ap (λ i. same_key (key i []) (key k [])) (sym q) ∙ e))))

same_name : (y x : List ℕ) → (y ≡ x) ⊎ ((y ≡ x) → ⊥)
same_name y x = go (bytes_eq y x) refl
  where
    go : (b : Bool) → bytes_eq y x ≡ b → (y ≡ x) ⊎ ((y ≡ x) → ⊥)
    go true e = inl ((bytes_eq-Decides y x).0 e)
    go false e = inr (differs y x e)

module _ (sh new : MemoCells) (item : Item) (x : List ℕ) (v : Value) (stamp : ℕ) (sees : SeenIn sh new item x v stamp) where
  abbrev IsThere : Item → List ℕ → Type 0
  IsThere other y = (other ≡ item) × (y ≡ x)

  decide : (other : Item) (y : List ℕ) → IsThere other y ⊎ (IsThere other y → ⊥)
  decide other y = go (same_item other item) (same_name y x)
    where
      go : ((other ≡ item) ⊎ ((other ≡ item) → ⊥)) → ((y ≡ x) ⊎ ((y ≡ x) → ⊥)) → IsThere other y ⊎ (IsThere other y → ⊥)
      go (inl a) (inl b) = inl (a, b)
      go (inl a) (inr n) = inr (λ p. n p.1)
      go (inr n) b = inr (λ p. n p.0)

  at_it : (P : MemoCell → MemoCell → Type 0) → P (sh item x) (new item x) → ((s : MemoCell) → P s s) → (other : Item) (y : List ℕ) → P (sh other y) (new other y)
  at_it P here same other y =
      elim (decide other y) [
        | inl e ↦ subst (λ a. P (sh a y) (new a y)) (sym e.0) (subst (λ b. P (sh item b) (new item b)) (sym e.1) here)
        | inr n ↦ subst (λ s. P (sh other y) s) (sym (sees.others other y n)) (same (sh other y))
      ]

  seen_grow : Grows sh new
  seen_grow =
      at_it (λ s d. (i : ℕ) (w : Value) → slice_get s.values i ≡ Some w → slice_get d.values i ≡ Some w)
      (λ i w e. adds_keep (sh item x).values (new item x).values v w i sees.sees.values e) (λ s i w e. e)

  seen_distinct : Distinct sh → Distinct new
  seen_distinct d other y = at_it (λ s z. AreDistinct s.values → AreDistinct z.values) (adds_distinct (sh item x).values (new item x).values v sees.sees.values) (λ s e. e) other y (d other y)

  kept_same : (other : Item) (y : List ℕ) → (new other y).kept ≡ (sh other y).kept
  kept_same = at_it (λ s z. z.kept ≡ s.kept) sees.sees.kept (λ s. refl)

  still_kept : (y : List ℕ) (w : Value) → kept_value (sh text y) ≡ Some w → kept_value (new text y) ≡ Some w
  still_kept y w e = ap (value_under (new text y).values) (kept_same text y) ∙ go ((sh text y).kept) e
    where
      go : (o : Option Kept) → value_under (sh text y).values o ≡ Some w → value_under (new text y).values o ≡ Some w
      go None f = cc
      go (Some k) f = seen_grow text y k.stamp w f

  texts_seen : (y : List ℕ) (o : Option (List ℕ)) → IfSome o (λ t. kept_value (sh text y) ≡ Some (source t)) → IfSome o (λ t. kept_value (new text y) ≡ Some (source t))
  texts_seen y None h = tt
  texts_seen y (Some t) h = still_kept y (source t) h

pub values_may_be_seen : ValuesMayBeSeen
values_may_be_seen sh new ts made item x v stamp stands sees = record {
  modules = stands.modules;
  texts = λ y. texts_seen sh new item x v stamp sees y (text_of ts y) (stands.texts y);
  distinct = seen_distinct sh new item x v stamp sees stands.distinct;
  kept = λ k y. subst (λ o. KeptStands new (key k y) o (made k y)) (sym (kept_same sh new item x v stamp sees (result k) y))
      (kept_grow sh new (seen_grow sh new item x v stamp sees) (key k y) ((sh (result k) y).kept) (made k y) (stands.kept k y));
}

-- ---- results that are taken over

pub results_may_be_kept : ResultsMayBeKept
results_may_be_kept sh new ts made k v stamps stands is are keeps = stands_later ts made [] sh new k v stamps stands is keeps are

pub nothing_stands : NothingStands
nothing_stands sh empty = record {
  modules = tt;
  texts = λ x. tt;
  distinct = λ item x. subst (λ (s : MemoCell). AreDistinct s.values) (sym (empty item x)) tt;
  kept = λ k x. subst (λ (s : MemoCell). KeptStands sh (key k x) s.kept None) (sym (empty (result k) x)) tt;
}

pub loaded_stands : LoadedStands
loaded_stands sh ts loaded = record {
  modules = loaded.modules;
  texts = loaded.texts;
  distinct = loaded.distinct;
  kept = λ k x. go k x ((sh (result k) x).kept) (loaded.kept k x);
}
  where
    go : (k : Kind) (x : List ℕ) (o : Option Kept) → IfSome o (λ kept. HasValue sh ts (definition ts) (key k x) kept) → KeptStands sh (key k x) o (option_map (λ (kept : Kept). ts) o)
    go k x None h = tt
    go k x (Some kept) h = record { modules = loaded.modules; value = h.value; is = h.is; at = h.at; needs = h.needs }

-- ---- results with given values

pub nothing_is_given : NothingIsGiven
nothing_is_given sh ts d stands = record {
  modules = stands.modules;
  texts = stands.texts;
  distinct = stands.distinct;
  kept = λ k x. go k x ((sh (result k) x).kept) (stands.kept k x);
}
  where
    go : (k : Kind) (x : List ℕ) (o : Option Kept) → KeptStands sh (key k x) o None → IfSome o (λ kept. HasValue sh ts d (key k x) kept)
    go k x None h = tt
    go k x (Some kept) h = absurd h

pub given_may_be_kept : GivenMayBeKept
given_may_be_kept sh new ts d k v stamps have is are keeps = keeps_later ts d sh new k v stamps have is keeps are

pub given_may_be_seen : GivenMayBeSeen
given_may_be_seen sh new ts d item x v stamp have sees = record {
  modules = have.modules;
  texts = λ y. texts_seen sh new item x v stamp sees y (text_of ts y) (have.texts y);
  distinct = seen_distinct sh new item x v stamp sees have.distinct;
  kept = λ k y. subst (λ o. IfSome o (λ kept. HasValue new ts d (key k y) kept)) (sym (kept_same sh new item x v stamp sees (result k) y))
      (value_grows ts d sh new (seen_grow sh new item x v stamp sees) (key k y) ((sh (result k) y).kept) (have.kept k y));
}

module _ (sh new : MemoCells) (ts : List ModuleText) (d : Valuation) (x t : List ℕ) (have : KeepsValues sh ts d) (is : text_of ts x ≡ Some t) (keeps : KeepsIn sh new text x (source t) []) where
  abbrev HasText : List ℕ → Type 0
  HasText y = IfSome (text_of ts y) (λ u. kept_value (new text y) ≡ Some (source u))

  texts_again : (y : List ℕ) → HasText y
  texts_again y = go (bytes_eq y x) refl
    where
      go : (b : Bool) → bytes_eq y x ≡ b → HasText y
      go true e = subst HasText (sym ((bytes_eq-Decides y x).0 e)) (subst (λ o. IfSome o (λ u. kept_value (new text x) ≡ Some (source u))) (sym is) (text_kept sh new x t keeps))
      go false e = subst (λ (s : MemoCell). IfSome (text_of ts y) (λ u. kept_value s ≡ Some (source u))) (sym (keeps.others text y (λ p. differs y x e p.1))) (have.texts y)

pub given_texts_may_stay : GivenTextsMayStay
given_texts_may_stay sh new ts d x t have is keeps = record {
  modules = have.modules;
  texts = λ y. texts_again sh new ts d x t have is keeps y;
  distinct = distinct_now sh new x t keeps have.distinct;
  kept = λ k y. subst (λ (s : MemoCell). IfSome s.kept (λ kept. HasValue new ts d (key k y) kept)) (sym (results_stay sh new x t keeps k y))
      (value_grows ts d sh new (grows sh new x t keeps) (key k y) ((sh (result k) y).kept) (have.kept k y));
}
