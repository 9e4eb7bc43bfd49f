-- What was made stands where texts change.
use Rattle.std.proofs.Common.{◌≡◌, ◌⊎◌, inl, inr, ℕ, Bool, true, false, List, [], Option, Some, None, refl, sym, ap, ◌∙◌, subst}
use Rattle.std.specs.Prelude.{bytes_eq, slice_get, IfSome}
use Rattle.std.proofs.lemmas.Slice.Eq.{bytes_eq-Decides}
use Rattle.session_texts.specs.pipsmake_rules.declared.kind.Kind.{Kind}
use Rattle.session_texts.specs.pipsmake_meaning.Values.{Value, source, Item, text, result}
use Rattle.session_texts.specs.pipsmake_meaning.Texts.{ModuleText, AreModules, text_of}
use Rattle.session_texts.specs.pipsmake_meaning.Session.{Makings}
use Rattle.session_texts.specs.pipsmake_meaning.MemoCells.{MemoCells, MemoCell, value_under, kept_value, AreDistinct, KeepsIn}
use Rattle.laws_database.specs.Stands.{KeptStands, StandsFor}
use Rattle.laws_database.specs.Laws.{TextsMayChange, TextsMayGo}
use Rattle.laws_database.proofs.Stamps.{adds_keep, adds_distinct, Distinct, Grows}
use Rattle.laws_database.proofs.Keeping.{kept_grow}
use Rattle.fx_lists.proofs.Texts.{differs}

module _ (sh new : MemoCells) (x t : List ℕ) (keeps : KeepsIn sh new text x (source t) []) where
  abbrev IsThere : Item → List ℕ → Type 0
  IsThere item y = (item ≡ text) × (y ≡ x)

  decide : (item : Item) (y : List ℕ) → IsThere item y ⊎ (IsThere item y → ⊥)
  decide (result j) y = inr (λ e. (let f : result j ≡ text = e.0 in cc))
  decide text y = go (bytes_eq y x) refl
    where
      go : (b : Bool) → bytes_eq y x ≡ b → IsThere text y ⊎ (IsThere text y → ⊥)
      go true e = inl (refl, (bytes_eq-Decides y x).0 e)
      go false e = inr (λ p. differs y x e p.1)

  at_it : (P : MemoCell → MemoCell → Type 0) → P (sh text x) (new text x) → ((s : MemoCell) → P s s) → (item : Item) (y : List ℕ) → P (sh item y) (new item y)
  at_it P here other item y =
      elim (decide item y) [
        | inl e ↦ subst (λ a. P (sh a y) (new a y)) (sym e.0) (subst (λ b. P (sh text b) (new text b)) (sym e.1) here)
        | inr n ↦ subst (λ s. P (sh item y) s) (sym (keeps.others item y n)) (other (sh item y))
      ]

  pub grows : Grows sh new
  grows =
      at_it (λ s d. (i : ℕ) (w : Value) → slice_get s.values i ≡ Some w → slice_get d.values i ≡ Some w)
      (λ i w e. adds_keep (sh text x).values (new text x).values (source t) w i keeps.keeps.values e) (λ s i w e. e)

  pub distinct_now : Distinct sh → Distinct new
  distinct_now d item y = at_it (λ s z. AreDistinct s.values → AreDistinct z.values) (adds_distinct (sh text x).values (new text x).values (source t) keeps.keeps.values) (λ s e. e) item y (d item y)

  pub results_stay : (k : Kind) (y : List ℕ) → new (result k) y ≡ sh (result k) y
  results_stay k y = keeps.others (result k) y (λ e. (let f : result k ≡ text = e.0 in cc))

  pub text_kept : kept_value (new text x) ≡ Some (source t)
  text_kept = ap (value_under (new text x).values) keeps.keeps.kept ∙ keeps.keeps.at

  module _ (ts us : List ModuleText) (made : Makings) (stands : StandsFor sh ts made) (ms : AreModules us) (is_text : text_of us x ≡ Some t) (others : (y : List ℕ) → (y ≡ x → ⊥) → text_of us y ≡ text_of ts y) where
    abbrev HasText : List ℕ → Option (List ℕ) → Type 0
    HasText y o = IfSome o (λ u. kept_value (new text y) ≡ Some (source u))

    texts_now : (y : List ℕ) → HasText y (text_of us y)
    texts_now y = go (bytes_eq y x) refl
      where
        go : (b : Bool) → bytes_eq y x ≡ b → HasText y (text_of us y)
        go true e = subst (λ z. HasText z (text_of us z)) (sym ((bytes_eq-Decides y x).0 e)) (subst (HasText x) (sym is_text) text_kept)
        go false e =
            let d = differs y x e in
            subst (HasText y) (sym (others y d)) (subst (λ (s : MemoCell). IfSome (text_of ts y) (λ u. kept_value s ≡ Some (source u))) (sym (keeps.others text y (λ p. d p.1))) (stands.texts y))

    stands_now : StandsFor new us made
    stands_now = record {
      modules = ms;
      texts = texts_now;
      distinct = distinct_now stands.distinct;
      kept = λ k y. subst (λ (s : MemoCell). KeptStands new (record { kind = k; name = y }) s.kept (made k y)) (sym (results_stay k y))
          (kept_grow sh new grows (record { kind = k; name = y }) ((sh (result k) y).kept) (made k y) (stands.kept k y));
    }

pub texts_may_change : TextsMayChange
texts_may_change sh new ts us made x t stands ms is_text others keeps = stands_now sh new x t keeps ts us made stands ms is_text others

pub texts_may_go : TextsMayGo
texts_may_go sh ts us made stands ms fewer = record {
  modules = ms;
  texts = λ y. still y (text_of us y) refl;
  distinct = stands.distinct;
  kept = stands.kept;
}
  where
    still : (y : List ℕ) (o : Option (List ℕ)) → text_of us y ≡ o → IfSome o (λ u. kept_value (sh text y) ≡ Some (source u))
    still y None e = tt
    still y (Some u) e = subst (λ o. IfSome o (λ z. kept_value (sh text y) ≡ Some (source z))) (fewer y u e) (stands.texts y)
