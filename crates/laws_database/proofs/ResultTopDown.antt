-- A pass over modules that gives each the CALLs of it in those before it. Where callers come first, each result is as if it were made with the CALLs of all.
use Rattle.std.proofs.Common.{◌≡◌, ℕ, List, [], ◌∷◌, ◌++◌, refl, sym, ap, ◌∙◌, subst, append_assoc, append-nil}
use Rattle.std.specs.Prelude.{map}
use Rattle.f77_meaning.specs.Modules.{Known}
use Rattle.call_graph.specs.CallsIn.{Each}
use Rattle.laws_database.proofs.ResultOrders.{NoCall, CallersFirst}

-- from A it makes B, with CALLs S; a module without a CALL of a name has none
pub record Descent (A B S : Type 0) : Type 0 where
  pub key : A → Known
  pub back : B → A
  pub own : B → List ℕ → List S
  pub make : List S → A → B
  pub is_back : (ss : List S) (a : A) → back (make ss a) ≡ a
  pub silent : (b : B) (x : List ℕ) → NoCall x (key (back b)) → own b x ≡ []

module _ {A B S : Type 0} (p : Descent A B S) where
  abbrev pub sites : List B → List ℕ → List S
  sites [] x = []
  sites (b ∷ bs) x = p.own b x ++ sites bs x

  abbrev pub next : List B → A → B
  next done a = p.make (sites done (p.key a).read.name) a

  abbrev pub run : List B → List A → List B
  run done [] = []
  run done (a ∷ as') = next done a ∷ run (done ++ next done a ∷ []) as'

  sites_joined : (bs ds : List B) (x : List ℕ) → sites (bs ++ ds) x ≡ sites bs x ++ sites ds x
  sites_joined [] ds x = refl
  sites_joined (b ∷ bs) ds x = ap (λ z. p.own b x ++ z) (sites_joined bs ds x) ∙ sym (append_assoc (p.own b x) (sites bs x) (sites ds x))

  sites_silent : (done : List B) (as' : List A) (x : List ℕ) → Each (NoCall x) (map p.key as') → sites (run done as') x ≡ []
  sites_silent done [] x h = refl
  sites_silent done (a ∷ as') x h =
      ap (λ z. z ++ sites (run (done ++ next done a ∷ []) as') x) (p.silent (next done a) x (subst (λ z. NoCall x (p.key z)) (sym (p.is_back (sites done (p.key a).read.name) a)) h.0))
      ∙ sites_silent (done ++ next done a ∷ []) as' x h.1

  good : (as' : List A) (done : List B) → CallersFirst (map p.key as') → (whole : List B) → whole ≡ done ++ run done as' → Each (λ (b : B). b ≡ p.make (sites whole (p.key (p.back b)).read.name) (p.back b)) (run done as')
  good [] done s whole e = tt
  good (a ∷ as') done s whole e =
      let b = next done a in
      (first, good as' (done ++ b ∷ []) s.1 whole (e ∙ sym (append_assoc done (b ∷ []) (run (done ++ b ∷ []) as'))))
    where
      x : List ℕ
      x = (p.key a).read.name

      all : sites whole (p.key a).read.name ≡ sites done (p.key a).read.name
      all =
          ap (λ w. sites w (p.key a).read.name) e ∙ (sites_joined done (run done (a ∷ as')) (p.key a).read.name
          ∙ (ap (λ z. sites done (p.key a).read.name ++ z) (sites_silent done (a ∷ as') (p.key a).read.name s.0) ∙ append-nil (sites done (p.key a).read.name)))

      first : next done a ≡ p.make (sites whole (p.key (p.back (next done a))).read.name) (p.back (next done a))
      first = ap (λ ss. p.make ss a) (sym all) ∙ ap (λ z. p.make (sites whole (p.key z).read.name) z) (sym (p.is_back (sites done (p.key a).read.name) a))

  -- of all modules
  pub all_good : (as' : List A) → CallersFirst (map p.key as') → Each (λ (b : B). b ≡ p.make (sites (run [] as') (p.key (p.back b)).read.name) (p.back b)) (run [] as')
  all_good as' s = good as' [] s (run [] as') refl

  pub backs : (as' : List A) (done : List B) → map p.back (run done as') ≡ as'
  backs [] done = refl
  backs (a ∷ as') done = λ i. p.is_back (sites done (p.key a).read.name) a i ∷ backs as' (done ++ next done a ∷ []) i
