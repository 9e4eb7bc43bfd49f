-- Array dummies take their places, within what is offered.
use Rattle.std.proofs.Common.{◌≡◌, ◌⊎◌, inl, inr, ℕ, zero, suc, ◌+◌, ◌-◌, ◌≤◌, ◌<◌, Bool, true, false, List, [], ◌∷◌, Some, refl, sym, ap, ◌∙◌, subst, arith}
use Rattle.std.specs.Prelude.{slice_get}
use Rattle.f77_ast.specs.Store.{put}
use Rattle.f77_ast.specs.Steps.{Done, ◌>>=◌}
use Rattle.f77_ast.specs.Places.{Dim, Place, Places}
use Rattle.f77_ast.specs.Calls.{Dummy, first_place, other_places, array_place, dims_read, dummy_bound, arrays_bound}
use Rattle.f77_ast.specs.Symbols.{BoundTree, SymbolTree}
use Rattle.f77_ast.specs.Shared.{symbol_at}
use Rattle.call_graph.specs.Actuals.{has_bounds}
use Rattle.f77_meaning.specs.Modules.{names}
use Rattle.effects.specs.Modules.{with_symbols}
use Rattle.laws_programs.specs.Effects.Tables.{AllBounds}
use Rattle.laws_programs.proofs.Effects.Access.{Reading, Allowed}
use Rattle.laws_programs.proofs.Effects.Fine.{Doing, doing_bind, doing_more}
use Rattle.laws_programs.proofs.Effects.Offers.{others_after, others_shift}
use Rattle.laws_programs.proofs.Effects.Binding.{leading, put_other, put_same, Inside, array_does}
use Rattle.laws_programs.proofs.Effects.Bounds.{LetsScalars, AsMany, dims_do, in_symbols, bounds_at}
use Rattle.fx_lists.proofs.Numbers.{plus-none as no_more}
use Rattle.f77_ast.proofs.StorageLaws.{from_number as numbered_place}
use Rattle.laws_programs.proofs.Storage.KeepLaws.{the_dummy as dummy_of}

-- ---- one dummy

-- a scalar stays where it is; an array gets a place within what is offered; the others stay
pub record AfterOne (n : ℕ) (bs : List BoundTree) (p : Place) (at next : Places) : Type 0 where
  pub scalar : has_bounds bs ≡ false → (m : ℕ) → next m ≡ at m
  pub others : (m : ℕ) → (m ≡ n → ⊥) → next m ≡ at m
  pub array : has_bounds bs ≡ true → Inside p (next n)

one_does : (A : Allowed) (d : Dummy) (bs : List BoundTree) (ms : List Dim) (p : Place) (at : Places) → AsMany bs ms → Doing (dummy_bound d p ms at) A (AfterOne d.symbol bs p at)
one_does A d [] [] p at h = record { scalar = λ e m. refl; others = λ m e. refl; array = λ e. cc }
one_does A d [] (m ∷ ms) p at h = absurd h
one_does A d (b ∷ bs) [] p at h = absurd h
one_does A d (b ∷ bs) (m ∷ ms) p at h =
    doing_bind (array_place p d.tag (m ∷ ms)) (λ q. Done (put at d.symbol q)) A (Inside p) (AfterOne d.symbol (b ∷ bs) p at) (array_does A p d.tag (m ∷ ms))
    (λ q i. record {
      scalar = λ e. cc;
      others = λ x e. put_other at d.symbol q x e;
      array = λ e. subst (Inside p) (sym (put_same at d.symbol q d.symbol refl)) i;
    })

-- ---- all of them

-- so many dummies from the number n on are placed, as these places of actuals allow
pub record AfterAll (c n : ℕ) (rest : List SymbolTree) (qs : List Place) (at next : Places) : Type 0 where
  pub outside : (m : ℕ) → (m < n) ⊎ (n + c ≤ m) → next m ≡ at m
  pub scalar : (i m : ℕ) (s : SymbolTree) → m ≡ n + i → i < c → slice_get rest i ≡ Some s → has_bounds s.bounds ≡ false → next m ≡ at m
  pub array : (i m : ℕ) (s : SymbolTree) → m ≡ n + i → i < c → slice_get rest i ≡ Some s → has_bounds s.bounds ≡ true → Inside (first_place (others_after i qs)) (next m)

one_more : (c n : ℕ) (s : SymbolTree) (rest : List SymbolTree) (qs : List Place) (at first next : Places) → AfterOne n s.bounds (first_place qs) at first → AfterAll c (suc n) rest (other_places qs) first next → AfterAll (suc c) n (s ∷ rest) qs at next
one_more c n s rest qs at first next one all = record {
  outside = outside;
  scalar = scalar;
  array = array;
}
  where
    outside : (m : ℕ) → (m < n) ⊎ (n + suc c ≤ m) → next m ≡ at m
    outside m (inl h) = all.outside m (inl (omega (arith, h))) ∙ one.others m (λ e. omega (arith, h, e))
    outside m (inr h) = all.outside m (inr (omega (arith, h))) ∙ one.others m (λ e. omega (arith, h, e))

    scalar : (i m : ℕ) (t : SymbolTree) → m ≡ n + i → i < suc c → slice_get (s ∷ rest) i ≡ Some t → has_bounds t.bounds ≡ false → next m ≡ at m
    scalar zero m t e below is h =
        let same : s ≡ t = cc in
        all.outside m (inl (omega (arith, e))) ∙ one.scalar (subst (λ x. has_bounds x.bounds ≡ false) (sym same) h) m
    scalar (suc i) m t e below is h = all.scalar i m t (omega (arith, e)) (omega (arith, below)) is h ∙ one.others m (λ z. omega (arith, e, z))

    array : (i m : ℕ) (t : SymbolTree) → m ≡ n + i → i < suc c → slice_get (s ∷ rest) i ≡ Some t → has_bounds t.bounds ≡ true → Inside (first_place (others_after i qs)) (next m)
    array zero m t e below is h =
        let same : s ≡ t = cc in
        let here : m ≡ n = omega (arith, e) in
        let stays = all.outside m (inl (omega (arith, e))) in
        subst (Inside (first_place qs)) (sym (stays ∙ ap first here)) (one.array (subst (λ x. has_bounds x.bounds ≡ true) (sym same) h))
    array (suc i) m t e below is h = subst (λ q. Inside (first_place q) (next m)) (sym (others_shift i qs)) (all.array i m t (omega (arith, e)) (omega (arith, below)) is h)

one_on : (n i : ℕ) → n + suc i ≡ suc n + i
one_on n i = omega arith

-- scalars lie where they lay first
abbrev pub KeepsScalars : List SymbolTree → Places → Places → Type 0
KeepsScalars ss base at = (n : ℕ) (s : SymbolTree) → symbol_at ss n ≡ Some s → has_bounds s.bounds ≡ false → at n ≡ base n

module _ (ss : List SymbolTree) (base : Places) (A : Allowed) (bounds : AllBounds ss ss) (lets : LetsScalars ss base A (with_symbols ss ss [])) where
  lets_at : (at : Places) → KeepsScalars ss base at → LetsScalars ss at A (with_symbols ss ss [])
  lets_at at keeps n s i e v f b = subst (λ p. A (Reading p.first)) (sym (keeps n s e b)) (lets n s i e v f b)

  keeps_after : (n : ℕ) (s : SymbolTree) (p : Place) (at next : Places) → symbol_at ss n ≡ Some s → AfterOne n s.bounds p at next → KeepsScalars ss base at → KeepsScalars ss base next
  keeps_after n s p at next is one keeps m t e b = go (has_bounds s.bounds) refl
    where
      other : has_bounds s.bounds ≡ true → m ≡ n → ⊥
      other h z =
          let same : Some t ≡ Some s = sym e ∙ ap (symbol_at ss) z ∙ is in
          let q : t ≡ s = cc in
          let f : has_bounds s.bounds ≡ false = subst (λ x. has_bounds x.bounds ≡ false) q b in
          cc

      go : (c : Bool) → has_bounds s.bounds ≡ c → next m ≡ base m
      go true h = one.others m (other h) ∙ keeps m t e b
      go false h = one.scalar h m ∙ keeps m t e b

  pub arrays_do : (c n : ℕ) (rest : List SymbolTree) (qs : List Place) (at : Places) → ((i : ℕ) (s : SymbolTree) → slice_get rest i ≡ Some s → symbol_at ss (n + i) ≡ Some s) → KeepsScalars ss base at →
      Doing (arrays_bound (leading c n rest) qs (names ss) at) A (AfterAll c n rest qs at)
  arrays_do zero n rest qs at is keeps = record { outside = λ m h. refl; scalar = λ i m s e below. absurd (omega (arith, below)); array = λ i m s e below. absurd (omega (arith, below)) }
  arrays_do (suc c) n [] qs at is keeps = record { outside = λ m h. refl; scalar = λ i m s e below q. cc; array = λ i m s e below q. cc }
  arrays_do (suc c) n (s ∷ rest) qs at is keeps =
      let d = dummy_of n s in
      let p = first_place qs in
      let here : symbol_at ss n ≡ Some s = subst (λ j. symbol_at ss j ≡ Some s) (no_more n) (is 0 s refl) in
      let where_it_is : slice_get ss (n - 1) ≡ Some s = numbered_place ss n s here in
      doing_bind (dims_read d.bounds (names ss) at) (λ ms. dummy_bound d p ms at >>= arrays_bound (leading c (suc n) rest) (other_places qs) (names ss)) A (AsMany s.bounds) (AfterAll (suc c) n (s ∷ rest) qs at)
      (dims_do ss at A s.bounds (with_symbols ss ss []) (bounds_at ss ss (n - 1) s bounds where_it_is) (λ v f. in_symbols ss ss (n - 1) s v [] where_it_is f) (lets_at at keeps)) (λ ms many.
      doing_bind (dummy_bound d p ms at) (arrays_bound (leading c (suc n) rest) (other_places qs) (names ss)) A (AfterOne n s.bounds p at) (AfterAll (suc c) n (s ∷ rest) qs at)
      (one_does A d s.bounds ms p at many) (λ next one.
      doing_more (arrays_bound (leading c (suc n) rest) (other_places qs) (names ss) next) A (AfterAll c (suc n) rest (other_places qs) next) (AfterAll (suc c) n (s ∷ rest) qs at)
      (λ last all. one_more c n s rest qs at next last one all)
      (arrays_do c (suc n) rest (other_places qs) next (λ i t e. subst (λ j. symbol_at ss j ≡ Some t) (one_on n i) (is (suc i) t e)) (keeps_after n s p at next here one keeps))))
