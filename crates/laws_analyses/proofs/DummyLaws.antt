-- The dummies of a module in the list that runs bind, by their places.
use Rattle.std.proofs.Common.{◌≡◌, ℕ, zero, suc, ◌+◌, ◌-◌, List, [], ◌∷◌, ◌++◌, map, Option, Some, None, refl, sym, ap, ◌∙◌, arith}
use Rattle.std.specs.Prelude.{slice_get}
use Rattle.f77_ast.specs.Calls.{Dummy}
use Rattle.f77_ast.specs.declared.symbol.Place.{Place}
use Rattle.f77_ast.specs.declared.symbol.Place.TheVariants as place
use Rattle.f77_ast.specs.Symbols.{SymbolTree}
use Rattle.f77_ast.specs.Shared.{symbol_at, place_of, place_at}
use Rattle.laws_programs.specs.SymbolTables.Laws.{NoDummies, DummiesFirst}
use Rattle.f77_meaning.specs.Modules.{bound_of, as_dummy, dummies_from}
use Rattle.laws_programs.proofs.Storage.LyingLaws.{at_least_one}
use Rattle.f77_ast.proofs.StorageLaws.{from_number as numbered_place, to_number as next_symbol}
use Rattle.laws_programs.proofs.Storage.KeepLaws.{the_dummy}

no_dummy : (n : ℕ) (s : SymbolTree) (q : Place) → ((k : ℕ) → q ≡ place.Dummy k → ⊥) → as_dummy n s q ≡ []
no_dummy n s (place.Local g o) h = refl
no_dummy n s (place.Dummy k) h = absurd (h k refl)
no_dummy n s (place.Block b o) h = refl
no_dummy n s (place.Constant v) h = refl

pub none_listed : (n : ℕ) (ss : List SymbolTree) → NoDummies ss → dummies_from n ss ≡ []
none_listed n [] h = refl
none_listed n (s ∷ ss) h = ap (λ ds. ds ++ dummies_from (suc n) ss) (no_dummy n s s.place h.0) ∙ none_listed (suc n) ss h.1

pub listed : (n : ℕ) (s : SymbolTree) (ss : List SymbolTree) (k : ℕ) → s.place ≡ place.Dummy k → dummies_from n (s ∷ ss) ≡ the_dummy n s ∷ dummies_from (suc n) ss
listed n s ss k e = ap (λ q. as_dummy n s q ++ dummies_from (suc n) ss) e

none_at : (ss : List SymbolTree) → NoDummies ss → (i k : ℕ) (s : SymbolTree) → slice_get ss i ≡ Some s → s.place ≡ place.Dummy k → ⊥
none_at [] h i k s e d = cc
none_at (t ∷ ss) h zero k s e d = let same : t ≡ s = cc in h.0 k (ap (λ z. z.place) same ∙ d)
none_at (t ∷ ss) h (suc i) k s e d = none_at ss h.1 i k s e d

-- a dummy of the list, whose first symbol has the number n and is the dummy m
pub record DummyAt (n m : ℕ) (ss : List SymbolTree) (i : ℕ) (f : Dummy) : Type 0 where
  pub symbol : SymbolTree
  pub is_symbol : slice_get ss i ≡ Some symbol
  pub lies : symbol.place ≡ place.Dummy (m + i)
  pub is : f ≡ the_dummy (n + i) symbol

pub dummy_at : (m c n : ℕ) (ss : List SymbolTree) → DummiesFirst m c ss → (i : ℕ) (f : Dummy) → slice_get (dummies_from n ss) i ≡ Some f → DummyAt n m ss i f
dummy_at m zero n ss h i f e = let z : None ≡ Some f = sym (ap (λ ds. slice_get ds i) (none_listed n ss h)) ∙ e in cc
dummy_at m (suc c) n [] h i f e = absurd h
dummy_at m (suc c) n (s ∷ ss) h zero f e =
    let first : Some (the_dummy n s) ≡ Some f = sym (ap (λ ds. slice_get ds 0) (listed n s ss m h.0)) ∙ e in
    let same : the_dummy n s ≡ f = cc in
    let none : n ≡ n + zero = omega arith in
    let more : m ≡ m + zero = omega arith in
    record { symbol = s; is_symbol = refl; lies = h.0 ∙ ap place.Dummy more; is = sym same ∙ ap (λ j. the_dummy j s) none }
dummy_at m (suc c) n (s ∷ ss) h (suc i) f e =
    let r = dummy_at (suc m) c (suc n) ss h.1 i f (sym (ap (λ ds. slice_get ds (suc i)) (listed n s ss m h.0)) ∙ e) in
    let next : suc n + i ≡ n + suc i = omega arith in
    let more : suc m + i ≡ m + suc i = omega arith in
    record { symbol = r.symbol; is_symbol = r.is_symbol; lies = r.lies ∙ ap place.Dummy more; is = r.is ∙ ap (λ j. the_dummy j r.symbol) next }

-- each symbol that is a dummy is there
at_dummy : (m c n : ℕ) (ss : List SymbolTree) → DummiesFirst m c ss → (i : ℕ) (s : SymbolTree) (k : ℕ) → slice_get ss i ≡ Some s → s.place ≡ place.Dummy k → (k ≡ m + i) × (slice_get (dummies_from n ss) i ≡ Some (the_dummy (n + i) s))
at_dummy m zero n ss h i s k e d = absurd (none_at ss h i k s e d)
at_dummy m (suc c) n [] h i s k e d = absurd h
at_dummy m (suc c) n (t ∷ ss) h zero s k e d =
    let same : t ≡ s = cc in
    let both : place.Dummy m ≡ place.Dummy k = sym h.0 ∙ ap (λ z. z.place) same ∙ d in
    let one : m ≡ k = cc in
    let none : n ≡ n + zero = omega arith in
    (omega (arith, one), ap (λ ds. slice_get ds 0) (listed n t ss m h.0) ∙ ap (λ j. Some (the_dummy j t)) none ∙ ap (λ z. Some (the_dummy (n + zero) z)) same)
at_dummy m (suc c) n (t ∷ ss) h (suc i) s k e d =
    let r = at_dummy (suc m) c (suc n) ss h.1 i s k e d in
    let number = r.0 in
    let next : suc n + i ≡ n + suc i = omega arith in
    (omega (arith, number), ap (λ ds. slice_get ds (suc i)) (listed n t ss m h.0) ∙ r.1 ∙ ap (λ j. Some (the_dummy j s)) next)

-- ---- in a table

module _ (ss : List SymbolTree) (c : ℕ) (first : DummiesFirst 1 c ss) where
  abbrev ds : List Dummy
  ds = dummies_from 1 ss

  -- a dummy has the number of its place, from 1, and its symbol is that dummy
  pub record Told (i : ℕ) (f : Dummy) : Type 0 where
    pub symbol : SymbolTree
    pub number : f.symbol ≡ suc i
    pub is_symbol : symbol_at ss f.symbol ≡ Some symbol
    pub lies : symbol.place ≡ place.Dummy (suc i)
    pub bounds : f.bounds ≡ map bound_of symbol.bounds

  pub told : (i : ℕ) (f : Dummy) → slice_get (dummies_from 1 ss) i ≡ Some f → Told i f
  told i f e =
      let r = dummy_at 1 c 1 ss first i f e in
      let next : 1 + i ≡ suc i = omega arith in
      let number : f.symbol ≡ suc i = ap (λ d. d.symbol) r.is ∙ next in
      record { symbol = r.symbol; number = number; is_symbol = ap (symbol_at ss) number ∙ next_symbol ss i r.symbol r.is_symbol; lies = r.lies ∙ ap place.Dummy next; bounds = ap (λ d. d.bounds) r.is }

  pub distinct : (i j : ℕ) (d f : Dummy) → slice_get (dummies_from 1 ss) i ≡ Some d → slice_get (dummies_from 1 ss) j ≡ Some f → d.symbol ≡ f.symbol → i ≡ j
  distinct i j d f e q h =
      let a = (told i d e).number in
      let b = (told j f q).number in
      omega (arith, a, b, h)

  pub numbered : (i : ℕ) (f : Dummy) → slice_get (dummies_from 1 ss) i ≡ Some f → place_at ss f.symbol ≡ Some (place.Dummy (suc i))
  numbered i f e = let t = told i f e in ap place_of t.is_symbol ∙ ap Some t.lies

  pub listed_dummy : (d n : ℕ) (s : SymbolTree) → symbol_at ss d ≡ Some s → s.place ≡ place.Dummy n → (f : Dummy) × (slice_get (dummies_from 1 ss) (n - 1) ≡ Some f) × (f.symbol ≡ d)
  listed_dummy d n s e h =
      let r = at_dummy 1 c 1 ss first (d - 1) s n (numbered_place ss d s e) h in
      let number = r.0 in
      let less : n - 1 ≡ d - 1 = omega (arith, number) in
      (the_dummy (1 + (d - 1)) s, ap (slice_get (dummies_from 1 ss)) less ∙ r.1, at_least_one ss d s e)

  pub dummies : (d n : ℕ) → place_at ss d ≡ Some (place.Dummy n) → (f : Dummy) × (slice_get (dummies_from 1 ss) (n - 1) ≡ Some f) × (f.symbol ≡ d)
  dummies d n h = go (symbol_at ss d) refl h
    where
      go : (o : Option SymbolTree) → symbol_at ss d ≡ o → place_of o ≡ Some (place.Dummy n) → (f : Dummy) × (slice_get (dummies_from 1 ss) (n - 1) ≡ Some f) × (f.symbol ≡ d)
      go None e q = cc
      go (Some s) e q = let same : s.place ≡ place.Dummy n = cc in listed_dummy d n s e same
