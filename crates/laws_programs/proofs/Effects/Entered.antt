-- The places of an activation: at the arrival, and once the bounds are read.
use Rattle.std.proofs.Common.{◌≡◌, inl, inr, ℕ, zero, suc, ◌+◌, ◌-◌, ◌≤◌, ◌<◌, Bool, true, false, List, [], ◌∷◌, length, Some, refl, sym, ap, ◌∙◌, subst, arith}
use Rattle.std.specs.Prelude.{slice_get}
use Rattle.std.proofs.lemmas.Bool.{cases_lt}
use Rattle.f77_ast.specs.Places.{Place, Places, scalar_place}
use Rattle.f77_ast.specs.Calls.{scalars_bound, in_place, first_place}
use Rattle.f77_ast.specs.declared.symbol.Place.{Place as SymbolPlace}
use Rattle.f77_ast.specs.declared.symbol.Place.TheVariants as place
use Rattle.f77_ast.specs.declared.variable.Variable.{Variable}
use Rattle.f77_ast.specs.declared.variable.Variable.TheVariants.{Own, Block, Saved}
use Rattle.f77_ast.specs.Symbols.{SymbolTree}
use Rattle.f77_ast.specs.Shared.{symbol_at}
use Rattle.call_graph.specs.declared.graph.Graph.{Graph}
use Rattle.call_graph.specs.Actuals.{has_bounds}
use Rattle.f77_meaning.specs.Modules.{Known, tag_of, dummies_from, fixed}
use Rattle.f77_meaning.specs.Linked.{numbering}
use Rattle.laws_programs.specs.Effects.Tables.{is_dummy, DummiesLead}
use Rattle.laws_programs.proofs.Effects.Meant.{IsVariable}
use Rattle.laws_programs.proofs.Effects.Units.{within_bounds, Has, ScalarsReach, AreAt}
use Rattle.laws_programs.proofs.Effects.Offers.{others_after}
use Rattle.laws_programs.proofs.Effects.Dummies.{positive, dummy_number, offer_to, offered_place, offered_symbol, offered, fixed_reaches}
use Rattle.laws_programs.proofs.Effects.Binding.{dummies_lead, scalars_other, scalars_here, Inside}
use Rattle.laws_programs.proofs.Effects.Arrays.{AfterAll, KeepsScalars}
use Rattle.f77_ast.proofs.StorageLaws.{from_number as numbered_place}
use Rattle.f77_meaning.proofs.ModuleLaws.{in_laid as in_bounds}

-- where variables lie at the arrival: each dummy as a scalar
abbrev pub first_at : List Known → Graph → Known → List Place → Places
first_at ks g l ps = scalars_bound (dummies_from 1 l.symbols) ps (fixed (numbering ks g) l)

-- the first so many are dummies
lead_is : (c n : ℕ) (ss : List SymbolTree) (i : ℕ) (s : SymbolTree) → DummiesLead c n ss → i < c → slice_get ss i ≡ Some s → is_dummy s.place ≡ true
lead_is zero n ss i s h below e = absurd (omega (arith, below))
lead_is (suc c) n [] i s h below e = absurd h
lead_is (suc c) n (t ∷ ss) zero s h below e = let same : t ≡ s = cc in subst (λ x. is_dummy x.place ≡ true) same (ap is_dummy h.0)
lead_is (suc c) n (t ∷ ss) (suc i) s h below e = lead_is c (suc n) ss i s h.1 (omega (arith, below)) e

offer_number : (m : ℕ) (ps : List Place) → 1 ≤ m → offer_to m ps ≡ first_place (others_after (m - 1) ps)
offer_number zero ps h = absurd (omega (arith, h))
offer_number (suc c) ps h = let z : c ≡ suc c - 1 = omega arith in ap (λ j. first_place (others_after j ps)) z

-- places at which scalars lie as at the arrival, and variables that are no dummies as always
pub record Keeps (ks : List Known) (g : Graph) (l : Known) (ps : List Place) (at : Places) : Type 0 where
  pub same : KeepsScalars l.symbols (first_at ks g l ps) at
  pub others : (n : ℕ) (s : SymbolTree) → symbol_at l.symbols n ≡ Some s → is_dummy s.place ≡ false → at n ≡ fixed (numbering ks g) l n

-- and at which arrays lie within what is offered
pub record Entered (ks : List Known) (g : Graph) (l : Known) (ps : List Place) (at : Places) : Type 0 where
  pub keeps : Keeps ks g l ps at
  pub arrays : (n : ℕ) (s : SymbolTree) (m : ℕ) → symbol_at l.symbols n ≡ Some s → s.place ≡ place.Dummy m → has_bounds s.bounds ≡ true → Inside (offer_to m ps) (at n)

module _ (ks : List Known) (g : Graph) (l : Known) (ps : List Place) (lead : DummiesLead (length l.read.dummies) 1 l.symbols) where
  abbrev c : ℕ
  c = length l.read.dummies

  past_dummies : (n : ℕ) (s : SymbolTree) → symbol_at l.symbols n ≡ Some s → is_dummy s.place ≡ false → 1 + c ≤ n
  past_dummies n s e d = elim (cases_lt (n - 1) c) [
    | inl below ↦ let f : is_dummy s.place ≡ true = lead_is c 1 l.symbols (n - 1) s lead below (numbered_place l.symbols n s e) in let z : true ≡ false = sym f ∙ d in cc
    | inr past ↦ let low = positive l.symbols n s e in omega (arith, past, low)
  ]

  first_other : (n : ℕ) (s : SymbolTree) → symbol_at l.symbols n ≡ Some s → is_dummy s.place ≡ false → first_at ks g l ps n ≡ fixed (numbering ks g) l n
  first_other n s e d =
      subst (λ ds. scalars_bound ds ps (fixed (numbering ks g) l) n ≡ fixed (numbering ks g) l n) (sym (dummies_lead c 1 l.symbols lead))
      (scalars_other c 1 l.symbols ps (fixed (numbering ks g) l) n (inr (past_dummies n s e d)))

  first_scalar : (n : ℕ) (s : SymbolTree) (m : ℕ) → symbol_at l.symbols n ≡ Some s → s.place ≡ place.Dummy m → first_at ks g l ps n ≡ scalar_place (offer_to m ps).first (tag_of s.scalar)
  first_scalar n s m e d =
      let r = dummy_number c l.symbols n s m lead e d in
      let same = r.0 in
      let low = r.1 in
      let low' : 1 ≤ m = omega (arith, same, low) in
      let here : first_place (others_after (n - 1) ps) ≡ offer_to m ps = ap (λ j. first_place (others_after (j - 1) ps)) (sym same) ∙ sym (offer_number m ps low') in
      subst (λ ds. scalars_bound ds ps (fixed (numbering ks g) l) n ≡ scalar_place (offer_to m ps).first (tag_of s.scalar)) (sym (dummies_lead c 1 l.symbols lead))
      (scalars_here c 1 l.symbols ps (fixed (numbering ks g) l) (n - 1) n s (omega (arith, low)) r.2 (numbered_place l.symbols n s e) ∙ ap (λ p. scalar_place p.first (tag_of s.scalar)) here)

  pub keeps_first : Keeps ks g l ps (first_at ks g l ps)
  keeps_first = record { same = λ n s e b. refl; others = first_other }

  -- ---- scalars reach their unit

  reach_first : (n : ℕ) (s : SymbolTree) (p : SymbolPlace) → symbol_at l.symbols n ≡ Some s → s.place ≡ p → IsVariable p → has_bounds s.bounds ≡ false → 1 ≤ (first_at ks g l ps n).extent
  reach_first n s (place.Local h o) e d v b = subst (λ p. 1 ≤ p.extent) (sym (first_other n s e (ap is_dummy d))) (fixed_reaches ks g l n s e (subst IsVariable (sym d) tt) (ap is_dummy d) b)
  reach_first n s (place.Dummy m) e d v b = subst (λ p. 1 ≤ p.extent) (sym (first_scalar n s m e d)) (omega arith)
  reach_first n s (place.Block x o) e d v b = subst (λ p. 1 ≤ p.extent) (sym (first_other n s e (ap is_dummy d))) (fixed_reaches ks g l n s e (subst IsVariable (sym d) tt) (ap is_dummy d) b)
  reach_first n s (place.Constant x) e d v b = absurd v

  pub scalars_first : ScalarsReach l (first_at ks g l ps)
  scalars_first n s e v b = reach_first n s s.place e refl v b

  pub keeps_at : (at : Places) → Keeps ks g l ps at → AreAt ks g l at
  keeps_at at h = record { scalars = λ n s e v b. subst (λ p. 1 ≤ p.extent) (sym (h.same n s e b)) (scalars_first n s e v b); others = h.others }

  -- ---- once the bounds are read

  pub entered : (at : Places) → AfterAll c 1 l.symbols ps (first_at ks g l ps) at → Entered ks g l ps at
  entered at h = record { keeps = record { same = same; others = λ n s e d. h.outside n (inr (past_dummies n s e d)) ∙ first_other n s e d }; arrays = arrays }
    where
      same : (n : ℕ) (s : SymbolTree) → symbol_at l.symbols n ≡ Some s → has_bounds s.bounds ≡ false → at n ≡ first_at ks g l ps n
      same n s e b =
          let low = positive l.symbols n s e in
          elim (cases_lt (n - 1) c) [
            | inl below ↦ h.scalar (n - 1) n s (omega (arith, low)) below (numbered_place l.symbols n s e) b
            | inr past ↦ h.outside n (inr (omega (arith, past, low)))
          ]

      arrays : (n : ℕ) (s : SymbolTree) (m : ℕ) → symbol_at l.symbols n ≡ Some s → s.place ≡ place.Dummy m → has_bounds s.bounds ≡ true → Inside (offer_to m ps) (at n)
      arrays n s m e d b =
          let r = dummy_number c l.symbols n s m lead e d in
          let same = r.0 in
          let low = r.1 in
          let low' : 1 ≤ m = omega (arith, same, low) in
          let here : first_place (others_after (n - 1) ps) ≡ offer_to m ps = ap (λ j. first_place (others_after (j - 1) ps)) (sym same) ∙ sym (offer_number m ps low') in
          subst (λ p. Inside p (at n)) here (h.array (n - 1) n s (omega (arith, low)) r.2 (numbered_place l.symbols n s e) b)

  -- ---- within what is offered

  module _ (reach : ScalarsReach l (offered ks g l ps)) (at : Places) (h : Keeps ks g l ps at) where
    scalar_inside : (n : ℕ) (s : SymbolTree) (m u : ℕ) → symbol_at l.symbols n ≡ Some s → s.place ≡ place.Dummy m → has_bounds s.bounds ≡ false → in_place (at n) u ≡ true → in_place (offer_to m ps) u ≡ true
    scalar_inside n s m u e d b i =
        let here : in_place (scalar_place (offer_to m ps).first (tag_of s.scalar)) u ≡ true = subst (λ p. in_place p u ≡ true) (h.same n s e b ∙ first_scalar n s m e d) i in
        let q = in_bounds (scalar_place (offer_to m ps).first (tag_of s.scalar)) u here in
        let offer : offered ks g l ps n ≡ offer_to m ps = ap (offered_symbol (fixed (numbering ks g) l n) ps) e ∙ ap (offered_place (fixed (numbering ks g) l n) ps) d in
        let one : 1 ≤ (offer_to m ps).extent = subst (λ p. 1 ≤ p.extent) offer (reach n s e (subst IsVariable (sym d) tt) b) in
        within_bounds (offer_to m ps) u q.0 (omega (arith, q.1, one))

    -- what is known of it where it is an array
    abbrev ArrayInside : ℕ → SymbolTree → ℕ → Type 0
    ArrayInside n s u = (m : ℕ) → s.place ≡ place.Dummy m → has_bounds s.bounds ≡ true → in_place (at n) u ≡ true → in_place (offer_to m ps) u ≡ true

    dummy_inside : (n : ℕ) (s : SymbolTree) (m u : ℕ) (b : Bool) → has_bounds s.bounds ≡ b → symbol_at l.symbols n ≡ Some s → s.place ≡ place.Dummy m → ArrayInside n s u → in_place (at n) u ≡ true → in_place (offer_to m ps) u ≡ true
    dummy_inside n s m u true q e d a i = a m d q i
    dummy_inside n s m u false q e d a i = scalar_inside n s m u e d q i

    place_inside : (n : ℕ) (s : SymbolTree) (p : SymbolPlace) (u : ℕ) → symbol_at l.symbols n ≡ Some s → s.place ≡ p → ArrayInside n s u → in_place (at n) u ≡ true → in_place (offered_place (fixed (numbering ks g) l n) ps p) u ≡ true
    place_inside n s (place.Local r o) u e d a i = subst (λ p. in_place p u ≡ true) (h.others n s e (ap is_dummy d)) i
    place_inside n s (place.Dummy m) u e d a i = dummy_inside n s m u (has_bounds s.bounds) refl e d a i
    place_inside n s (place.Block x o) u e d a i = subst (λ p. in_place p u ≡ true) (h.others n s e (ap is_dummy d)) i
    place_inside n s (place.Constant v) u e d a i = subst (λ p. in_place p u ≡ true) (h.others n s e (ap is_dummy d)) i

    symbol_inside : (n : ℕ) (s : SymbolTree) (u : ℕ) → symbol_at l.symbols n ≡ Some s → ArrayInside n s u → in_place (at n) u ≡ true → in_place (offered ks g l ps n) u ≡ true
    symbol_inside n s u e a i = subst (λ o. in_place (offered_symbol (fixed (numbering ks g) l n) ps o) u ≡ true) (sym e) (place_inside n s s.place u e refl a i)

    -- a scalar, also before the bounds are read
    pub scalar_offered : (n : ℕ) (s : SymbolTree) (u : ℕ) → symbol_at l.symbols n ≡ Some s → has_bounds s.bounds ≡ false → in_place (at n) u ≡ true → in_place (offered ks g l ps n) u ≡ true
    scalar_offered n s u e b i = symbol_inside n s u e (λ m d q. let z : true ≡ false = sym q ∙ b in cc) i

  pub has_offered : ScalarsReach l (offered ks g l ps) → (at : Places) → Entered ks g l ps at → (v : Variable) (u : ℕ) → Has ks g l at v u → Has ks g l (offered ks g l ps) v u
  has_offered reach at h (Own n) u i = let s = i.0 in (s, i.1, i.2, symbol_inside reach at h.keeps n s u i.1 (λ m d q j. h.arrays n s m i.1 d q u j) i.3)
  has_offered reach at h (Block b) u i = i
  has_offered reach at h (Saved m x) u i = i
