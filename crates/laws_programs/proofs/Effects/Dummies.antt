-- Which symbols are dummies, and what a call offers them.
use Rattle.std.proofs.Common.{◌≡◌, ◌⊎◌, inl, inr, ℕ, zero, suc, ◌+◌, ◌-◌, ◌≤◌, ◌<◌, true, false, List, [], ◌∷◌, length, Option, Some, None, refl, sym, ap, ◌∙◌, subst, arith}
use Rattle.std.specs.Prelude.{slice_get}
use Rattle.f77_ast.specs.Trees.{ExprTree, ExprTrees}
use Rattle.f77_ast.specs.Places.{Place, Places}
use Rattle.f77_ast.specs.Calls.{Actual, places_of, nowhere, first_place}
use Rattle.f77_ast.specs.declared.symbol.Place.{Place as SymbolPlace}
use Rattle.f77_ast.specs.declared.symbol.Place.TheVariants as place
use Rattle.f77_ast.specs.Symbols.{BoundTree, SymbolTree, value_in}
use Rattle.f77_ast.specs.Units.{bounds_units, units_in}
use Rattle.f77_ast.specs.Shared.{symbol_at}
use Rattle.call_graph.specs.declared.graph.Graph.{Graph}
use Rattle.call_graph.specs.declared.actuals.Offer.{Offer}
use Rattle.call_graph.specs.declared.actuals.Offer.TheVariants.{Array}
use Rattle.call_graph.specs.Actuals.{has_bounds, offer_of, actual_of, actuals_of, all_fit, suits}
use Rattle.f77_meaning.specs.Modules.{Known, fixed, fixed_place, fixed_maybe}
use Rattle.f77_meaning.specs.Linked.{numbering}
use Rattle.f77_meaning.proofs.LinkedLaws.{actuals_suit}
use Rattle.laws_programs.specs.Effects.Tables.{is_dummy, HasNoDummy, DummiesLead}
use Rattle.laws_programs.proofs.Effects.Meant.{IsVariable}
use Rattle.laws_programs.proofs.Effects.Units.{ScalarsReach}
use Rattle.laws_programs.proofs.Effects.Offers.{IsOwn, IsLent, AllOffer, others_after, OfferAt, offer_at}
use Rattle.f77_ast.proofs.StorageLaws.{from_number as numbered_place}

-- ---- their numbers

pub no_dummy : (ss : List SymbolTree) (i : ℕ) (s : SymbolTree) → HasNoDummy ss → slice_get ss i ≡ Some s → is_dummy s.place ≡ false
no_dummy [] i s h e = cc
no_dummy (t ∷ ss) zero s h e = let same : t ≡ s = cc in subst (λ x. is_dummy x.place ≡ false) same h.0
no_dummy (t ∷ ss) (suc i) s h e = no_dummy ss i s h.1 e

-- a dummy has the number of its symbol
lead_at : (c n : ℕ) (ss : List SymbolTree) (i : ℕ) (s : SymbolTree) (m : ℕ) → DummiesLead c n ss → slice_get ss i ≡ Some s → s.place ≡ place.Dummy m → (m ≡ n + i) × (i < c)
lead_at zero n ss i s m h e d = let f : is_dummy (place.Dummy m) ≡ false = subst (λ p. is_dummy p ≡ false) d (no_dummy ss i s h e) in cc
lead_at (suc c) n [] i s m h e d = absurd h
lead_at (suc c) n (t ∷ ss) zero s m h e d =
    let same : t ≡ s = cc in
    let z : place.Dummy n ≡ place.Dummy m = sym h.0 ∙ ap (λ x. x.place) same ∙ d in
    let q : n ≡ m = cc in
    (omega (arith, q), omega arith)
lead_at (suc c) n (t ∷ ss) (suc i) s m h e d = let r = lead_at c (suc n) ss i s m h.1 e d in (omega (arith, r.0), omega (arith, r.1))

pub positive : (ss : List SymbolTree) (n : ℕ) (s : SymbolTree) → symbol_at ss n ≡ Some s → 1 ≤ n
positive ss zero s e = cc
positive ss (suc n) s e = omega arith

pub dummy_number : (c : ℕ) (ss : List SymbolTree) (n : ℕ) (s : SymbolTree) (m : ℕ) → DummiesLead c 1 ss → symbol_at ss n ≡ Some s → s.place ≡ place.Dummy m → (m ≡ n) × (1 ≤ n) × (n - 1 < c)
dummy_number c ss n s m h e d =
    let r = lead_at c 1 ss (n - 1) s m h (numbered_place ss n s e) d in
    let p = positive ss n s e in
    (omega (arith, r.0, p), p, r.1)

-- ---- what is offered to them

-- dummies are numbered from 1
abbrev pub offer_to : ℕ → List Place → Place
offer_to zero ps = nowhere
offer_to (suc c) ps = first_place (others_after c ps)

abbrev pub offered_place : Place → List Place → SymbolPlace → Place
offered_place p ps (place.Local g o) = p
offered_place p ps (place.Dummy m) = offer_to m ps
offered_place p ps (place.Block b o) = p
offered_place p ps (place.Constant v) = p

abbrev pub offered_symbol : Place → List Place → Option SymbolTree → Place
offered_symbol p ps None = p
offered_symbol p ps (Some s) = offered_place p ps s.place

-- all that a variable of a module may reach in a call with these places
abbrev pub offered : List Known → Graph → Known → List Place → Places
offered ks g l ps n = offered_symbol (fixed (numbering ks g) l n) ps (symbol_at l.symbols n)

pub scalar_units : (ss : List SymbolTree) (s : SymbolTree) (bs : List BoundTree) → s.bounds ≡ bs → has_bounds bs ≡ false → units_in ss s ≡ 1
scalar_units ss s [] e h = ap (bounds_units (value_in ss)) e
scalar_units ss s (b ∷ bs) e h = cc

scalar_reaches : (ks : List Known) (g : Graph) (l : Known) (s : SymbolTree) (p : SymbolPlace) → IsVariable p → is_dummy p ≡ false → has_bounds s.bounds ≡ false → 1 ≤ (fixed_place (numbering ks g) l.read.name l.symbols s p).extent
scalar_reaches ks g l s (place.Local h o) v d e = let z = scalar_units l.symbols s s.bounds refl e in omega (arith, z)
scalar_reaches ks g l s (place.Dummy m) v d e = cc
scalar_reaches ks g l s (place.Block b o) v d e = let z = scalar_units l.symbols s s.bounds refl e in omega (arith, z)
scalar_reaches ks g l s (place.Constant c) v d e = absurd v

pub fixed_reaches : (ks : List Known) (g : Graph) (l : Known) (n : ℕ) (s : SymbolTree) → symbol_at l.symbols n ≡ Some s → IsVariable s.place → is_dummy s.place ≡ false → has_bounds s.bounds ≡ false → 1 ≤ (fixed (numbering ks g) l n).extent
fixed_reaches ks g l n s e v d h =
    subst (λ o. 1 ≤ (fixed_maybe (numbering ks g) l.read.name l.symbols o).extent) (sym e) (scalar_reaches ks g l s s.place v d h)

-- ---- scalars get a unit

module _ (ks : List Known) (g : Graph) (k : Known) (at : Places) (es : ExprTrees) (xs : List Actual) (l : Known)
    (count : length (actuals_of es k.symbols) ≡ length l.read.dummies) (types : all_fit (actuals_of es k.symbols) l.symbols ≡ true) (lead : DummiesLead (length l.read.dummies) 1 l.symbols) (offers : AllOffer ks g k at es xs) where
  not_array : (o : Offer) → suits o false ≡ true → o ≡ Array → ⊥
  not_array o h e = let z : suits Array false ≡ true = subst (λ p. suits p false ≡ true) e h in cc

  reach_by : (e : ExprTree) (p : Place) → IsOwn ks g k at p ⊎ IsLent k at e p → suits (offer_of e k.symbols) false ≡ true → 1 ≤ p.extent
  reach_by e p (inl o) h = let z = o.0 in omega (arith, z)
  reach_by e p (inr r) h = r.reaches (not_array (offer_of e k.symbols) h)

  -- the actual of a dummy
  pub dummy_offer : (n : ℕ) (s : SymbolTree) (m : ℕ) → symbol_at l.symbols n ≡ Some s → s.place ≡ place.Dummy m → OfferAt ks g k at es (places_of xs) (m - 1)
  dummy_offer n s m e d =
      let r = dummy_number (length l.read.dummies) l.symbols n s m lead e d in
      let below = r.2 in
      let same = r.0 in
      offer_at ks g k at (m - 1) es xs offers (omega (arith, below, same, count))

  pub offer_is : (m : ℕ) (q : OfferAt ks g k at es (places_of xs) (m - 1)) → 1 ≤ m → offer_to m (places_of xs) ≡ q.place
  offer_is zero q h = absurd (omega (arith, h))
  offer_is (suc c) q h = let z : suc c - 1 ≡ c = omega arith in ap (λ j. first_place (others_after j (places_of xs))) (sym z) ∙ q.is_place

  dummy_reaches : (n : ℕ) (s : SymbolTree) (m : ℕ) → symbol_at l.symbols n ≡ Some s → s.place ≡ place.Dummy m → has_bounds s.bounds ≡ false → 1 ≤ (offer_to m (places_of xs)).extent
  dummy_reaches n s m e d h =
      let q = dummy_offer n s m e d in
      let r = dummy_number (length l.read.dummies) l.symbols n s m lead e d in
      let here : slice_get l.symbols (m - 1) ≡ Some s = ap (λ j. slice_get l.symbols (j - 1)) r.0 ∙ numbered_place l.symbols n s e in
      let suit = (actuals_suit (actuals_of es k.symbols) l.symbols types (m - 1) (actual_of q.expr k.symbols) s q.is_actual here).1 in
      let suit' : suits (offer_of q.expr k.symbols) false ≡ true = subst (λ b. suits (offer_of q.expr k.symbols) b ≡ true) h suit in
      let low : 1 ≤ m = subst (λ j. 1 ≤ j) (sym r.0) r.1 in
      subst (λ p. 1 ≤ p.extent) (sym (offer_is m q low)) (reach_by q.expr q.place q.offers suit')

  by_place : (n : ℕ) (s : SymbolTree) (p : SymbolPlace) → symbol_at l.symbols n ≡ Some s → s.place ≡ p → IsVariable p → has_bounds s.bounds ≡ false → 1 ≤ (offered_place (fixed (numbering ks g) l n) (places_of xs) p).extent
  by_place n s (place.Local h o) e d v b = fixed_reaches ks g l n s e (subst IsVariable (sym d) tt) (ap is_dummy d) b
  by_place n s (place.Dummy m) e d v b = dummy_reaches n s m e d b
  by_place n s (place.Block c o) e d v b = fixed_reaches ks g l n s e (subst IsVariable (sym d) tt) (ap is_dummy d) b
  by_place n s (place.Constant c) e d v b = absurd v

  pub scalars_offered : ScalarsReach l (offered ks g l (places_of xs))
  scalars_offered n s e v b =
      subst (λ o. 1 ≤ (offered_symbol (fixed (numbering ks g) l n) (places_of xs) o).extent) (sym e) (by_place n s s.place e refl v b)
