-- A variable of the callee is, to the caller, one that reaches its units.
use Rattle.std.proofs.Common.{◌≡◌, ◌⊎◌, inl, inr, ℕ, ◌+◌, ◌-◌, ◌≤◌, Bool, true, false, List, [], ◌∷◌, length, Option, Some, None, refl, sym, ap, ◌∙◌, subst, arith}
use Rattle.std.specs.Prelude.{if◌then◌else◌, nat_eq, slice_get}
use Rattle.std.proofs.lemmas.Bool.{eqb-true}
use Rattle.f77_ast.specs.Trees.{ExprTree, ExprTrees}
use Rattle.f77_ast.specs.Places.{Place, Places}
use Rattle.f77_ast.specs.Calls.{Actual, places_of, in_place}
use Rattle.f77_ast.specs.declared.symbol.Place.{Place as SymbolPlace}
use Rattle.f77_ast.specs.declared.symbol.Place.TheVariants as place
use Rattle.f77_ast.specs.declared.variable.Variable.{Variable}
use Rattle.f77_ast.specs.declared.variable.Variable.TheVariants.{Own, Block, Saved}
use Rattle.f77_ast.specs.Symbols.{SymbolTree, number_from}
use Rattle.f77_ast.specs.Units.{units_in}
use Rattle.f77_ast.specs.Shared.{symbol_at}
use Rattle.f77_ast.specs.Variables.{union}
use Rattle.call_graph.specs.declared.graph.Graph.{Graph}
use Rattle.call_graph.specs.Actuals.{actuals_of, all_fit}
use Rattle.f77_meaning.specs.Areas.{block, unit_at, is_own_unit}
use Rattle.f77_meaning.specs.Modules.{Known, symbol_names, fixed, fixed_place, fixed_maybe, laid_at}
use Rattle.f77_meaning.specs.Linked.{numbering}
use Rattle.f77_meaning.specs.Claims.{size_in, block_place, saved_place}
use Rattle.effects.specs.Names.{variable_named}
use Rattle.effects.specs.Callee.{first_like, or_block, actual_variable, if_saved, at_place, symbol_in_caller, in_caller, all_in_caller}
use Rattle.laws_programs.specs.Effects.Tables.{is_dummy, is_plain, DummiesLead}
use Rattle.laws_programs.proofs.Effects.Named.{key, Stands, in_union}
use Rattle.laws_programs.proofs.Effects.Kept.{kept_caller}
use Rattle.laws_programs.proofs.Effects.Units.{within_bounds, IsKnownBy, Has, AreAt}
use Rattle.laws_programs.proofs.Effects.Offers.{IsOwn, IsLent, AllOffer}
use Rattle.laws_programs.proofs.Effects.Dummies.{offer_to, offered_place, offered_symbol, offered, dummy_number, dummy_offer, offer_is}
use Rattle.laws_programs.proofs.Effects.Like.{like_found}
use Rattle.f77_meaning.proofs.ModuleLaws.{in_laid as in_bounds}
use Rattle.call_graph.specs.Visible.{place_is_visible_to_callers, symbol_goes_out, is_visible_to_callers}

-- ---- what is written of it decides

pub in_caller_key : (callee : List ℕ) (es : ExprTrees) (cs ss : List SymbolTree) (v w x : Variable) → key v ≡ key w → Stands x (in_caller w callee es cs ss) → Stands x (in_caller v callee es cs ss)
in_caller_key callee es cs ss (Own m) (Own n) x e s = let q : n ≡ m = cc in subst (λ j. Stands x (symbol_in_caller (symbol_at cs j) callee es cs ss)) q s
in_caller_key callee es cs ss (Own m) (Block c) x e s = cc
in_caller_key callee es cs ss (Own m) (Saved t y) x e s = cc
in_caller_key callee es cs ss (Block b) (Own n) x e s = cc
in_caller_key callee es cs ss (Block b) (Block c) x e (inl h) = inl (e ∙ h)
in_caller_key callee es cs ss (Block b) (Block c) x e (inr h) = absurd h
in_caller_key callee es cs ss (Block b) (Saved t y) x e (inl h) = inl (e ∙ h)
in_caller_key callee es cs ss (Block b) (Saved t y) x e (inr h) = absurd h
in_caller_key callee es cs ss (Saved r z) (Own n) x e s = cc
in_caller_key callee es cs ss (Saved r z) (Block c) x e (inl h) = inl (e ∙ h)
in_caller_key callee es cs ss (Saved r z) (Block c) x e (inr h) = absurd h
in_caller_key callee es cs ss (Saved r z) (Saved t y) x e (inl h) = inl (e ∙ h)
in_caller_key callee es cs ss (Saved r z) (Saved t y) x e (inr h) = absurd h

-- what stands for a variable of a list stands among what stands for the list
pub in_all : (callee : List ℕ) (es : ExprTrees) (cs ss : List SymbolTree) (v x : Variable) (vs ws : List Variable) → Stands v vs → Stands x (in_caller v callee es cs ss) → Stands x (all_in_caller vs callee es cs ss ws)
in_all callee es cs ss v x [] ws s h = absurd s
in_all callee es cs ss v x (w ∷ vs) ws (inl e) h =
    kept_caller ss x vs callee es cs (union ws (in_caller w callee es cs ss)) (in_union x ws (in_caller w callee es cs ss) (inr (in_caller_key callee es cs ss w v x e h)))
in_all callee es cs ss v x (w ∷ vs) ws (inr s) h = in_all callee es cs ss v x vs (union ws (in_caller w callee es cs ss)) s h

-- ---- blocks and saved locals

-- the variables of a block end within its size
abbrev pub BlocksReach : List Known → Graph → Type 0
BlocksReach ks g = (i : ℕ) (l : Known) (n : ℕ) (s : SymbolTree) (b : List ℕ) (o : ℕ) → slice_get ks i ≡ Some l → symbol_at l.symbols n ≡ Some s → s.place ≡ place.Block b o → o + units_in l.symbols s ≤ size_in g.blocks b

-- the saved locals of a module are found by the names of the module and the local
abbrev pub SavedFound : List Known → Graph → Type 0
SavedFound ks g = (i : ℕ) (l : Known) (x : List ℕ) (n : ℕ) → slice_get ks i ≡ Some l → number_from 1 (symbol_names l.symbols) x ≡ Some n → saved_place ks g ks l.read.name x ≡ fixed (numbering ks g) l n

pub fixed_at : (ks : List Known) (g : Graph) (l : Known) (n : ℕ) (s : SymbolTree) (p : SymbolPlace) → symbol_at l.symbols n ≡ Some s → s.place ≡ p → fixed (numbering ks g) l n ≡ fixed_place (numbering ks g) l.read.name l.symbols s p
fixed_at ks g l n s p e d = ap (fixed_maybe (numbering ks g) l.read.name l.symbols) e ∙ ap (fixed_place (numbering ks g) l.read.name l.symbols s) d

-- a call of a module by another
pub record IsCall (ks : List Known) (g : Graph) (k : Known) (at : Places) (es : ExprTrees) (xs : List Actual) (l : Known) : Type 0 where
  pub count : length (actuals_of es k.symbols) ≡ length l.read.dummies
  pub types : all_fit (actuals_of es k.symbols) l.symbols ≡ true
  pub lead : DummiesLead (length l.read.dummies) 1 l.symbols
  pub offers : AllOffer ks g k at es xs
  pub index : ℕ
  pub is_module : slice_get ks index ≡ Some l
  pub plain : is_plain l.read.name ≡ true

module _ (ks : List Known) (g : Graph) (k : Known) (at : Places) (es : ExprTrees) (xs : List Actual) (l : Known)
    (call : IsCall ks g k at es xs l) (are_at : AreAt ks g k at) (reach : BlocksReach ks g) (saved : SavedFound ks g) where
  -- the unit is of an expression, or of one of these variables of the caller
  abbrev pub IsOfCaller : List Variable → ℕ → Type 0
  IsOfCaller vs u = (is_own_unit (numbering ks g) u ≡ true) ⊎ ((w : Variable) × Stands w vs × Has ks g k at w u)

  -- ---- dummies

  of_actual : (e : ExprTree) (p : Place) (u : ℕ) → IsOwn ks g k at p ⊎ IsLent k at e p → in_place p u ≡ true → IsOfCaller (variable_named e k.symbols) u
  of_actual e p u (inl o) h =
      let b = in_bounds p u h in
      let one = o.0 in
      let same : p.first ≡ u = omega (arith, b.0, b.1, one) in
      inl (subst (λ v. is_own_unit (numbering ks g) v ≡ true) same o.1)
  of_actual e p u (inr r) h = inr (Own r.number, r.is_named, (r.symbol, r.is_symbol, r.is_known, r.within u h))

  of_dummy : (n : ℕ) (s : SymbolTree) (m u : ℕ) → symbol_at l.symbols n ≡ Some s → s.place ≡ place.Dummy m → in_place (offer_to m (places_of xs)) u ≡ true → IsOfCaller (actual_variable es (m - 1) k.symbols) u
  of_dummy n s m u e d h =
      let q = dummy_offer ks g k at es xs l call.count call.types call.lead call.offers n s m e d in
      let r = dummy_number (length l.read.dummies) l.symbols n s m call.lead e d in
      let low : 1 ≤ m = subst (λ j. 1 ≤ j) (sym r.0) r.1 in
      let here : in_place q.place u ≡ true = subst (λ p. in_place p u ≡ true) (offer_is ks g k at es xs l call.count call.types call.lead call.offers m q low) h in
      subst (λ vs. IsOfCaller vs u) (sym q.names_it) (of_actual q.expr q.place u q.offers here)

  -- ---- variables of blocks

  in_block : (n : ℕ) (s : SymbolTree) (b : List ℕ) (o u : ℕ) → symbol_at l.symbols n ≡ Some s → s.place ≡ place.Block b o → in_place (laid_at (unit_at (numbering ks g) (block b) o) l.symbols s) u ≡ true → in_place (block_place ks g b) u ≡ true
  in_block n s b o u e d h =
      let q = in_bounds (laid_at (unit_at (numbering ks g) (block b) o) l.symbols s) u h in
      let end = reach call.index l n s b o call.is_module e d in
      within_bounds (block_place ks g b) u (omega (arith, q.0)) (omega (arith, q.1, end))

  of_like : (s : SymbolTree) (b : List ℕ) (o u : ℕ) (j : ℕ) → first_like 1 k.symbols b o l.symbols s k.symbols ≡ Some j → in_place (laid_at (unit_at (numbering ks g) (block b) o) l.symbols s) u ≡ true → IsOfCaller (Own j ∷ []) u
  of_like s b o u j e h =
      let r = like_found 1 j k.symbols b o l.symbols s k.symbols e in
      let t = r.0 in
      let here : symbol_at k.symbols j ≡ Some t = numbered_at k.symbols j t r.1 r.2 in
      let lies = are_at.others j t here (ap is_dummy r.3.lies) ∙ fixed_at ks g k j t (place.Block b o) here r.3.lies in
      let size = r.3.size in
      let q = in_bounds (laid_at (unit_at (numbering ks g) (block b) o) l.symbols s) u h in
      let inside : in_place (laid_at (unit_at (numbering ks g) (block b) o) k.symbols t) u ≡ true = within_bounds (laid_at (unit_at (numbering ks g) (block b) o) k.symbols t) u q.0 (omega (arith, q.1, size)) in
      inr (Own j, inl refl, (t, here, subst (IsKnownBy k.symbols j t) (sym r.3.lies) tt, subst (λ p. in_place p u ≡ true) (sym lies) inside))
    where
      numbered_at : (ss : List SymbolTree) (m : ℕ) (t : SymbolTree) → 1 ≤ m → slice_get ss (m - 1) ≡ Some t → symbol_at ss m ≡ Some t
      numbered_at ss m t low i = go (nat_eq m 0) refl
        where
          go : (c : Bool) → nat_eq m 0 ≡ c → (if c then None else slice_get ss (m - 1)) ≡ Some t
          go true z = let y : m ≡ 0 = eqb-true m 0 z in absurd (omega (arith, y, low))
          go false z = i

  of_block : (n : ℕ) (s : SymbolTree) (b : List ℕ) (o u : ℕ) → symbol_at l.symbols n ≡ Some s → s.place ≡ place.Block b o → in_place (fixed (numbering ks g) l n) u ≡ true → IsOfCaller (or_block b (first_like 1 k.symbols b o l.symbols s k.symbols)) u
  of_block n s b o u e d h = go (first_like 1 k.symbols b o l.symbols s k.symbols) refl
    where
      laid : in_place (laid_at (unit_at (numbering ks g) (block b) o) l.symbols s) u ≡ true
      laid = subst (λ p. in_place p u ≡ true) (fixed_at ks g l n s (place.Block b o) e d) h

      go : (f : Option ℕ) → first_like 1 k.symbols b o l.symbols s k.symbols ≡ f → IsOfCaller (or_block b f) u
      go None q = inr (Block b, inl refl, in_block n s b o u e d laid)
      go (Some j) q = of_like s b o u j q laid

  -- ---- saved locals

  of_local : (n : ℕ) (s : SymbolTree) (u : ℕ) → number_from 1 (symbol_names l.symbols) s.name ≡ Some n → s.saved ≡ true → in_place (fixed (numbering ks g) l n) u ≡ true → IsOfCaller (if_saved s.saved l.read.name s.name) u
  of_local n s u first kept h =
      let there : in_place (saved_place ks g ks l.read.name s.name) u ≡ true = subst (λ p. in_place p u ≡ true) (sym (saved call.index l s.name n call.is_module first)) h in
      inr (Saved l.read.name s.name, subst (λ c. Stands (Saved l.read.name s.name) (if_saved c l.read.name s.name)) (sym kept) (inl refl), (call.plain, there))

  -- ---- each variable

  by_place : (n : ℕ) (s : SymbolTree) (p : SymbolPlace) (u : ℕ) → symbol_at l.symbols n ≡ Some s → s.place ≡ p → IsKnownBy l.symbols n s p → place_is_visible_to_callers p s.saved ≡ true →
      in_place (offered_place (fixed (numbering ks g) l n) (places_of xs) p) u ≡ true → IsOfCaller (at_place p s l.read.name es l.symbols k.symbols) u
  by_place n s (place.Local h o) u e d known out i = of_local n s u known out i
  by_place n s (place.Dummy m) u e d known out i = of_dummy n s m u e d i
  by_place n s (place.Block b o) u e d known out i = of_block n s b o u e d i
  by_place n s (place.Constant c) u e d known out i = absurd known

  pub translated : (v : Variable) (u : ℕ) → is_visible_to_callers l.symbols v ≡ true → Has ks g l (offered ks g l (places_of xs)) v u → IsOfCaller (in_caller v l.read.name es l.symbols k.symbols) u
  translated (Own n) u out h =
      let s = h.0 in
      let e = h.1 in
      let out' : place_is_visible_to_callers s.place s.saved ≡ true = subst (λ o. symbol_goes_out o ≡ true) e out in
      let here : in_place (offered_place (fixed (numbering ks g) l n) (places_of xs) s.place) u ≡ true = subst (λ o. in_place (offered_symbol (fixed (numbering ks g) l n) (places_of xs) o) u ≡ true) e h.3 in
      subst (λ o. IsOfCaller (symbol_in_caller o l.read.name es l.symbols k.symbols) u) (sym e) (by_place n s s.place u e refl h.2 out' here)
  translated (Block b) u out h = inr (Block b, inl refl, h)
  translated (Saved m x) u out h = inr (Saved m x, inl refl, h)
