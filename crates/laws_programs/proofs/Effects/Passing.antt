-- Units that pass away with the activations of modules, and what else goes out of a module.
use Rattle.std.proofs.Common.{◌≡◌, ◌⊎◌, inl, inr, ℕ, zero, suc, ◌+◌, ◌-◌, ◌≤◌, ◌<◌, Bool, true, false, List, [], ◌∷◌, Some, refl, sym, ap, ◌∙◌, subst, arith}
use Rattle.std.specs.Prelude.{if◌then◌else◌, ◌||◌, nat_eq, slice_get}
use Rattle.std.specs.List.{list_any}
use Rattle.std.proofs.lemmas.Bool.{eq-eqb}
use Rattle.f77_ast.specs.Places.{Places}
use Rattle.f77_ast.specs.Calls.{in_place}
use Rattle.f77_ast.specs.declared.symbol.Place.{Place as SymbolPlace}
use Rattle.f77_ast.specs.declared.symbol.Place.TheVariants as place
use Rattle.f77_ast.specs.declared.variable.Variable.{Variable}
use Rattle.f77_ast.specs.declared.variable.Variable.TheVariants.{Own, Block, Saved}
use Rattle.f77_ast.specs.Symbols.{SymbolTree}
use Rattle.f77_ast.specs.Units.{units_in}
use Rattle.f77_ast.specs.Shared.{symbol_at}
use Rattle.call_graph.specs.declared.graph.Graph.{Graph}
use Rattle.f77_meaning.specs.Areas.{Numbering, group, unit_at}
use Rattle.f77_meaning.specs.Modules.{Known, laid_at, fixed, units_from, lost_units, all_lost}
use Rattle.f77_meaning.specs.Linked.{numbering}
use Rattle.f77_meaning.specs.Accesses.{is_entry_of}
use Rattle.laws_programs.specs.Effects.Tables.{is_dummy}
use Rattle.laws_programs.proofs.Effects.Access.{Passing}
use Rattle.laws_programs.proofs.Effects.Units.{IsKnownBy, Has}
use Rattle.laws_programs.proofs.Effects.Callers.{fixed_at}
use Rattle.f77_ast.proofs.StorageLaws.{from_number as numbered_place}
use Rattle.f77_meaning.proofs.ModuleLaws.{in_laid as in_bounds}
use Rattle.call_graph.specs.Visible.{place_is_visible_to_callers, symbol_goes_out, is_visible_to_callers}
use Rattle.fx_lists.proofs.Lists.{any_left, any_right}

-- a unit of a local, not saved, of the module
abbrev pub has_lost : List Known → Graph → Known → ℕ → Bool
has_lost ks g k u = list_any (λ v. nat_eq v u) (all_lost (numbering ks g) k.read.name k.symbols k.symbols)

-- of the module that is entered
abbrev pub passing : List Known → Graph → Passing
passing ks g p u = (i : ℕ) × (k : Known) × (slice_get ks i ≡ Some k) × (is_entry_of k.read.name p ≡ true) × (has_lost ks g k u ≡ true)

-- ---- which units these are

pub among_units : (first count u : ℕ) → first ≤ u → u < first + count → list_any (λ v. nat_eq v u) (units_from first count) ≡ true
among_units first zero u h i = absurd (omega (arith, h, i))
among_units first (suc n) u h i = go (nat_eq first u) refl (among_units (suc first) n u)
  where
    go : (b : Bool) → nat_eq first u ≡ b → (suc first ≤ u → u < suc first + n → list_any (λ v. nat_eq v u) (units_from (suc first) n) ≡ true) → (b || list_any (λ v. nat_eq v u) (units_from (suc first) n)) ≡ true
    go true q ih = refl
    go false q ih = ih (other (nat_eq first u) refl q) (omega (arith, i))
      where
        other : (c : Bool) → nat_eq first u ≡ c → c ≡ false → suc first ≤ u
        other c e f = later (λ z. let t : nat_eq first u ≡ true = eq-eqb first u z in let y : true ≡ false = sym t ∙ e ∙ f in cc)
          where
            later : (first ≡ u → ⊥) → suc first ≤ u
            later ne = grind (arith, h, ne)

pub of_symbols : (n : Numbering) (m : List ℕ) (ss rest : List SymbolTree) (i : ℕ) (s : SymbolTree) (u : ℕ) → slice_get rest i ≡ Some s → list_any (λ v. nat_eq v u) (lost_units n m ss s s.place) ≡ true → list_any (λ v. nat_eq v u) (all_lost n m ss rest) ≡ true
of_symbols n m ss [] i s u e h = cc
of_symbols n m ss (t ∷ rest) zero s u e h =
    let same : t ≡ s = cc in
    any_left (λ v. nat_eq v u) (lost_units n m ss t t.place) (all_lost n m ss rest) (subst (λ x. list_any (λ v. nat_eq v u) (lost_units n m ss x x.place) ≡ true) (sym same) h)
of_symbols n m ss (t ∷ rest) (suc i) s u e h = any_right (λ v. nat_eq v u) (lost_units n m ss t t.place) (all_lost n m ss rest) (of_symbols n m ss rest i s u e h)

module _ (ks : List Known) (g : Graph) (l : Known) where
  -- every unit of such a local is one
  unsaved_lost : (n : ℕ) (s : SymbolTree) (h o u : ℕ) → symbol_at l.symbols n ≡ Some s → s.place ≡ place.Local h o → s.saved ≡ false → in_place (fixed (numbering ks g) l n) u ≡ true → has_lost ks g l u ≡ true
  unsaved_lost n s h o u e d kept i =
      let b = in_bounds (laid_at (unit_at (numbering ks g) (group l.read.name h) o) l.symbols s) u (subst (λ p. in_place p u ≡ true) (fixed_at ks g l n s (place.Local h o) e d) i) in
      let units = among_units (unit_at (numbering ks g) (group l.read.name h) o) (units_in l.symbols s) u b.0 b.1 in
      let here : list_any (λ v. nat_eq v u) (if s.saved then [] else units_from (unit_at (numbering ks g) (group l.read.name h) o) (units_in l.symbols s)) ≡ true =
      subst (λ c. list_any (λ v. nat_eq v u) (if c then [] else units_from (unit_at (numbering ks g) (group l.read.name h) o) (units_in l.symbols s)) ≡ true) (sym kept) units in
      of_symbols (numbering ks g) l.read.name l.symbols l.symbols (n - 1) s u (numbered_place l.symbols n s e) (subst (λ p. list_any (λ v. nat_eq v u) (lost_units (numbering ks g) l.read.name l.symbols s p) ≡ true) (sym d) here)

  -- a variable goes out of its module, or its units pass away
  pub out_or_lost : (at : Places) → ((n : ℕ) (s : SymbolTree) → symbol_at l.symbols n ≡ Some s → is_dummy s.place ≡ false → at n ≡ fixed (numbering ks g) l n) → (v : Variable) (u : ℕ) → Has ks g l at v u → (is_visible_to_callers l.symbols v ≡ true) ⊎ (has_lost ks g l u ≡ true)
  out_or_lost at others (Own n) u h = go h.0 h.0.place h.1 refl h.2
    where
      out : (s : SymbolTree) (p : SymbolPlace) → symbol_at l.symbols n ≡ Some s → s.place ≡ p → place_is_visible_to_callers p s.saved ≡ true → symbol_goes_out (symbol_at l.symbols n) ≡ true
      out s p e d o = subst (λ x. symbol_goes_out x ≡ true) (sym e) (subst (λ x. place_is_visible_to_callers x s.saved ≡ true) (sym d) o)

      local : (s : SymbolTree) (r o : ℕ) (b : Bool) → s.saved ≡ b → symbol_at l.symbols n ≡ Some s → s.place ≡ place.Local r o → (symbol_goes_out (symbol_at l.symbols n) ≡ true) ⊎ (has_lost ks g l u ≡ true)
      local s r o true k e d = inl (out s (place.Local r o) e d k)
      local s r o false k e d = inr (unsaved_lost n s r o u e d k (subst (λ q. in_place q u ≡ true) (others n s e (ap is_dummy d)) h.3))

      go : (s : SymbolTree) (p : SymbolPlace) → symbol_at l.symbols n ≡ Some s → s.place ≡ p → IsKnownBy l.symbols n s p → (symbol_goes_out (symbol_at l.symbols n) ≡ true) ⊎ (has_lost ks g l u ≡ true)
      go s (place.Local r o) e d k = local s r o s.saved refl e d
      go s (place.Dummy m) e d k = inl (out s (place.Dummy m) e d refl)
      go s (place.Block b o) e d k = inl (out s (place.Block b o) e d refl)
      go s (place.Constant v) e d k = absurd k
  out_or_lost at others (Block b) u h = inl refl
  out_or_lost at others (Saved m x) u h = inl refl
