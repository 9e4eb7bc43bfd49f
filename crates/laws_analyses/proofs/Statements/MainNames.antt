-- The names of a main program, and where they lie.
use Rattle.std.proofs.Common.{◌≡◌, ℕ, zero, suc, ◌+◌, ◌-◌, ◌<◌, List, [], ◌∷◌, ◌++◌, ◌||◌, ◌&&◌, not, map, Option, Some, None, Bool, true, false, refl, sym, ap, ◌∙◌, subst, arith, nat_eq, true≢false}
use Rattle.std.specs.Prelude.{if◌then◌else◌, slice_get, is_some}
use Rattle.std.proofs.lemmas.Bool.Decides.{nat_tests}
use Rattle.std.proofs.lemmas.Bool.{or_parts}
use Rattle.affine_systems.proofs.Basics.{if_cases}
use Rattle.f77_ast.specs.declared.decl.Scalar.{Scalar}
use Rattle.f77_ast.specs.Places.{Meant, Constant, Variable, Function, Place, Places}
use Rattle.f77_ast.specs.Calls.{Dummy, in_place}
use Rattle.f77_ast.specs.Writes.{Locks, no_locks}
use Rattle.f77_ast.specs.declared.symbol.Place.{Place as SymbolPlace}
use Rattle.f77_ast.specs.declared.symbol.Place.TheVariants as place
use Rattle.f77_ast.specs.declared.variable.Unit.{Unit as BlockUnit}
use Rattle.f77_ast.specs.Symbols.{BoundTree, SymbolTree, number_from, value_in}
use Rattle.f77_ast.specs.Units.{units_in, bounds_units}
use Rattle.f77_ast.specs.Shared.{symbol_at}
use Rattle.tracked_cells.specs.Equivalences.{equivalenced_names}
use Rattle.tracked_cells.specs.Standing.{has_bounds}
use Rattle.call_graph.specs.declared.graph.Graph.{Graph}
use Rattle.f77_meaning.specs.Areas.{Area, block, group, Numbering}
use Rattle.f77_meaning.specs.Modules.{Known, symbol_names, names, meant_by, meant_at, meant_in, is_function, dim_of, laid_at, fixed_place, fixed_maybe, fixed, as_dummy, dummies_from}
use Rattle.f77_meaning.specs.Linked.{numbering}
use Rattle.f77_meaning.specs.Laws.{area_of, Declared, IsKnown}
use Rattle.f77_meaning.proofs.BlockLaws.{areas_are_known}
use Rattle.f77_meaning.proofs.CellLaws.{cells_are_alone, one_each as one_unit}
use Rattle.affine_forms.specs.Scalars.{is_cell, if_cell}
use Rattle.affine_forms.specs.Claims.{unit_in}
use Rattle.preconditions.specs.call_translation.Scopes.{ScopeTree}
use Rattle.laws_analyses.specs.Statements.Activation.{NamesFit, scene_at, Fit}
use Rattle.laws_analyses.specs.Statements.Laws.{scope_of, is_dummy, has_dummy, is_scalar_symbol, scalar_at, is_scalar, IsAlone, IsMainAlone}
use Rattle.laws_analyses.proofs.UnitLaws.{in_own}
use Rattle.f77_ast.proofs.StorageLaws.{from_number as numbered_place}

-- ---- what a name of a variable stands for

meant_variable : (t : Scalar) (n v : ℕ) (p : SymbolPlace) → meant_by t n p ≡ Variable v → n ≡ v
meant_variable t n v (place.Local g o) e = cc
meant_variable t n v (place.Dummy k) e = cc
meant_variable t n v (place.Block b o) e = cc
meant_variable t n v (place.Constant c) e = cc

-- a symbol with its number, that stands for a variable
pub record IsVariable (ss : List SymbolTree) (x : List ℕ) (v : ℕ) : Type 0 where
  pub number : number_from 1 (symbol_names ss) x ≡ Some v
  pub symbol : SymbolTree
  pub is_symbol : symbol_at ss v ≡ Some symbol
  pub meant : meant_by symbol.scalar v symbol.place ≡ Variable v

at_symbol : (ss : List SymbolTree) (x : List ℕ) (n v : ℕ) (o : Option SymbolTree) → number_from 1 (symbol_names ss) x ≡ Some n → symbol_at ss n ≡ o → meant_at n o ≡ Variable v → IsVariable ss x v
at_symbol ss x n v None q k e = cc
at_symbol ss x n v (Some s) q k e =
    if_cases (λ y. y ≡ Variable v → IsVariable ss x v) (is_function s) Function (meant_by s.scalar n s.place) (λ h r. cc)
    (λ h r. (let same = meant_variable s.scalar n v s.place r in record { number = q ∙ ap Some same; symbol = s; is_symbol = ap (symbol_at ss) (sym same) ∙ k; meant = ap (λ y. meant_by s.scalar y s.place) (sym same) ∙ r })) e

pub variable_of : (ss : List SymbolTree) (x : List ℕ) (v : ℕ) → names ss x ≡ Variable v → IsVariable ss x v
variable_of ss x v e = go (number_from 1 (symbol_names ss) x) refl e
  where
    go : (o : Option ℕ) → number_from 1 (symbol_names ss) x ≡ o → meant_in ss o ≡ Variable v → IsVariable ss x v
    go None q k = cc
    go (Some n) q k = at_symbol ss x n v (symbol_at ss n) q refl k

-- ---- no dummies

none_dummy : (ss : List SymbolTree) (i : ℕ) (s : SymbolTree) → has_dummy ss ≡ false → slice_get ss i ≡ Some s → is_dummy s.place ≡ false
none_dummy [] i s h e = cc
none_dummy (t ∷ ss) zero s h e = let same : t ≡ s = cc in ap (λ y. is_dummy y.place) (sym same) ∙ (or_parts (is_dummy t.place) (has_dummy ss) h).0
none_dummy (t ∷ ss) (suc i) s h e = none_dummy ss i s (or_parts (is_dummy t.place) (has_dummy ss) h).1 e

no_dummy_of : (n : ℕ) (s : SymbolTree) (p : SymbolPlace) → is_dummy p ≡ false → as_dummy n s p ≡ []
no_dummy_of n s (place.Local g o) h = refl
no_dummy_of n s (place.Dummy k) h = absurd (true≢false h)
no_dummy_of n s (place.Block b o) h = refl
no_dummy_of n s (place.Constant c) h = refl

pub no_dummies : (n : ℕ) (ss : List SymbolTree) → has_dummy ss ≡ false → dummies_from n ss ≡ []
no_dummies n [] h = refl
no_dummies n (s ∷ ss) h = let o = or_parts (is_dummy s.place) (has_dummy ss) h in ap (λ ds. ds ++ dummies_from (suc n) ss) (no_dummy_of n s s.place o.0) ∙ no_dummies (suc n) ss o.1

-- ---- places

area_there : (m : List ℕ) (t : Scalar) (v : ℕ) (p : SymbolPlace) → is_dummy p ≡ false → meant_by t v p ≡ Variable v → (a : Area) × (area_of m p ≡ Some a)
area_there m t v (place.Local g o) h e = (group m g, refl)
area_there m t v (place.Dummy k) h e = absurd (true≢false h)
area_there m t v (place.Block b o) h e = (block b, refl)
area_there m t v (place.Constant c) h e = cc

pub record LaidOut (p : Place) (ss : List SymbolTree) (s : SymbolTree) : Type 0 where
  pub extent : p.extent ≡ units_in ss s
  pub dims : p.dims ≡ map (dim_of ss) s.bounds

laid : (g : Numbering) (m : List ℕ) (ss : List SymbolTree) (s : SymbolTree) (p : SymbolPlace) (a : Area) → area_of m p ≡ Some a → LaidOut (fixed_place g m ss s p) ss s
laid g m ss s (place.Local n o) a e = record { extent = refl; dims = refl }
laid g m ss s (place.Dummy k) a e = cc
laid g m ss s (place.Block b o) a e = record { extent = refl; dims = refl }
laid g m ss s (place.Constant v) a e = cc

laid_symbol : (g : Numbering) (k : Known) (n : ℕ) (s : SymbolTree) (a : Area) → symbol_at k.symbols n ≡ Some s → area_of k.read.name s.place ≡ Some a → LaidOut (fixed g k n) k.symbols s
laid_symbol g k n s a q e = subst (λ o. LaidOut (fixed_maybe g k.read.name k.symbols o) k.symbols s) (sym q) (laid g k.read.name k.symbols s s.place a e)

-- a scalar has no bounds
no_bounds : (bs : List BoundTree) → not (has_bounds bs) ≡ true → bs ≡ []
no_bounds [] h = refl
no_bounds (b ∷ bs) h = absurd (true≢false (sym h))

-- no unit of a block is far, and none has to stay
abbrev pub far : BlockUnit → Bool
far u = false

abbrev pub place_of : BlockUnit → ℕ
place_of u = 0

abbrev pub still : ℕ → Bool
still u = false

module _ (ks : List Known) (g : Graph) (k : Known) (flags : List Bool) (h : IsMainAlone ks g k flags) where
  abbrev at : Places
  at = fixed (numbering ks g) k

  abbrev m : ScopeTree
  m = scope_of k.symbols flags

  if_tracked : (v : ℕ) → is_cell flags v ≡ true → if_cell flags (Some v) ≡ Some v
  if_tracked v t = ap (λ b. if b then Some v else None) t

  pub names_fit : NamesFit (names k.symbols) m
  names_fit = record {
    agrees = h.agrees;
    numbers = λ x v e. (variable_of k.symbols x v e).number;
    cells = λ x v e t. ap (if_cell flags) (variable_of k.symbols x v e).number ∙ if_tracked v t;
  }

  declared : (v : ℕ) (s : SymbolTree) → symbol_at k.symbols v ≡ Some s → Declared ks k v s
  declared v s q = record { at = h.at; is_module = h.is_module; is_symbol = q }

  -- a cell has one unit
  cell_extent : (c : ℕ) → is_cell flags c ≡ true → (at c).extent ≡ 1
  cell_extent c t = let a = h.cells c t in (laid_symbol (numbering ks g) k c a.symbol a.area a.is_symbol a.lies).extent ∙ one_unit k.symbols a.symbol a.scalar

  cell_flat : (c : ℕ) → is_cell flags c ≡ true → (at c).dims ≡ []
  cell_flat c t = let a = h.cells c t in (laid_symbol (numbering ks g) k c a.symbol a.area a.is_symbol a.lies).dims ∙ ap (map (dim_of k.symbols)) a.scalar

  first_in : (c : ℕ) → is_cell flags c ≡ true → in_place (at c) (unit_in at c) ≡ true
  first_in c t = let one = cell_extent c t in let off : unit_in at c + 0 ≡ unit_in at c = omega arith in subst (λ u. in_place (at c) u ≡ true) off (in_own (at c) 0 (omega (arith, one)))

  other_number : (v c : ℕ) → nat_eq v c ≡ false → c ≡ v → ⊥
  other_number v c d e = grind (arith, nat_tests)

  -- a unit of a cell is none of another name
  apart : (x : List ℕ) (v n c : ℕ) → names k.symbols x ≡ Variable v → n < (at v).extent → is_cell flags c ≡ true → nat_eq v c ≡ false → (at v).first + n ≡ unit_in at c → ⊥
  apart x v n c e small t d q =
      let y = variable_of k.symbols x v e in
      let a = h.cells c t in
      let p = none_dummy k.symbols (v - 1) y.symbol h.no_dummy (numbered_place k.symbols v y.symbol y.is_symbol) in
      let b = area_there k.read.name y.symbol.scalar v y.symbol.place p y.meant in
      let dc = declared c a.symbol a.is_symbol in
      let dv = declared v y.symbol y.is_symbol in
      let no = cells_are_alone ks g k c v a.symbol y.symbol a.area b.0 (equivalenced_names k.read) (unit_in at c) dc dv (other_number v c d) a.lies b.1 (areas_are_known ks g k c a.symbol a.area h.blocks dc a.lies) (areas_are_known ks g k v y.symbol b.0 h.blocks dv b.1) a.scalar a.alone (first_in c t) in
      true≢false (sym (subst (λ u. in_place (at v) u ≡ true) q (in_own (at v) n small)) ∙ no)

  solid : (x : List ℕ) (v : ℕ) → names k.symbols x ≡ Variable v → is_scalar k.symbols x ≡ true → 0 < (at v).extent
  solid x v e sc =
      let y = variable_of k.symbols x v e in
      let p = none_dummy k.symbols (v - 1) y.symbol h.no_dummy (numbered_place k.symbols v y.symbol y.is_symbol) in
      let b = area_there k.read.name y.symbol.scalar v y.symbol.place p y.meant in
      let s1 = ap (λ o. scalar_at k.symbols o) (sym y.number) ∙ sc in
      let s2 = ap is_scalar_symbol (sym y.is_symbol) ∙ s1 in
      let one = (laid_symbol (numbering ks g) k v y.symbol b.0 y.is_symbol b.1).extent ∙ one_unit k.symbols y.symbol (no_bounds y.symbol.bounds s2) in
      omega (arith, one)

  pub main_fit : Fit (names k.symbols) (is_scalar k.symbols) at (scene_at m at far place_of) no_locks still
  main_fit = record {
    apart = λ x v n c e small t d q. absurd (apart x v n c e small t d q);
    stays = λ x v n e small s. absurd (true≢false (sym s));
    near = λ x v n e small u f q. true≢false (sym f);
    solid = solid;
    flat = λ x v e t. cell_flat v t;
  }
