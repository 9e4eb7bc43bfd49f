-- A tracked cell shares its unit only where that is reached doubly.
use Rattle.std.proofs.Common.{◌≡◌, ℕ, Bool, true, false, List, [], ◌∷◌, Some, refl, sym, ap, ◌∙◌}
use Rattle.std.specs.Prelude.{nat_eq, ◌&&◌, ◌||◌}
use Rattle.std.proofs.lemmas.Bool.{and_from, or_left, or_right, eqb-true}
use Rattle.f77_ast.specs.DeclTrees.{ParsedTree}
use Rattle.f77_ast.specs.Places.{Place as RunPlace, Places}
use Rattle.f77_ast.specs.Calls.{Dummy, in_place, in_dummies, doubly_reached}
use Rattle.f77_ast.specs.declared.symbol.Place.{Place}
use Rattle.f77_ast.specs.declared.symbol.Place.TheVariants as place
use Rattle.f77_ast.specs.Symbols.{SymbolTree}
use Rattle.f77_ast.specs.Shared.{symbol_at}
use Rattle.call_graph.specs.declared.graph.Graph.{Graph}
use Rattle.call_graph.specs.declared.graph.Block.{Block}
use Rattle.f77_meaning.specs.Areas.{Area, block, group}
use Rattle.f77_meaning.specs.Modules.{known_of, fixed, dummies_from}
use Rattle.f77_meaning.specs.Linked.{is_common}
use Rattle.f77_meaning.specs.Laws.{area_of}
use Rattle.laws_programs.specs.Storage.Programs.{IsLinked, IsModule, IsCell, known}
use Rattle.laws_programs.specs.Storage.CellLaws.{units}
use Rattle.laws_programs.specs.Storage.Activations.{is_dummy, Entered, KeepOffLocals, SharedCellsAreLocked}
use Rattle.laws_programs.proofs.Storage.CellLaws.{cells_stand_alone}
use Rattle.laws_programs.proofs.Storage.LyingLaws.{common_names_are_common, variable_of, Lying, lying_dummy, lying_local, lying_common, lying, cell_variable}

-- ---- units reached doubly

is_other : (v c : ℕ) → (v ≡ c → ⊥) → (s : ℕ) → nat_eq s v ≡ true → nat_eq s c ≡ true → ⊥
is_other v c n s e f = n (sym (eqb-true s v e) ∙ eqb-true s c f)

dummy_reaches : (ds : List Dummy) (at : Places) (v u : ℕ) → is_dummy ds v ≡ true → in_place (at v) u ≡ true → in_dummies ds at u ≡ true
dummy_reaches [] at v u d h = cc
dummy_reaches (x ∷ ds) at v u d h = go (nat_eq x.symbol v) refl d (λ q. dummy_reaches ds at v u q h)
  where
    go : (b : Bool) → nat_eq x.symbol v ≡ b → (b || is_dummy ds v) ≡ true → (is_dummy ds v ≡ true → in_dummies ds at u ≡ true) → (in_place (at x.symbol) u || in_dummies ds at u) ≡ true
    go true e q ih = or_left (in_place (at x.symbol) u) (in_dummies ds at u) (ap (λ k. in_place (at k) u) (eqb-true x.symbol v e) ∙ h)
    go false e q ih = or_right (in_place (at x.symbol) u) (in_dummies ds at u) (ih q)

module _ (at : Places) (common : ℕ → Bool) (u : ℕ) where
  -- by the first of these dummies and by a later one, or as a unit of COMMON
  first_twice : (x : Dummy) (ds : List Dummy) → in_place (at x.symbol) u ≡ true → (in_dummies ds at u || common u) ≡ true → doubly_reached (x ∷ ds) at common u ≡ true
  first_twice x ds h k = or_left (in_place (at x.symbol) u && (in_dummies ds at u || common u)) (doubly_reached ds at common u) (and_from (in_place (at x.symbol) u) (in_dummies ds at u || common u) h k)

  later_twice : (x : Dummy) (ds : List Dummy) → doubly_reached ds at common u ≡ true → doubly_reached (x ∷ ds) at common u ≡ true
  later_twice x ds h = or_right (in_place (at x.symbol) u && (in_dummies ds at u || common u)) (doubly_reached ds at common u) h

  pub common_twice : (ds : List Dummy) (v : ℕ) → is_dummy ds v ≡ true → in_place (at v) u ≡ true → common u ≡ true → doubly_reached ds at common u ≡ true
  common_twice [] v d h k = cc
  common_twice (x ∷ ds) v d h k = go (nat_eq x.symbol v) refl d (λ q. common_twice ds v q h k)
    where
      go : (b : Bool) → nat_eq x.symbol v ≡ b → (b || is_dummy ds v) ≡ true → (is_dummy ds v ≡ true → doubly_reached ds at common u ≡ true) → doubly_reached (x ∷ ds) at common u ≡ true
      go true e q ih = first_twice x ds (ap (λ j. in_place (at j) u) (eqb-true x.symbol v e) ∙ h) (or_right (in_dummies ds at u) (common u) k)
      go false e q ih = later_twice x ds (ih q)

  pub dummies_twice : (ds : List Dummy) (v c : ℕ) → (v ≡ c → ⊥) → is_dummy ds v ≡ true → is_dummy ds c ≡ true → in_place (at v) u ≡ true → in_place (at c) u ≡ true → doubly_reached ds at common u ≡ true
  dummies_twice [] v c n d f h k = cc
  dummies_twice (x ∷ ds) v c n d f h k = go (nat_eq x.symbol v) (nat_eq x.symbol c) refl refl d f (λ p q. dummies_twice ds v c n p q h k)
    where
      go : (a b : Bool) → nat_eq x.symbol v ≡ a → nat_eq x.symbol c ≡ b → (a || is_dummy ds v) ≡ true → (b || is_dummy ds c) ≡ true → (is_dummy ds v ≡ true → is_dummy ds c ≡ true → doubly_reached ds at common u ≡ true) → doubly_reached (x ∷ ds) at common u ≡ true
      go true true e i p q ih = absurd (is_other v c n x.symbol e i)
      go true false e i p q ih = first_twice x ds (ap (λ j. in_place (at j) u) (eqb-true x.symbol v e) ∙ h) (or_left (in_dummies ds at u) (common u) (dummy_reaches ds at c u q k))
      go false true e i p q ih = first_twice x ds (ap (λ j. in_place (at j) u) (eqb-true x.symbol c i) ∙ k) (or_left (in_dummies ds at u) (common u) (dummy_reaches ds at v u p h))
      go false false e i p q ih = later_twice x ds (ih p q)

-- ---- tracked cells

module _ (ps : List ParsedTree) (sss : List (List SymbolTree)) (g : Graph) (l : IsLinked ps sss g) (i : ℕ) (p : ParsedTree) (ss : List SymbolTree) (m : IsModule ps sss i p ss) (qs : List RunPlace) (at : Places) (en : Entered (dummies_from 1 ss) qs (fixed (units ps sss g) (known p ss)) at) (off : KeepOffLocals ps sss g p ss at) (c v u : ℕ) (s : SymbolTree) (cell : IsCell g p ss c s) (apart : v ≡ c → ⊥) (hv : in_place (at v) u ≡ true) (hc : in_place (at c) u ≡ true) where
  abbrev Twice : Type 0
  Twice = doubly_reached (dummies_from 1 ss) at (is_common (known_of ps sss) g p.module_read.name) u ≡ true

  -- a name that is no dummy
  stays : (n : ℕ) → is_dummy (dummies_from 1 ss) n ≡ false → in_place (at n) u ≡ true → in_place (fixed (units ps sss g) (known p ss) n) u ≡ true
  stays n f h = ap (λ q. in_place q u) (sym (en.others n f)) ∙ h

  -- a dummy and a local never meet
  local_apart : (n k : ℕ) (t : SymbolTree) (h o : ℕ) → is_dummy (dummies_from 1 ss) n ≡ true → in_place (at n) u ≡ true → symbol_at ss k ≡ Some t → t.place ≡ place.Local h o → is_dummy (dummies_from 1 ss) k ≡ false → in_place (at k) u ≡ true → Twice
  local_apart n k t h o d x e q f y =
      let no = off n u d x k h t e (ap (area_of p.module_read.name) q) in
      let z : true ≡ false = sym (stays k f y) ∙ no in
      cc

  -- a dummy and a variable in COMMON
  common_apart : (n k : ℕ) (t : SymbolTree) (b : List ℕ) (o : ℕ) → is_dummy (dummies_from 1 ss) n ≡ true → in_place (at n) u ≡ true → symbol_at ss k ≡ Some t → t.place ≡ place.Block b o → is_dummy (dummies_from 1 ss) k ≡ false → in_place (at k) u ≡ true → Twice
  common_apart n k t b o d x e q f y =
      common_twice at (is_common (known_of ps sss) g p.module_read.name) u (dummies_from 1 ss) n d x (common_names_are_common ps sss g l i p ss m k u t b o e q (stays k f y))

  -- two names that are no dummies
  fixed_apart : (a : Area) → area_of p.module_read.name s.place ≡ Some a → is_dummy (dummies_from 1 ss) c ≡ false → is_dummy (dummies_from 1 ss) v ≡ false → Twice
  fixed_apart a e f h =
      let no = cells_stand_alone ps sss g l i p ss m c s a cell e v u apart (stays c f hc) in
      let z : true ≡ false = sym (stays v h hv) ∙ no in
      cc

  cell_area : (t : SymbolTree) → symbol_at ss c ≡ Some t → (q : Place) → t.place ≡ q → area_of p.module_read.name s.place ≡ area_of p.module_read.name q
  cell_area t e q h = let same : s ≡ t = (let z : Some s ≡ Some t = sym cell.is_symbol ∙ e in cc) in ap (λ z. area_of p.module_read.name z.place) same ∙ ap (area_of p.module_read.name) h

  pub by_kinds : Lying ss c → Lying ss v → Twice
  by_kinds (lying_dummy d) (lying_dummy e) = dummies_twice at (is_common (known_of ps sss) g p.module_read.name) u (dummies_from 1 ss) v c apart e d hv hc
  by_kinds (lying_dummy d) (lying_local t h o e q f) = local_apart c v t h o d hc e q f hv
  by_kinds (lying_dummy d) (lying_common t b o e q f) = common_apart c v t b o d hc e q f hv
  by_kinds (lying_local t h o e q f) (lying_dummy d) = local_apart v c t h o d hv e q f hc
  by_kinds (lying_common t b o e q f) (lying_dummy d) = common_apart v c t b o d hv e q f hc
  by_kinds (lying_local t h o e q f) (lying_local t' h' o' e' q' f') = fixed_apart (group p.module_read.name h) (cell_area t e (place.Local h o) q) f f'
  by_kinds (lying_local t h o e q f) (lying_common t' b' o' e' q' f') = fixed_apart (group p.module_read.name h) (cell_area t e (place.Local h o) q) f f'
  by_kinds (lying_common t b o e q f) (lying_local t' h' o' e' q' f') = fixed_apart (block b) (cell_area t e (place.Block b o) q) f f'
  by_kinds (lying_common t b o e q f) (lying_common t' b' o' e' q' f') = fixed_apart (block b) (cell_area t e (place.Block b o) q) f f'

pub shared_cells_are_locked : SharedCellsAreLocked
shared_cells_are_locked ps sss g l i p ss m qs at en off c s cell x v u named apart hv hc =
    by_kinds ps sss g l i p ss m qs at en off c v u s cell apart hv hc (lying ss c (cell_variable g p ss c s cell)) (lying ss v (variable_of ss x v named))
