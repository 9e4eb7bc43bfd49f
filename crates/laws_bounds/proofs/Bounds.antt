-- The bounds of the variables of a module that runs: those that name no variable which a statement changes have the values of the dimensions
-- wherever one of its statements begins.
use Rattle.std.proofs.Common.{◌≡◌, ⊎_elim, ℕ, ◌≤◌, List, [], ◌∷◌, map, Some, true, false, refl, sym, ap, ◌∙◌, subst, arith}
use Rattle.f77_ast.specs.Trees as tree
use Rattle.f77_ast.specs.Store.{Store}
use Rattle.f77_ast.specs.Places.{Names, Variable, Dim, Place, Places, scalar_place, total_size}
use Rattle.f77_ast.specs.Calls.{is_open, ends_open}
use Rattle.f77_ast.specs.Symbols.{BoundTree, SymbolTree, number_from}
use Rattle.f77_ast.specs.Shared.{symbol_at}
use Rattle.call_graph.specs.declared.graph.Graph.{Graph}
use Rattle.f77_meaning.specs.Modules.{Known, bound_of}
use Rattle.affine_forms.specs.Forms.{affine_of}
use Rattle.affine_forms.specs.Scalars.{is_cell}
use Rattle.affine_forms.specs.Claims.{Agrees, AtStart, unit_in, numbers_of}
use Rattle.preconditions.specs.call_translation.Scopes.{ScopeTree}
use Rattle.preconditions.specs.transformer_algebra.Cells.{has}
use Rattle.in_out_regions.specs.call_equations.Forms.{unless_among}
use Rattle.in_out_regions.specs.call_equations.Sides.{SidesTree}
use Rattle.in_out_regions.specs.region_translation.Claims.{BoundMeans, EachDim}
use Rattle.laws_programs.proofs.Storage.PositionLaws.{Closed}
use Rattle.laws_analyses.proofs.Calls.Bound.{scalars_fixed, scalars_dummy}
use Rattle.laws_analyses.proofs.Calls.Enter.{find_dummy}
use Rattle.laws_analyses.specs.Calls.Parts.{Blocks, Part, DummyOf, NoDummy, nth, places_in as dummy_places, scene_in, Sane}
use Rattle.laws_analyses.specs.Regions.Programs.{Regular, Joins, ConstantsAre}
use Rattle.laws_analyses.proofs.Regions.Arrays.{ArrayIs, BoundsMean}
use Rattle.laws_analyses.proofs.Regions.AtEntries.{bound_first}
use Rattle.laws_analyses.proofs.Regions.CalledShown.{Bound}
use Rattle.laws_analyses.proofs.Regions.Outlines.{actual_bounds_mean, constants_mean, unless_some}
use Rattle.laws_analyses.proofs.SiteLaws.{no_bounds_back as no_map}

-- a variable of a name, where a statement begins with the store s
pub record VariableIs (m : ScopeTree) (changed : List ℕ) (at : Places) (s : Store) (x : List ℕ) (v : ℕ) : Type 0 where
  pub symbol : SymbolTree
  pub number : number_from 1 m.names x ≡ Some v
  pub is_symbol : symbol_at m.symbols v ≡ Some symbol
  pub bounds : EachDim (BoundMeans (λ e. unless_among changed (affine_of m.scalars e)) (AtStart (is_cell m.tracked) (unit_in at) (numbers_of s))) symbol.bounds (at v).dims
  pub reaches : Closed (at v).dims → total_size (at v).dims ≤ (at v).extent

pub record VariablesAre (w : Names) (m : ScopeTree) (changed : List ℕ) (at : Places) (s : Store) : Type 0 where
  pub agrees : Agrees w m.scalars (is_cell m.tracked)
  pub each : (x : List ℕ) (v : ℕ) → w x ≡ Variable v → VariableIs m changed at s x v

closed_shut : (ds : List Dim) → Closed ds → is_open ds ≡ false
closed_shut [] c = refl
closed_shut (d ∷ ds) c = ap (λ o. ends_open o (is_open ds)) c.0.1 ∙ closed_shut ds c.1

-- began: the store at the entry; changed: the cells that some statement changes
module _ (ks : List Known) (g : Graph) (b : Blocks) (k : Part) (sane : Sane b k) (regular : Regular k) (joins : Joins ks g k) (changed : List ℕ) (ps : List Place) (began : Store) (at : Places) (bound : Bound g b k sane ps began at) where
  -- such cells aside, numbers are those of the entry
  module _ (z : Store) (steady : (c : ℕ) → is_cell k.scope.tracked c ≡ true → has changed c ≡ false → numbers_of z (unit_in at c) ≡ numbers_of began (unit_in at c)) where
    -- the module as one that calls
    abbrev side : SidesTree
    side = record { caller = k.scope; changed = changed; name = []; actuals = tree.no_exprs; callee = k.scope }

    first_units : ◌≡◌ {A = ℕ → ℕ} (λ n. unit_in (dummy_places k ps) n) (λ n. unit_in at n)
    first_units = λ i n. sym (bound_first g b k sane ps began at bound n) i

    module _ (x : List ℕ) (v : ℕ) (meant : k.routine.names x ≡ Variable v) where
      abbrev t : SymbolTree
      t = (regular.variables x v meant).symbol

      abbrev Says : List BoundTree → Type 0
      Says bs = EachDim (BoundMeans (λ e. unless_among changed (affine_of k.scope.scalars e)) (AtStart (is_cell k.scope.tracked) (unit_in at) (numbers_of z))) bs (at v).dims × (Closed (at v).dims → total_size (at v).dims ≤ (at v).extent)

      -- one that is no dummy
      fixed_is : NoDummy k.routine.dummies v → Says t.bounds
      fixed_is none =
          let f = joins.fixed v t (regular.variables x v meant).is_symbol (regular.variables x v meant).stored none in
          let same : at v ≡ k.routine.fixed v = bound.made.other v none ∙ scalars_fixed k.routine.dummies ps k.routine.fixed v none in
          let constants = subst (λ (p : Place). ConstantsAre k.scope.scalars.value t.bounds p.dims) (sym same) f.constants in
          let sizes : (at v).extent ≡ total_size (at v).dims = subst (λ (p : Place). p.extent ≡ total_size p.dims) (sym same) f.sizes in (
            constants_mean k.scope.scalars (λ e. unless_among changed (affine_of k.scope.scalars e)) (λ a f q. (unless_some changed (affine_of k.scope.scalars a) f q).0) (AtStart (is_cell k.scope.tracked) (unit_in at) (numbers_of z)) t.bounds (at v).dims constants,
            (λ c. omega (arith, sizes)),
          )

      -- a dummy
      dummy_is : DummyOf k.routine.dummies v → Says t.bounds
      dummy_is d = go t.bounds refl
        where
          table : d.dummy.bounds ≡ map bound_of t.bounds
          table = joins.bounds d.at d.dummy t d.is_dummy (ap (symbol_at k.scope.symbols) d.symbol ∙ (regular.variables x v meant).is_symbol)

          flat : t.bounds ≡ [] → Says []
          flat q =
              let none : d.dummy.bounds ≡ [] = table ∙ ap (map bound_of) q in
              let lies : at v ≡ scalar_place (nth ps d.at).first d.dummy.tag =
              ap at (sym d.symbol) ∙ (⊎_elim (λ a. a.1 ∙ scalars_dummy k.routine.dummies ps k.routine.fixed d.at d.dummy sane.distinct d.is_dummy) (λ a. absurd (a.0 none)) (bound.made.dummy d.at d.dummy d.is_dummy)) in (
                subst (λ (p : Place). EachDim (BoundMeans (λ e. unless_among changed (affine_of k.scope.scalars e)) (AtStart (is_cell k.scope.tracked) (unit_in at) (numbers_of z))) [] p.dims) (sym lies) tt,
                subst (λ (p : Place). Closed p.dims → total_size p.dims ≤ p.extent) (sym lies) (λ c. omega arith),
              )

          array : (b0 : BoundTree) (bs : List BoundTree) → t.bounds ≡ b0 ∷ bs → Says (b0 ∷ bs)
          array b0 bs q =
              let some : d.dummy.bounds ≡ [] → ⊥ = λ none. (let w = no_map (b0 ∷ bs) (ap (map bound_of) (sym q) ∙ (sym table ∙ none)) in cc) in
              let a0 = bound.arrays d.at d.dummy d.is_dummy some in
              let a : ArrayIs (nth ps d.at) (at v) = subst (λ n. ArrayIs (nth ps d.at) (at n)) d.symbol a0.0 in
              let m : BoundsMean k.scope.scalars (is_cell k.scope.tracked) (λ n. unit_in at n) (numbers_of began) (map bound_of (b0 ∷ bs)) (at v).dims =
              subst (λ (u : ℕ → ℕ). BoundsMean k.scope.scalars (is_cell k.scope.tracked) u (numbers_of began) (map bound_of (b0 ∷ bs)) (at v).dims) first_units
              (subst (λ cs. BoundsMean k.scope.scalars (is_cell k.scope.tracked) (λ n. unit_in (dummy_places k ps) n) (numbers_of began) cs (at v).dims) (table ∙ ap (map bound_of) q)
              (subst (λ n. BoundsMean k.scope.scalars (is_cell k.scope.tracked) (λ n. unit_in (dummy_places k ps) n) (numbers_of began) d.dummy.bounds (at n).dims) d.symbol a0.1)) in (
                actual_bounds_mean side (scene_in b k ps at) (numbers_of z) (numbers_of began) steady (b0 ∷ bs) (at v).dims m,
                (λ c. (let e = (a.closed (closed_shut (at v).dims c)).0 in omega (arith, e))),
              )

          go : (bs : List BoundTree) → t.bounds ≡ bs → Says t.bounds
          go [] q = subst Says (sym q) (flat q)
          go (b0 ∷ bs) q = subst Says (sym q) (array b0 bs q)

      variable_is : VariableIs k.scope changed at z x v
      variable_is =
          let r : Says t.bounds = ⊎_elim dummy_is fixed_is (find_dummy k.routine.dummies v) in
          record { symbol = t; number = joins.names.variables x v meant; is_symbol = (regular.variables x v meant).is_symbol; bounds = r.0; reaches = r.1 }

    pub variables_are : VariablesAre k.routine.names k.scope changed at z
    variables_are = record { agrees = sane.names_fit.agrees; each = λ x v e. variable_is x v e }
