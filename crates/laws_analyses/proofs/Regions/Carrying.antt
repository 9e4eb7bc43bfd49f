-- Regions of what a CALL calls are carried to the module that calls: of each variable by the equations of its link.
use Rattle.std.proofs.Common.{◌≡◌, ◌⊎◌, inl, inr, ⊎_elim, ℕ, zero, suc, ◌+◌, ◌-◌, ◌<◌, ◌≤◌, ℤ, List, [], ◌∷◌, map, Option, Some, None, Bool, true, false, refl, sym, ap, ◌∙◌, subst, arith, true≢false, nat_lt}
use Rattle.std.specs.Prelude.{if◌then◌else◌, not, slice_get, option_map, MatchOption}
use Rattle.std.proofs.lemmas.Bool.{and_parts}
use Rattle.std.proofs.lemmas.Bool.Decides.{nat_tests}
use Rattle.affine_systems.specs.declared.row.Row.{Row}
use Rattle.affine_systems.specs.declared.row.System.{System}
use Rattle.f77_ast.specs.Trees.{ExprTree, ExprTrees}
use Rattle.f77_ast.specs.Trees as tree
use Rattle.f77_ast.specs.Store.{Store}
use Rattle.f77_ast.specs.Places.{Constant, Variable, Dim, Place, Places, scalar_place, total_size, within, position, element_in}
use Rattle.f77_ast.specs.Calls.{Actual, Dummy, Meaning, places_of}
use Rattle.f77_ast.specs.declared.constant.Constant.{Constant as HasConstantValue}
use Rattle.f77_ast.specs.declared.symbol.Place.{Place as SymbolPlace}
use Rattle.f77_ast.specs.declared.symbol.Place.TheVariants as place
use Rattle.f77_ast.specs.declared.variable.Variable.{Variable as Named}
use Rattle.f77_ast.specs.declared.variable.Variable.TheVariants.{Own, Block, Saved}
use Rattle.f77_ast.specs.Symbols.{BoundTree, SymbolTree, number_from}
use Rattle.f77_ast.specs.Shared.{symbol_at, place_at, place_of}
use Rattle.tracked_cells.specs.Standing.{has_bounds}
use Rattle.tracked_cells.specs.Scalars.{unit}
use Rattle.call_graph.specs.declared.graph.Graph.{Graph}
use Rattle.in_out_regions.specs.effects.Callee.{first_like}
use Rattle.f77_meaning.specs.Areas.{is_own_unit}
use Rattle.f77_meaning.specs.Claims.{block_place, saved_place}
use Rattle.f77_meaning.specs.Modules.{Known, bound_of}
use Rattle.f77_meaning.specs.Linked.{numbering}
use Rattle.affine_forms.specs.Scalars.{is_cell}
use Rattle.affine_forms.specs.Claims.{AtStart, unit_in, numbers_of}
use Rattle.preconditions.specs.transformer_algebra.Claims.{Scene, Means}
use Rattle.preconditions.specs.transformer_algebra.Cells.{has}
use Rattle.preconditions.specs.call_translation.Actuals.{actual_at, actual_of, form_in}
use Rattle.preconditions.specs.call_translation.Sites.{HoldingSite}
use Rattle.preconditions.specs.transformers.Given.{Callees}
use Rattle.preconditions.specs.transformers.Modules.{transformers_of}
use Rattle.in_out_regions.specs.region_sets.declared.region.Access.{Access}
use Rattle.in_out_regions.specs.region_sets.declared.region.Region.{Region}
use Rattle.in_out_regions.specs.region_sets.Claims.{Elements, LiesIn, IsSharp}
use Rattle.in_out_regions.specs.call_equations.declared.link.Link.{Link}
use Rattle.in_out_regions.specs.call_equations.Sides.{SidesTree, changed_cells}
use Rattle.in_out_regions.specs.call_equations.Cells.{actual_bound, dummy_bound}
use Rattle.in_out_regions.specs.call_equations.Links.{same_elements, scalar_link, element_link, by_position, aligned_or, array_link, rest_link, variable_link, subscripts_link, variable_at, element_at, variable_of, element_of, expr_link, actual_link, by_unit, block_link, like_or_block, if_saved, place_link, symbol_link, link_of, is_constant as has_value}
use Rattle.in_out_regions.specs.region_translation.Caller.{by_link, to_caller}
use Rattle.in_out_regions.specs.region_translation.Claims.{FormsMean, LinkHolds, EachDim, BoundMeans, ConstantsFit, LastMayBeOpen, Stands, ActualStands, DummyStands, SubscriptsMean, IsElement}
use Rattle.in_out_regions.specs.region_translation.Claims as translation
use Rattle.in_out_regions.specs.region_translation.Laws.{SameElementsHold, ScalarLinkHolds, ElementLinkHolds, ArrayLinkHolds, RestLinkHolds, BlockLinkHolds}
use Rattle.in_out_regions.proofs.RegionTranslation.RegionLaws.{units_sent, sharp_sent as sharp_of}
use Rattle.in_out_regions.specs.array_regions.Calls.{Callees as Summaries, sides}
use Rattle.in_out_regions.specs.array_regions.References.{is_constant}
use Rattle.laws_analyses.specs.Calls.Bindings.{Binds, Begins}
use Rattle.laws_analyses.specs.Calls.Parts.{Blocks, Part, DummyOf, NoDummy, nth, places_in as dummy_places, scene_in, Sane}
use Rattle.laws_analyses.specs.Calls.Sites.{Site, has_subscript, have_subscripts}
use Rattle.laws_analyses.proofs.Calls.Actuals.{nth_place}
use Rattle.laws_analyses.proofs.Calls.Bound.{scalars_fixed, scalars_dummy}
use Rattle.laws_analyses.proofs.Calls.Enter.{find_dummy}
use Rattle.laws_analyses.proofs.Calls.TableLaws.{symbol_in}
use Rattle.laws_analyses.specs.Regions.Claims.{elements_of}
use Rattle.laws_analyses.specs.Regions.Entries.{IsLost, Enters}
use Rattle.laws_analyses.specs.Regions.Programs.{called_in, Regular, ConstantsAre, OpenLast, entry_scope, Joins, Sends}
use Rattle.laws_analyses.specs.Regions.Settings.{Setting, Sound, HasSymbol, DimsFit, is_stored, elements_if, elements_with}
use Rattle.laws_analyses.proofs.Regions.Actuals.{IsValue, ActualIs, as_variable, as_element, as_value, AllAre}
use Rattle.laws_analyses.proofs.Regions.Arrays.{ArrayIs, BoundsMean}
use Rattle.laws_analyses.proofs.Regions.AtEntries.{bound_first}
use Rattle.laws_analyses.proofs.Regions.Bounds.{setting}
use Rattle.laws_analyses.proofs.Regions.CalledShown.{AtEntry, Bound}
use Rattle.laws_analyses.proofs.Regions.Calling.{Carries}
use Rattle.laws_analyses.proofs.Regions.Sent.{Arrives}
use Rattle.laws_analyses.proofs.Regions.Dims.{BoundsFit, dims_fit}
use Rattle.laws_analyses.proofs.Regions.Elements.{MeanEach}
use Rattle.laws_analyses.proofs.Regions.EntryForms.{forms_mean}
use Rattle.laws_analyses.proofs.Regions.Outlines.{elements_are, element_inside, constants_fit, last_of, array_within, array_room, array_filled, means_close, dummy_bounds_mean, actual_bounds_mean, constants_so, constants_mean, actual_form, constants_close}
use Rattle.laws_analyses.proofs.Regions.Steady.{Steady}
use Rattle.laws_programs.proofs.Storage.ActualLaws.{no_bounds}
use Rattle.laws_analyses.proofs.SiteLaws.{no_bounds_back as no_map}
use Rattle.call_graph.specs.Visible.{is_local}

-- the laws of the equations of links
pub record LinkLaws : Type 0 where
  pub same : SameElementsHold
  pub scalar : ScalarLinkHolds
  pub element : ElementLinkHolds
  pub array : ArrayLinkHolds
  pub rest : RestLinkHolds
  pub block : BlockLinkHolds

-- ---- variables of links

pub unit_variable : (y : List ℕ) (r : ℕ) (o : Option Row) → (by_unit y r o).variable ≡ Block y
unit_variable y r None = refl
unit_variable y r (Some e) = refl

position_variable : (n r : ℕ) (o : Option Row) (more bounds : List Row) → (by_position n r o more bounds).variable ≡ Own n
position_variable n r None more bounds = refl
position_variable n r (Some e) more bounds = refl

aligned_variable : (n r : ℕ) (o : Option (List Row)) (l : Link) → l.variable ≡ Own n → (aligned_or n r o l).variable ≡ Own n
aligned_variable n r None l h = h
aligned_variable n r (Some rs) l h = refl

-- ---- bounds

no_dims : (value : List ℕ → Option HasConstantValue) (bs : List BoundTree) (ds : List Dim) → DimsFit value bs ds → bs ≡ [] → ds ≡ []
no_dims value [] [] h e = refl
no_dims value [] (d ∷ ds) h e = absurd h
no_dims value (b ∷ bs) ds h e = cc

-- ---- actuals

have_at : (es : ExprTrees) (i : ℕ) (a : ExprTree) → have_subscripts es ≡ true → actual_at es i ≡ Some a → has_subscript a ≡ true
have_at tree.no_exprs i a h e = cc
have_at (tree.more_exprs b es) zero a h e = let same : b ≡ a = cc in ap has_subscript (sym same) ∙ (and_parts (has_subscript b) (have_subscripts es) h).0
have_at (tree.more_exprs b es) (suc i) a h e = have_at es i a (and_parts (has_subscript b) (have_subscripts es) h).1 e

-- sol, apt: scalars have a unit, and the units of expressions are apart from those of cells
module _ (ks : List Known) (g : Graph) (b : Blocks) (cs : Callees) (sites : List ℕ → List HoldingSite) (rs : List ℕ → Summaries) (turns : ℕ) (laws : LinkLaws) (h : Part) (sane : Sane b h) (reg : Regular h) (jh : Joins ks g h) (k : Part) (sane_k : Sane b k) (enters : Enters ks g k) (jk : Joins ks g k) (x : List ℕ) (es : ExprTrees) (P : System) (site : Site b cs sites h k x es P) (sends : Sends b ks g cs rs h k x)
    (callee : List ℕ → Meaning) (psm : List Place) (began : Store) (at : Places) (bound : Bound g b h sane psm began at) (sound : Sound (setting ks g (called_in g cs (rs h.routine.name) h) b cs h sane reg turns callee psm at)) (n0 : ℕ) (z : Store) (steady : Steady (setting ks g (called_in g cs (rs h.routine.name) h) b cs h sane reg turns callee psm at) (changed_cells (transformers_of h.routine.body h.scope cs).at) began z) (xs : List Actual) (s : Store) (atk : Places)
    (binds : Binds (record { caller = h.scope; actuals = es; symbols = k.scope.symbols }) (scene_in b h psm at) (scene_in b k (places_of xs) (dummy_places k (places_of xs)))) (begins : Begins (record { caller = h.scope; actuals = es; symbols = k.scope.symbols }) (scene_in b h psm at) (scene_in b k (places_of xs) (dummy_places k (places_of xs))) (numbers_of z) (numbers_of s))
    (sol : (y : List ℕ) (v : ℕ) → h.routine.names y ≡ Variable v → h.scalar y ≡ true → 0 < (at v).extent) (apt : (i v : ℕ) → is_cell h.scope.tracked v ≡ true → h.routine.own_unit n0 i ≡ unit_in at v → ⊥)
    (each : AllAre (setting ks g (called_in g cs (rs h.routine.name) h) b cs h sane reg turns callee psm at) sound sol (h.routine.own_unit n0) apt z es 0 xs) (entry : AtEntry g k (places_of xs) s atk) where
  abbrev ps : List Place
  ps = places_of xs

  abbrev caller : Setting
  caller = setting ks g (called_in g cs (rs h.routine.name) h) b cs h sane reg turns callee psm at

  abbrev c : SidesTree
  c = sides h.scope (changed_cells (transformers_of h.routine.body h.scope cs).at) g.untracked x es k.scope.symbols

  abbrev m : Scene
  m = scene_in b h psm at

  abbrev e : Scene
  e = scene_in b k ps atk

  abbrev nx : ℕ → ℤ
  nx = numbers_of z

  abbrev ny : ℕ → ℤ
  ny = numbers_of s

  abbrev outer : Named → Elements
  outer v = elements_with ks g h.scope.symbols at v

  abbrev inner : Named → Elements
  inner v = elements_with ks g k.scope.symbols atk v

  -- ---- cells

  cell_units : (n : ℕ) (y : List ℕ) (f : ℕ) → place_at k.scope.symbols n ≡ Some (place.Block y f) → (atk n).first ≡ b.place (unit y f)
  cell_units n y f q =
      let t = symbol_in (symbol_at k.scope.symbols n) y f q in
      ap (λ (p : Place). p.first) (entry.other n (sends.common n t.0 y f t.1 t.2)) ∙ sends.unit n t.0 y f t.1 t.2

  pub forms : FormsMean c m e nx ny
  forms =
      forms_mean c m e nx ny binds.caller (λ u. refl) begins.kept
      (λ d n i. subst (λ u. Means m (form_in h.scope (actual_of es n)) nx (ny u)) (sym (entry.firsts d)) (begins.values d n i))
      cell_units

  -- ---- elements

  pub stored_inner : (n : ℕ) (t : SymbolTree) → symbol_at k.scope.symbols n ≡ Some t → is_constant t.place ≡ false → (phi : ℕ → ℤ) → inner (Own n) phi ≡ elements_of (atk n) phi
  stored_inner n t q f phi = ap (λ w. elements_if (is_stored w) (atk n) phi) q ∙ ap (λ w. elements_if (not w) (atk n) phi) f

  pub stored_outer : (n : ℕ) (t : SymbolTree) → symbol_at h.scope.symbols n ≡ Some t → is_constant t.place ≡ false → (phi : ℕ → ℤ) → outer (Own n) phi ≡ elements_of (at n) phi
  stored_outer n t q f phi = ap (λ w. elements_if (is_stored w) (at n) phi) q ∙ ap (λ w. elements_if (not w) (at n) phi) f

  unstored_inner : (n : ℕ) → is_stored (symbol_at k.scope.symbols n) ≡ false → (phi : ℕ → ℤ) (u : ℕ) → inner (Own n) phi ≡ Some u → ⊥
  unstored_inner n f phi u q = let no : None ≡ Some u = sym (ap (λ w. elements_if w (atk n) phi) f) ∙ q in cc

  -- equations between places are such between elements
  by_elements : (f f' i i' : Elements) (l : Link) → ((phi : ℕ → ℤ) → f phi ≡ f' phi) → ((phi : ℕ → ℤ) → i phi ≡ i' phi) → LinkHolds m e nx ny f' i' l → LinkHolds m e nx ny f i l
  by_elements f f' i i' l p q w = subst (λ (v : Elements). LinkHolds m e nx ny v i l) (λ j phi. sym (p phi) j) (subst (λ (v : Elements). LinkHolds m e nx ny f' v l) (λ j phi. sym (q phi) j) w)

  -- of a variable without elements nothing is asked
  without : (f i : Elements) (l : Link) → ((phi : ℕ → ℤ) (u : ℕ) → i phi ≡ Some u → ⊥) → LinkHolds m e nx ny f i l
  without f i l none = record {
    to = λ phi u q. absurd (none phi u q);
    there = λ phi u q. absurd (none phi u q);
    stays = λ w phi u q. absurd (none phi u q);
    holds = λ phi u q. absurd (none phi u q);
    back = λ w q a t u r. absurd (none (translation.inner_of l q) u r);
  }

  -- ---- what a variable of what is called is to the caller

  pub data Way (v : Named) : Type 0 where
    joined : (l : Link) (w : Named) → link_of c v ≡ Some l → l.variable ≡ w → LinkHolds m e nx ny (outer w) (inner v) l → Way v
    hidden : link_of c v ≡ None → ((phi : ℕ → ℤ) (u : ℕ) → inner v phi ≡ Some u → is_own_unit (numbering ks g) u ≡ false → (IsLost ks g k.routine.name u → ⊥) → ⊥) → Way v

  same_way : (v w : Named) → link_of c v ≡ Some (same_elements w) → ((phi : ℕ → ℤ) (u : ℕ) → inner v phi ≡ Some u → outer w phi ≡ Some u) → Way v
  same_way v w q f = joined (same_elements w) w q refl (laws.same m e nx ny (outer w) (inner v) f w)

  -- ---- arrays of the caller

  caller_first : ◌≡◌ {A = ℕ → ℕ} (λ n. unit_in (dummy_places h psm) n) (λ n. unit_in at n)
  caller_first = λ i n. sym (bound_first g b h sane psm began at bound n) i

  callee_first : ◌≡◌ {A = ℕ → ℕ} (λ n. unit_in (dummy_places k ps) n) (λ n. unit_in atk n)
  callee_first = λ i n. sym (entry.firsts n) i

  numbers_stay : (n : ℕ) → m.tracked n ≡ true → has c.changed n ≡ false → nx (m.unit n) ≡ numbers_of began (m.unit n)
  numbers_stay n t f = steady n t f

  flat_stands : (value : List ℕ → Option HasConstantValue) (p : Place) → p.dims ≡ [] → p.extent ≤ 1 → Stands value [] p
  flat_stands value p d l = record {
    constants = subst (λ ds. EachDim (ConstantsFit value) [] ds) (sym d) tt;
    last = subst LastMayBeOpen (sym d) tt;
    within = λ w. subst (λ ds. p.extent ≤ total_size ds) (sym d) l;
    filled = λ w. subst (λ ds. 0 < total_size ds) (sym d) one;
  }
    where
      one : 0 < 1
      one = omega arith

  module _ (v : ℕ) (y : List ℕ) (meant : h.routine.names y ≡ Variable v) where
    abbrev pub known : HasSymbol caller y v
    known = sound.variables y v meant

    abbrev t : SymbolTree
    t = known.symbol

    dims : DimsFit h.scope.scalars.value t.bounds (at v).dims
    dims = known.dims

    -- one that is no dummy
    fixed_actual : NoDummy h.routine.dummies v → ActualStands c m nx t.bounds (at v)
    fixed_actual none =
        let f = jh.fixed v t known.is_symbol known.stored none in
        let same : at v ≡ h.routine.fixed v = bound.made.other v none ∙ scalars_fixed h.routine.dummies psm h.routine.fixed v none in
        let constants = subst (λ (p : Place). ConstantsAre h.scope.scalars.value t.bounds p.dims) (sym same) f.constants in
        let sizes : (at v).extent ≡ total_size (at v).dims = subst (λ (p : Place). p.extent ≡ total_size p.dims) (sym same) f.sizes in
        record {
          stands = record {
            constants = constants_fit h.scope.scalars.value t.bounds (at v).dims dims;
            last = last_of t.bounds (at v).dims (jh.open_last v t known.is_symbol) (constants_close h.scope.scalars.value t.bounds (at v).dims constants);
            within = λ w. omega (arith, sizes);
            filled = λ w. subst (λ n. 0 < n) sizes w;
          };
          bounds = constants_mean h.scope.scalars (actual_bound c) (λ a f q. actual_form c a f q) (AtStart m.tracked m.unit nx) t.bounds (at v).dims constants;
        }

    -- a dummy
    dummy_actual : DummyOf h.routine.dummies v → ActualStands c m nx t.bounds (at v)
    dummy_actual d = go t.bounds refl
      where
        table : d.dummy.bounds ≡ map bound_of t.bounds
        table = jh.bounds d.at d.dummy t d.is_dummy (ap (symbol_at h.scope.symbols) d.symbol ∙ known.is_symbol)

        flat : (bs : List BoundTree) → t.bounds ≡ bs → bs ≡ [] → ActualStands c m nx bs (at v)
        flat bs q f =
            let none : d.dummy.bounds ≡ [] = table ∙ ap (map bound_of) (q ∙ f) in
            let lies : at v ≡ scalar_place (nth psm d.at).first d.dummy.tag =
            ap at (sym d.symbol) ∙ (⊎_elim (λ a. a.1 ∙ scalars_dummy h.routine.dummies psm h.routine.fixed d.at d.dummy sane.distinct d.is_dummy) (λ a. absurd (a.0 none)) (bound.made.dummy d.at d.dummy d.is_dummy)) in
            subst (λ cs. ActualStands c m nx cs (at v)) (sym f)
            (record {
              stands = flat_stands h.scope.scalars.value (at v) (ap (λ (p : Place). p.dims) lies) (subst (λ (p : Place). p.extent ≤ 1) (sym lies) (omega arith));
              bounds = subst (λ (p : Place). EachDim (BoundMeans (actual_bound c) (AtStart m.tracked m.unit nx)) [] p.dims) (sym lies) tt;
            })

        array : (b0 : BoundTree) (bs : List BoundTree) → t.bounds ≡ b0 ∷ bs → ActualStands c m nx (b0 ∷ bs) (at v)
        array b0 bs q =
            let some : d.dummy.bounds ≡ [] → ⊥ = λ none. (let w = no_map (b0 ∷ bs) (ap (map bound_of) (sym q) ∙ (sym table ∙ none)) in cc) in
            let a0 = bound.arrays d.at d.dummy d.is_dummy some in
            let a : ArrayIs (nth psm d.at) (at v) = subst (λ n. ArrayIs (nth psm d.at) (at n)) d.symbol a0.0 in
            let w : BoundsMean h.scope.scalars (is_cell h.scope.tracked) (λ n. unit_in at n) (numbers_of began) (map bound_of (b0 ∷ bs)) (at v).dims =
            subst (λ (u : ℕ → ℕ). BoundsMean h.scope.scalars (is_cell h.scope.tracked) u (numbers_of began) (map bound_of (b0 ∷ bs)) (at v).dims) caller_first
            (subst (λ cs. BoundsMean h.scope.scalars (is_cell h.scope.tracked) (λ n. unit_in (dummy_places h psm) n) (numbers_of began) cs (at v).dims) (table ∙ ap (map bound_of) q)
            (subst (λ n. BoundsMean h.scope.scalars (is_cell h.scope.tracked) (λ n. unit_in (dummy_places h psm) n) (numbers_of began) d.dummy.bounds (at n).dims) d.symbol a0.1)) in
            record {
              stands = record {
                constants = constants_fit h.scope.scalars.value (b0 ∷ bs) (at v).dims (subst (λ cs. DimsFit h.scope.scalars.value cs (at v).dims) q dims);
                last = last_of (b0 ∷ bs) (at v).dims (subst OpenLast q (jh.open_last v t known.is_symbol)) (means_close h.scope.scalars (is_cell h.scope.tracked) (λ n. unit_in at n) (numbers_of began) (b0 ∷ bs) (at v).dims w);
                within = λ f. array_within (nth psm d.at) (at v) a f;
                filled = λ f. array_filled (nth psm d.at) (at v) a f;
              };
              bounds = actual_bounds_mean c m nx (numbers_of began) numbers_stay (b0 ∷ bs) (at v).dims w;
            }

        go : (bs : List BoundTree) → t.bounds ≡ bs → ActualStands c m nx t.bounds (at v)
        go [] q = subst (λ cs. ActualStands c m nx cs (at v)) (sym q) (flat [] q refl)
        go (b0 ∷ bs) q = subst (λ cs. ActualStands c m nx cs (at v)) (sym q) (array b0 bs q)

    pub actual_stands : ActualStands c m nx t.bounds (at v)
    actual_stands = ⊎_elim dummy_actual fixed_actual (find_dummy h.routine.dummies v)

  -- ---- actuals

  are_at : (fs : ExprTrees) (n : ℕ) (ys : List Actual) (i : ℕ) (a : ExprTree) → AllAre caller sound sol (h.routine.own_unit n0) apt z fs n ys → actual_at fs i ≡ Some a →
      (y : Actual) × (slice_get ys i ≡ Some y) × ActualIs caller sound sol (h.routine.own_unit n0) apt z a (n + i) y
  are_at tree.no_exprs n ys i a w q = cc
  are_at (tree.more_exprs f fs) n [] i a w q = absurd w
  are_at (tree.more_exprs f fs) n (y ∷ ys) zero a w q =
      let same : f ≡ a = cc in
      let off : n ≡ n + 0 = omega arith in
      (y, refl, subst (λ j. ActualIs caller sound sol (h.routine.own_unit n0) apt z a j y) off (subst (λ v. ActualIs caller sound sol (h.routine.own_unit n0) apt z v n y) same w.0))
  are_at (tree.more_exprs f fs) n (y ∷ ys) (suc i) a w q =
      let r = are_at fs (suc n) ys i a w.1 q in
      let off : suc n + i ≡ n + suc i = omega arith in
      (r.0, r.1, subst (λ j. ActualIs caller sound sol (h.routine.own_unit n0) apt z a j r.0) off r.2)

  -- ---- dummies

  module _ (n : ℕ) (t : SymbolTree) (q : symbol_at k.scope.symbols n ≡ Some t) (dd : ℕ) (lies : t.place ≡ place.Dummy dd) where
    its : (f : Dummy) × (slice_get k.routine.dummies (dd - 1) ≡ Some f) × (f.symbol ≡ n)
    its = sane_k.dummies n dd (ap place_of q ∙ ap Some lies)

    abbrev i : ℕ
    i = dd - 1

    abbrev f : Dummy
    f = its.0

    table : f.bounds ≡ map bound_of t.bounds
    table = jk.bounds i f t its.1 (ap (symbol_at k.scope.symbols) its.2 ∙ q)

    stored : is_constant t.place ≡ false
    stored = ap is_constant lies

    inner_is : (phi : ℕ → ℤ) → inner (Own n) phi ≡ translation.elements_of (atk n) phi
    inner_is phi = stored_inner n t q stored phi ∙ elements_are (atk n) phi

    -- a scalar
    scalar_is : t.bounds ≡ [] → atk n ≡ scalar_place (nth ps i).first f.tag
    scalar_is none = ap atk (sym its.2) ∙ entry.scalar i f its.1 (table ∙ ap (map bound_of) none)

    -- an array
    record IsArray : Type 0 where
      array : ArrayIs (nth ps i) (atk n)
      stands : DummyStands c e ny t.bounds (atk n)

    some_bounds : (t.bounds ≡ [] → ⊥) → f.bounds ≡ [] → ⊥
    some_bounds some none = some (no_map t.bounds (sym table ∙ none))

    array_is : (t.bounds ≡ [] → ⊥) → ((atk n).extent ≡ 0) ⊎ IsArray
    array_is some = ⊎_elim (λ w. inl (ap (λ j. (atk j).extent) (sym its.2) ∙ w)) (λ w. inr (made w)) (entry.array i f its.1 (some_bounds some))
      where
        made : ArrayIs (nth ps i) (atk f.symbol) × BoundsMean (entry_scope g k).scalars (is_cell (entry_scope g k).tracked) (unit_in (dummy_places k ps)) ny f.bounds (atk f.symbol).dims × BoundsFit k.scope.scalars.value f.bounds (atk f.symbol).dims → IsArray
        made w =
            let a : ArrayIs (nth ps i) (atk n) = subst (λ j. ArrayIs (nth ps i) (atk j)) its.2 w.0 in
            let mean : BoundsMean (entry_scope g k).scalars (is_cell (entry_scope g k).tracked) (λ j. unit_in atk j) ny (map bound_of t.bounds) (atk n).dims =
            subst (λ (u : ℕ → ℕ). BoundsMean (entry_scope g k).scalars (is_cell (entry_scope g k).tracked) u ny (map bound_of t.bounds) (atk n).dims) callee_first
            (subst (λ cs. BoundsMean (entry_scope g k).scalars (is_cell (entry_scope g k).tracked) (λ j. unit_in (dummy_places k ps) j) ny cs (atk n).dims) table
            (subst (λ j. BoundsMean (entry_scope g k).scalars (is_cell (entry_scope g k).tracked) (λ j. unit_in (dummy_places k ps) j) ny f.bounds (atk j).dims) its.2 w.1)) in
            let dims : DimsFit k.scope.scalars.value t.bounds (atk n).dims =
            dims_fit k.scope.scalars.value t.bounds (atk n).dims (subst (λ cs. BoundsFit k.scope.scalars.value cs (atk n).dims) table (subst (λ j. BoundsFit k.scope.scalars.value f.bounds (atk j).dims) its.2 w.2)) in
            record {
              array = a;
              stands = record {
                stands = record {
                  constants = constants_fit c.callee.scalars.value t.bounds (atk n).dims (subst (λ (w : List ℕ → Option HasConstantValue). DimsFit w t.bounds (atk n).dims) jk.value dims);
                  last = last_of t.bounds (atk n).dims (jk.open_last n t q) (means_close (entry_scope g k).scalars (is_cell (entry_scope g k).tracked) (λ j. unit_in atk j) ny t.bounds (atk n).dims mean);
                  within = λ o'. array_within (nth ps i) (atk n) a o';
                  filled = λ o'. array_filled (nth ps i) (atk n) a o';
                };
                bounds = dummy_bounds_mean c (is_cell (entry_scope g k).tracked) e ny t.bounds (atk n).dims mean;
              };
            }

    no_elements : (atk n).extent ≡ 0 → (phi : ℕ → ℤ) (u : ℕ) → inner (Own n) phi ≡ Some u → ⊥
    no_elements w phi u h' = let r = element_inside (atk n) phi u (sym (stored_inner n t q stored phi) ∙ h') in let l = r.1 in omega (arith, l, w)

    -- its actual
    given : (a : ExprTree) × (actual_at es i ≡ Some a)
    given = site.actual i f its.1

    abbrev a : ExprTree
    a = given.0

    link_is : link_of c (Own n) ≡ expr_link c t.bounds a
    link_is = ap (symbol_link c) q ∙ (ap (place_link c t) lies ∙ ap (actual_link c t.bounds) given.1)

    record Offer : Type 0 where
      actual : Actual
      is_there : nth (places_of xs) i ≡ actual.place
      is_so : ActualIs caller sound sol (h.routine.own_unit n0) apt z a i actual

    offered : Offer
    offered =
        let r = are_at es 0 xs i a each given.1 in
        let same : 0 + i ≡ i = omega arith in
        record { actual = r.0; is_there = nth_place xs i r.0 r.1; is_so = subst (λ j. ActualIs caller sound sol (h.routine.own_unit n0) apt z a j r.0) same r.2 }

    -- ---- a value, in a unit of its own

    no_link : (a' : ExprTree) → IsValue caller sound sol (h.routine.own_unit n0) apt z a' → expr_link c t.bounds a' ≡ None
    no_link (tree.int j) w = refl
    no_link (tree.log j) w = refl
    no_link (tree.name y) w = go (number_from 1 h.scope.names y) refl
      where
        by_symbol : (j : ℕ) (r : Option SymbolTree) → symbol_at h.scope.symbols j ≡ r → number_from 1 h.scope.names y ≡ Some j → variable_at c t.bounds j r ≡ None
        by_symbol j None r l = refl
        by_symbol j (Some u) r l = ap (λ w'. if w' then None else Some (variable_link c j u.bounds t.bounds)) (same_value u.place ∙ jh.names.constants y w.0 j u w.1 l r)
          where
            same_value : (p : SymbolPlace) → has_value p ≡ is_constant p
            same_value (place.Local g0 o0) = refl
            same_value (place.Dummy j0) = refl
            same_value (place.Block b0 o0) = refl
            same_value (place.Constant v0) = refl

        go : (r : Option ℕ) → number_from 1 h.scope.names y ≡ r → variable_of c t.bounds (number_from 1 h.scope.names y) ≡ None
        go None l = ap (variable_of c t.bounds) l
        go (Some j) l = ap (variable_of c t.bounds) l ∙ by_symbol j (symbol_at h.scope.symbols j) refl l
    no_link (tree.element y fs) w = go (number_from 1 h.scope.names y) refl
      where
        by_symbol : (j : ℕ) (r : Option SymbolTree) → symbol_at h.scope.symbols j ≡ r → number_from 1 h.scope.names y ≡ Some j → element_at c t.bounds fs j r ≡ None
        by_symbol j None r l = refl
        by_symbol j (Some u) r l = ap (λ w'. if w' then Some (subscripts_link c j fs u.bounds t.bounds) else None) (jh.names.functions y j u w l r)

        go : (r : Option ℕ) → number_from 1 h.scope.names y ≡ r → element_of c t.bounds fs (number_from 1 h.scope.names y) ≡ None
        go None l = ap (element_of c t.bounds fs) l
        go (Some j) l = ap (element_of c t.bounds fs) l ∙ by_symbol j (symbol_at h.scope.symbols j) refl l
    no_link (tree.paren e') w = refl
    no_link (tree.unary o' e') w = refl
    no_link (tree.binary o' e1 e2) w = refl
    no_link (tree.chars y) w = refl

    -- the only unit that is offered
    own_alone : (u : ℕ) (phi : ℕ → ℤ) → inner (Own n) phi ≡ Some u → (nth (places_of xs) i).extent ≡ 1 → u ≡ (nth (places_of xs) i).first
    own_alone u phi w one = go t.bounds refl
      where
        there : elements_of (atk n) phi ≡ Some u
        there = sym (stored_inner n t q stored phi) ∙ w

        r : (j : ℕ) × (j < (atk n).extent) × ((atk n).first + j ≡ u)
        r = element_inside (atk n) phi u there

        by_place : (atk n).first ≡ (nth (places_of xs) i).first → (atk n).extent ≤ 1 → u ≡ (nth (places_of xs) i).first
        by_place p l = (let a1 = r.1 in let a2 = r.2 in omega (arith, p, l, a1, a2))

        go : (bs : List BoundTree) → t.bounds ≡ bs → u ≡ (nth (places_of xs) i).first
        go [] p = by_place (ap (λ (y : Place). y.first) (scalar_is p)) (subst (λ (y : Place). y.extent ≤ 1) (sym (scalar_is p)) (omega arith))
        go (b0 ∷ bs) p =
            ⊎_elim (λ w'. absurd (no_elements w' phi u w))
            (λ (w' : IsArray). by_place w'.array.first (let l = array_room (nth (places_of xs) i) (atk n) w'.array in omega (arith, l, one)))
            (array_is (λ none. (let no = sym p ∙ none in cc)))

    value_way : IsValue caller sound sol (h.routine.own_unit n0) apt z a → (nth (places_of xs) i).first ≡ h.routine.own_unit n0 i → (nth (places_of xs) i).extent ≡ 1 → Way (Own n)
    value_way w first one =
        hidden (link_is ∙ no_link a w)
        (λ phi u there seen lost. true≢false (sym (subst (λ v. is_own_unit (numbering ks g) v ≡ true) (sym (own_alone u phi there one ∙ first)) (jh.own_units n0 i)) ∙ seen))

    -- ---- a variable

    -- by its number, and its symbol
    module _ (y : List ℕ) (v : ℕ) (meant : h.routine.names y ≡ Variable v) where
      abbrev sy : SymbolTree
      sy = (sound.variables y v meant).symbol

      at_number : number_from 1 h.scope.names y ≡ Some v
      at_number = jh.names.variables y v meant

      outer_is : (phi : ℕ → ℤ) → outer (Own v) phi ≡ translation.elements_of (at v) phi
      outer_is phi = stored_outer v sy (sound.variables y v meant).is_symbol (sound.variables y v meant).stored phi ∙ elements_are (at v) phi

      not_valued : has_value sy.place ≡ false
      not_valued = go sy.place (sound.variables y v meant).stored
        where
          go : (p : SymbolPlace) → is_constant p ≡ false → has_value p ≡ false
          go (place.Local g0 o0) w = refl
          go (place.Dummy j0) w = refl
          go (place.Block b0 o0) w = refl
          go (place.Constant v0) w = w

      joined_to : (l : Link) → link_of c (Own n) ≡ Some l → l.variable ≡ Own v → LinkHolds m e nx ny (translation.elements_of (at v)) (translation.elements_of (atk n)) l → Way (Own n)
      joined_to l w q' r = joined l (Own v) w q' (by_elements (outer (Own v)) (translation.elements_of (at v)) (inner (Own n)) (translation.elements_of (atk n)) l outer_is inner_is r)

      -- a name
      name_link : a ≡ tree.name y → link_of c (Own n) ≡ Some (variable_link c v sy.bounds t.bounds)
      name_link w =
          link_is ∙ (ap (expr_link c t.bounds) w ∙ (ap (variable_of c t.bounds) at_number ∙ (ap (variable_at c t.bounds v) (sound.variables y v meant).is_symbol
          ∙ ap (λ w'. if w' then None else Some (variable_link c v sy.bounds t.bounds)) not_valued)))

      name_way : a ≡ tree.name y → nth (places_of xs) i ≡ at v → Way (Own n)
      name_way w lies' = go t.bounds refl
        where
          go : (bs : List BoundTree) → t.bounds ≡ bs → Way (Own n)
          go [] p =
              let scalar : h.scalar y ≡ true = site.scalars i f y its.1 (table ∙ ap (map bound_of) p) (given.1 ∙ ap Some w) v meant in
              let flat : sy.bounds ≡ [] = no_bounds sy.bounds (not_of (has_bounds sy.bounds) (sym (sound.variables y v meant).shape ∙ scalar)) in
              joined_to (scalar_link v) (name_link w ∙ ap (λ bs. Some (variable_link c v sy.bounds bs)) p) refl
              (laws.scalar m e nx ny (at v) (atk n) (no_dims h.scope.scalars.value sy.bounds (at v).dims (sound.variables y v meant).dims flat) (ap (λ (y' : Place). y'.dims) (scalar_is p)) (sol y v meant scalar)
              (ap (λ (y' : Place). y'.first) (scalar_is p) ∙ ap (λ (y' : Place). y'.first) lies') v)
            where
              not_of : (w' : Bool) → not w' ≡ true → w' ≡ false
              not_of true r = sym r
              not_of false r = refl
          go (b0 ∷ bs) p =
              let linked : link_of c (Own n) ≡ Some (array_link c v sy.bounds t.bounds) = name_link w ∙ subst (λ cs'. Some (variable_link c v sy.bounds cs') ≡ Some (array_link c v sy.bounds cs')) (sym p) refl in
              joined_to (array_link c v sy.bounds t.bounds) linked (aligned_variable v _ _ _ (position_variable v _ _ _ _))
              (⊎_elim
              (λ w'. without (translation.elements_of (at v)) (translation.elements_of (atk n)) (array_link c v sy.bounds t.bounds) (λ phi u r. no_elements w' phi u (inner_is phi ∙ r)))
              (λ (w' : IsArray). laws.array c m e nx ny sy.bounds t.bounds (at v) (atk n) v forms (actual_stands v y meant) w'.stands
              (record {
                first = w'.array.first ∙ (ap (λ (y' : Place). y'.first) lies' ∙ plus_none (at v).first);
                room = (let r = array_room (nth (places_of xs) i) (atk n) w'.array in let r' = ap (λ (y' : Place). y'.extent) lies' in omega (arith, r, r'));
              }))
              (array_is (λ none. (let no = sym p ∙ none in cc))))
            where
              plus_none : (j : ℕ) → j ≡ j + 0
              plus_none j = omega arith

      -- an element
      module _ (fs : ExprTrees) (ns : List ℤ) (o0 : ℕ) (w : a ≡ tree.element y fs) (mean : MeanEach caller z fs ns) (found : element_in (at v) ns ≡ Some o0) where
        values_mean : (gs : ExprTrees) (ms : List ℤ) → MeanEach caller z gs ms → SubscriptsMean h.scope.scalars m nx gs ms
        values_mean tree.no_exprs [] q' = tt
        values_mean tree.no_exprs (j ∷ ms) q' = absurd q'
        values_mean (tree.more_exprs e' gs) [] q' = absurd q'
        values_mean (tree.more_exprs e' gs) (j ∷ ms) q' = (q'.0, values_mean gs ms q'.1)

        is_element : IsElement c m nx fs (at v) o0
        is_element = record { subscripts = ns; values = values_mean fs ns mean; there = found }

        -- it has a subscript, so its variable has dimensions
        has_some : has_bounds sy.bounds ≡ true
        has_some = go (has_bounds sy.bounds) refl
          where
            subscripts : has_subscript (tree.element y fs) ≡ true
            subscripts = subst (λ e'. has_subscript e' ≡ true) w (have_at es i a site.offered given.1)

            none_flat : (gs : ExprTrees) (ms : List ℤ) (ds : List Dim) → has_subscript (tree.element y gs) ≡ true → MeanEach caller z gs ms → ds ≡ [] → within (at v) (position ds ms) ≡ Some o0 → ⊥
            none_flat tree.no_exprs ms ds r q' d l = true≢false (sym r)
            none_flat (tree.more_exprs e' gs) [] ds r q' d l = q'
            none_flat (tree.more_exprs e' gs) (j ∷ ms) ds r q' d l = (let no : within (at v) None ≡ Some o0 = subst (λ d'. within (at v) (position d' (j ∷ ms)) ≡ Some o0) d l in cc)

            go : (w' : Bool) → has_bounds sy.bounds ≡ w' → w' ≡ true
            go true r = refl
            go false r = absurd (none_flat fs ns (at v).dims subscripts mean (no_dims h.scope.scalars.value sy.bounds (at v).dims (sound.variables y v meant).dims (no_bounds sy.bounds r)) found)

        element_linked : link_of c (Own n) ≡ Some (subscripts_link c v fs sy.bounds t.bounds)
        element_linked =
            link_is ∙ (ap (expr_link c t.bounds) w ∙ (ap (element_of c t.bounds fs) at_number ∙ (ap (element_at c t.bounds fs v) (sound.variables y v meant).is_symbol
            ∙ ap (λ w'. if w' then Some (subscripts_link c v fs sy.bounds t.bounds) else None) has_some)))

        offset_small : o0 < (at v).extent
        offset_small = within_small (position (at v).dims ns) found
          where
            within_small : (r : Option ℕ) → within (at v) r ≡ Some o0 → o0 < (at v).extent
            within_small None l = cc
            within_small (Some j) l = go (nat_lt j (at v).extent) refl l
              where
                go : (w' : Bool) → nat_lt j (at v).extent ≡ w' → (if w' then Some j else None) ≡ Some o0 → o0 < (at v).extent
                go true r q' = (let same : j ≡ o0 = cc in subst (λ u. u < (at v).extent) same (grind (arith, nat_tests)))
                go false r q' = cc

        element_way : nth (places_of xs) i ≡ record { first = (at v).first + o0; extent = (at v).extent - o0; tag = (at v).tag; dims = [] } → Way (Own n)
        element_way lies' = go t.bounds refl
          where
            go : (bs : List BoundTree) → t.bounds ≡ bs → Way (Own n)
            go [] p =
                joined_to (element_link c v fs sy.bounds) (element_linked ∙ ap (λ bs. Some (subscripts_link c v fs sy.bounds bs)) p) refl
                (laws.element c m e nx ny fs sy.bounds (at v) (atk n) o0 v (actual_stands v y meant) is_element (ap (λ (y' : Place). y'.dims) (scalar_is p))
                (ap (λ (y' : Place). y'.first) (scalar_is p) ∙ ap (λ (y' : Place). y'.first) lies'))
            go (b0 ∷ bs) p =
                let linked : link_of c (Own n) ≡ Some (rest_link c v fs sy.bounds t.bounds) = element_linked ∙ subst (λ cs'. Some (subscripts_link c v fs sy.bounds cs') ≡ Some (rest_link c v fs sy.bounds cs')) (sym p) refl in
                joined_to (rest_link c v fs sy.bounds t.bounds) linked (position_variable v _ _ _ _)
                (⊎_elim
                (λ w'. without (translation.elements_of (at v)) (translation.elements_of (atk n)) (rest_link c v fs sy.bounds t.bounds) (λ phi u r. no_elements w' phi u (inner_is phi ∙ r)))
                (λ (w' : IsArray). laws.rest c m e nx ny fs sy.bounds t.bounds (at v) (atk n) o0 v (actual_stands v y meant) is_element w'.stands
                (record {
                  first = w'.array.first ∙ ap (λ (y' : Place). y'.first) lies';
                  room = (let r = array_room (nth (places_of xs) i) (atk n) w'.array in let r' = ap (λ (y' : Place). y'.extent) lies' in let l = offset_small in omega (arith, r, r', l));
                }))
                (array_is (λ none. (let no = sym p ∙ none in cc))))

    dummy_way : Way (Own n)
    dummy_way = by_actual offered
      where
        by_actual : Offer → Way (Own n)
        by_actual r = go r.is_so
          where
            go : ActualIs caller sound sol (h.routine.own_unit n0) apt z a i r.actual → Way (Own n)
            go (as_variable y v w meant l) = name_way y v meant w (r.is_there ∙ ap (λ (x' : Actual). x'.place) l)
            go (as_element y v fs ns o0 w ix meant mean found l) = element_way y v meant fs ns o0 w mean found (r.is_there ∙ ap (λ (x' : Actual). x'.place) l)
            go (as_value w first one own) = value_way w (ap (λ (y' : Place). y'.first) r.is_there ∙ first) (ap (λ (y' : Place). y'.extent) r.is_there ∙ one)

  -- ---- variables of blocks

  block_way : (n : ℕ) (t : SymbolTree) → symbol_at k.scope.symbols n ≡ Some t → (y : List ℕ) (f : ℕ) → t.place ≡ place.Block y f → Way (Own n)
  block_way n t q y f lies = go (first_like 1 h.scope.symbols y f k.scope.symbols t h.scope.symbols) refl
    where
      there : atk n ≡ k.routine.fixed n
      there = entry.other n (sends.common n t y f q lies)

      stored : is_constant t.place ≡ false
      stored = ap is_constant lies

      link_is : link_of c (Own n) ≡ Some (like_or_block c y f t.bounds (first_like 1 h.scope.symbols y f k.scope.symbols t h.scope.symbols))
      link_is = ap (symbol_link c) q ∙ ap (place_link c t) lies

      block_stands : DummyStands c e ny t.bounds (atk n)
      block_stands =
          let w = jk.fixed n t q stored (sends.common n t y f q lies) in
          let constants : ConstantsAre k.scope.scalars.value t.bounds (atk n).dims = subst (λ (p : Place). ConstantsAre k.scope.scalars.value t.bounds p.dims) (sym there) w.constants in
          let here : ConstantsAre c.callee.scalars.value t.bounds (atk n).dims = subst (λ (v : List ℕ → Option HasConstantValue). ConstantsAre v t.bounds (atk n).dims) jk.value constants in
          let sizes : (atk n).extent ≡ total_size (atk n).dims = subst (λ (p : Place). p.extent ≡ total_size p.dims) (sym there) w.sizes in
          record {
            stands = record {
              constants = constants_so c.callee.scalars.value t.bounds (atk n).dims here;
              last = last_of t.bounds (atk n).dims (jk.open_last n t q) (constants_close c.callee.scalars.value t.bounds (atk n).dims here);
              within = λ w'. omega (arith, sizes);
              filled = λ w'. subst (λ j. 0 < j) sizes w';
            };
            bounds = constants_mean c.callee.scalars (dummy_bound c) (λ a g' r. r) (translation.AtEntry e ny) t.bounds (atk n).dims here;
          }

      go : (r : Option ℕ) → first_like 1 h.scope.symbols y f k.scope.symbols t h.scope.symbols ≡ r → Way (Own n)
      go None w =
          joined (block_link c y f t.bounds) (Block y) (link_is ∙ ap (λ r. Some (like_or_block c y f t.bounds r)) w) (unit_variable y _ _)
          (by_elements (outer (Block y)) (translation.elements_of (block_place ks g y)) (inner (Own n)) (translation.elements_of (atk n)) (block_link c y f t.bounds)
          (λ phi. ap (λ w'. elements_if w' (block_place ks g y) phi) (sends.told n t y f q lies) ∙ elements_are (block_place ks g y) phi)
          (λ phi. stored_inner n t q stored phi ∙ elements_are (atk n) phi)
          (laws.block c m e nx ny y t.bounds (block_place ks g y) (atk n) f refl block_stands
          (record {
            first = ap (λ (p : Place). p.first) there ∙ (sends.block n t y f q lies).first;
            room = subst (λ (p : Place). p.extent + f ≤ (block_place ks g y).extent) (sym there) (sends.block n t y f q lies).inside;
          })))
      go (Some j) w =
          let a = sends.alike n j t y f q lies w in
          same_way (Own n) (Own j) (link_is ∙ ap (λ r. Some (like_or_block c y f t.bounds r)) w)
          (λ phi u r. stored_outer j a.symbol a.is_symbol a.stored phi
          ∙ (ap (λ (p : Place). elements_of p phi) (bound.made.other j a.caller ∙ scalars_fixed h.routine.dummies psm h.routine.fixed j a.caller)
          ∙ (a.elements phi
          ∙ (ap (λ (p : Place). elements_of p phi) (sym there)
          ∙ (sym (stored_inner n t q stored phi) ∙ r)))))

  -- ---- locals

  local_way : (n : ℕ) (t : SymbolTree) → symbol_at k.scope.symbols n ≡ Some t → (g0 o0 : ℕ) → t.place ≡ place.Local g0 o0 → Way (Own n)
  local_way n t q g0 o0 lies = go t.saved refl
    where
      there : atk n ≡ k.routine.fixed n
      there = entry.other n (enters.local n t q (ap is_local lies))

      stored : is_constant t.place ≡ false
      stored = ap is_constant lies

      link_is : link_of c (Own n) ≡ if_saved c t
      link_is = ap (symbol_link c) q ∙ ap (place_link c t) lies

      go : (w : Bool) → t.saved ≡ w → Way (Own n)
      go true w =
          let v = sends.saved n t q (ap is_local lies) w in
          same_way (Own n) (Saved x t.name) (link_is ∙ ap (λ w'. if w' then Some (same_elements (Saved x t.name)) else None) w)
          (λ phi u r. ap (λ w'. elements_if w' (saved_place ks g ks x t.name) phi) v.0
          ∙ (ap (λ (p : Place). elements_of p phi) (v.1 ∙ sym there)
          ∙ (sym (stored_inner n t q stored phi) ∙ r)))
      go false w =
          hidden (link_is ∙ ap (λ w'. if w' then Some (same_elements (Saved x t.name)) else None) w)
          (λ phi u r own lost. (let r' = element_inside (atk n) phi u (sym (stored_inner n t q stored phi) ∙ r) in
          lost (subst (λ v. IsLost ks g k.routine.name v) (ap (λ (p : Place). p.first + r'.0) (sym there) ∙ r'.2)
          (enters.lost n t r'.0 q (ap is_local lies) w (subst (λ (p : Place). r'.0 < p.extent) there r'.1)))))

  -- ---- each variable

  place_way : (n : ℕ) (t : SymbolTree) → symbol_at k.scope.symbols n ≡ Some t → (p : SymbolPlace) → t.place ≡ p → Way (Own n)
  place_way n t q (place.Local g0 o0) lies = local_way n t q g0 o0 lies
  place_way n t q (place.Dummy dd) lies = dummy_way n t q dd lies
  place_way n t q (place.Block y f) lies = block_way n t q y f lies
  place_way n t q (place.Constant v) lies =
      hidden (ap (symbol_link c) q ∙ ap (place_link c t) lies)
      (λ phi u r own lost. unstored_inner n (ap is_stored q ∙ ap (λ p. not (is_constant p)) lies) phi u r)

  own_way : (n : ℕ) (r : Option SymbolTree) → symbol_at k.scope.symbols n ≡ r → Way (Own n)
  own_way n None q = hidden (ap (symbol_link c) q) (λ phi u r own lost. unstored_inner n (ap is_stored q) phi u r)
  own_way n (Some t) q = place_way n t q t.place refl

  pub way : (v : Named) → Way v
  way (Own n) = own_way n (symbol_at k.scope.symbols n) refl
  way (Block y) = same_way (Block y) (Block y) refl (λ phi u r. r)
  way (Saved w y) = same_way (Saved w y) (Saved w y) refl (λ phi u r. r)

  -- ---- regions

  lies_sent : (r : Region) (u : ℕ) → is_own_unit (numbering ks g) u ≡ false → (IsLost ks g k.routine.name u → ⊥) → LiesIn e (inner r.variable) r ny u → Arrives c m outer nx e inner ny r u
  lies_sent r u own lost w = go (way r.variable)
    where
      go : Way r.variable → Arrives c m outer nx e inner ny r u
      go (joined l v q same holds) =
          let sent : to_caller c r ≡ Some (by_link c r l) = ap (option_map (by_link c r)) q in
          let there = units_sent c r m e nx ny (outer v) (inner r.variable) l q forms holds u w in
          let lies : LiesIn m (outer v) (by_link c r l) nx u = subst (λ (o' : Option Region). MatchOption o' ⊥ (λ q'. LiesIn m (outer v) q' nx u)) sent there in
          record { region = by_link c r l; sent = sent; kind = refl; lies = subst (λ (y : Named). LiesIn m (outer y) (by_link c r l) nx u) (sym same) lies }
      go (hidden q none) = absurd (none w.phi u w.there own lost)

  sharply_sent : (r q : Region) → to_caller c r ≡ Some q → (acc : Access → ℕ → Bool) → IsSharp e (inner r.variable) r ny (acc r.kind) → IsSharp m (outer q.variable) q nx (acc q.kind)
  sharply_sent r q sent acc w = go (way r.variable)
    where
      go : Way r.variable → IsSharp m (outer q.variable) q nx (acc q.kind)
      go (joined l v link same holds) =
          let one : to_caller c r ≡ Some (by_link c r l) = ap (option_map (by_link c r)) link in
          let there = sharp_of c r m e nx ny (outer v) (inner r.variable) l link forms holds (acc r.kind) w in
          let sharp : IsSharp m (outer v) (by_link c r l) nx (acc r.kind) = subst (λ (o' : Option Region). MatchOption o' ⊥ (λ q'. IsSharp m (outer v) q' nx (acc r.kind))) one there in
          let is : by_link c r l ≡ q = some_same (by_link c r l) q (sym one ∙ sent) in
          subst (λ (y : Region). IsSharp m (outer y.variable) y nx (acc y.kind)) is (subst (λ (y : Named). IsSharp m (outer y) (by_link c r l) nx (acc r.kind)) (sym same) sharp)
        where
          some_same : (y y' : Region) → Some y ≡ Some y' → y ≡ y'
          some_same y y' e' = cc
      go (hidden link none) = (let no : None ≡ Some q = sym (ap (option_map (by_link c r)) link) ∙ sent in cc)

  pub carries : Carries ks g b c caller k (places_of xs) atk z s
  carries = record { lies = lies_sent; sharp = sharply_sent }
