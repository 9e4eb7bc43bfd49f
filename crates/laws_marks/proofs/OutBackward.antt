-- A unit that a variable of what a CALL calls has, and so a variable of the module that calls: the equations of the CALL lead back to a variable of what is called.
use Rattle.std.proofs.Common.{◌≡◌, ℕ, suc, ◌+◌, ◌-◌, ◌<◌, ◌≤◌, ℤ, List, [], ◌∷◌, ◌||◌, length, Option, Some, None, Bool, true, false, refl, sym, ap, ◌∙◌, subst, arith, true≢false, nat_lt, nat_le}
use Rattle.std.specs.Prelude.{if◌then◌else◌, slice_get, bytes_eq, not}
use Rattle.std.proofs.lemmas.Bool.{and_from, eq-eqb, lt-ltb, le-leb}
use Rattle.std.proofs.lemmas.Slice.Eq.{bytes_eq-Decides}
use Rattle.affine_systems.specs.declared.row.Var.{Var}
use Rattle.affine_systems.specs.declared.row.Var.TheVariants.{Cell, Exit, Phi, Aux}
use Rattle.affine_systems.specs.declared.row.Term.{Term}
use Rattle.affine_systems.specs.declared.row.Row.{Row}
use Rattle.affine_systems.specs.declared.row.System.{System}
use Rattle.affine_systems.specs.Terms.{var_eq}
use Rattle.affine_systems.proofs.TermLaws.{var_eq-true}
use Rattle.f77_ast.specs.Trees.{ExprTree, ExprTrees}
use Rattle.f77_ast.specs.Store.{Store}
use Rattle.f77_ast.specs.Places.{Variable, Place, Places, total_size}
use Rattle.f77_ast.specs.Calls.{Actual, Meaning, places_of}
use Rattle.f77_ast.specs.declared.constant.Constant.{Constant as HasConstantValue}
use Rattle.f77_ast.specs.declared.symbol.Place.{Place as SymbolPlace}
use Rattle.f77_ast.specs.declared.symbol.Place.TheVariants as place
use Rattle.f77_ast.specs.declared.variable.Variable.{Variable as Named}
use Rattle.f77_ast.specs.declared.variable.Variable.TheVariants.{Own, Block, Saved}
use Rattle.f77_ast.specs.Symbols.{SymbolTree, number_from}
use Rattle.f77_ast.specs.Shared.{symbol_at}
use Rattle.f77_ast.specs.Units.{units_in}
use Rattle.call_graph.specs.declared.graph.Graph.{Graph}
use Rattle.call_graph.specs.declared.graph.Block.{Block as GraphBlock}
use Rattle.in_out_regions.specs.effects.Callee.{first_like}
use Rattle.f77_meaning.specs.Claims.{block_place, saved_place}
use Rattle.f77_meaning.specs.Claims as meaning
use Rattle.f77_meaning.specs.Modules.{Known}
use Rattle.affine_forms.specs.Scalars.{is_cell}
use Rattle.affine_forms.specs.Claims.{unit_in, numbers_of}
use Rattle.affine_forms.specs.Comparisons.{var_form}
use Rattle.affine_forms.specs.declared.affine.Affine.{Affine}
use Rattle.preconditions.specs.transformer_algebra.Claims.{Scene}
use Rattle.preconditions.specs.transformer_algebra.Laws.{In, here}
use Rattle.preconditions.specs.call_translation.Actuals.{actual_of}
use Rattle.preconditions.specs.call_translation.Sites.{HoldingSite}
use Rattle.preconditions.specs.transformers.Given.{Callees}
use Rattle.preconditions.specs.transformers.Modules.{transformers_of}
use Rattle.in_out_regions.specs.region_sets.Naming.{in_terms, in_rows}
use Rattle.in_out_regions.specs.region_sets.Claims.{Elements}
use Rattle.in_out_regions.specs.call_equations.declared.link.Link.{Link}
use Rattle.in_out_regions.specs.call_equations.Sides.{SidesTree, changed_cells}
use Rattle.in_out_regions.specs.call_equations.Forms.{equation}
use Rattle.in_out_regions.specs.call_equations.Links.{same_elements, actual_link, block_link, like_or_block, if_saved, place_link, symbol_link, link_of}
use Rattle.in_out_regions.specs.region_translation.Claims as translation
use Rattle.in_out_regions.specs.array_regions.Calls.{Callees as Summaries, sides}
use Rattle.in_out_regions.specs.array_regions.References.{is_constant}
use Rattle.in_out_regions.specs.region_translation.declared.links.CalleeLink.{CalleeLink}
use Rattle.in_out_regions.specs.region_translation.declared.units.Units.{Units}
use Rattle.in_out_regions.specs.region_translation.Names.{turned_rows}
use Rattle.in_out_regions.specs.region_translation.Units.{units_of, unit_place, are_covered, size_in}
use Rattle.in_out_regions.specs.region_translation.Links.{link, same_link, by_row, is_number, rank_of, dummy_links, common_link, common_links, all_units, block_links, block_rest, own_common, own_links, saved_as, saved_variable, callee_links, subscripts_of}
use Rattle.in_out_regions.specs.region_translation.CalleeClaims.{HasUnit, LinkHolds}
use Rattle.in_out_regions.specs.region_translation.CalleeLaws.{AreTold}
use Rattle.in_out_regions.proofs.RegionTranslation.CalleeLinkLaws.{same_link_holds}
use Rattle.laws_lines.specs.Variables.{EachVar}
use Rattle.laws_lines.proofs.SystemVars.{AreGiven}
use Rattle.laws_analyses.specs.Calls.Bindings.{Binds, Begins}
use Rattle.laws_analyses.specs.Calls.Parts.{Blocks, Part, places_in as dummy_places, scene_in, Sane}
use Rattle.laws_analyses.specs.Calls.Sites.{Site}
use Rattle.laws_analyses.proofs.Calls.Bound.{scalars_fixed}
use Rattle.laws_analyses.specs.Regions.Claims.{elements_of}
use Rattle.laws_analyses.specs.Regions.Entries.{Enters}
use Rattle.laws_analyses.specs.Regions.Programs.{called_in, Regular, ConstantsAre, Joins, Sends}
use Rattle.laws_analyses.specs.Regions.Settings.{Sound, elements_if, elements_with, is_stored, is_told}
use Rattle.laws_analyses.proofs.Regions.Actuals.{AllAre}
use Rattle.laws_analyses.proofs.Regions.Bounds.{setting}
use Rattle.laws_analyses.proofs.Regions.CalledShown.{AtEntry, Bound}
use Rattle.laws_analyses.proofs.Regions.Carrying.{LinkLaws, stored_inner, stored_outer, unit_variable}
use Rattle.laws_analyses.proofs.Regions.Outlines.{elements_are, element_inside, constants_so, constants_close, last_of}
use Rattle.laws_analyses.proofs.Regions.Steady.{Steady}
use Rattle.laws_marks.proofs.InNarrow.{Upto}
use Rattle.laws_marks.specs.OutPrograms.{DownPart}
use Rattle.laws_marks.proofs.OutDummyLinks.{is_within, dummy_back_holds}
use Rattle.laws_marks.proofs.OutCommonUnits.{number_there, common_link_holds}
use Rattle.laws_marks.proofs.OutCalleeLinks.{stands, IsOfCaller, actual_is, dummy_linked, common_linked, meets_at, covered_one, units_there}
use Rattle.f77_ast.proofs.StorageLaws.{to_number as next_symbol}
use Rattle.laws_programs.proofs.Effects.Like.{like_found}
use Rattle.call_graph.specs.Visible.{is_local}
use Rattle.f77_ast.specs.Variables.{same_variable}
use Rattle.f77_ast.proofs.SameLaws.{same_itself}
use Rattle.preconditions.proofs.TransformerAlgebra.Members.{in_left, in_right}

-- ---- what rows name

upto_within : (n : ℕ) (v : Var) → Upto n v → is_within n v ≡ true
upto_within n (Cell c) h = refl
upto_within n (Exit c) h = refl
upto_within n (Phi i) h = and_from (nat_lt 0 i) (nat_le i n) (lt-ltb 0 i h.0) (le-leb i n h.1)
upto_within n (Aux i) h = refl

named_terms_are : (n : ℕ) (v : Var) (ts : List Term) → EachVar (Upto n) ts → in_terms v ts ≡ true → is_within n v ≡ true
named_terms_are n v [] h e = absurd (true≢false (sym e))
named_terms_are n v (t ∷ ts) h e = go (var_eq v t.var) refl e (λ i. named_terms_are n v ts h.1 i)
  where
    go : (b : Bool) → var_eq v t.var ≡ b → (b || in_terms v ts) ≡ true → (in_terms v ts ≡ true → is_within n v ≡ true) → is_within n v ≡ true
    go true k i ih = subst (λ w. is_within n w ≡ true) (sym (var_eq-true v t.var k)) (upto_within n t.var h.0)
    go false k i ih = ih i

pub named_rows_are : (n : ℕ) (v : Var) (rs : List Row) → AreGiven (Upto n) rs → in_rows v rs ≡ true → is_within n v ≡ true
named_rows_are n v [] h e = absurd (true≢false (sym e))
named_rows_are n v (r ∷ rs) h e = go (in_terms v r.terms) refl e (λ i. named_rows_are n v rs h.1 i)
  where
    go : (b : Bool) → in_terms v r.terms ≡ b → (b || in_rows v rs) ≡ true → (in_rows v rs ≡ true → is_within n v ≡ true) → is_within n v ≡ true
    go true k i ih = named_terms_are n v r.terms h.0.1 k
    go false k i ih = ih i

-- ---- sizes of blocks

sizes_are : (bs : List GraphBlock) (y : List ℕ) → size_in bs y ≡ meaning.size_in bs y
sizes_are [] y = refl
sizes_are (b ∷ bs) y = ap (λ n. if bytes_eq b.name y then b.size else n) (sizes_are bs y)

-- equations between places are such between elements
back_elements : (m e : Scene) (q : ℕ) (x y : ℕ → ℤ) (l : CalleeLink) (f f' i i' : Elements) → ((phi : ℕ → ℤ) → f phi ≡ f' phi) → ((phi : ℕ → ℤ) → i phi ≡ i' phi) → LinkHolds m e q x y f' i' l → LinkHolds m e q x y f i l
back_elements m e q x y l f f' i i' p r w = subst (λ (v : Elements). LinkHolds m e q x y v i l) (λ j phi. sym (p phi) j) (subst (λ (v : Elements). LinkHolds m e q x y f' v l) (λ j phi. sym (r phi) j) w)

-- as in laws_analyses/proofs/Regions/Carrying. may_name: the variables that the regions of what is called may name
module _ (ks : List Known) (g : Graph) (b : Blocks) (cs : Callees) (sites : List ℕ → List HoldingSite) (rs : List ℕ → Summaries) (turns : ℕ) (laws : LinkLaws) (h : Part) (sane : Sane b h) (reg : Regular h) (jh : Joins ks g h) (k : Part) (sane_k : Sane b k) (enters : Enters ks g k) (jk : Joins ks g k) (x : List ℕ) (es : ExprTrees) (P : System) (site : Site b cs sites h k x es P) (sends : Sends b ks g cs rs h k x)
    (callee : List ℕ → Meaning) (psm : List Place) (began : Store) (at : Places) (bound : Bound g b h sane psm began at) (sound : Sound (setting ks g (called_in g cs (rs h.routine.name) h) b cs h sane reg turns callee psm at)) (n0 : ℕ) (z : Store) (steady : Steady (setting ks g (called_in g cs (rs h.routine.name) h) b cs h sane reg turns callee psm at) (changed_cells (transformers_of h.routine.body h.scope cs).at) began z) (xs : List Actual) (s : Store) (atk : Places)
    (binds : Binds (record { caller = h.scope; actuals = es; symbols = k.scope.symbols }) (scene_in b h psm at) (scene_in b k (places_of xs) (dummy_places k (places_of xs)))) (begins : Begins (record { caller = h.scope; actuals = es; symbols = k.scope.symbols }) (scene_in b h psm at) (scene_in b k (places_of xs) (dummy_places k (places_of xs))) (numbers_of z) (numbers_of s))
    (sol : (y : List ℕ) (v : ℕ) → h.routine.names y ≡ Variable v → h.scalar y ≡ true → 0 < (at v).extent) (apt : (i v : ℕ) → is_cell h.scope.tracked v ≡ true → h.routine.own_unit n0 i ≡ unit_in at v → ⊥)
    (each : AllAre (setting ks g (called_in g cs (rs h.routine.name) h) b cs h sane reg turns callee psm at) sound sol (h.routine.own_unit n0) apt z es 0 xs) (entry : AtEntry g k (places_of xs) s atk) where
  abbrev c : SidesTree
  c = sides h.scope (changed_cells (transformers_of h.routine.body h.scope cs).at) g.untracked x es k.scope.symbols

  abbrev m : Scene
  m = scene_in b h psm at

  abbrev e : Scene
  e = scene_in b k (places_of xs) atk

  abbrev nx : ℕ → ℤ
  nx = numbers_of z

  abbrev ny : ℕ → ℤ
  ny = numbers_of s

  abbrev outer : Named → Elements
  outer v = elements_with ks g h.scope.symbols at v

  abbrev inner : Named → Elements
  inner v = elements_with ks g k.scope.symbols atk v

  abbrev size : List ℕ → ℕ
  size = size_in g.blocks

  inner_is : (n : ℕ) (t : SymbolTree) → symbol_at k.scope.symbols n ≡ Some t → is_constant t.place ≡ false → (phi : ℕ → ℤ) → inner (Own n) phi ≡ translation.elements_of (atk n) phi
  inner_is n t q f phi =
      stored_inner ks g b cs sites rs turns laws h sane reg jh k sane_k enters jk x es P site sends callee psm began at bound sound n0 z steady xs s atk binds begins sol apt each entry n t q f phi ∙ elements_are (atk n) phi

  unstored : (n : ℕ) → is_stored (symbol_at k.scope.symbols n) ≡ false → (phi : ℕ → ℤ) (u : ℕ) → inner (Own n) phi ≡ Some u → ⊥
  unstored n f phi u q = let no : None ≡ Some u = sym (ap (λ w. elements_if w (atk n) phi) f) ∙ q in cc

  -- what is the caller's variable w, at the unit u, is a variable of what is called, which has the unit
  pub record IsBack (may_name : Named → Bool) (w : Named) (u : ℕ) : Type 0 where
    pub one : CalleeLink
    pub is_one : In one (callee_links (size_in g.blocks) (sides h.scope (changed_cells (transformers_of h.routine.body h.scope cs).at) g.untracked x es k.scope.symbols) w)
    pub named : may_name one.variable ≡ true
    pub has : HasUnit (elements_with ks g k.scope.symbols atk one.variable) u
    pub holds : LinkHolds (scene_in b h psm at) (scene_in b k (places_of xs) atk) (subscripts_of (sides h.scope (changed_cells (transformers_of h.routine.body h.scope cs).at) g.untracked x es k.scope.symbols) w) (numbers_of z) (numbers_of s) (elements_with ks g h.scope.symbols at w) (elements_with ks g k.scope.symbols atk one.variable) one

  module _ (may_name : Named → Bool) (own_named : (n : ℕ) → may_name (Own n) ≡ true) (part : DownPart may_name k) (same_name : x ≡ k.routine.name)
      (given : (v : Named) (l : Link) → may_name v ≡ true → link_of (sides h.scope (changed_cells (transformers_of h.routine.body h.scope cs).at) g.untracked x es k.scope.symbols) v ≡ Some l → (n : ℕ) (t : SymbolTree) → l.variable ≡ Own n → symbol_at h.scope.symbols n ≡ Some t → AreGiven (Upto (length t.bounds)) l.rows)
      (once : (n : ℕ) (t : SymbolTree) → symbol_at h.scope.symbols n ≡ Some t → AreTold (length t.bounds) (elements_with ks g h.scope.symbols at (Own n))) where
    abbrev Back : Named → ℕ → Type 0
    Back w u = IsBack may_name w u

    -- ---- a dummy

    dummy_back : (n : ℕ) (t : SymbolTree) (d : ℕ) → symbol_at k.scope.symbols n ≡ Some t → t.place ≡ place.Dummy d → (l : Link) → link_of c (Own n) ≡ Some l → (w : Named) → l.variable ≡ w → translation.LinkHolds m e nx ny (outer w) (inner (Own n)) l → (u : ℕ) → HasUnit (inner (Own n)) u → Back w u
    dummy_back n t d q lies l linked w same holds u has = go (actual_of es d) refl
      where
        link_is : symbol_link c (symbol_at c.callee.symbols n) ≡ actual_link c t.bounds (actual_of es d)
        link_is = ap (symbol_link c) q ∙ ap (place_link c t) lies

        of_caller : IsOfCaller c l → Back w u
        of_caller i =
            let bs = i.symbol.bounds in
            let v : w ≡ Own i.number = sym same ∙ i.variable in
            let test : same_variable (Own i.number) l.variable ≡ true = ap (same_variable (Own i.number)) i.variable ∙ same_itself (Own i.number) in
            let back_link : CalleeLink = link (Own n) true (turned_rows l.rank (length bs) l.rows) in
            let there = dummy_linked c (Own i.number) (length bs) n t d l q lies linked test in
            let all : In back_link (own_links c i.number (symbol_at c.caller.symbols i.number)) =
            subst (λ o. In back_link (own_links c i.number o)) (sym i.is_symbol) (in_left back_link (dummy_links c (Own i.number) (length bs) 0 c.callee.symbols) (own_common c (Own i.number) i.symbol i.symbol.place) there) in
            let count : subscripts_of c (Own i.number) ≡ length bs = ap (λ (o : Option SymbolTree). rank_of o) i.is_symbol in
            let to : translation.LinkHolds m e nx ny (outer (Own i.number)) (inner (Own n)) l = subst (λ y. translation.LinkHolds m e nx ny (outer y) (inner (Own n)) l) v holds in
            let lh = dummy_back_holds m e (length bs) nx ny (outer (Own i.number)) (inner (Own n)) l to i.moved
            (λ y r. named_rows_are (length bs) y l.rows (given (Own n) l (own_named n) linked i.number i.symbol i.variable i.is_symbol) r) (once i.number i.symbol i.is_symbol) (Own n) in
            subst (λ y. Back y u) (sym v)
            (record { one = back_link; is_one = all; named = own_named n; has = has; holds = subst (λ j. LinkHolds m e j nx ny (outer (Own i.number)) (inner (Own n)) back_link) (sym count) lh })

        go : (o : Option ExprTree) → actual_of es d ≡ o → Back w u
        go None f = (let no : None ≡ Some l = sym (link_is ∙ ap (actual_link c t.bounds) f) ∙ linked in cc)
        go (Some a) f = of_caller (actual_is c t.bounds a l (sym (link_is ∙ ap (actual_link c t.bounds) f) ∙ linked))

    -- ---- variables of blocks

    module _ (n : ℕ) (t : SymbolTree) (q : symbol_at k.scope.symbols n ≡ Some t) (y : List ℕ) (f : ℕ) (lies : t.place ≡ place.Block y f) where
      there_is : atk n ≡ k.routine.fixed n
      there_is = entry.other n (sends.common n t y f q lies)

      stored : is_constant t.place ≡ false
      stored = ap is_constant lies

      sizes : (atk n).extent ≡ total_size (atk n).dims
      sizes = let w = jk.fixed n t q stored (sends.common n t y f q lies) in subst (λ (p : Place). p.extent ≡ total_size p.dims) (sym there_is) w.sizes

      constants : ConstantsAre c.callee.scalars.value t.bounds (atk n).dims
      constants =
          let w = jk.fixed n t q stored (sends.common n t y f q lies) in
          subst (λ (v : List ℕ → Option HasConstantValue). ConstantsAre v t.bounds (atk n).dims) jk.value (subst (λ (p : Place). ConstantsAre k.scope.scalars.value t.bounds p.dims) (sym there_is) w.constants)

      first : (atk n).first ≡ (block_place ks g y).first + f
      first = ap (λ (p : Place). p.first) there_is ∙ (sends.block n t y f q lies).first

      inside : (atk n).extent + f ≤ (block_place ks g y).extent
      inside = subst (λ (p : Place). p.extent + f ≤ (block_place ks g y).extent) (sym there_is) (sends.block n t y f q lies).inside

      units_are : (atk n).extent ≡ units_in k.scope.symbols t
      units_are = ap (λ (p : Place). p.extent) there_is ∙ part.extent n t y f q lies

      own_is : (phi : ℕ → ℤ) → inner (Own n) phi ≡ translation.elements_of (atk n) phi
      own_is phi = inner_is n t q stored phi

      -- it has a unit
      some_units : (u : ℕ) → HasUnit (inner (Own n)) u → 0 < units_in k.scope.symbols t
      some_units u has =
          let r = element_inside (atk n) has.subscripts u (elements_are (atk n) has.subscripts ∙ (sym (own_is has.subscripts) ∙ has.there)) in
          let less = r.1 in
          let same = units_are in
          omega (arith, less, same)

      whole_is : (phi : ℕ → ℤ) → outer (Block y) phi ≡ translation.elements_of (block_place ks g y) phi
      whole_is phi = ap (λ w'. elements_if w' (block_place ks g y) phi) (sends.told n t y f q lies) ∙ elements_are (block_place ks g y) phi

      -- the unit of a number
      unit_has : (j u : ℕ) → j < (atk n).extent → (atk n).first + j ≡ u → HasUnit (inner (Own n)) u
      unit_has j u less there' =
          let h = number_there (atk n) j u (last_of t.bounds (atk n).dims (jk.open_last n t q) (constants_close c.callee.scalars.value t.bounds (atk n).dims constants)) sizes less there' in
          record { subscripts = h.subscripts; there = own_is h.subscripts ∙ h.there }

      -- the block itself
      in_block : (u : ℕ) → HasUnit (inner (Own n)) u → Back (Block y) u
      in_block u has =
          let form : Option Affine = Some (var_form (Aux 1)) in
          let row = equation form (unit_place c.callee.scalars.value false f t.bounds) in
          let total = sizes_are g.blocks y in
          let room = inside in
          let same = units_are in
          let some = some_units u has in
          let meets = meets_at (units_of c.callee.symbols f t) (record { first = 0; count = size y }) f (omega arith) (omega (arith, some)) (omega arith) (omega (arith, total, room, same, some)) in
          let is_link = common_linked c (Block y) y (record { first = 0; count = size y }) form n t f q lies meets in
          record {
            one = by_row (Own n) row;
            is_one = in_left (by_row (Own n) row) (common_links c (Block y) y (record { first = 0; count = size y }) form 0 c.callee.symbols) (block_rest c y (record { first = 0; count = size y }) (same_link (Block y))) is_link;
            named = own_named n;
            has = has;
            holds = back_elements m e 1 nx ny (by_row (Own n) row) (outer (Block y)) (translation.elements_of (block_place ks g y)) (inner (Own n)) (translation.elements_of (atk n)) whole_is own_is
                (common_link_holds m e nx ny c.callee.scalars.value t.bounds (block_place ks g y) (atk n) f (Own n) refl (constants_so c.callee.scalars.value t.bounds (atk n).dims constants) sizes first);
          }

      -- the caller's variable that is like it
      as_like : (j : ℕ) → first_like 1 h.scope.symbols y f k.scope.symbols t h.scope.symbols ≡ Some j → (u : ℕ) → HasUnit (inner (Own n)) u → Back (Own j) u
      as_like j like u has =
          let a = sends.alike n j t y f q lies like in
          let r = like_found 1 j h.scope.symbols y f k.scope.symbols t h.scope.symbols like in
          let low = r.1 in
          let w = stands h.scope.symbols j a.symbol a.is_symbol in
          let k1 = w.number in
          let back_1 : j - 1 ≡ w.before = omega (arith, k1) in
          let same : r.0 ≡ a.symbol = (let both : Some r.0 ≡ Some a.symbol = sym r.2 ∙ (ap (slice_get h.scope.symbols) back_1 ∙ w.is_there) in cc) in
          let at_block : a.symbol.place ≡ place.Block y f = ap (λ (v : SymbolTree). v.place) (sym same) ∙ r.3.lies in
          let count : units_in k.scope.symbols t ≡ units_in h.scope.symbols a.symbol = r.3.size ∙ ap (units_in h.scope.symbols) same in
          let some = some_units u has in
          let form = unit_place c.caller.scalars.value true f a.symbol.bounds in
          let us = units_of c.caller.symbols f a.symbol in
          let meets = meets_at (units_of c.callee.symbols f t) us f (omega arith) (omega (arith, some)) (omega arith) (omega (arith, some, count)) in
          let is_link = common_linked c (Own j) y us form n t f q lies meets in
          let test : is_number j (first_like 1 h.scope.symbols y f k.scope.symbols t h.scope.symbols) ≡ true = ap (is_number j) like ∙ eq-eqb j j refl in
          let is_same : common_link c (Own j) form n y f t ≡ same_link (Own n) = ap (λ v. if v then same_link (Own n) else by_row (Own n) (equation form (unit_place c.callee.scalars.value false f t.bounds))) test in
          let whole = by_row (Block y) (equation (Some (var_form (Phi 1))) form) in
          let among : In (same_link (Own n)) (block_links c (Own j) y us form whole) =
          in_left (same_link (Own n)) (common_links c (Own j) y us form 0 c.callee.symbols) (block_rest c y us whole) (subst (λ v. In v (common_links c (Own j) y us form 0 c.callee.symbols)) is_same is_link) in
          let mine : In (same_link (Own n)) (own_common c (Own j) a.symbol a.symbol.place) = subst (λ p. In (same_link (Own n)) (own_common c (Own j) a.symbol p)) (sym at_block) among in
          record {
            one = same_link (Own n);
            is_one = subst (λ o. In (same_link (Own n)) (own_links c j o)) (sym a.is_symbol) (in_right (same_link (Own n)) (dummy_links c (Own j) (length a.symbol.bounds) 0 c.callee.symbols) (own_common c (Own j) a.symbol a.symbol.place) mine);
            named = own_named n;
            has = has;
            holds = same_link_holds m e (subscripts_of c (Own j)) nx ny (outer (Own j)) (inner (Own n))
                (λ phi v r'.
                stored_inner ks g b cs sites rs turns laws h sane reg jh k sane_k enters jk x es P site sends callee psm began at bound sound n0 z steady xs s atk binds begins sol apt each entry n t q stored phi
                ∙ (ap (λ (p : Place). elements_of p phi) there_is
                ∙ (sym (a.elements phi)
                ∙ (ap (λ (p : Place). elements_of p phi) (sym (bound.made.other j a.caller ∙ scalars_fixed h.routine.dummies psm h.routine.fixed j a.caller))
                ∙ (sym (stored_outer ks g b cs sites rs turns laws h sane reg jh k sane_k enters jk x es P site sends callee psm began at bound sound n0 z steady xs s atk binds begins sol apt each entry j a.symbol a.is_symbol a.stored phi) ∙ r')))))
                (Own n);
          }

      common_back : (l : Link) → link_of c (Own n) ≡ Some l → (w : Named) → l.variable ≡ w → (u : ℕ) → HasUnit (inner (Own n)) u → Back w u
      common_back l linked w same u has = go (first_like 1 h.scope.symbols y f k.scope.symbols t h.scope.symbols) refl
        where
          link_is : symbol_link c (symbol_at c.callee.symbols n) ≡ Some (like_or_block c y f t.bounds (first_like 1 h.scope.symbols y f k.scope.symbols t h.scope.symbols))
          link_is = ap (symbol_link c) q ∙ ap (place_link c t) lies

          go : (r : Option ℕ) → first_like 1 h.scope.symbols y f k.scope.symbols t h.scope.symbols ≡ r → Back w u
          go None r =
              let is : Some (block_link c y f t.bounds) ≡ Some l = sym (link_is ∙ ap (λ o. Some (like_or_block c y f t.bounds o)) r) ∙ linked in
              let one : block_link c y f t.bounds ≡ l = cc in
              let v : Block y ≡ w = sym (unit_variable y _ _) ∙ (ap (λ (i : Link). i.variable) one ∙ same) in
              subst (λ v'. Back v' u) v (in_block u has)
          go (Some j) r =
              let is : Some (same_elements (Own j)) ≡ Some l = sym (link_is ∙ ap (λ o. Some (like_or_block c y f t.bounds o)) r) ∙ linked in
              let one : same_elements (Own j) ≡ l = cc in
              let v : Own j ≡ w = ap (λ (i : Link). i.variable) one ∙ same in
              subst (λ v'. Back v' u) v (as_like j r u has)

    -- ---- a saved local

    local_back : (n : ℕ) (t : SymbolTree) → symbol_at k.scope.symbols n ≡ Some t → (g0 o0 : ℕ) → t.place ≡ place.Local g0 o0 → (l : Link) → link_of c (Own n) ≡ Some l → (w : Named) → l.variable ≡ w → (u : ℕ) → HasUnit (inner (Own n)) u → Back w u
    local_back n t q g0 o0 lies l linked w same u has = go t.saved refl
      where
        link_is : symbol_link c (symbol_at c.callee.symbols n) ≡ if_saved c t
        link_is = ap (symbol_link c) q ∙ ap (place_link c t) lies

        go : (v : Bool) → t.saved ≡ v → Back w u
        go false v = (let no : None ≡ Some l = sym (link_is ∙ ap (λ w'. if w' then Some (same_elements (Saved x t.name)) else None) v) ∙ linked in cc)
        go true v =
            let is : Some (same_elements (Saved x t.name)) ≡ Some l = sym (link_is ∙ ap (λ w'. if w' then Some (same_elements (Saved x t.name)) else None) v) ∙ linked in
            let one : same_elements (Saved x t.name) ≡ l = cc in
            let v1 : Saved x t.name ≡ w = ap (λ (i : Link). i.variable) one ∙ same in
            let number : saved_variable c x t.name ≡ Own n = ap (λ w'. if w' then saved_as x t.name (number_from 1 c.callee.names t.name) else Saved x t.name) ((bytes_eq-Decides x x).1 refl) ∙ ap (saved_as x t.name) (part.once n t q) in
            let p = sends.saved n t q (ap is_local lies) v in
            subst (λ v'. Back v' u) v1
            (record {
              one = same_link (Own n);
              is_one = subst (λ i. In (same_link (Own n)) (same_link i ∷ [])) (sym number) here;
              named = own_named n;
              has = has;
              holds = same_link_holds m e 1 nx ny (outer (Saved x t.name)) (inner (Own n))
                  (λ phi i r.
                  stored_inner ks g b cs sites rs turns laws h sane reg jh k sane_k enters jk x es P site sends callee psm began at bound sound n0 z steady xs s atk binds begins sol apt each entry n t q (ap is_constant lies) phi
                  ∙ (ap (λ (p' : Place). elements_of p' phi) (entry.other n (enters.local n t q (ap is_local lies)) ∙ sym p.1)
                  ∙ (sym (ap (λ w'. elements_if w' (saved_place ks g ks x t.name) phi) p.0) ∙ r)))
                  (Own n);
            })

    -- ---- a variable of what is called

    own_back : (n : ℕ) (o : Option SymbolTree) → symbol_at k.scope.symbols n ≡ o → (l : Link) → link_of c (Own n) ≡ Some l → (w : Named) → l.variable ≡ w → translation.LinkHolds m e nx ny (outer w) (inner (Own n)) l → (u : ℕ) → HasUnit (inner (Own n)) u → Back w u
    own_back n None q l linked w same holds u has = (let no : None ≡ Some l = sym (ap (symbol_link c) q) ∙ linked in cc)
    own_back n (Some t) q l linked w same holds u has = by t.place refl
      where
        by : (p : SymbolPlace) → t.place ≡ p → Back w u
        by (place.Local g0 o0) lies = local_back n t q g0 o0 lies l linked w same u has
        by (place.Dummy d) lies = dummy_back n t d q lies l linked w same holds u has
        by (place.Block y f) lies = common_back n t q y f lies l linked w same u has
        by (place.Constant v) lies = absurd (unstored n (ap is_stored q ∙ ap (λ p. not (is_constant p)) lies) has.subscripts u has.there)

    -- a block that is handed on, or a variable of the callee's in it
    whole_back : (y : List ℕ) → may_name (Block y) ≡ true → (u : ℕ) → HasUnit (inner (Block y)) u → Back (Block y) u
    whole_back y may u has = go (are_covered all (all_units c.callee.symbols y c.callee.symbols)) refl
      where
        all : Units
        all = record { first = 0; count = size y }

        form : Option Affine
        form = Some (var_form (Aux 1))

        go : (v : Bool) → are_covered all (all_units c.callee.symbols y c.callee.symbols) ≡ v → Back (Block y) u
        go false v = record {
          one = same_link (Block y);
          is_one = in_right (same_link (Block y)) (common_links c (Block y) y all form 0 c.callee.symbols) (block_rest c y all (same_link (Block y)))
              (subst (λ w'. In (same_link (Block y)) (if w' then [] else same_link (Block y) ∷ [])) (sym v) here);
          named = may;
          has = has;
          holds = same_link_holds m e 1 nx ny (outer (Block y)) (inner (Block y)) (λ phi i r. r) (Block y);
        }
        go true v =
            let r = element_inside (block_place ks g y) has.subscripts u (told_elements has.subscripts u has.there) in
            let total = sizes_are g.blocks y in
            let less = r.1 in
            let a = covered_one all (all_units c.callee.symbols y c.callee.symbols) r.0 v (omega arith) (omega (arith, less, total)) in
            let o = units_there c.callee.symbols y c.callee.symbols a.one a.is_one in
            let is : symbol_at k.scope.symbols (suc o.before) ≡ Some o.symbol = next_symbol k.scope.symbols o.before o.symbol o.is_there in
            let n = suc o.before in
            let one = first n o.symbol is y o.offset o.lies in
            let ext = units_are n o.symbol is y o.offset o.lies in
            let from : o.offset ≤ r.0 = subst (λ (w' : Units). w'.first ≤ r.0) o.units a.from in
            let below : r.0 < o.offset + units_in k.scope.symbols o.symbol = subst (λ (w' : Units). r.0 < w'.first + w'.count) o.units a.below in
            let unit = r.2 in
            let there' = unit_has n o.symbol is y o.offset o.lies (r.0 - o.offset) u (omega (arith, ext, from, below)) (omega (arith, one, unit, from)) in
            in_block n o.symbol is y o.offset o.lies u there'
          where
            told_elements : (phi : ℕ → ℤ) (u : ℕ) → elements_with ks g k.scope.symbols atk (Block y) phi ≡ Some u → elements_of (block_place ks g y) phi ≡ Some u
            told_elements phi u r = by (is_told (Block y)) r
              where
                by : (w' : Bool) → elements_if w' (block_place ks g y) phi ≡ Some u → elements_of (block_place ks g y) phi ≡ Some u
                by true i = i
                by false i = cc

    pub back_of : (v : Named) → may_name v ≡ true → (l : Link) → link_of (sides h.scope (changed_cells (transformers_of h.routine.body h.scope cs).at) g.untracked x es k.scope.symbols) v ≡ Some l → (w : Named) → l.variable ≡ w → translation.LinkHolds (scene_in b h psm at) (scene_in b k (places_of xs) atk) (numbers_of z) (numbers_of s) (elements_with ks g h.scope.symbols at w) (elements_with ks g k.scope.symbols atk v) l → (u : ℕ) → HasUnit (elements_with ks g k.scope.symbols atk v) u → IsBack may_name w u
    back_of (Own n) may l linked w same holds u has = own_back n (symbol_at k.scope.symbols n) refl l linked w same holds u has
    back_of (Block y) may l linked w same holds u has =
        let one : same_elements (Block y) ≡ l = (let is : Some (same_elements (Block y)) ≡ Some l = linked in cc) in
        subst (λ v'. Back v' u) (ap (λ (i : Link). i.variable) one ∙ same) (whole_back y may u has)
    back_of (Saved v y) may l linked w same holds u has =
        let one : same_elements (Saved v y) ≡ l = (let is : Some (same_elements (Saved v y)) ≡ Some l = linked in cc) in
        subst (λ v'. Back v' u) (ap (λ (i : Link). i.variable) one ∙ same) (go (bytes_eq v x) refl)
      where
        go : (w' : Bool) → bytes_eq v x ≡ w' → Back (Saved v y) u
        go true f = absurd (part.other y (subst (λ i. may_name (Saved i y) ≡ true) ((bytes_eq-Decides v x).0 f ∙ same_name) may))
        go false f = record {
          one = same_link (Saved v y);
          is_one = subst (λ i. In (same_link (Saved v y)) (same_link i ∷ [])) (sym (ap (λ w'. if w' then saved_as v y (number_from 1 c.callee.names y) else Saved v y) f)) here;
          named = may;
          has = has;
          holds = same_link_holds m e 1 nx ny (outer (Saved v y)) (inner (Saved v y)) (λ phi i r. r) (Saved v y);
        }
