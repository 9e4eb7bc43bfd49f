-- What is needed of a CALL later is needed of what it calls: OUT regions of the CALL, as regions of the module that is called, have the units.
use Rattle.std.proofs.Common.{◌≡◌, ℕ, ◌<◌, ◌≤◌, ℤ, List, ◌++◌, length, Option, Some, None, Bool, true, false, refl, sym, ap, ◌∙◌, subst}
use Rattle.std.specs.Prelude.{if◌then◌else◌, option_map, MatchOption}
use Rattle.std.specs.Ordering.{is_eq}
use Rattle.affine_systems.specs.declared.row.System.{System}
use Rattle.f77_ast.specs.Trees.{ExprTrees}
use Rattle.f77_ast.specs.Store.{Store}
use Rattle.f77_ast.specs.Places.{Variable, Place, Places}
use Rattle.f77_ast.specs.Calls.{Actual, Meaning, places_of}
use Rattle.f77_ast.specs.Writes.{Locks}
use Rattle.f77_ast.specs.declared.variable.Variable.{Variable as Named}
use Rattle.f77_ast.specs.declared.variable.Variable.TheVariants.{Own}
use Rattle.f77_ast.specs.Symbols.{SymbolTree}
use Rattle.f77_ast.specs.Shared.{symbol_at}
use Rattle.f77_ast.specs.Summaries.{SummaryTree}
use Rattle.call_graph.specs.declared.graph.Graph.{Graph}
use Rattle.f77_meaning.specs.Areas.{is_own_unit}
use Rattle.f77_meaning.specs.Linked.{numbering}
use Rattle.f77_meaning.specs.Modules.{Known}
use Rattle.affine_forms.specs.Scalars.{is_cell}
use Rattle.affine_forms.specs.Claims.{unit_in, numbers_of}
use Rattle.preconditions.specs.transformer_algebra.Claims.{Scene}
use Rattle.preconditions.specs.transformer_algebra.Laws.{In}
use Rattle.preconditions.specs.call_translation.Sites.{HoldingSite}
use Rattle.preconditions.specs.transformers.Given.{Callees}
use Rattle.preconditions.specs.transformers.Modules.{transformers_of}
use Rattle.in_out_regions.specs.region_sets.declared.region.Access.{Access}
use Rattle.in_out_regions.specs.region_sets.declared.region.Access.TheVariants.{Write, Out}
use Rattle.in_out_regions.specs.region_sets.declared.region.Region.{Region}
use Rattle.in_out_regions.specs.region_sets.Sets.{unite_all}
use Rattle.in_out_regions.specs.region_sets.Claims.{Elements, Places as AllElements, AreByOrder, LiesIn, LiesInSet}
use Rattle.in_out_regions.proofs.RegionSets.SetLaws.{gathered_units}
use Rattle.in_out_regions.specs.call_equations.declared.link.Link.{Link}
use Rattle.in_out_regions.specs.call_equations.Sides.{SidesTree, changed_cells}
use Rattle.in_out_regions.specs.call_equations.Links.{link_of}
use Rattle.in_out_regions.specs.region_translation.Caller.{by_link, to_caller}
use Rattle.in_out_regions.specs.region_translation.Claims.{FormsMean}
use Rattle.in_out_regions.specs.region_translation.Claims as translation
use Rattle.in_out_regions.proofs.RegionTranslation.RegionLaws.{units_sent}
use Rattle.in_out_regions.specs.array_regions.Calls.{Callees as Summaries, sides, actuals_reads, all_in_caller, summary_in_caller}
use Rattle.loop_marker.specs.out_regions.Lists.{writes}
use Rattle.loop_marker.specs.out_regions.Used.{all_out}
use Rattle.in_out_regions.specs.region_translation.Units.{size_in}
use Rattle.in_out_regions.specs.region_translation.Callee.{to_callee}
use Rattle.in_out_regions.specs.region_translation.Links.{subscripts_of}
use Rattle.in_out_regions.specs.region_translation.CalleeClaims.{HasUnit, LinkHolds}
use Rattle.in_out_regions.specs.region_translation.CalleeLaws.{AreTold}
use Rattle.in_out_regions.proofs.RegionTranslation.CalleeRegionLaws.{units_sent as units_handed}
use Rattle.laws_lines.proofs.SystemVars.{AreGiven}
use Rattle.laws_analyses.specs.Statements.Good.{said}
use Rattle.laws_analyses.specs.Calls.Bindings.{Binds, Begins}
use Rattle.laws_analyses.specs.Calls.Parts.{Blocks, Part, places_in as dummy_places, scene_in, Sane}
use Rattle.laws_analyses.specs.Calls.Sites.{Site}
use Rattle.laws_analyses.proofs.Calls.Enter.{Fits}
use Rattle.laws_analyses.specs.Regions.Entries.{IsLost, Enters}
use Rattle.laws_analyses.specs.Regions.Programs.{regions_in_part, called_in, EachRegionHolds, Regular, Joins, Sends}
use Rattle.laws_analyses.specs.Regions.Settings.{scene, Sound, elements_with}
use Rattle.laws_analyses.proofs.Regions.Bounds.{setting}
use Rattle.laws_analyses.proofs.Regions.CalledShown.{AtEntry, Bound}
use Rattle.laws_analyses.proofs.Regions.Calling.{OfferedHere, solid, apart, begins_there, binds_there}
use Rattle.laws_analyses.proofs.Regions.Carrying.{LinkLaws, Way, joined, hidden, way, forms}
use Rattle.laws_analyses.proofs.Regions.Sent.{in_sent}
use Rattle.laws_analyses.proofs.Regions.Steady.{Steady}
use Rattle.laws_analyses.proofs.Regions.Told.{told_same}
use Rattle.laws_marks.specs.InFrames.{Frame, elements_in, bounds_count, rank}
use Rattle.laws_marks.specs.InLaid.{Laid}
use Rattle.laws_marks.specs.InUnits.{UnitsFit}
use Rattle.laws_marks.proofs.InCalledIn.{elements_seen}
use Rattle.laws_marks.proofs.InCarried.{may_in}
use Rattle.laws_marks.proofs.InFramed.{by_order, elements_on, lies_in, lies_back}
use Rattle.laws_marks.proofs.InLinked.{IsNarrowLink}
use Rattle.laws_marks.proofs.InNarrow.{Upto}
use Rattle.laws_marks.proofs.InPrograms as firsts
use Rattle.laws_marks.proofs.InRunning.{frame}
use Rattle.laws_marks.specs.OutPrograms.{outs_in_part, DownPart}
use Rattle.laws_marks.specs.OutShown.{LiesAs}
use Rattle.laws_marks.proofs.OutBackward.{IsBack, back_of}
use Rattle.laws_marks.proofs.OutMoves.{out_lies}
use Rattle.laws_marks.proofs.OutPrograms.{HandsDownAt}
use Rattle.laws_marks.proofs.OutUsed.{write_in}
use Rattle.in_out_regions.specs.region_sets.Lists.{set_at}
use Rattle.f77_ast.specs.Variables.{same_variable}
use Rattle.f77_ast.proofs.SameLaws.{cmp_to_same, cmp_if, same_itself}
use Rattle.laws_programs.proofs.Effects.Named.{equal_key}
use Rattle.preconditions.proofs.TransformerAlgebra.Members.{in_right}

-- ---- one of a set, by its variable

module _ (k : Frame) (r : Region) (x : ℕ → ℤ) (u : ℕ) where
  -- the elements of its variable alone
  abbrev its : AllElements
  its v = if same_variable r.variable v then elements_in k v else (λ phi. None)

  its_order : AreByOrder its
  its_order v w e = λ i. if same i then by_order k v w e i else (λ phi. None)
    where
      same : same_variable r.variable v ≡ same_variable r.variable w
      same = ap is_eq (cmp_to_same r.variable v w e)

  -- where a region goes into a set, one of its variable has the unit
  pub gathered_as : (a : Access) (rs : List Region) → In r rs → r.kind ≡ a → k.may_name r.variable ≡ true → LiesIn (scene k.base) (elements_in k r.variable) r x u →
      (q : Region) × In q (unite_all rs) × (q.kind ≡ a) × (r.variable ≡ q.variable) × LiesIn (scene k.base) (elements_in k q.variable) q x u
  gathered_as a rs i kind named l =
      let own : its r.variable ≡ elements_in k r.variable = ap (λ b. if b then elements_in k r.variable else (λ phi. None)) (same_itself r.variable) in
      let g = gathered_units rs (scene k.base) its its_order a x u (record { region = r; is_one = i; kind = kind; lies = subst (λ (w : Elements). LiesIn (scene k.base) w r x u) (sym own) l }) in
      back g.region g.is_one g.kind (same_variable r.variable g.region.variable) refl g.lies
    where
      back : (q : Region) → In q (unite_all rs) → q.kind ≡ a → (b : Bool) → same_variable r.variable q.variable ≡ b → LiesIn (scene k.base) (if b then elements_in k q.variable else (λ phi. None)) q x u →
          (q : Region) × In q (unite_all rs) × (q.kind ≡ a) × (r.variable ≡ q.variable) × LiesIn (scene k.base) (elements_in k q.variable) q x u
      back q j f true e w = (q, j, f, told_same r.variable q.variable (k.told r.variable named) (equal_key r.variable q.variable (cmp_if r.variable q.variable e)), w)
      back q j f false e w = (let none : None ≡ Some u = w.there in cc)

-- ---- elements that the regions of a module may name

module _ (ks : List Known) (g : Graph) (k : Part) (may_name : Named → Bool) (laid : Laid ks g k may_name) (atk : Places) where
  abbrev seen : AllElements
  seen = elements_seen ks g may_name k.scope.symbols atk

  seen_on : (v : Named) → may_name v ≡ true → seen v ≡ elements_with ks g k.scope.symbols atk v
  seen_on v h = ap (λ b. if b then elements_with ks g k.scope.symbols atk v else (λ phi. None)) h

  seen_off : (v : Named) → may_name v ≡ false → seen v ≡ (λ phi. None)
  seen_off v h = ap (λ b. if b then elements_with ks g k.scope.symbols atk v else (λ phi. None)) h

  seen_order : AreByOrder seen
  seen_order v w e = go (may_name v) refl (may_name w) refl
    where
      go : (b : Bool) → may_name v ≡ b → (c : Bool) → may_name w ≡ c → seen v ≡ seen w
      go true p c q = ap seen (told_same v w (laid.told v p) (equal_key v w e))
      go false p true q = ap seen (sym (told_same w v (laid.told w q) (sym (equal_key v w e))))
      go false p false q = seen_off v p ∙ sym (seen_off w q)

  seen_named : (v : Named) (phi : ℕ → ℤ) (u : ℕ) → seen v phi ≡ Some u → may_name v ≡ true
  seen_named v phi u e = go (may_name v) refl e
    where
      go : (b : Bool) → may_name v ≡ b → (if b then elements_with ks g k.scope.symbols atk v else (λ psi. None)) phi ≡ Some u → may_name v ≡ true
      go true h f = h
      go false h f = cc

-- ---- a CALL in the module h of the module k

module _ (laws : LinkLaws) (ks : List Known) (g : Graph) (b : Blocks) (cs : Callees) (sites : List ℕ → List HoldingSite) (rs is : List ℕ → Summaries) (us : List ℕ → List Region) (of : List ℕ → Part) (may_name : Part → Named → Bool) (turns : ℕ) (h : Part) (sane : Sane b h) (regular : Regular h) (own_below : (n i : ℕ) → h.below (h.routine.own_unit n i) ≡ true) (ready : firsts.IsReady ks g b cs sites rs is of may_name turns h) (jh : Joins ks g h)
    (k : Part) (sane_k : Sane b k) (enters : Enters ks g k) (jk : Joins ks g k) (laid : Laid ks g k (may_name k)) (part : DownPart (may_name k) k) (x : List ℕ) (es : ExprTrees) (n : ℕ) (P : System) (site : Site b cs sites h k x es P) (sends : Sends b ks g cs rs h k x) (named : x ≡ k.routine.name)
    (narrow : (v : Named) (l : Link) → may_name k v ≡ true → link_of (sides h.scope (changed_cells (transformers_of h.routine.body h.scope cs).at) g.untracked x es k.scope.symbols) v ≡ Some l → IsNarrowLink (may_in ks g may_name h ready.laid) (sides h.scope (changed_cells (transformers_of h.routine.body h.scope cs).at) g.untracked x es k.scope.symbols) (λ w. rank ks g k.scope.symbols w) v l)
    (set : set_at (regions_in_part g cs (rs h.routine.name) h).at n ≡ called_in g cs (rs h.routine.name) h x es)
    (tells : (o : Region) → In o (set_at (outs_in_part g cs (rs h.routine.name) (is h.routine.name) (us h.routine.name) h).at n) → (q : Region) → In q (all_out (to_callee (size_in g.blocks) (sides h.scope (changed_cells (transformers_of h.routine.body h.scope cs).at) g.untracked x es k.scope.symbols) o)) → In q (us k.routine.name)) where
  abbrev c : SidesTree
  c = sides h.scope (changed_cells (transformers_of h.routine.body h.scope cs).at) g.untracked x es k.scope.symbols

  abbrev seen_of : List Region
  seen_of = (regions_in_part g cs (rs k.routine.name) k).summary

  abbrev all : List Region
  all = actuals_reads es h.scope ++ all_in_caller c seen_of

  -- the set of the CALL
  set_is : set_at (regions_in_part g cs (rs h.routine.name) h).at n ≡ unite_all all
  set_is = set ∙ ap (λ (o : Option (SummaryTree (List Region))). unite_all (actuals_reads es h.scope ++ summary_in_caller h.scope (changed_cells (transformers_of h.routine.body h.scope cs).at) g.untracked x es o)) sends.summary_known

  module _ (callee : List ℕ → Meaning) (psm : List Place) (began : Store) (at : Places) (bound : Bound g b h sane psm began at) (sound : Sound (setting ks g (called_in g cs (rs h.routine.name) h) b cs h sane regular turns callee psm at)) (locked : Locks) (still : ℕ → Bool) (fits : Fits b h psm at locked still)
      (units : UnitsFit (frame ks g (called_in g cs (rs h.routine.name) h) b cs h sane regular turns callee psm (may_name h) ready.laid at) locked) (z : Store) (steady : Steady (setting ks g (called_in g cs (rs h.routine.name) h) b cs h sane regular turns callee psm at) (changed_cells (transformers_of h.routine.body h.scope cs).at) began z) (xs : List Actual) (s : Store) (atk : Places)
      (o : OfferedHere (said (EachRegionHolds ks g cs rs of)) ks g b cs sites (λ p. (regions_in_part g cs (rs p.routine.name) p).summary) (called_in g cs (rs h.routine.name) h) h sane regular turns callee psm at bound.made sound own_below x es n locked still fits z xs s) (entry : AtEntry g k (places_of xs) s atk) where
    abbrev caller : Frame
    caller = frame ks g (called_in g cs (rs h.routine.name) h) b cs h sane regular turns callee psm (may_name h) ready.laid at

    abbrev m : Scene
    m = scene_in b h psm at

    abbrev e : Scene
    e = scene_in b k (places_of xs) atk

    abbrev nx : ℕ → ℤ
    nx = numbers_of z

    abbrev ny : ℕ → ℤ
    ny = numbers_of s

    abbrev outer : Named → Elements
    outer v = elements_with ks g h.scope.symbols at v

    abbrev inner : Named → Elements
    inner v = elements_with ks g k.scope.symbols atk v

    abbrev inside : AllElements
    inside = elements_seen ks g (may_name k) k.scope.symbols atk

    abbrev sol : (y : List ℕ) (v : ℕ) → h.routine.names y ≡ Variable v → h.scalar y ≡ true → 0 < (at v).extent
    sol = solid (said (EachRegionHolds ks g cs rs of)) ks g b cs sites (λ p. (regions_in_part g cs (rs p.routine.name) p).summary) (called_in g cs (rs h.routine.name) h) h sane regular turns callee psm at bound.made sound own_below x es n locked still fits z

    abbrev apt : (i v : ℕ) → is_cell h.scope.tracked v ≡ true → h.routine.own_unit n i ≡ unit_in at v → ⊥
    apt = apart (said (EachRegionHolds ks g cs rs of)) ks g b cs sites (λ p. (regions_in_part g cs (rs p.routine.name) p).summary) (called_in g cs (rs h.routine.name) h) h sane regular turns callee psm at bound.made sound own_below x es n locked still fits z

    binds : Binds (record { caller = h.scope; actuals = es; symbols = k.scope.symbols }) (scene_in b h psm at) (scene_in b k (places_of xs) (dummy_places k (places_of xs)))
    binds = binds_there (said (EachRegionHolds ks g cs rs of)) ks g b cs sites (λ p. (regions_in_part g cs (rs p.routine.name) p).summary) (called_in g cs (rs h.routine.name) h) h sane regular turns callee psm at bound.made sound own_below x es n locked still fits z k sane_k P site named xs s o.known

    begins : Begins (record { caller = h.scope; actuals = es; symbols = k.scope.symbols }) (scene_in b h psm at) (scene_in b k (places_of xs) (dummy_places k (places_of xs))) (numbers_of z) (numbers_of s)
    begins = begins_there (said (EachRegionHolds ks g cs rs of)) ks g b cs sites (λ p. (regions_in_part g cs (rs p.routine.name) p).summary) (called_in g cs (rs h.routine.name) h) h sane regular turns callee psm at bound.made sound own_below x es n locked still fits z k sane_k P site named xs s o.known

    abbrev WayOf : Named → Type 0
    WayOf v = Way ks g b cs sites rs turns laws h sane regular jh k sane_k enters jk x es P site sends callee psm began at bound sound n z steady xs s atk binds begins sol apt o.each entry v

    way_of : (v : Named) → WayOf v
    way_of v = way ks g b cs sites rs turns laws h sane regular jh k sane_k enters jk x es P site sends callee psm began at bound sound n z steady xs s atk binds begins sol apt o.each entry v

    cells : FormsMean c m e nx ny
    cells = forms ks g b cs sites rs turns laws h sane regular jh k sane_k enters jk x es P site sends callee psm began at bound sound n z steady xs s atk binds begins sol apt o.each entry

    once : (j : ℕ) (t : SymbolTree) → symbol_at h.scope.symbols j ≡ Some t → AreTold (length t.bounds) (outer (Own j))
    once j t q phi psi u p r i low high =
        let mine : outer (Own j) ≡ elements_in caller (Own j) = elements_on caller (Own j) (ready.laid.own j) in
        units.once (Own j) phi psi u (ap (λ (w : Elements). w phi) (sym mine) ∙ p) (ap (λ (w : Elements). w psi) (sym mine) ∙ r) i low (subst (λ a. i ≤ a) (sym (ap bounds_count q)) high)

    given : (v : Named) (l : Link) → may_name k v ≡ true → link_of c v ≡ Some l → (j : ℕ) (t : SymbolTree) → l.variable ≡ Own j → symbol_at h.scope.symbols j ≡ Some t → AreGiven (Upto (length t.bounds)) l.rows
    given v l may linked j t same q = subst (λ a. AreGiven (Upto a) l.rows) (ap (rank ks g h.scope.symbols) same ∙ ap bounds_count q) (narrow v l may linked).rows

    back : (v : Named) → may_name k v ≡ true → (l : Link) → link_of c v ≡ Some l → (w : Named) → l.variable ≡ w → translation.LinkHolds m e nx ny (outer w) (inner v) l → (u : ℕ) → HasUnit (inner v) u → IsBack ks g b cs sites rs turns laws h sane regular jh k sane_k enters jk x es P site sends callee psm began at bound sound n z steady xs s atk binds begins sol apt o.each entry (may_name k) w u
    back v may l linked w same holds u has =
        back_of ks g b cs sites rs turns laws h sane regular jh k sane_k enters jk x es P site sends callee psm began at bound sound n z steady xs s atk binds begins sol apt o.each entry
        (may_name k) laid.own part named given once v may l linked w same holds u has

    -- an OUT region of the CALL that has the unit is told to the callee
    handed : (q : Region) → In q (set_at (outs_in_part g cs (rs h.routine.name) (is h.routine.name) (us h.routine.name) h).at n) → (u : ℕ) → LiesIn m (elements_in caller q.variable) q nx u → IsBack ks g b cs sites rs turns laws h sane regular jh k sane_k enters jk x es P site sends callee psm began at bound sound n z steady xs s atk binds begins sol apt o.each entry (may_name k) q.variable u → LiesInSet e inside Out (us k.routine.name) ny u
    handed q i u l w =
        let on = seen_on ks g k (may_name k) laid atk w.one.variable w.named in
        let has : HasUnit (inside w.one.variable) u = subst (λ (a : Elements). HasUnit a u) (sym on) w.has in
        let holds : LinkHolds m e (subscripts_of c q.variable) nx ny (outer q.variable) (inside w.one.variable) w.one = subst (λ (a : Elements). LinkHolds m e (subscripts_of c q.variable) nx ny (outer q.variable) a w.one) (sym on) w.holds in
        let sent = units_handed (size_in g.blocks) c q m e nx ny (outer q.variable) inside (seen_order ks g k (may_name k) laid atk) cells part.tracked w.one w.is_one holds u has (lies_back caller q nx u l) in
        let out = out_lies e inside (to_callee (size_in g.blocks) c q) q.kind ny u sent in
        record { region = out.region; is_one = tells q i out.region out.is_one; kind = out.kind; lies = out.lies }

    module _ (u : ℕ) (own : is_own_unit (numbering ks g) u ≡ false) (lost : IsLost ks g k.routine.name u → ⊥) (lies : LiesInSet (scene_in b k (places_of xs) atk) (elements_seen ks g (may_name k) k.scope.symbols atk) Write (regions_in_part g cs (rs k.routine.name) k).summary (numbers_of s) u)
        (needs : (w : Region) → In w (writes (set_at (regions_in_part g cs (rs h.routine.name) h).at n)) → w.kind ≡ Write → LiesIn (scene caller.base) (elements_in caller w.variable) w (numbers_of z) u → LiesAs caller w.variable (set_at (outs_in_part g cs (rs h.routine.name) (is h.routine.name) (us h.routine.name) h).at n) z u) where
      abbrev r : Region
      r = lies.region

      may : may_name k r.variable ≡ true
      may = seen_named ks g k (may_name k) laid atk r.variable lies.lies.phi u lies.lies.there

      there' : LiesIn e (inner r.variable) r ny u
      there' = subst (λ (a : Elements). LiesIn e a r ny u) (seen_on ks g k (may_name k) laid atk r.variable may) lies.lies

      by : WayOf r.variable → LiesInSet e inside Out (us k.routine.name) ny u
      by (hidden linked none) = absurd (none there'.phi u there'.there own lost)
      by (joined l w linked same holds) =
          let q0 = by_link c r l in
          let sent : to_caller c r ≡ Some q0 = ap (option_map (by_link c r)) linked in
          let over = units_sent c r m e nx ny (outer w) (inner r.variable) l linked cells holds u there' in
          let on_w : LiesIn m (outer w) q0 nx u = subst (λ (a : Option Region). MatchOption a ⊥ (λ q'. LiesIn m (outer w) q' nx u)) sent over in
          let on_q : LiesIn m (outer q0.variable) q0 nx u = subst (λ (y : Named). LiesIn m (outer y) q0 nx u) (sym same) on_w in
          let named_q : may_name h q0.variable ≡ true = (narrow r.variable l may linked).named in
          let g0 = gathered_as caller q0 nx u Write all (in_right q0 (actuals_reads es h.scope) (all_in_caller c seen_of) (in_sent c seen_of r q0 lies.is_one sent)) lies.kind named_q (lies_in caller q0 nx u named_q on_q) in
          let in_set : In g0.0 (set_at (regions_in_part g cs (rs h.routine.name) h).at n) = subst (λ ws. In g0.0 ws) (sym set_is) g0.1 in
          let out = needs g0.0 (write_in (set_at (regions_in_part g cs (rs h.routine.name) h).at n) g0.0 in_set g0.2) g0.2 g0.4 in
          let as_w : w ≡ out.region.variable = sym same ∙ (g0.3 ∙ sym out.same) in
          handed out.region out.is_one u out.lies
          (subst (λ (y : Named). IsBack ks g b cs sites rs turns laws h sane regular jh k sane_k enters jk x es P site sends callee psm began at bound sound n z steady xs s atk binds begins sol apt o.each entry (may_name k) y u) as_w
          (back r.variable may l linked w same holds u (record { subscripts = there'.phi; there = there'.there })))

      goes_down : LiesInSet e inside Out (us k.routine.name) ny u
      goes_down = by (way_of r.variable)

  pub hands_down : HandsDownAt ks g b cs sites rs is us of may_name turns h sane regular own_below ready x es n k
  hands_down callee psm began at bound sound locked still fits units z steady xs s atk o entry u own lost lies needs = goes_down callee psm began at bound sound locked still fits units z steady xs s atk o entry u own lost lies needs
