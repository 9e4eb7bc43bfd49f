-- A CALL of a module that runs: what is called is entered, and what its regions show is, in the terms of the caller, what the CALL does.
use Rattle.std.proofs.Common.{◌≡◌, ℕ, ◌<◌, List, [], ◌∷◌, ◌++◌, Some, Bool, true, false, refl, sym, ap, ◌∙◌, subst, true≢false}
use Rattle.std.proofs.lemmas.Bool.{or_parts}
use Rattle.f77_ast.specs.Trees.{ExprTrees}
use Rattle.f77_ast.specs.Store.{Content, Store}
use Rattle.f77_ast.specs.Faults.{Unset}
use Rattle.f77_ast.specs.Steps.{Faulty}
use Rattle.f77_ast.specs.Runs.{Event, Answer, run, Whole}
use Rattle.f77_ast.specs.Places.{Variable, Place, Places}
use Rattle.f77_ast.specs.Writes.{Locks}
use Rattle.f77_ast.specs.Plans.{Flow, Plan}
use Rattle.f77_ast.specs.Plans as plan
use Rattle.f77_ast.specs.Calls.{Actual, Meaning, actuals, places_of, own_units, lock_own, call_plan}
use Rattle.f77_ast.specs.Executions.{Claim}
use Rattle.f77_ast.specs.Programs.{no_module}
use Rattle.f77_ast.proofs.StepLaws.{Leads, leads_true}
use Rattle.call_graph.specs.declared.graph.Graph.{Graph}
use Rattle.f77_meaning.specs.Areas.{is_own_unit}
use Rattle.f77_meaning.specs.Modules.{Known}
use Rattle.f77_meaning.specs.Linked.{numbering}
use Rattle.affine_systems.specs.declared.row.System.{System}
use Rattle.affine_forms.specs.Conditions.{no_rows}
use Rattle.affine_forms.specs.Scalars.{is_cell}
use Rattle.affine_forms.specs.Claims.{unit_in, numbers_of}
use Rattle.preconditions.specs.transformer_algebra.Laws.{here}
use Rattle.preconditions.specs.call_translation.Sites.{HoldingSite}
use Rattle.preconditions.specs.transformers.Given.{Callees}
use Rattle.preconditions.specs.Entry.{sites_entry}
use Rattle.in_out_regions.specs.region_sets.declared.region.Access.{Access}
use Rattle.in_out_regions.specs.region_sets.declared.region.Region.{Region}
use Rattle.in_out_regions.specs.region_sets.Sets.{unite_all}
use Rattle.in_out_regions.specs.region_sets.Claims.{LiesIn, IsSharp, IsSharpSet}
use Rattle.in_out_regions.specs.call_equations.Sides.{SidesTree}
use Rattle.in_out_regions.specs.region_translation.Caller.{to_caller}
use Rattle.in_out_regions.specs.array_regions.Calls.{Called, actuals_reads, all_in_caller}
use Rattle.laws_analyses.proofs.Statements.Ends.{both}
use Rattle.laws_analyses.specs.Calls.Actuals.{AreOffered}
use Rattle.laws_analyses.specs.Calls.Parts.{Blocks, Part, places_in as dummy_places, far_in, scene_in, Sane}
use Rattle.laws_analyses.specs.Calls.Sites.{Site, Entered}
use Rattle.laws_analyses.proofs.Calls.Actuals.{StandFor, actuals_leads}
use Rattle.laws_analyses.proofs.Calls.Bound.{Made}
use Rattle.laws_analyses.specs.Calls.Bindings.{Binds, Begins}
use Rattle.laws_analyses.proofs.Calls.CallFacts.{activation, actuals_fit, entered, begins, binds}
use Rattle.laws_analyses.proofs.Calls.Enter.{Fits}
use Rattle.laws_analyses.proofs.Calls.OfferLaws.{offer_actuals}
use Rattle.laws_analyses.specs.Regions.Entries.{IsLost}
use Rattle.laws_analyses.specs.Regions.Programs.{Regular}
use Rattle.laws_analyses.specs.Regions.Settings.{Setting, scene, Sound, elements_with, elements_at, actuals_plain}
use Rattle.laws_analyses.specs.Regions.Shown.{accessed, is_lost, Holds, Sharp, Finally, Shown}
use Rattle.laws_analyses.proofs.Regions.Bounds.{setting}
use Rattle.laws_analyses.proofs.Regions.CallGoes.{Offered, call_goes}
use Rattle.laws_analyses.proofs.Regions.CalledShown.{AtEntry, CalledShown, FineSpec}
use Rattle.laws_analyses.proofs.Regions.Free.{bare, entered_at, sane_with, sane_bare, entered_back, fits_bare, site_free}
use Rattle.laws_analyses.proofs.Regions.Holding.{holds_none}
use Rattle.laws_analyses.proofs.Regions.Rules.{Goes, goes_breaks}
use Rattle.laws_analyses.proofs.Regions.Sent.{Arrives, set_sent, sharp_sent}
use Rattle.laws_analyses.proofs.Regions.Showing.{finally_more}

-- regions of a module that is called, at the store y where it is entered with its variables at these places, are to the caller, at the store x where the
-- CALL begins, regions of the same units; of units of expressions, and of such as are lost, nothing is said
pub record Carries (ks : List Known) (g : Graph) (b : Blocks) (c : SidesTree) (caller : Setting) (k : Part) (ps : List Place) (at : Places) (x y : Store) : Type 0 where
  pub lies : (r : Region) (u : ℕ) → is_own_unit (numbering ks g) u ≡ false → (IsLost ks g k.routine.name u → ⊥) → LiesIn (scene_in b k ps at) (elements_with ks g k.scope.symbols at r.variable) r (numbers_of y) u →
      Arrives c (scene caller) (elements_at caller) (numbers_of x) (scene_in b k ps at) (elements_with ks g k.scope.symbols at) (numbers_of y) r u
  pub sharp : (r q : Region) → to_caller c r ≡ Some q → (acc : Access → ℕ → Bool) → IsSharp (scene_in b k ps at) (elements_with ks g k.scope.symbols at r.variable) r (numbers_of y) (acc r.kind) → IsSharp (scene caller) (elements_at caller q.variable) q (numbers_of x) (acc q.kind)

module _ (D : Claim) (ks : List Known) (g : Graph) (b : Blocks) (cs : Callees) (sites : List ℕ → List HoldingSite) (seen_of : Part → List Region) (called : Called) (h : Part) (sane : Sane b h) (regular : Regular h) (turns : ℕ) (callee : List ℕ → Meaning) (psm : List Place) (at : Places) (made : Made h.routine.dummies psm (dummy_places h psm) at) (sound : Sound (setting ks g called b cs h sane regular turns callee psm at)) (own_below : (n i : ℕ) → h.below (h.routine.own_unit n i) ≡ true) where
  abbrev pub caller : Setting
  caller = setting ks g called b cs h sane regular turns callee psm at

  module _ (x : List ℕ) (es : ExprTrees) (n : ℕ) (locked : Locks) (still : ℕ → Bool) (fits : Fits b h psm at locked still) (z : Store) where
    pub solid : (y : List ℕ) (v : ℕ) → h.routine.names y ≡ Variable v → h.scalar y ≡ true → 0 < (at v).extent
    solid y v e f = fits.base.solid y v e f

    pub apart : (i c : ℕ) → is_cell h.scope.tracked c ≡ true → h.routine.own_unit n i ≡ unit_in at c → ⊥
    apart i c t e = true≢false (sym (own_below n i) ∙ (ap h.below e ∙ fits.low_cells c t))

    abbrev plan_of : Plan
    plan_of = call_plan (actuals es 0 h.routine.names at (h.routine.own_unit n)) (callee x) locked

    -- the actuals, as evaluating them made them
    abbrev pub Known_of : List Actual → Store → Type 0
    Known_of xs s = AreOffered (record { names = h.routine.names; table = h.scope; at = at; tracked = is_cell h.scope.tracked; far = far_in b h psm; place = b.place; own = h.routine.own_unit n }) es 0 z s xs × StandFor h.routine.names at (h.routine.own_unit n) es 0 xs

    -- what evaluating the actuals offered, at the store where it ended
    abbrev pub OfferedHere : List Actual → Store → Type 0
    OfferedHere xs s = Offered D (setting ks g called b cs h sane regular turns callee psm at) sound solid x es n apart locked z Known_of xs s

    -- ---- a CALL of no module

    abbrev Refused : Answer Flow → List Event → Type 0
    Refused a fs = (fs ≡ []) × Finally true a ⊥

    pub none_goes : callee x ≡ no_module → actuals_plain h.scalar es ≡ true → (rs : List Region) →
        Goes D (call_plan (actuals es 0 h.routine.names at (h.routine.own_unit n)) (callee x) locked) z (λ a y fs. Shown (setting ks g called b cs h sane regular turns callee psm at) false (unite_all (actuals_reads es h.scope ++ rs)) z a fs)
    none_goes none plain rs =
        call_goes D caller sound solid x es n apart locked z (λ xs s. Unit {0}) (λ xs s a fs. Refused a fs) rs plain
        (λ i. leads_true (actuals es 0 h.routine.names at (h.routine.own_unit n)) z i)
        (λ xs s o. subst (λ (m : Meaning). Goes D (m (places_of xs) (lock_own locked (own_units xs))) s (λ a y fs. Refused a fs)) (sym none) (goes_breaks D (Faulty Unset) s (λ a y fs. Refused a fs) (refl, tt)))
        (λ xs s o a fs w. subst (λ ts. Holds caller rs z ts) (sym w.0) (holds_none caller rs z))
        (λ xs s o a fs w. finally_more true a ⊥ (Sharp caller rs z fs) (λ no. absurd no) w.1)

    -- ---- a CALL of a module

    module _ (k : Part) (sane_k : Sane b k) (P : System) (site : Site b cs sites h k x es P) (named : x ≡ k.routine.name) where
      abbrev site_here : HoldingSite
      site_here = record { caller = h.scope; actuals = es; value = no_rows }

      abbrev here_alone : List ℕ → List HoldingSite
      here_alone y = record { caller = h.scope; actuals = es; value = no_rows } ∷ []

      -- nothing need hold where it begins
      free_site : Site b cs here_alone (bare cs h) (entered_at here_alone k) x es no_rows
      free_site = site_free b cs here_alone sites h k x es P no_rows named site here

      pub leads : (i : List Content) → Leads (actuals es 0 h.routine.names at (h.routine.own_unit n)) z i (λ xs s j. Known_of xs s)
      leads i =
          both (run (actuals es 0 h.routine.names at (h.routine.own_unit n)) (Whole z) i)
          (λ xs s j. (j ≡ i) × AreOffered (activation b cs here_alone (bare cs h) (sane_bare b cs h sane) psm at made (entered_at here_alone k) (sane_with b (sites_entry k.scope (here_alone k.routine.name)) k sane_k) x es no_rows free_site n locked still (fits_bare b cs h psm at locked still fits) z (λ p st. tt)) es 0 z s xs)
          (λ xs s j. StandFor h.routine.names at (h.routine.own_unit n) es 0 xs) (λ xs s j. Known_of xs s)
          (λ xs s j o st. (o.1, st))
          (offer_actuals (activation b cs here_alone (bare cs h) (sane_bare b cs h sane) psm at made (entered_at here_alone k) (sane_with b (sites_entry k.scope (here_alone k.routine.name)) k sane_k) x es no_rows free_site n locked still (fits_bare b cs h psm at locked still fits) z (λ p st. tt))
          (actuals_fit b cs here_alone (bare cs h) (sane_bare b cs h sane) psm at made (entered_at here_alone k) (sane_with b (sites_entry k.scope (here_alone k.routine.name)) k sane_k) x es no_rows free_site n locked still (fits_bare b cs h psm at locked still fits) z (λ p st. tt)) es z i)
          (actuals_leads h.routine.names at (h.routine.own_unit n) es 0 z i site.offered)

      pub entered_there : (xs : List Actual) (s : Store) → Known_of xs s → Entered k (places_of xs) (lock_own locked (own_units xs))
      entered_there xs s o =
          entered_back (sites_entry k.scope (here_alone k.routine.name)) k (places_of xs) (lock_own locked (own_units xs))
          (entered b cs here_alone (bare cs h) (sane_bare b cs h sane) psm at made (entered_at here_alone k) (sane_with b (sites_entry k.scope (here_alone k.routine.name)) k sane_k) x es no_rows free_site n locked still (fits_bare b cs h psm at locked still fits) z (λ p st. tt) s xs o.0 o.1)

      -- the numbers where it is entered, of the dummies and of cells in blocks
      pub begins_there : (xs : List Actual) (s : Store) → Known_of xs s → Begins (record { caller = h.scope; actuals = es; symbols = k.scope.symbols }) (scene_in b h psm at) (scene_in b k (places_of xs) (dummy_places k (places_of xs))) (numbers_of z) (numbers_of s)
      begins_there xs s o = begins b cs here_alone (bare cs h) (sane_bare b cs h sane) psm at made (entered_at here_alone k) (sane_with b (sites_entry k.scope (here_alone k.routine.name)) k sane_k) x es no_rows free_site n locked still (fits_bare b cs h psm at locked still fits) z (λ p st. tt) s xs o.0 o.1

      pub binds_there : (xs : List Actual) (s : Store) → Known_of xs s → Binds (record { caller = h.scope; actuals = es; symbols = k.scope.symbols }) (scene_in b h psm at) (scene_in b k (places_of xs) (dummy_places k (places_of xs)))
      binds_there xs s o = binds b cs here_alone (bare cs h) (sane_bare b cs h sane) psm at made (entered_at here_alone k) (sane_with b (sites_entry k.scope (here_alone k.routine.name)) k sane_k) x es no_rows free_site n locked still (fits_bare b cs h psm at locked still fits) z (λ p st. tt) s xs o.0 o.1

      module _ (fine : FineSpec ks g b seen_of D k (callee x)) (c : SidesTree) (carries : (xs : List Actual) (s : Store) (atk : Places) → OfferedHere xs s → AtEntry g k (places_of xs) s atk → Carries ks g b c (setting ks g called b cs h sane regular turns callee psm at) k (places_of xs) atk z s) where
        pub some_goes : actuals_plain h.scalar es ≡ true →
            Goes D (call_plan (actuals es 0 h.routine.names at (h.routine.own_unit n)) (callee x) locked) z (λ a y fs. Shown (setting ks g called b cs h sane regular turns callee psm at) false (unite_all (actuals_reads es h.scope ++ all_in_caller c (seen_of k))) z a fs)
        some_goes plain =
            call_goes D caller sound solid x es n apart locked z Known_of (λ xs s a fs. CalledShown ks g b seen_of D k (places_of xs) s a fs) (all_in_caller c (seen_of k)) plain leads
            (λ xs s o. fine (places_of xs) (lock_own locked (own_units xs)) s (entered_there xs s o.known))
            (λ xs s o a fs w acc u t.
            (let m = carries xs s w.at o w.entry in
            set_sent c (scene caller) (elements_at caller) (numbers_of z) (scene_in b k (places_of xs) w.at) (elements_with ks g k.scope.symbols w.at) (numbers_of s) (seen_of k) acc u
            (λ r i l. m.lies r u (or_parts (is_own_unit (numbering ks g) u) (is_lost ks g fs u) t.seen).0 (w.kept u t.seen) l)
            (w.holds acc u t)))
            (λ xs s o a fs w.
            (let m = carries xs s w.at o w.entry in
            finally_more true a (IsSharpSet (scene_in b k (places_of xs) w.at) (elements_with ks g k.scope.symbols w.at) (seen_of k) (numbers_of s) (λ acc. accessed acc fs)) (Sharp caller (all_in_caller c (seen_of k)) z fs)
            (λ i. sharp_sent c (scene caller) (elements_at caller) (numbers_of z) (scene_in b k (places_of xs) w.at) (elements_with ks g k.scope.symbols w.at) (numbers_of s) (seen_of k) (λ acc. accessed acc fs)
            (λ r q n e f. m.sharp r q e (λ acc. accessed acc fs) f) i)
            w.sharp))
