-- A CALL of a module that runs: what is called is entered, and what its IN regions show is, in the terms of the caller, what the CALL reads first.
use Rattle.std.proofs.Common.{◌≡◌, ⊎_elim, ℕ, zero, suc, ◌+◌, ◌-◌, ◌<◌, ◌≤◌, ◌/◌, ◌%◌, List, [], ◌∷◌, ◌++◌, ◌||◌, ◌&&◌, Option, Some, None, Bool, true, false, refl, sym, ap, ◌∙◌, subst, arith, true≢false, nat_eq, ℤ}
use Rattle.std.specs.Prelude.{if◌then◌else◌, nat_le, nat_lt, option_map}
use Rattle.std.proofs.lemmas.Bool.{or_parts, and_parts}
use Rattle.std.proofs.lemmas.Bool.Decides.{nat_tests}
use Rattle.std.proofs.Math.Nat.{zero-div}
use Rattle.affine_systems.specs.declared.row.System.{System}
use Rattle.f77_ast.specs.Trees.{ExprTrees}
use Rattle.f77_ast.specs.Trees as tree
use Rattle.f77_ast.specs.Store.{Store}
use Rattle.f77_ast.specs.Faults.{Fault, Locked}
use Rattle.f77_ast.specs.Runs.{Event, Answer}
use Rattle.f77_ast.specs.Places.{Variable, Place, Places}
use Rattle.f77_ast.specs.Writes.{Locks, first_lock, lock}
use Rattle.f77_ast.specs.Plans.{Flow}
use Rattle.f77_ast.specs.Calls.{Dummy, Actual, Meaning, actuals, nowhere, places_of, own_units, lock_own, in_place, call_plan}
use Rattle.f77_ast.specs.Executions.{Claim}
use Rattle.f77_ast.specs.Programs.{no_module}
use Rattle.f77_ast.specs.declared.variable.Variable.{Variable as Named}
use Rattle.f77_ast.specs.Symbols.{SymbolTree}
use Rattle.call_graph.specs.declared.graph.Graph.{Graph}
use Rattle.f77_meaning.specs.Areas.{Numbering, is_own_unit}
use Rattle.f77_meaning.specs.Accesses.{is_written}
use Rattle.f77_meaning.specs.Linked.{numbering}
use Rattle.f77_meaning.specs.Modules.{Known}
use Rattle.affine_forms.specs.Scalars.{is_cell}
use Rattle.affine_forms.specs.Claims.{unit_in, numbers_of}
use Rattle.preconditions.specs.call_translation.Sites.{HoldingSite}
use Rattle.preconditions.specs.transformer_algebra.Claims.{Scene}
use Rattle.preconditions.specs.transformers.Given.{Callees}
use Rattle.in_out_regions.specs.region_sets.declared.region.Access.TheVariants.{In as AtIn}
use Rattle.in_out_regions.specs.region_sets.declared.region.Region.{Region}
use Rattle.in_out_regions.specs.region_sets.Sets.{unite_all}
use Rattle.in_out_regions.specs.region_sets.Claims.{Elements, LiesIn, LiesInSet, IsSharp, IsSharpSet}
use Rattle.in_out_regions.specs.call_equations.declared.link.Link.{Link}
use Rattle.in_out_regions.specs.call_equations.Sides.{SidesTree}
use Rattle.in_out_regions.specs.call_equations.Links.{link_of}
use Rattle.in_out_regions.specs.region_translation.Caller.{by_link, to_caller}
use Rattle.in_out_regions.specs.array_regions.Calls.{Called, actuals_reads, all_in_caller}
use Rattle.in_out_regions.specs.Kinds.{all_in}
use Rattle.laws_analyses.specs.Calls.Parts.{Blocks, Part, in_bound, places_in as dummy_places, scene_in, Sane}
use Rattle.laws_analyses.specs.Calls.Sites.{Site, Entered}
use Rattle.laws_analyses.proofs.Calls.Bound.{Made}
use Rattle.laws_analyses.proofs.Calls.Enter.{Fits}
use Rattle.laws_analyses.specs.Regions.Entries.{IsLost}
use Rattle.laws_analyses.specs.Regions.Programs.{Regular}
use Rattle.laws_analyses.specs.Regions.Settings.{scene, Sound, elements_with, actuals_plain}
use Rattle.laws_analyses.specs.Regions.Shown.{is_lost, is_hidden, Finally}
use Rattle.laws_analyses.proofs.Regions.Actuals.{ActualIs, as_variable, as_element, as_value, AllAre}
use Rattle.laws_analyses.proofs.Regions.Bounds.{setting}
use Rattle.laws_analyses.proofs.Regions.CalledShown.{AtEntry}
use Rattle.laws_analyses.proofs.Regions.Calling.{Carries, Known_of, OfferedHere, solid, apart, leads, entered_there}
use Rattle.laws_analyses.proofs.Regions.Rules.{Goes}
use Rattle.laws_analyses.proofs.Regions.Sent.{in_sent, of_sent}
use Rattle.laws_analyses.proofs.Regions.Showing.{finally_more}
use Rattle.laws_marks.specs.InFrames.{Frame, elements_in}
use Rattle.laws_marks.specs.InLaid.{Laid}
use Rattle.laws_marks.specs.InShown.{first_read, IsFirst, FirstHolds, FirstSharp, IsFree, FirstShown}
use Rattle.laws_marks.specs.InUnits.{UnitsFit}
use Rattle.laws_marks.proofs.InApart.{OffersLocked}
use Rattle.laws_marks.proofs.InCallFirst.{call_first}
use Rattle.laws_marks.proofs.InFramed.{lies_in, sharp_in}
use Rattle.laws_marks.proofs.InNarrowed.{MayName, actuals_narrowed}
use Rattle.laws_marks.proofs.InRunning.{frame}
use Rattle.fx_lists.proofs.Options.{none_some_2 as none_some}
use Rattle.fx_lists.proofs.Numbers.{nat_eq_same}

-- ---- what the IN regions of a module show of a call of it to those that call it

-- the elements of the variables that regions may name
abbrev pub elements_seen : List Known → Graph → (Named → Bool) → List SymbolTree → Places → Named → Elements
elements_seen ks g such ss at v = if such v then elements_with ks g ss at v else (λ phi. None)

module _ (ks : List Known) (g : Graph) (b : Blocks) (summary : Part → List Region) (may_name : Part → Named → Bool) (D : Claim) where
  pub record CalledFirst (k : Part) (ps : List Place) (locked : Locks) (s : Store) (a : Answer Flow) (es : List Event) : Type 0 where
    pub at : Places
    pub entry : AtEntry g k ps s at
    -- its locals, if they are not saved, are lost
    pub kept : (u : ℕ) → is_hidden ks g es u ≡ false → IsLost ks g k.routine.name u → ⊥
    pub holds : (u : ℕ) → IsFirst ks g es u → LiesInSet (scene_in b k ps at) (elements_seen ks g (may_name k) k.scope.symbols at) AtIn (summary k) (numbers_of s) u
    pub sharp : Finally true a (IsSharpSet (scene_in b k ps at) (elements_seen ks g (may_name k) k.scope.symbols at) (summary k) (numbers_of s) (λ c. first_read es))
    pub unlocked : (u : ℕ) → is_written u es ≡ true → locked u ≡ None
    -- what is lost is its own, or of modules below
    pub lost : (u : ℕ) → is_lost ks g es u ≡ true → k.owns u ≡ true

  -- what the callers of a module use
  abbrev pub FirstSpec : Part → Meaning → Type 0
  FirstSpec k meaning = (ps : List Place) (locked : Locks) (z : Store) → Entered k ps locked → OffersLocked ks g k ps locked → Goes D (meaning ps locked) z (λ a y es. CalledFirst k ps locked z a es)

  abbrev pub FirstOk : Option Part → Meaning → Type 0
  FirstOk None meaning = meaning ≡ no_module
  FirstOk (Some k) meaning = FirstSpec k meaning

-- ---- locks of expressions

lock_more : (locked : Locks) (v u : ℕ) (f : Fault) → lock locked v f u ≡ None → locked u ≡ None
lock_more locked v u f e = go (nat_eq u v) (locked u) refl e
  where
    go : (c : Bool) (o : Option Fault) → locked u ≡ o → (if c then first_lock o f else locked u) ≡ None → locked u ≡ None
    go c None q i = q
    go true (Some h) q i = cc
    go false (Some h) q i = i

lock_here : (locked : Locks) (u : ℕ) → lock locked u Locked u ≡ None → ⊥
lock_here locked u e = go (locked u) (sym (ap (λ c. if c then first_lock (locked u) Locked else locked u) (nat_eq_same u)) ∙ e)
  where
    go : (o : Option Fault) → first_lock o Locked ≡ None → ⊥
    go None q = cc
    go (Some h) q = cc

pub own_more : (us : List ℕ) (locked : Locks) (u : ℕ) → lock_own locked us u ≡ None → locked u ≡ None
own_more [] locked u e = e
own_more (v ∷ us) locked u e = lock_more locked v u Locked (own_more us (lock locked v Locked) u e)

-- no unit of an expression is the first of all
zero_no_own : (g : Numbering) → is_own_unit g 0 ≡ false
zero_no_own g = ap (λ n. nat_eq (n % 3) 2) (zero-div g.room)

nowhere_zero : (u : ℕ) → in_place nowhere u ≡ true → u ≡ 0
nowhere_zero u h = (let q = (and_parts (nat_le 0 u) (nat_lt u (0 + 1)) h).1 in grind (arith, nat_tests, q))

none_bound : (g : Numbering) (ds : List Dummy) (u : ℕ) → in_bound ds [] u ≡ true → is_own_unit g u ≡ true → ⊥
none_bound g [] u h o = true≢false (sym h)
none_bound g (d ∷ ds) u h o = go (in_place nowhere u) refl h (λ i. none_bound g ds u i o)
  where
    go : (c : Bool) → in_place nowhere u ≡ c → (c || in_bound ds [] u) ≡ true → (in_bound ds [] u ≡ true → ⊥) → ⊥
    go true q i ih = true≢false (sym o ∙ (ap (is_own_unit g) (nowhere_zero u q) ∙ zero_no_own g))
    go false q i ih = ih i

-- ---- at a CALL

module _ (C D : Claim) (ks : List Known) (g : Graph) (b : Blocks) (cs : Callees) (sites : List ℕ → List HoldingSite) (seen_of : Part → List Region) (summary : Part → List Region) (calls : Called) (h : Part) (sane : Sane b h) (regular : Regular h) (turns : ℕ) (callee : List ℕ → Meaning) (psm : List Place) (at : Places) (made : Made h.routine.dummies psm (dummy_places h psm) at) (sound : Sound (setting ks g calls b cs h sane regular turns callee psm at)) (own_below : (n i : ℕ) → h.below (h.routine.own_unit n i) ≡ true) (may_name : Part → Named → Bool) (laid : Laid ks g h (may_name h)) where
  abbrev caller : Frame
  caller = frame ks g calls b cs h sane regular turns callee psm (may_name h) laid at

  module _ (x : List ℕ) (es : ExprTrees) (n : ℕ) (locked : Locks) (still : ℕ → Bool) (fits : Fits b h psm at locked still) (z : Store) (units : UnitsFit (frame ks g calls b cs h sane regular turns callee psm (may_name h) laid at) locked) where
    abbrev Offer : List Actual → Store → Type 0
    Offer xs s = OfferedHere C ks g b cs sites seen_of calls h sane regular turns callee psm at made sound own_below x es n locked still fits z xs s

    abbrev sol : (y : List ℕ) (v : ℕ) → h.routine.names y ≡ Variable v → h.scalar y ≡ true → 0 < (at v).extent
    sol = solid C ks g b cs sites seen_of calls h sane regular turns callee psm at made sound own_below x es n locked still fits z

    abbrev apt : (i c : ℕ) → is_cell h.scope.tracked c ≡ true → h.routine.own_unit n i ≡ unit_in at c → ⊥
    apt = apart C ks g b cs sites seen_of calls h sane regular turns callee psm at made sound own_below x es n locked still fits z

    -- a unit of an expression that an actual offers is locked
    one_locked : (e : tree.ExprTree) (i : ℕ) (a : Actual) (L : Locks) → ((u : ℕ) → L u ≡ None → locked u ≡ None) → ActualIs caller.base sound sol (h.routine.own_unit n) apt z e i a → (u : ℕ) → in_place a.place u ≡ true → is_own_unit (numbering ks g) u ≡ true → (us : List ℕ) → lock_own L (if a.own then a.place.first ∷ us else us) u ≡ None → ⊥
    one_locked e i a L f (as_variable y v w meant l) u p o us k =
        true≢false (sym o ∙ units.no_actuals y v meant u (subst (λ (q : Actual). in_place q.place u ≡ true) l p) (f u (own_more (if a.own then a.place.first ∷ us else us) L u k)))
    one_locked e i a L f (as_element y v fs ns o' w ix meant mean found l) u p o us k =
        let inside : in_place (record { first = (at v).first + o'; extent = (at v).extent - o'; tag = (at v).tag; dims = [] }) u ≡ true = subst (λ (q : Actual). in_place q.place u ≡ true) l p in
        true≢false (sym o ∙ units.no_actuals y v meant u (rest_inside (at v) o' u inside) (f u (own_more (if a.own then a.place.first ∷ us else us) L u k)))
      where
        rest_inside : (q : Place) (j u : ℕ) → in_place (record { first = q.first + j; extent = q.extent - j; tag = q.tag; dims = [] }) u ≡ true → in_place q u ≡ true
        rest_inside q j u r =
            let w' = and_parts (nat_le (q.first + j) u) (nat_lt u ((q.first + j) + (q.extent - j))) r in
            let low : q.first + j ≤ u = (let a' = w'.0 in grind (arith, nat_tests, a')) in
            let high : u < (q.first + j) + (q.extent - j) = (let a' = w'.1 in grind (arith, nat_tests, a')) in
            let low' : q.first ≤ u = omega (arith, low) in
            let high' : u < q.first + q.extent = omega (arith, low, high) in
            both (nat_le q.first u) (nat_lt u (q.first + q.extent)) (grind (arith, nat_tests, low')) (grind (arith, nat_tests, high'))
          where
            both : (c d : Bool) → c ≡ true → d ≡ true → (c && d) ≡ true
            both true d q r = r
            both false d q r = absurd (true≢false (sym q))
    one_locked e i a L f (as_value w first one own) u p o us k =
        let here : u ≡ a.place.first = only a.place u one p in
        lock_here L u (subst (λ v. lock L v Locked u ≡ None) (sym here) (own_more us (lock L a.place.first Locked) u (subst (λ c. lock_own L (if c then a.place.first ∷ us else us) u ≡ None) own k)))
      where
        only : (q : Place) (u : ℕ) → q.extent ≡ 1 → in_place q u ≡ true → u ≡ q.first
        only q u e r =
            let w' = and_parts (nat_le q.first u) (nat_lt u (q.first + q.extent)) r in
            let low : q.first ≤ u = (let a' = w'.0 in grind (arith, nat_tests, a')) in
            let high : u < q.first + q.extent = (let a' = w'.1 in grind (arith, nat_tests, a')) in
            omega (arith, low, high, e)

    all_locked : (fs : ExprTrees) (i : ℕ) (xs : List Actual) (ds : List Dummy) (L : Locks) → ((u : ℕ) → L u ≡ None → locked u ≡ None) → AllAre caller.base sound sol (h.routine.own_unit n) apt z fs i xs → (u : ℕ) → in_bound ds (places_of xs) u ≡ true → is_own_unit (numbering ks g) u ≡ true → lock_own L (own_units xs) u ≡ None → ⊥
    all_locked tree.no_exprs i [] ds L f r u p o k = none_bound (numbering ks g) ds u p o
    all_locked tree.no_exprs i (a ∷ xs) ds L f r u p o k = absurd r
    all_locked (tree.more_exprs e fs) i [] ds L f r u p o k = absurd r
    all_locked (tree.more_exprs e fs) i (a ∷ xs) [] L f r u p o k = true≢false (sym p)
    all_locked (tree.more_exprs e fs) i (a ∷ xs) (d ∷ ds) L f r u p o k = go (in_place a.place u) refl p (λ M h q j. all_locked fs (suc i) xs ds M h r.1 u q o j)
      where
        go : (c : Bool) → in_place a.place u ≡ c → (c || in_bound ds (places_of xs) u) ≡ true → ((M : Locks) → ((v : ℕ) → M v ≡ None → locked v ≡ None) → in_bound ds (places_of xs) u ≡ true → lock_own M (own_units xs) u ≡ None → ⊥) → ⊥
        go true q j ih = one_locked e i a L f r.0 u q o (own_units xs) k
        go false q j ih = by a.own k
          where
            by : (c : Bool) → lock_own L (if c then a.place.first ∷ own_units xs else own_units xs) u ≡ None → ⊥
            by true k' = ih (lock L a.place.first Locked) (λ v l. f v (lock_more L a.place.first v Locked l)) j k'
            by false k' = ih L f j k'

    pub offers_there : (k : Part) (xs : List Actual) (s : Store) → Offer xs s → OffersLocked ks g k (places_of xs) (lock_own locked (own_units xs))
    offers_there k xs s o u p q l = all_locked es 0 xs k.routine.dummies locked (λ v e. e) o.each u p q l

    module _ (k : Part) (sane_k : Sane b k) (P : System) (site : Site b cs sites h k x es P) (named : x ≡ k.routine.name) (fine : FirstSpec ks g b summary may_name D k (callee x)) (c : SidesTree) (link_named : (v : Named) (l : Link) → may_name k v ≡ true → link_of c v ≡ Some l → may_name h l.variable ≡ true)
        (carries : (xs : List Actual) (s : Store) (atk : Places) → Offer xs s → AtEntry g k (places_of xs) s atk → Carries ks g b c (setting ks g calls b cs h sane regular turns callee psm at) k (places_of xs) atk z s) where
      abbrev rs : List Region
      rs = all_in_caller c (summary k)

      abbrev may : MayName
      may = record { ks = ks; g = g; such = may_name h; own = laid.own; told = laid.told }

      abbrev Shows : List Actual → Store → Answer Flow → List Event → Type 0
      Shows xs s a fs = CalledFirst ks g b summary may_name D k (places_of xs) (lock_own locked (own_units xs)) s a fs

      -- what a region that may be named is to the caller may be named there
      sent_named : (r q : Region) → to_caller c r ≡ Some q → may_name k r.variable ≡ true → may_name h q.variable ≡ true
      sent_named r q e m = go (link_of c r.variable) refl e
        where
          go : (o : Option Link) → link_of c r.variable ≡ o → option_map (by_link c r) o ≡ Some q → may_name h q.variable ≡ true
          go None f i = cc
          go (Some l) f i = (let same : by_link c r l ≡ q = cc in subst (λ (w : Region). may_name h w.variable ≡ true) same (link_named r.variable l m f))

      seen_lies : (atk : Places) (r : Region) (m : Scene) (y : ℕ → ℤ) (u : ℕ) → LiesIn m (elements_seen ks g (may_name k) k.scope.symbols atk r.variable) r y u → (may_name k r.variable ≡ true) × LiesIn m (elements_with ks g k.scope.symbols atk r.variable) r y u
      seen_lies atk r m y u l = go (may_name k r.variable) refl l
        where
          go : (b' : Bool) → may_name k r.variable ≡ b' → LiesIn m (if b' then elements_with ks g k.scope.symbols atk r.variable else (λ phi. None)) r y u → (may_name k r.variable ≡ true) × LiesIn m (elements_with ks g k.scope.symbols atk r.variable) r y u
          go true e w = (e, w)
          go false e w = absurd (none_some u w.there)

      lies : (xs : List Actual) (s : Store) → Offer xs s → (a : Answer Flow) (fs : List Event) → Shows xs s a fs → FirstHolds caller rs z fs
      lies xs s o a fs w u t =
          let m = carries xs s w.at o w.entry in
          let l = w.holds u t in
          let seen = seen_lies w.at l.region (scene_in b k (places_of xs) w.at) (numbers_of s) u l.lies in
          let there = m.lies l.region u (or_parts (is_own_unit (numbering ks g) u) (is_lost ks g fs u) t.seen).0 (w.kept u t.seen) seen.1 in
          record { region = there.region; is_one = in_sent c (summary k) l.region there.region l.is_one there.sent; kind = there.kind ∙ l.kind; lies = lies_in caller there.region (numbers_of z) u (sent_named l.region there.region there.sent seen.0) there.lies }

      sharp_one : (xs : List Actual) (s : Store) (atk : Places) → Carries ks g b c (setting ks g calls b cs h sane regular turns callee psm at) k (places_of xs) atk z s → (read : ℕ → Bool) (r q : Region) → to_caller c r ≡ Some q →
          IsSharp (scene_in b k (places_of xs) atk) (elements_seen ks g (may_name k) k.scope.symbols atk r.variable) r (numbers_of s) read → IsSharp (scene caller.base) (elements_in caller q.variable) q (numbers_of z) read
      sharp_one xs s atk m read r q e f = go (may_name k r.variable) refl f
        where
          go : (b' : Bool) → may_name k r.variable ≡ b' → IsSharp (scene_in b k (places_of xs) atk) (if b' then elements_with ks g k.scope.symbols atk r.variable else (λ phi. None)) r (numbers_of s) read → IsSharp (scene caller.base) (elements_in caller q.variable) q (numbers_of z) read
          go true p f' = sharp_in caller q (numbers_of z) read (sent_named r q e p) (m.sharp r q e (λ acc. read) f')
          go false p f' = λ ex pt st some.
              (let w = m.sharp r q e (λ acc u. false) (λ ex' pt' st' some'. (let w' = f' ex' pt' st' some' in absurd (none_some w'.unit w'.there))) ex pt st some in absurd (true≢false (sym w.is_so)))

      sharp : (xs : List Actual) (s : Store) → Offer xs s → (a : Answer Flow) (fs : List Event) → Shows xs s a fs → Finally true a (FirstSharp caller rs z fs)
      sharp xs s o a fs w =
          let m = carries xs s w.at o w.entry in
          finally_more true a (IsSharpSet (scene_in b k (places_of xs) w.at) (elements_seen ks g (may_name k) k.scope.symbols w.at) (summary k) (numbers_of s) (λ acc. first_read fs)) (FirstSharp caller rs z fs)
          (λ i q j. (let r = of_sent c (summary k) q j in sharp_one xs s w.at m (first_read fs) r.region q r.sent (i r.region r.is_one)))
          w.sharp

      free : (xs : List Actual) (s : Store) → Offer xs s → (a : Answer Flow) (fs : List Event) → Shows xs s a fs → IsFree caller locked fs
      free xs s o a fs w = record { unlocked = λ u e. own_more (own_units xs) locked u (w.unlocked u e); lost = λ u e. site.owned u (w.lost u e) }

      pub some_first : actuals_plain h.scalar es ≡ true → Goes D (call_plan (actuals es 0 h.routine.names at (h.routine.own_unit n)) (callee x) locked) z (λ a y fs. FirstShown (frame ks g calls b cs h sane regular turns callee psm (may_name h) laid at) false locked (unite_all (all_in (actuals_reads es h.scope) ++ all_in_caller c (summary k))) z a fs)
      some_first plain =
          call_first C D caller sound sol x es n apt locked z (Known_of C ks g b cs sites seen_of calls h sane regular turns callee psm at made sound own_below x es n locked still fits z) Shows rs plain
          (λ r i. (actuals_narrowed may h.scope es r i).0)
          (leads C ks g b cs sites seen_of calls h sane regular turns callee psm at made sound own_below x es n locked still fits z k sane_k P site named)
          (λ xs s o. fine (places_of xs) (lock_own locked (own_units xs)) s (entered_there C ks g b cs sites seen_of calls h sane regular turns callee psm at made sound own_below x es n locked still fits z k sane_k P site named xs s o.known) (offers_there k xs s o))
          lies sharp free
