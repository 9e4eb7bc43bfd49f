-- How calls of modules end, whatever holds where they are entered: as their transformers say. Their entries are made of their CALLs anew, at which nothing
-- need hold.
use Rattle.std.proofs.Common.{◌≡◌, ℕ, List, [], ◌∷◌, map, Option, Some, None, Bool, true, false, refl, sym, ap, subst}
use Rattle.std.specs.Prelude.{if◌then◌else◌, bytes_eq}
use Rattle.std.proofs.lemmas.Slice.Eq.{bytes_eq-Decides}
use Rattle.affine_systems.specs.declared.row.System.{System}
use Rattle.f77_ast.specs.Trees.{ExprTrees}
use Rattle.f77_ast.specs.Store.{Store}
use Rattle.f77_ast.specs.Places.{Place, Places}
use Rattle.f77_ast.specs.Writes.{Locks}
use Rattle.f77_ast.specs.Calls.{Meaning, actuals, call_plan}
use Rattle.f77_ast.specs.Programs.{called, meanings, no_module}
use Rattle.affine_forms.specs.Conditions.{no_rows}
use Rattle.affine_forms.specs.Claims.{numbers_of}
use Rattle.preconditions.specs.transformer_algebra.Transformers.{apply}
use Rattle.preconditions.specs.transformer_algebra.Claims.{HoldsAt}
use Rattle.preconditions.specs.transformer_algebra.Laws.{In, here, there}
use Rattle.preconditions.specs.call_translation.Summary.{call_transformer}
use Rattle.preconditions.specs.call_translation.Sites.{HoldingSite}
use Rattle.preconditions.specs.transformers.Given.{Callees}
use Rattle.preconditions.specs.Entry.{sites_entry}
use Rattle.laws_analyses.specs.Statements.Good.{Good}
use Rattle.laws_analyses.specs.Statements.Activation.{Ended}
use Rattle.call_graph.specs.CallsIn.{CallAt, Each, list_calls}
use Rattle.laws_analyses.specs.Statements.Placed.{PlacedList}
use Rattle.laws_analyses.specs.Statements.Results.{found_in, pre_in}
use Rattle.laws_analyses.proofs.Statements.ResultLaws.{results_placed}
use Rattle.laws_analyses.specs.Calls.Parts.{Blocks, Part, places_in as dummy_places, scene_in, Sane}
use Rattle.laws_analyses.specs.Calls.Sites.{Site, lookup, CoversFrom, Covers, Entered, CallEnded, CalleeOk}
use Rattle.laws_analyses.specs.Calls.ProgramLaws.{routines, Analysed, AnalysedParts}
use Rattle.laws_analyses.proofs.Calls.Bound.{Made}
use Rattle.laws_analyses.proofs.Calls.Enter.{Fits}
use Rattle.laws_analyses.proofs.Calls.Entries.{meaning_good}
use Rattle.laws_analyses.proofs.Calls.CallGood.{call_good}
use Rattle.laws_analyses.proofs.Regions.Standing.{Nothing}

-- ---- a module that is entered where something else holds

abbrev pub with_entry : System → Part → Part
with_entry p k = record { routine = k.routine; scope = k.scope; scalar = k.scalar; entry = p; found = k.found; owns = k.owns; below = k.below }

-- by the sites of its name
abbrev pub entered_at : (List ℕ → List HoldingSite) → Part → Part
entered_at ss k = with_entry (sites_entry k.scope (ss k.routine.name)) k

-- where nothing need hold, with the results that follow
abbrev pub bare : Callees → Part → Part
bare cs k = record { routine = k.routine; scope = k.scope; scalar = k.scalar; entry = no_rows; found = record { pre = pre_in k.routine.body k.scope cs no_rows; transformer = found_in k.routine.body k.scope cs }; owns = k.owns; below = k.below }

pub sane_with : (b : Blocks) (p : System) (k : Part) → Sane b k → Sane b (with_entry p k)
sane_with b p k s = record {
  names_fit = s.names_fit;
  distinct = s.distinct;
  flat = s.flat;
  flat_cells = s.flat_cells;
  fixed_solid = s.fixed_solid;
  fixed_cells = s.fixed_cells;
  lies = s.lies;
  hidden = s.hidden;
  cells_lie = s.cells_lie;
  cells_hidden = s.cells_hidden;
  seen = s.seen;
  apart = s.apart;
  below_owned = s.below_owned;
  private = s.private;
  no_block = s.no_block;
  dummies = s.dummies;
  numbered = s.numbered;
  int_dummies = s.int_dummies;
  in_block = s.in_block;
  block_of = s.block_of;
  one_each = s.one_each;
  full = s.full;
  stays_in = s.stays_in;
}

pub sane_bare : (b : Blocks) (cs : Callees) (k : Part) → Sane b k → Sane b (bare cs k)
sane_bare b cs k s = record {
  names_fit = s.names_fit;
  distinct = s.distinct;
  flat = s.flat;
  flat_cells = s.flat_cells;
  fixed_solid = s.fixed_solid;
  fixed_cells = s.fixed_cells;
  lies = s.lies;
  hidden = s.hidden;
  cells_lie = s.cells_lie;
  cells_hidden = s.cells_hidden;
  seen = s.seen;
  apart = s.apart;
  below_owned = s.below_owned;
  private = s.private;
  no_block = s.no_block;
  dummies = s.dummies;
  numbered = s.numbered;
  int_dummies = s.int_dummies;
  in_block = s.in_block;
  block_of = s.block_of;
  one_each = s.one_each;
  full = s.full;
  stays_in = s.stays_in;
}

entered_bare : (cs : Callees) (k : Part) (ps : List Place) (locked : Locks) → Entered k ps locked → Entered (bare cs k) ps locked
entered_bare cs k ps locked e = record { locks = e.locks; places = e.places; solid = e.solid }

pub entered_back : (p : System) (k : Part) (ps : List Place) (locked : Locks) → Entered (with_entry p k) ps locked → Entered k ps locked
entered_back p k ps locked e = record { locks = e.locks; places = e.places; solid = e.solid }

pub fits_bare : (b : Blocks) (cs : Callees) (k : Part) (ps : List Place) (at : Places) (locked : Locks) (still : ℕ → Bool) → Fits b k ps at locked still → Fits b (bare cs k) ps at locked still
fits_bare b cs k ps at locked still f = record { base = f.base; commons = f.commons; hidden = f.hidden; free = f.free; doubled = f.doubled; low = f.low; low_cells = f.low_cells }

each_in : {T : Type 0} (P Q : T → Type 0) (xs : List T) → ((a : T) → In a xs → P a → Q a) → Each P xs → Each Q xs
each_in P Q [] f h = tt
each_in P Q (x ∷ xs) f h = (f x here h.0, each_in P Q xs (λ a i p. f a (there i) p) h.1)

module _ (b : Blocks) (cs : Callees) where
  -- how its calls end, whatever holds where they enter it
  abbrev pub FreeSpec : Part → Meaning → Type 0
  FreeSpec k meaning = (ps : List Place) (locked : Locks) (z : Store) → Entered k ps locked → Good Nothing (meaning ps locked) z (CallEnded b cs k ps locked z)

  abbrev pub FreeOk : Option Part → Meaning → Type 0
  FreeOk None m = m ≡ no_module
  FreeOk (Some k) m = Sane b k × FreeSpec k m

  module _ (ss : List ℕ → List HoldingSite) where
    callee_free : (parts : List Part) (x : List ℕ) (m : Meaning) → FreeOk (lookup parts x) m → CalleeOk Nothing b cs (lookup (map (entered_at ss) parts) x) m
    callee_free [] x m h = h
    callee_free (k ∷ parts) x m h = go (bytes_eq x k.routine.name) h (callee_free parts x m)
      where
        go : (c : Bool) → FreeOk (if c then Some k else lookup parts x) m → (FreeOk (lookup parts x) m → CalleeOk Nothing b cs (lookup (map (entered_at ss) parts) x) m) → CalleeOk Nothing b cs (if c then Some (entered_at ss k) else lookup (map (entered_at ss) parts) x) m
        go true h ih = (sane_with b (sites_entry k.scope (ss k.routine.name)) k h.0, λ ps locked z ent hold. h.1 ps locked z (entered_back (sites_entry k.scope (ss k.routine.name)) k ps locked ent))
        go false h ih = ih h

    pub site_free : (sites : List ℕ → List HoldingSite) (h k : Part) (x : List ℕ) (es : ExprTrees) (P P' : System) → x ≡ k.routine.name → Site b cs sites h k x es P → In (record { caller = h.scope; actuals = es; value = P' }) (ss x) → Site b cs ss (bare cs h) (entered_at ss k) x es P'
    site_free sites h k x es P P' same s i = record {
      actual = s.actual;
      offered = s.offered;
      scalars = s.scalars;
      cells = s.cells;
      commons = s.commons;
      owned = s.owned;
      own_below = s.own_below;
      own_apart = s.own_apart;
      own_each = s.own_each;
      summary_known = s.summary_known;
      entry = ap (λ y. sites_entry k.scope (ss y)) (sym same);
      site = i;
    }

    covers_free : (sites : List ℕ → List HoldingSite) (h : Part) (parts : List Part) (x : List ℕ) (es : ExprTrees) (P P' : System) → CoversFrom b cs sites h x es P (lookup parts x) → In (record { caller = h.scope; actuals = es; value = P' }) (ss x) → CoversFrom b cs ss (bare cs h) x es P' (lookup (map (entered_at ss) parts) x)
    covers_free sites h [] x es P P' c i = tt
    covers_free sites h (k ∷ parts) x es P P' c i = go (bytes_eq x k.routine.name) refl c (λ d. covers_free sites h parts x es P P' d i)
      where
        go : (e : Bool) → bytes_eq x k.routine.name ≡ e → CoversFrom b cs sites h x es P (if e then Some k else lookup parts x) → (CoversFrom b cs sites h x es P (lookup parts x) → CoversFrom b cs ss (bare cs h) x es P' (lookup (map (entered_at ss) parts) x)) → CoversFrom b cs ss (bare cs h) x es P' (if e then Some (entered_at ss k) else lookup (map (entered_at ss) parts) x)
        go true q c ih = site_free sites h k x es P P' ((bytes_eq-Decides x k.routine.name).0 q) c i
        go false q c ih = ih c

  -- ---- a CALL

  -- whatever holds where it begins
  pub call_ends : (sites : List ℕ → List HoldingSite) (h : Part) → Sane b h → (psm : List Place) (at : Places) → Made h.routine.dummies psm (dummy_places h psm) at → (below : List Part) (meaning : Meaning) (x : List ℕ) (es : ExprTrees) (P0 : System) → FreeOk (lookup below x) meaning → CoversFrom b cs sites h x es P0 (lookup below x) → (n : ℕ) (locked : Locks) (still : ℕ → Bool) → Fits b h psm at locked still → (P : System) (z : Store) → HoldsAt (scene_in b h psm at) P (numbers_of z) →
      Good Nothing (call_plan (actuals es 0 h.routine.names at (h.routine.own_unit n)) meaning locked) z (Ended (scene_in b h psm at) (call_transformer h.scope (cs x) es) (apply (call_transformer h.scope (cs x) es) P) (λ ls. false) false false still z)
  call_ends sites h sane psm at made below meaning x es P0 free cov n locked still fits P z hp =
      let site : HoldingSite = record { caller = h.scope; actuals = es; value = P } in
      call_good Nothing b cs (λ y. site ∷ []) (bare cs h) (sane_bare b cs h sane) psm at made x es P n locked still (fits_bare b cs h psm at locked still fits) z hp (map (entered_at (λ y. site ∷ [])) below) meaning
      (callee_free (λ y. site ∷ []) below x meaning free) (covers_free (λ y. site ∷ []) sites h below x es P0 P cov here)

  -- ---- a module

  -- the sites of a name among CALLs of a module
  abbrev sites_of : Part → List CallAt → List ℕ → List HoldingSite
  sites_of k [] x = []
  sites_of k (c ∷ cl) x = if bytes_eq x c.callee then record { caller = k.scope; actuals = c.actuals; value = pre_in k.routine.body k.scope cs no_rows c.number } ∷ sites_of k cl x else sites_of k cl x

  in_sites : (k : Part) (cl : List CallAt) (c : CallAt) → In c cl → In (record { caller = k.scope; actuals = c.actuals; value = pre_in k.routine.body k.scope cs no_rows c.number }) (sites_of k cl c.callee)
  in_sites k [] c i = elim i [ ]
  in_sites k (d ∷ cl) c here = subst (λ e. In (record { caller = k.scope; actuals = c.actuals; value = pre_in k.routine.body k.scope cs no_rows c.number }) (if e then record { caller = k.scope; actuals = c.actuals; value = pre_in k.routine.body k.scope cs no_rows c.number } ∷ sites_of k cl c.callee else sites_of k cl c.callee)) (sym ((bytes_eq-Decides c.callee c.callee).1 refl)) here
  in_sites k (d ∷ cl) c (there i) = go (bytes_eq c.callee d.callee) (in_sites k cl c i)
    where
      go : (e : Bool) → In (record { caller = k.scope; actuals = c.actuals; value = pre_in k.routine.body k.scope cs no_rows c.number }) (sites_of k cl c.callee) → In (record { caller = k.scope; actuals = c.actuals; value = pre_in k.routine.body k.scope cs no_rows c.number }) (if e then record { caller = k.scope; actuals = d.actuals; value = pre_in k.routine.body k.scope cs no_rows d.number } ∷ sites_of k cl c.callee else sites_of k cl c.callee)
      go true ih = there ih
      go false ih = ih

  module _ (sites : List ℕ → List HoldingSite) (of : List ℕ → Part) (turns : ℕ) where
    pub free_part : (k : Part) → Sane b k → (below : List Part) → Analysed b cs sites below k → (callee : List ℕ → Meaning) → ((x : List ℕ) → FreeOk (lookup below x) (callee x)) → FreeSpec k (called k.routine turns callee)
    free_part k sane below analysed callee callees ps locked z ent =
        meaning_good Nothing b cs (sites_of k (list_calls k.routine.body)) (bare cs k) (sane_bare b cs k sane) (map (entered_at (sites_of k (list_calls k.routine.body))) below) turns callee
        (λ x. callee_free (sites_of k (list_calls k.routine.body)) below x (callee x) (callees x)) (λ qs at j y q o d. tt) (λ qs at y q same o d. tt) placed ps locked (entered_bare cs k ps locked ent) z (λ p st. tt)
      where
        placed : PlacedList (record { pre = pre_in k.routine.body k.scope cs no_rows; transformer = found_in k.routine.body k.scope cs }) (Covers b cs (sites_of k (list_calls k.routine.body)) (map (entered_at (sites_of k (list_calls k.routine.body))) below) (bare cs k)) k.scope cs k.scalar k.routine.body true no_rows
        placed =
            results_placed k.routine.body k.scope cs no_rows k.scalar (Covers b cs (sites_of k (list_calls k.routine.body)) (map (entered_at (sites_of k (list_calls k.routine.body))) below) (bare cs k)) analysed.numbered analysed.targets
            (each_in (λ (c : CallAt). Covers b cs sites below k c.callee c.actuals (pre_in k.routine.body k.scope cs k.entry c.number)) (λ (c : CallAt). Covers b cs (sites_of k (list_calls k.routine.body)) (map (entered_at (sites_of k (list_calls k.routine.body))) below) (bare cs k) c.callee c.actuals (pre_in k.routine.body k.scope cs no_rows c.number)) (list_calls k.routine.body)
            (λ c i h. covers_free (sites_of k (list_calls k.routine.body)) sites k below c.callee c.actuals (pre_in k.routine.body k.scope cs k.entry c.number) (pre_in k.routine.body k.scope cs no_rows c.number) h (in_sites k (list_calls k.routine.body) c i)) analysed.calls)

    pub all_free : (parts : List Part) → AnalysedParts b cs sites of parts → (x : List ℕ) → FreeOk (lookup parts x) (meanings (routines parts) turns x)
    all_free [] pl x = refl
    all_free (k ∷ parts) pl x = go (bytes_eq x k.routine.name) (all_free parts pl.3 x) (λ y. all_free parts pl.3 y)
      where
        go : (c : Bool) → FreeOk (lookup parts x) (meanings (routines parts) turns x) → ((y : List ℕ) → FreeOk (lookup parts y) (meanings (routines parts) turns y)) → FreeOk (if c then Some k else lookup parts x) (if c then called k.routine turns (meanings (routines parts) turns) else meanings (routines parts) turns x)
        go true h f = (pl.0, free_part k pl.0 parts pl.1 (meanings (routines parts) turns) f)
        go false h f = h
