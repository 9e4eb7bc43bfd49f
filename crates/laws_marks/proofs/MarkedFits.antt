-- A marked loop that is fit may be interleaved, and what is asked of it holds; so it is of one with reduction variables.
use Rattle.std.proofs.Common.{◌≡◌, ℕ, zero, suc, ◌<◌, ◌≤◌, ◌⊎◌, inl, inr, ⊎_elim, List, [], Bool, true, false, not, ◌&&◌, refl, sym, ap, ◌∙◌, subst, arith, nat_eq, true≢false}
use Rattle.std.proofs.lemmas.Bool.Decides.{nat_tests}
use Rattle.f77_ast.specs.Trees.{StmtTrees}
use Rattle.f77_ast.specs.Places.{Places}
use Rattle.f77_ast.specs.Store.{Undefined, Int, Content, Store, content}
use Rattle.f77_ast.specs.Runs.{Event, Gave, store_of}
use Rattle.f77_ast.specs.Writes.{Locks}
use Rattle.f77_ast.specs.Loops.{Range}
use Rattle.f77_ast.specs.Executions.{AtEnd}
use Rattle.f77_ast.specs.Plans.{Normal, steps_of}
use Rattle.f77_ast.specs.Programs.{Conforms}
use Rattle.call_graph.specs.declared.graph.Graph.{Graph}
use Rattle.f77_meaning.specs.Modules.{Known}
use Rattle.f77_meaning.specs.Accesses.{is_written, is_read_first}
use Rattle.f77_meaning.specs.Processes.{Marked, number_in, shared}
use Rattle.affine_forms.specs.Claims.{numbers_of}
use Rattle.preconditions.specs.call_translation.Scopes.{ScopeTree}
use Rattle.f77_ast.specs.declared.marks.Kinds.{Kinds}
use Rattle.f77_ast.specs.declared.marks.Kinds.TheVariants.{WriteRead, ReadWrite, WriteWrite}
use Rattle.in_out_regions.specs.region_sets.declared.region.Access.TheVariants.{Write}
use Rattle.in_out_regions.specs.region_sets.declared.region.Region.{Region}
use Rattle.in_out_regions.specs.region_sets.Claims.{LiesInSet}
use Rattle.loop_marker.specs.dependence_test.Kinds.{first_access, second_access}
use Rattle.loop_marker.specs.dependence_test.Claims.{IsWritten}
use Rattle.laws_analyses.specs.Regions.Settings.{elements_with}
use Rattle.laws_analyses.specs.Regions.Shown.{accessed, is_hidden}
use Rattle.laws_marks.specs.ConflictClaims.{scene_in, KnownLoop}
use Rattle.laws_interleavings.specs.Alone.{NoneMeet}
use Rattle.laws_interleavings.specs.Iterations.{on_store, OwnFirst, begun, MayInterleave}
use Rattle.laws_interleavings.specs.Reductions.{Reduced, own}
use Rattle.laws_interleavings.specs.ReducedLoops.{ReducedHolds}
use Rattle.laws_interleavings.specs.Accumulating.{Directive}
use Rattle.laws_interleavings.specs.Sound.{NoTake, some_wrote, store_left, is_own}
use Rattle.laws_interleavings.specs.Holds.{LoopHolds}
use Rattle.laws_interleavings.specs.MarkedStatements.{MarkedScope, own_in, unit_of_some, marked_loop, reduced_loop}
use Rattle.laws_interleavings.proofs.Stores.{put_other}
use Rattle.laws_interleavings.proofs.Loops.{iterations_left, iteration_normal}
use Rattle.laws_interleavings.proofs.Traces.{write_shared}
use Rattle.laws_interleavings.proofs.OwnFirst.{own_first}
use Rattle.laws_interleavings.proofs.LaterReads.{some_false}
use Rattle.laws_interleavings.specs.Plans.Uses.{FineUses}
use Rattle.laws_interleavings.specs.Plans.Cleared.{HasNoValue, Ending}
use Rattle.laws_interleavings.proofs.Plans.Uses.{serve}
use Rattle.laws_marks.specs.MarkedBegun.{iterations_of, did_in, iteration_at, AreBegun}
use Rattle.laws_marks.specs.MarkedEnding.{EndsQuietly}
use Rattle.laws_marks.specs.MarkedFit.{LoopIsFit, IsDeadAfter, AccumulatesAlone}
use Rattle.laws_marks.proofs.MarkedBegun.{body_no_sets, iteration_takes, are_begun}
use Rattle.laws_marks.proofs.MarkedShared.{eq_same, shared_read, shared_write, written_writes, quiet_more, stays}
use Rattle.fx_lists.proofs.Numbers.{apart_of}
use Rattle.fx_lists.proofs.Booleans.{or_there, not_first, or_here}
use Rattle.f77_ast.proofs.SameLaws.{same_itself}

-- ---- own units

private_of : (a b c : Bool) → (not a && (not b && c)) ≡ true → c ≡ true
private_of true b c e = absurd (true≢false (sym e))
private_of false true c e = absurd (true≢false (sym e))
private_of false false c e = e

no_name : (a b c : Bool) → (not a && (not b && c)) ≡ true → b ≡ false
no_name true b c e = absurd (true≢false (sym e))
no_name false true c e = absurd (true≢false (sym e))
no_name false false c e = refl

owned_so : (a b c : Bool) → a ≡ false → b ≡ false → c ≡ true → (not a && (not b && c)) ≡ true
owned_so a b c ea eb ec = rw ea (rw eb (rw ec refl))

-- these units, with the private ones among them, each iteration has for itself
module _ (ks : List Known) (g : Graph) (k : ScopeTree) (at : Places) (d : KnownLoop) (separate : ℕ → Bool) (m : Marked) (s : Store) (i : List Content) (within : (u : ℕ) → m.private u ≡ true → separate u ≡ true) (begun_so : AreBegun m s (iterations_of m s i)) (h : LoopIsFit ks g k at d separate m s i) where
  uses : FineUses h.free h.own m.body
  uses = serve h.free h.own m.body h.fine

  takes : (j : ℕ) → j < m.count → NoTake (did_in m s j)
  takes j lt = iteration_takes m s h.ends.normal m.count 0 j (omega arith) (omega arith) lt h.ends.takes_nothing

  ends : (j : ℕ) → j < m.count → (on_store (steps_of m.body) (begun m s j)).answer ≡ Gave Normal
  ends j lt = iteration_normal m s h.ends.normal j lt

  -- ---- units of no name

  undefined_at : (u : ℕ) → is_own m u ≡ true → (j : ℕ) → j ≤ m.count → HasNoValue (begun m s j) u
  undefined_at u o zero l = ap (λ c. c.tag) (put_other s m.index (content Int m.first) u (apart_of m.index u (not_first (nat_eq u m.index) _ o))) ∙ h.own_before u o
  undefined_at u o (suc j) l =
      let q = on_store (steps_of m.body) (begun m s j) in
      let left : AtEnd q.answer (store_of q.memory) q.input (Ending u) = h.cleared u o (begun m s j) [] (undefined_at u o j (omega (arith, l))) in
      ap (λ c. c.tag) (put_other (store_of q.memory) m.index (content Int (number_in m.first m.step (suc j))) u (apart_of m.index u (not_first (nat_eq u m.index) _ o)))
      ∙ subst (λ a. AtEnd a (store_of q.memory) q.input (Ending u)) (ends j l) left

  -- ---- no two iterations meet

  not_private : (u : ℕ) → separate u ≡ false → m.private u ≡ false
  not_private u e = go (m.private u) refl
    where
      go : (b : Bool) → m.private u ≡ b → b ≡ false
      go true p = absurd (true≢false (sym (within u p) ∙ e))
      go false p = refl

  -- what a shared write concerns is seen in the module
  seen : (j u : ℕ) → j < m.count → separate u ≡ false → is_written u (did_in m s j) ≡ true → is_hidden ks g (did_in m s j) u ≡ false
  seen j u lt pu w = go (is_hidden ks g (did_in m s j) u) refl
    where
      is_free : (b : Bool) → h.free u ≡ b → b ≡ true
      is_free true e = refl
      is_free false e = absurd (true≢false (sym w ∙ written_writes (did_in m s j) u ∙ uses.unwritten (begun m s j) [] u e))

      go : (b : Bool) → is_hidden ks g (did_in m s j) u ≡ b → b ≡ false
      go true e = absurd (true≢false (sym (h.hidden j u lt e w (is_free (h.free u) refl)) ∙ not_private u pu))
      go false e = refl

  written_in : (j u : ℕ) → j < m.count → separate u ≡ false → is_written u (did_in m s j) ≡ true → LiesInSet (scene_in k at) (elements_with ks g k.symbols at) Write d.body.regions (numbers_of (begun m s j)) u
  written_in j u lt pu w = (h.known.each j (iteration_at m s j) (begun_so j lt)).accesses Write u (record { is_so = w; seen = seen j u lt pu w })

  abbrev Written : ℕ → ℕ → Region → Type 0
  Written j u r = IsWritten (scene_in k at) (elements_with ks g k.symbols at) d.body.regions r.variable (numbers_of (begun m s j)) u

  -- of an earlier and a later iteration, of which that at the place a writes the unit
  none : (kinds : Kinds) (a b c u : ℕ) → b < c → c < m.count → a < m.count → separate u ≡ false → is_written u (did_in m s a) ≡ true → accessed (first_access kinds) (did_in m s b) u ≡ true → accessed (second_access kinds) (did_in m s c) u ≡ true →
      ((r : Region) → Written a u r → ((first_access kinds ≡ Write) × Written b u r) ⊎ ((second_access kinds ≡ Write) × Written c u r)) → ⊥
  none kinds a b c u less lt la pu w first second which =
      ⊎_elim
      (λ free. h.known.apart r.variable kinds (free kinds) b c (iteration_at m s b) (iteration_at m s c) less (begun_so b (omega (arith, less, lt))) (begun_so c lt) u (record { earlier = first; later = second; written = which r there }))
      (λ own. true≢false (sym (own u (record { phi = lies.lies.phi; there = lies.lies.there }) a la w) ∙ pu))
      (h.verdicts r lies.is_one lies.kind)
    where
      lies : LiesInSet (scene_in k at) (elements_with ks g k.symbols at) Write d.body.regions (numbers_of (begun m s a)) u
      lies = written_in a u la pu w

      r : Region
      r = lies.region

      there : Written a u r
      there = record { region = r; is_one = lies.is_one; kind = lies.kind; variable = same_itself r.variable; lies = lies.lies }

  apart : NoneMeet m.count (λ j. shared separate (did_in m s j))
  apart = record {
    write_read = λ a b u less lt w r.
        let la : a < m.count = omega (arith, less, lt) in
        let wa = shared_write separate (did_in m s a) u w in
        none WriteRead a a b u less lt la (write_shared separate (did_in m s a) u w) wa wa (shared_read separate (did_in m s b) u r) (λ q x. inl (refl, x));
    read_write = λ a b u less lt r w.
        let wb = shared_write separate (did_in m s b) u w in
        none ReadWrite b a b u less lt lt (write_shared separate (did_in m s b) u w) wb (shared_read separate (did_in m s a) u r) wb (λ q x. inr (refl, x));
    write_write = λ a b u less lt w v.
        let la : a < m.count = omega (arith, less, lt) in
        let wa = shared_write separate (did_in m s a) u w in
        none WriteWrite a a b u less lt la (write_shared separate (did_in m s a) u w) wa wa (shared_write separate (did_in m s b) u v) (λ q x. inl (refl, x));
  }

  -- ---- private units are written before they are read

  safe : (j : ℕ) → j < m.count → (u : ℕ) → m.private u ≡ true → nat_eq u m.index ≡ false → ((begun m s j u).tag ≡ Undefined) ⊎ (is_read_first u (did_in m s j) ≡ false)
  safe j lt u pu ne = go (m.named u) refl
    where
      go : (b : Bool) → m.named u ≡ b → ((begun m s j u).tag ≡ Undefined) ⊎ (is_read_first u (did_in m s j) ≡ false)
      go true e =
          let c = h.names u e ne in
          inr (h.known.private c.tree c.before c.outs c.variable c.copied c.sole j (iteration_at m s j) (begun_so j lt) c.unit.phi u c.unit.there)
      go false e = inl (undefined_at u (owned_so (nat_eq u m.index) (m.named u) (m.private u) ne e pu) j (omega (arith, lt)))

  own_before_reads : (j : ℕ) → j < m.count → OwnFirst m.private (steps_of m.body) (λ x. nat_eq x m.index) (begun m s j)
  own_before_reads j lt =
      own_first m.private (steps_of m.body) (λ x. nat_eq x m.index) (begun m s j) uses.strict (quiet_more h.own m.private (λ u e. private_of (nat_eq u m.index) (m.named u) (m.private u) (h.owned u e)) (steps_of m.body) uses.quiet) (subst Conforms (sym (ends j lt)) tt) (takes j lt) (safe j lt)

  -- ---- what the loop leaves

  -- its end is the beginning of an iteration that does not come
  end_is : (u : ℕ) → store_left m s u ≡ begun m s m.count u
  end_is u = sym (ap (λ q. store_of q u) (iterations_left m s h.ends.normal m.count 0 (omega arith)).1)

  same_at : (u : ℕ) → h.own u ≡ false → nat_eq u m.index ≡ false → some_wrote m s m.count u ≡ false → (j : ℕ) → j ≤ m.count → begun m s j u ≡ s u
  same_at u o ne w zero l = put_other s m.index (content Int m.first) u (apart_of m.index u ne)
  same_at u o ne w (suc j) l =
      put_other (store_of (on_store (steps_of m.body) (begun m s j)).memory) m.index (content Int (number_in m.first m.step (suc j))) u (apart_of m.index u ne)
      ∙ stays h.own (steps_of m.body) (begun m s j) u uses.quiet (takes j l) o (some_false m s h.ends.normal m.count u w j l)
      ∙ same_at u o ne w j (omega (arith, l))

  not_own : (u : ℕ) → m.named u ≡ true → h.own u ≡ false
  not_own u e = go (h.own u) refl
    where
      go : (b : Bool) → h.own u ≡ b → b ≡ false
      go true o = absurd (true≢false (sym e ∙ no_name (nat_eq u m.index) (m.named u) (m.private u) (h.owned u o)))
      go false o = refl

  cleared_after : (u : ℕ) → is_own m u ≡ true → HasNoValue (store_left m s) u
  cleared_after u o = ap (λ c. c.tag) (end_is u) ∙ undefined_at u o m.count (omega arith)

  unwritten_left : (u : ℕ) → m.named u ≡ true → nat_eq u m.index ≡ false → some_wrote m s m.count u ≡ false → store_left m s u ≡ s u
  unwritten_left u e ne w = end_is u ∙ same_at u (not_own u e) ne w m.count (omega arith)

-- where more units are separate
pub wider : (ks : List Known) (g : Graph) (k : ScopeTree) (at : Places) (d : KnownLoop) (a b : ℕ → Bool) (m : Marked) (s : Store) (i : List Content) → ((u : ℕ) → a u ≡ true → b u ≡ true) → LoopIsFit ks g k at d a m s i → LoopIsFit ks g k at d b m s i
wider ks g k at d a b m s i more h = record {
  ends = h.ends;
  known = h.known;
  verdicts = λ r j w. ⊎_elim inl (λ f. inr (λ u e t lt v. more u (f u e t lt v))) (h.verdicts r j w);
  names = h.names;
  free = h.free;
  own = h.own;
  fine = h.fine;
  owned = h.owned;
  hidden = h.hidden;
  own_before = h.own_before;
  cleared = h.cleared;
}

-- ---- a marked DO

module _ (xs : List (List ℕ)) (sc : MarkedScope) (ss : StmtTrees) (places : Places) (r : Range) (v : ℕ) (locked : Locks) where
  abbrev loop : Marked
  loop = marked_loop xs sc ss places r v locked

  index_private : loop.private loop.index ≡ true
  index_private = or_here (nat_eq v v) _ (eq_same v v refl)

  names_private : (u : ℕ) → loop.named u ≡ true → loop.private u ≡ true
  names_private u e = or_there (nat_eq u v) _ (or_here (unit_of_some xs sc.plain.names places u) (own_in sc ss u) e)

  begun_here : (s : Store) (i : List Content) → EndsQuietly loop s → AreBegun loop s (iterations_of loop s i)
  begun_here s i ends = are_begun loop s ends.normal (body_no_sets ss sc.plain places locked) i ends.takes_nothing

  module _ (ks : List Known) (g : Graph) (k : ScopeTree) (at : Places) (d : KnownLoop) (s : Store) (i : List Content) (h : LoopIsFit ks g k at d (marked_loop xs sc ss places r v locked).private (marked_loop xs sc ss places r v locked) s i) where
    itself : (u : ℕ) → loop.private u ≡ true → loop.private u ≡ true
    itself u e = e

    pub marked_may : MayInterleave loop s
    marked_may = record {
      index_private = index_private;
      normal = h.ends.normal;
      own_first = own_before_reads ks g k at d loop.private loop s i itself (begun_here s i h.ends) h;
      apart = apart ks g k at d loop.private loop s i itself (begun_here s i h.ends) h;
    }

    pub marked_holds : (later : List Event) → IsDeadAfter loop s later → LoopHolds loop s later
    marked_holds later dead = record {
      may = marked_may;
      names_private = names_private;
      silent = h.ends.silent;
      takes_nothing = h.ends.takes_nothing;
      own_before = h.own_before;
      own_after = cleared_after ks g k at d loop.private loop s i itself (begun_here s i h.ends) h;
      unwritten = unwritten_left ks g k at d loop.private loop s i itself (begun_here s i h.ends) h;
      index_later = dead.index;
      named_later = dead.named;
    }

-- ---- a DO with reduction variables

module _ (e : Directive) (sc : MarkedScope) (ss : StmtTrees) (places : Places) (r : Range) (v : ℕ) (locked : Locks) where
  abbrev reduced : Reduced
  reduced = reduced_loop e sc ss places r v locked

  module _ (ks : List Known) (g : Graph) (k : ScopeTree) (at : Places) (l : KnownLoop) (s : Store) (i : List Content)
      (h : LoopIsFit ks g k at l (own (reduced_loop e sc ss places r v locked)) (reduced_loop e sc ss places r v locked).loop s i) (alone : AccumulatesAlone (reduced_loop e sc ss places r v locked) s) where
    private_own : (u : ℕ) → reduced.loop.private u ≡ true → own reduced u ≡ true
    private_own u p = or_here (reduced.loop.private u) _ p

    begun_so : AreBegun reduced.loop s (iterations_of reduced.loop s i)
    begun_so = begun_here e.private sc ss places r v locked s i h.ends

    pub reduced_holds : (later : List Event) → IsDeadAfter reduced.loop s later → ReducedHolds reduced s later
    reduced_holds later dead = record {
      may = record {
        index_private = index_private e.private sc ss places r v locked;
        normal = h.ends.normal;
        own_first = own_before_reads ks g k at l (own reduced) reduced.loop s i private_own begun_so h;
        apart = apart ks g k at l (own reduced) reduced.loop s i private_own begun_so h;
        rides = alone.rides;
        distinct = alone.distinct;
        none_private = alone.none_private;
      };
      names_private = names_private e.private sc ss places r v locked;
      silent = h.ends.silent;
      takes_nothing = h.ends.takes_nothing;
      own_before = h.own_before;
      own_after = cleared_after ks g k at l (own reduced) reduced.loop s i private_own begun_so h;
      unwritten = unwritten_left ks g k at l (own reduced) reduced.loop s i private_own begun_so h;
      index_later = dead.index;
      named_later = dead.named;
      have_range = alone.have_range;
    }
