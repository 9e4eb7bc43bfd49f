-- A DO: what its iterations read first.
use Rattle.std.proofs.Common.{◌≡◌, ⊎_elim, ℕ, suc, ◌+◌, ◌<◌, ◌≤◌, List, [], ◌∷◌, ◌++◌, ◌||◌, ◌&&◌, Option, Some, None, Bool, true, false, refl, sym, ap, ◌∙◌, subst, arith, ℤ, pos, ◌+ℤ◌, ◌*ℤ◌, nat_eq, nat_lt, true≢false}
use Rattle.std.specs.Prelude.{if◌then◌else◌, not, MatchOption}
use Rattle.std.specs.Ordering.{int_eq, nat_cmp, is_eq}
use Rattle.std.specs.Cmp.{nat_cmp_is}
use Rattle.std.specs.declared.cmp.Ordering.TheVariants.{Equal}
use Rattle.std.proofs.lemmas.Bool.{or_left, or_parts}
use Rattle.std.proofs.lemmas.Bool.Decides.{nat_tests}
use Rattle.f77_ast.specs.Store.{content, Int, Store, put}
use Rattle.f77_ast.specs.Faults.{Fault, Locked}
use Rattle.f77_ast.specs.Runs.{Event, Wrote as WroteEvent, Answer, Gave, Broke}
use Rattle.f77_ast.specs.Places.{Variable}
use Rattle.f77_ast.specs.Writes.{Locks, first_lock, lock}
use Rattle.f77_ast.specs.Plans.{Flow, Normal, Jump, Returned, Stopped, Plan}
use Rattle.f77_ast.specs.Executions.{Claim}
use Rattle.f77_ast.specs.Loops.{iteration_count, iterations_from}
use Rattle.f77_ast.specs.declared.variable.Variable.{Variable as Named}
use Rattle.f77_ast.specs.declared.variable.Variable.TheVariants.{Own}
use Rattle.f77_ast.specs.Shared.{overlap}
use Rattle.f77_meaning.specs.Accesses.{is_written, is_read_first}
use Rattle.affine_forms.specs.Conditions.{no_rows}
use Rattle.affine_forms.specs.Claims.{unit_in, numbers_of}
use Rattle.preconditions.specs.transformer_algebra.declared.transformer.Transformer.{Transformer}
use Rattle.preconditions.specs.transformer_algebra.declared.loop_parts.LoopParts.{LoopParts}
use Rattle.preconditions.specs.transformer_algebra.Loops.{next, iteration}
use Rattle.preconditions.specs.transformer_algebra.Claims.{Scene, Does, Kept, Chain, none_yet, then_iteration, Tracks, Means}
use Rattle.preconditions.specs.transformer_algebra.Laws.{In}
use Rattle.preconditions.proofs.TransformerAlgebra.RuleLaws.{does_then}
use Rattle.in_out_regions.specs.region_sets.declared.range.Range.{Range}
use Rattle.in_out_regions.specs.region_sets.declared.region.Access.TheVariants.{Write, In as AtIn}
use Rattle.in_out_regions.specs.region_sets.declared.region.Region.{Region}
use Rattle.in_out_regions.specs.region_sets.Claims.{Elements, LiesIn, LiesInSet, IsSharp, InRange, Iteration, Begins}
use Rattle.in_out_regions.specs.array_regions.References.{scalar}
use Rattle.in_out_regions.specs.array_regions.Loops.{range_with}
use Rattle.in_out_regions.specs.Writes.{is_write_beside, is_overlapped}
use Rattle.in_out_regions.specs.ListClaims.{AreWritten, IsWithinWrites}
use Rattle.in_out_regions.specs.Loops.{in_iteration, all_iterations}
use Rattle.laws_analyses.specs.Statements.Good.{Ending}
use Rattle.laws_analyses.specs.Statements.Activation.{Fit, Still, Ended}
use Rattle.laws_analyses.proofs.Statements.Basics.{put_here}
use Rattle.laws_analyses.proofs.Statements.Loops.{also}
use Rattle.laws_analyses.proofs.Statements.Counts.{NotZero, count_more, count_none}
use Rattle.laws_analyses.proofs.Statements.Ranges.{StepIs}
use Rattle.laws_analyses.specs.Regions.Settings.{scene, Sound}
use Rattle.laws_marks.specs.InFrames.{Frame, elements_in}
use Rattle.laws_analyses.specs.Regions.Shown.{Finally, Shown}
use Rattle.laws_analyses.proofs.Regions.Rules.{Goes, OnGave, goes_more, goes_with}
use Rattle.laws_marks.proofs.InFramed.{by_order, elements_on}
use Rattle.laws_analyses.proofs.Regions.Elements.{scalar_there, stored_there}
use Rattle.laws_analyses.proofs.Regions.Places.{first_place, next_place, next_after, first_after, not_past, zero_not}
use Rattle.laws_analyses.proofs.Regions.Turns.{Turn_ends, turns_go}
use Rattle.laws_analyses.proofs.Regions.Loops as base
use Rattle.laws_marks.specs.InShown.{first_read, IsFirst, FirstHolds, IsFree, FirstShown}
use Rattle.laws_marks.specs.InUnits.{UnitsFit, SetFits}
use Rattle.laws_marks.proofs.InFirsts.{not_so, written_left, written_right, unwritten_both, first_left, first_right, first_cases}
use Rattle.laws_marks.proofs.InGathering.{EachOne}
use Rattle.laws_marks.proofs.InRests.{SharpUnless}
use Rattle.laws_marks.proofs.InWithin.{within_writes}
use Rattle.laws_marks.proofs.InTaking.{free_both, free_write, first_holds_then}
use Rattle.laws_marks.proofs.InIterations.{turn_lies, iteration_sharp, Turn, turns_sharp}
use Rattle.laws_marks.proofs.InLists.{are_written}
use Rattle.fx_lists.proofs.Numbers.{same_is as nat_same, nat_eq_same}
use Rattle.f77_ast.specs.Variables.{same_variable}
use Rattle.f77_ast.proofs.SameLaws.{cmp_if as same_order}
use Rattle.f77_ast.proofs.KeptNumbers.{kept_is}

-- what a lock more leaves free was free
pub lock_free : (k : Frame) (locked : Locks) (u : ℕ) (f : Fault) (es : List Event) → IsFree k (lock locked u f) es → IsFree k locked es
lock_free k locked u f es h = record { unlocked = λ v e. go v (nat_eq v u) (locked v) refl (h.unlocked v e); lost = h.lost }
  where
    go : (v : ℕ) (b : Bool) (o : Option Fault) → locked v ≡ o → (if b then first_lock o f else locked v) ≡ None → locked v ≡ None
    go v b None q i = q
    go v true (Some g) q i = cc
    go v false (Some g) q i = i

same_itself : (n : ℕ) → same_variable (Own n) (Own n) ≡ true
same_itself n = ap is_eq (itself n)
  where
    itself : (n : ℕ) → nat_cmp n n ≡ Equal
    itself n = sym (nat_cmp_is n n Equal refl)

module _ (k : Frame) (sound : Sound k.base) (D : Claim) (locked : Locks) (still : ℕ → Bool) (fit : Fit k.sc.names k.scalar k.at (scene k.base) locked still) (units : UnitsFit k locked) (index : List ℕ) (lp : LoopParts) (named : k.sc.names index ≡ Variable lp.index) (bare : k.scalar index ≡ true) (known : (scene k.base).tracked lp.index ≡ lp.tracked) (trs : Tracks (scene k.base) lp.body.cells) (ws is : List Region) (ws_fit : SetFits k ws) (body : Plan) (goes : List ℕ → Bool) (ret : Bool) (x : Store) (a b c : ℤ) (I : Store → Type 0) (free : locked (unit_in k.at lp.index) ≡ None) where
  abbrev e : Scene
  e = scene k.base

  abbrev unit : ℕ
  unit = unit_in k.at lp.index

  abbrev g : Range
  g = range_with lp

  abbrev t : Transformer
  t = iteration lp

  abbrev x1 : Store
  x1 = put x unit (content Int a)

  abbrev inner : Locks
  inner = lock locked unit Locked

  -- what the iterations read first, as it is from before the DO
  abbrev pub over : List Region
  over = all_iterations lp.tracked g k.m.symbols ws is

  abbrev pub writes_all : List Region
  writes_all = scalar Write lp.index ∷ ws

  -- the index is the unit of its variable alone
  index_there : (phi : ℕ → ℤ) → elements_in k (Own lp.index) phi ≡ Some unit
  index_there phi =
      ap (λ (f : Elements). f phi) (sym (elements_on k (Own lp.index) (k.own lp.index)))
      ∙ stored_there k.base lp.index (base.stored k.base sound D locked still fit index lp named bare known trs ws body goes ret x a b c I) phi unit
      (scalar_there (k.at lp.index) phi (base.flat k.base sound D locked still fit index lp named bare known trs ws body goes ret x a b c I) (base.solid k.base sound D locked still fit index lp named bare known trs ws body goes ret x a b c I))

  index_off : (v : Named) (phi : ℕ → ℤ) (u : ℕ) → is_overlapped k.m.symbols writes_all v ≡ false → same_variable (Own lp.index) v ≡ false → elements_in k v phi ≡ Some u → nat_eq unit u ≡ false
  index_off v phi u o s h = not_so (nat_eq unit u) (λ q. ⊎_elim (λ z. true≢false (sym (same_itself lp.index) ∙ (ap (same_variable (Own lp.index)) (sym z) ∙ s))) (λ z. true≢false (sym z ∙ beside)) (units.apart v (Own lp.index) phi phi unit (h ∙ ap Some (sym (nat_same unit u q))) (index_there phi) free))
    where
      beside : overlap k.m.symbols (Own lp.index) v ≡ false
      beside = (or_parts (is_write_beside k.m.symbols v (scalar Write lp.index)) (is_overlapped k.m.symbols ws v) o).0

  module _ (mf : Means e lp.first (numbers_of x) a) (ml : Means e lp.last (numbers_of x) b) (step : StepIs lp.step c) (nz : int_eq c (pos 0) ≡ false) (keeps : (y z : Store) → Kept e (iteration lp).cells (iteration lp).foreign (numbers_of y) (numbers_of z) → I y → I z) (since : I x) where
    begins : Begins e g (numbers_of x) a b
    begins = base.begins k.base sound D locked still fit index lp named bare known trs ws body goes ret x a b c I free mf ml step nz keeps since

    constant : (s : ℤ) → lp.step ≡ Some s → (c ≡ s) × NotZero s
    constant s q = base.constant k.base sound D locked still fit index lp named bare known trs ws body goes ret x a b c I free mf ml step nz keeps since s q

    abbrev Count : ℤ → ℕ → ℕ → ℤ → Type 0
    Count s d j m = base.Count k.base sound D locked still fit index lp named bare known trs ws body goes ret x a b c I free mf ml step nz keeps since s d j m

    -- what is made of each region of the body says no more than is read first in these events
    abbrev AllSharp : Store → List Event → Type 0
    AllSharp y es = (r : Region) → In r is → (v : Named) → same_variable v r.variable ≡ true → is_overlapped k.m.symbols writes_all v ≡ false → same_variable (Own lp.index) r.variable ≡ false → MatchOption (in_iteration lp.tracked g k.m.symbols ws r) (Unit {0}) (λ q. IsSharp e (elements_in k r.variable) q (numbers_of y) (first_read es))

    -- an iteration that has ended
    record Ended_turn (s : ℤ) (i : ℕ) (es : List Event) (wrote : ℕ → Bool) : Type 0 where
      number : ℤ
      is_it : number ≡ a +ℤ (s *ℤ pos i)
      store : Store
      iteration : Iteration e g (numbers_of x) a b number i (numbers_of store)
      writes : AreWritten e (elements_in k) ws (numbers_of store) (λ u. is_written u es)
      within : IsWithinWrites k.m.symbols e (elements_in k) ws (numbers_of store) wrote
      sharp : AllSharp store es

    record Turning (j : ℕ) (m : ℤ) (es : List Event) (y : Store) : Type 0 where
      number : numbers_of y unit ≡ m
      chain : Chain e t (numbers_of x1) (numbers_of y)
      holds : FirstHolds k over x es
      free_so : IsFree k locked es
      written : is_written unit es ≡ true
      since_then : I y
      so_far : ℕ
      count : (s : ℤ) → lp.step ≡ Some s → Count s so_far j m
      -- what each iteration wrote
      wrote : ℕ → ℕ → Bool
      past : (s : ℤ) → lp.step ≡ Some s → (i : ℕ) → i < so_far → Ended_turn s i es (wrote i)
      spared : (u : ℕ) → nat_eq unit u ≡ false → ((i : ℕ) → i < so_far → wrote i u ≡ false) → is_written u es ≡ false

    this_turn : (j : ℕ) (m : ℤ) (es : List Event) (y : Store) (i : Turning (suc j) m es y) → Iteration e g (numbers_of x) a b m i.so_far (numbers_of y)
    this_turn j m es y i = record {
      begin = numbers_of x1;
      wrote = base.wrote k.base sound D locked still fit index lp named bare known trs ws body goes ret x a b c I free a x;
      chain = i.chain;
      number = i.number;
      range = λ s q. (let h = i.count s q in record { after_first = h.after_first; before_last = (count_more m b s j (constant s q).1 h.left).in_range; place = h.place });
    }

    -- what an end of the DO shows
    pub record Looped (f : Answer Flow) (es : List Event) : Type 0 where
      pub holds : FirstHolds k over x es
      pub sharp : Finally false f (EachOne (SharpUnless k.m.symbols e (elements_in k) (by_order k) writes_all (numbers_of x) (first_read es)) over)
      pub free_so : IsFree k locked es

    abbrev Q : Answer Flow → Store → List Event → Type 0
    Q f z es = Looped f es

    -- of the index nothing is read first
    not_index : (u : ℕ) (es : List Event) (y : Store) → is_written unit es ≡ true → is_written u es ≡ false → (r : Region) → In r is → LiesIn e (elements_in k r.variable) r (numbers_of y) u → same_variable (Own lp.index) r.variable ≡ false
    not_index u es y w n r i l = not_so (same_variable (Own lp.index) r.variable) (λ q. true≢false (sym w ∙ (ap (λ z. is_written z es) (same q) ∙ n)))
      where
        same : same_variable (Own lp.index) r.variable ≡ true → unit ≡ u
        same q = (let h : Some unit ≡ Some u = sym (index_there l.phi) ∙ (ap (λ (z : Elements). z l.phi) (by_order k (Own lp.index) r.variable (same_order (Own lp.index) r.variable q)) ∙ l.there) in one_of unit u h)
          where
            one_of : (p r : ℕ) → Some p ≡ Some r → p ≡ r
            one_of p r h = cc

    turn_holds : (j : ℕ) (m : ℤ) (es : List Event) (y : Store) → Turning (suc j) m es y → (fs : List Event) → FirstHolds k is y fs → FirstHolds k over x (es ++ fs)
    turn_holds j m es y i fs h u r = ⊎_elim (λ z. i.holds u z) later (first_cases k.ks k.g u es fs r)
      where
        later : (is_written u es ≡ false) × IsFirst k.ks k.g fs u → LiesInSet e (elements_in k) AtIn over (numbers_of x) u
        later z =
            turn_lies k.m.symbols e (elements_in k) (by_order k) g (numbers_of x) a b begins lp.tracked known ws m i.so_far (numbers_of y) (this_turn j m es y i)
            (λ v. is_written v es) (λ s q n l. (let p = i.past s q n l in record { number = p.number; is_it = p.is_it; store = numbers_of p.store; iteration = p.iteration; writes = p.writes })) u z.0
            AtIn is (λ w o d. not_index u es y i.written z.0 w o d) (h u z.1)

    -- the body, at an end
    pub record Bodied (y : Store) (f : Answer Flow) (fs : List Event) : Type 0 where
      pub accesses : Shown k.base false ws y f fs
      pub firsts : FirstShown k false inner is y f fs

    abbrev still' : ℕ → Bool
    still' = also still unit

    abbrev Bodies : Store → Answer Flow → Store → List Event → Type 0
    Bodies y f z fs = Bodied y f fs × OnGave D f z (λ h v. Ended e lp.body no_rows goes ret false still' y h v)

    -- the next turn
    onward : (j : ℕ) (m : ℤ) (es fs : List Event) (y z : Store) (i : Turning (suc j) m es y) → Bodied y (Gave Normal) fs → Does e lp.body (numbers_of y) (numbers_of z) → Still still' y z → Turning j (m +ℤ c) ((es ++ fs) ++ WroteEvent unit (content Int (m +ℤ c)) ∷ []) (put z unit (content Int (m +ℤ c)))
    onward j m es fs y z i sh d st =
        let n : numbers_of z unit ≡ m = st unit (or_left (nat_eq unit unit) (still unit) (nat_eq_same unit)) ∙ i.number in
        record {
          number = put_here z unit (content Int (m +ℤ c));
          chain = then_iteration i.chain (does_then e lp.body (next lp) (numbers_of y) (numbers_of z) (numbers_of (put z unit (content Int (m +ℤ c)))) d (base.does_next k.base sound D locked still fit index lp named bare known trs ws body goes ret x a b c I free m z n step));
          holds = first_holds_then k over x (es ++ fs) index_event (turn_holds j m es y i fs sh.firsts.holds) (λ u r. absurd (nothing u r.is_so));
          free_so = free_both k locked (es ++ fs) index_event (free_both k locked es fs i.free_so free_body) (free_write k locked unit (content Int (m +ℤ c)) free);
          written = written_left unit (es ++ fs) index_event (written_left unit es fs i.written);
          since_then = base.counts k.base sound D locked still fit index lp named bare known trs ws body goes ret x a b c I free mf ml step nz keeps since (m +ℤ c) z (base.runs k.base sound D locked still fit index lp named bare known trs ws body goes ret x a b c I free mf ml step nz keeps since y z d.kept i.since_then);
          so_far = suc i.so_far;
          count = λ s q. (let h = i.count s q in let z1 = constant s q in let cm = count_more m b s j z1.1 h.left in
              subst (λ v. Count s (suc i.so_far) j (m +ℤ v)) (sym z1.0) (record { place = next_place a s m i.so_far h.place; after_first = next_after a s m z1.1 h.after_first; left = cm.rest }));
          wrote = wrote;
          past = λ s q l h. pasts s q l (nat_eq l i.so_far) refl h;
          spared = λ u nu f. unwritten_both u (es ++ fs) index_event
              (unwritten_both u es fs
              (i.spared u nu (λ l h. sym (ap (λ o. if o then is_written u fs else i.wrote l u) (not_this l h)) ∙ f l (omega (arith, h))))
              (sym (ap (λ o. if o then is_written u fs else i.wrote i.so_far u) (nat_eq_same i.so_far)) ∙ f i.so_far (omega arith)))
              (ap (λ o. o || false) nu);
        }
      where
        index_event : List Event
        index_event = WroteEvent unit (content Int (m +ℤ c)) ∷ []

        all : List Event
        all = (es ++ fs) ++ WroteEvent unit (content Int (m +ℤ c)) ∷ []

        nothing : (u : ℕ) → is_read_first u (WroteEvent unit (content Int (m +ℤ c)) ∷ []) ≡ true → ⊥
        nothing u r = go (nat_eq unit u) r
          where
            go : (o : Bool) → (not o && false) ≡ true → ⊥
            go true h = true≢false (sym h)
            go false h = true≢false (sym h)

        free_body : IsFree k locked fs
        free_body = lock_free k locked unit Locked fs sh.firsts.free

        to_all : (u : ℕ) → is_read_first u (es ++ fs) ≡ true → is_read_first u ((es ++ fs) ++ WroteEvent unit (content Int (m +ℤ c)) ∷ []) ≡ true
        to_all u h = first_left u (es ++ fs) (WroteEvent unit (content Int (m +ℤ c)) ∷ []) h

        more_sharp : (v : Store) (ds : List Event) → ((u : ℕ) → is_read_first u ds ≡ true → is_read_first u ((es ++ fs) ++ WroteEvent unit (content Int (m +ℤ c)) ∷ []) ≡ true) → AllSharp v ds → AllSharp v ((es ++ fs) ++ WroteEvent unit (content Int (m +ℤ c)) ∷ [])
        more_sharp v ds f h r o n same p w = of_option (in_iteration lp.tracked g k.m.symbols ws r) (h r o n same p w)
          where
            of_option : (o : Option Region) → MatchOption o (Unit {0}) (λ q. IsSharp e (elements_in k r.variable) q (numbers_of v) (first_read ds)) → MatchOption o (Unit {0}) (λ q. IsSharp e (elements_in k r.variable) q (numbers_of v) (first_read ((es ++ fs) ++ WroteEvent unit (content Int (m +ℤ c)) ∷ [])))
            of_option None q = tt
            of_option (Some q) s = λ ex pt st hh. (let z = s ex pt st hh in record { unit = z.unit; there = z.there; is_so = f z.unit z.is_so })

        wrote : ℕ → ℕ → Bool
        wrote l u = if nat_eq l i.so_far then is_written u fs else i.wrote l u

        not_this : (l : ℕ) → l < i.so_far → nat_eq l i.so_far ≡ false
        not_this l h = grind (arith, nat_tests)

        -- those before it
        old : (s : ℤ) (q : lp.step ≡ Some s) (l : ℕ) → l < i.so_far → Ended_turn s l ((es ++ fs) ++ WroteEvent unit (content Int (m +ℤ c)) ∷ []) (i.wrote l)
        old s q l h = (let p = i.past s q l h in record {
          number = p.number;
          is_it = p.is_it;
          store = p.store;
          iteration = p.iteration;
          writes = λ w o v ex pt st hh. (let z = p.writes w o v ex pt st hh in record { unit = z.unit; there = z.there; is_so = written_left z.unit (es ++ fs) (WroteEvent unit (content Int (m +ℤ c)) ∷ []) (written_left z.unit es fs z.is_so) });
          within = p.within;
          sharp = more_sharp p.store es (λ u r. to_all u (first_left u es fs r)) p.sharp;
        })

        -- and this one
        new : (s : ℤ) (q : lp.step ≡ Some s) → Ended_turn s i.so_far ((es ++ fs) ++ WroteEvent unit (content Int (m +ℤ c)) ∷ []) (λ u. is_written u fs)
        new s q = record {
          number = m;
          is_it = (i.count s q).place;
          store = y;
          iteration = this_turn j m es y i;
          writes = λ w o v ex pt st hh. (let z = are_written k ws y fs ws_fit.named sh.accesses.sharp w o v ex pt st hh in record { unit = z.unit; there = z.there; is_so = written_left z.unit (es ++ fs) (WroteEvent unit (content Int (m +ℤ c)) ∷ []) (written_right z.unit es fs z.is_so) });
          within = within_writes k locked units ws ws_fit y fs sh.accesses.holds free_body;
          sharp = λ r o n same p w. iteration_sharp k.m.symbols e (elements_in k) (by_order k) g (numbers_of x) a b begins lp.tracked known ws m i.so_far (numbers_of y) (this_turn j m es y i) (first_read fs) (first_read ((es ++ fs) ++ WroteEvent unit (content Int (m +ℤ c)) ∷ [])) s q
              (λ l h. (let p = i.past s q l h in record { number = p.number; is_it = p.is_it; store = numbers_of p.store; iteration = p.iteration; written = i.wrote l; within = p.within }))
              (λ v ov nv phi u tu nw fu. to_all u (first_right u es fs (i.spared u (index_off v phi u ov nv tu) nw) fu))
              r n same p w (sh.firsts.sharp r o);
        }

        pasts : (s : ℤ) (q : lp.step ≡ Some s) (l : ℕ) (o : Bool) → nat_eq l i.so_far ≡ o → l < suc i.so_far → Ended_turn s l ((es ++ fs) ++ WroteEvent unit (content Int (m +ℤ c)) ∷ []) (λ u. if o then is_written u fs else i.wrote l u)
        pasts s q l true h w = subst (λ d. Ended_turn s d ((es ++ fs) ++ WroteEvent unit (content Int (m +ℤ c)) ∷ []) (λ u. is_written u fs)) (sym (nat_same l i.so_far h)) (new s q)
        pasts s q l false h w = old s q l (grind (arith, nat_tests))

    ends : (j : ℕ) (m : ℤ) (es : List Event) (y : Store) → Turning (suc j) m es y → (f : Answer Flow) (z : Store) (fs : List Event) → Bodies y f z fs → Turn_ends D c unit body Turning Q j m f z (es ++ fs)
    ends j m es y i f z fs h = go f h
      where
        held : FirstHolds k is y fs → FirstHolds k over x (es ++ fs)
        held l = turn_holds j m es y i fs l

        free_all : IsFree k inner fs → IsFree k locked (es ++ fs)
        free_all l = free_both k locked es fs i.free_so (lock_free k locked unit Locked fs l)

        go : (f : Answer Flow) → Bodies y f z fs → Turn_ends D c unit body Turning Q j m f z (es ++ fs)
        go (Gave Normal) p = (
          record { holds = held p.0.firsts.holds; sharp = tt; free_so = free_all p.0.firsts.free },
          λ n q. subst (λ v. Turning j v ((es ++ fs) ++ WroteEvent unit (content Int v) ∷ []) (put z unit (content Int v))) (kept_is (m +ℤ c) n q) (onward j m es fs y z i p.0 p.1.does p.1.steady),
        )
        go (Gave (Jump l)) p = record { holds = held p.0.firsts.holds; sharp = tt; free_so = free_all p.0.firsts.free }
        go (Gave Returned) p = record { holds = held p.0.firsts.holds; sharp = λ o. absurd (true≢false (sym o)); free_so = free_all p.0.firsts.free }
        go (Gave Stopped) p = record { holds = held p.0.firsts.holds; sharp = tt; free_so = free_all p.0.firsts.free }
        go (Broke d) p = record { holds = held p.0.firsts.holds; sharp = tt; free_so = free_all p.0.firsts.free }

    -- ---- the end

    every : (m : ℤ) (y : Store) (es : List Event) → Turning 0 m es y → (s : ℤ) → lp.step ≡ Some s → (n : ℤ) (j : ℕ) → InRange a b s n j → Turn k.m.symbols e (elements_in k) (by_order k) g (numbers_of x) a b begins lp.tracked known ws is (first_read es) n j
    every m y es i s q n j r = go (nat_lt j i.so_far) refl
      where
        go : (z : Bool) → nat_lt j i.so_far ≡ z → Turn k.m.symbols e (elements_in k) (by_order k) g (numbers_of x) a b begins lp.tracked known ws is (first_read es) n j
        go true h = (let p = i.past s q j (grind (arith, nat_tests)) in record {
          begin = numbers_of p.store;
          iteration = subst (λ v. Iteration e g (numbers_of x) a b v j (numbers_of p.store)) (p.is_it ∙ sym r.place) p.iteration;
          sharp = p.sharp;
        })
        go false h =
            let z1 = constant s q in
            let w = i.count s q in
            let l : i.so_far ≤ j = grind (arith, nat_tests) in
            absurd (not_past a b s m n i.so_far j z1.1 l w.place r.place (count_none m b s z1.1 w.left) r.before_last)

    at_end : (m : ℤ) (y : Store) (es : List Event) → Turning 0 m es y → Q (Gave Normal) y es
    at_end m y es i = record {
      holds = i.holds;
      sharp = turns_sharp k.m.symbols e (elements_in k) (by_order k) g (numbers_of x) a b begins lp.tracked known ws is (first_read es) (λ s q. (zero_not s (constant s q).1, λ n j w. every m y es i s q n j w));
      free_so = i.free_so;
    }

    pub loop_first : ((y : Store) → I y → Goes D body y (λ f z fs. Bodied y f fs)) → ((y : Store) → Ending body y (λ f z. Ended e lp.body no_rows goes ret false still' y f z)) → (j : ℕ) → ((s : ℤ) → lp.step ≡ Some s → iteration_count a b s ≡ j) → Goes D (iterations_from j a c unit body) x1 (λ f z fs. Looped f (WroteEvent unit (content Int a) ∷ fs))
    loop_first bodies moves j q =
        turns_go D c unit body Turning Q
        (λ i m z es h. goes_more D body z (λ f v fs. Bodies z f v fs) (λ f v fs. Turn_ends D c unit body Turning Q i m f v (es ++ fs)) (λ f v fs p. ends i m es z h f v fs p) (goes_with D body z (λ f v fs. Bodied z f fs) (λ f v. Ended e lp.body no_rows goes ret false still' z f v) (bodies z h.since_then) (moves z)))
        (λ m z es h. at_end m z es h) j a x1 (WroteEvent unit (content Int a) ∷ [])
        (record {
          number = put_here x unit (content Int a);
          chain = none_yet;
          holds = λ u r. absurd (none u (nat_eq unit u) r.is_so);
          free_so = free_write k locked unit (content Int a) free;
          written = or_left (nat_eq unit unit) false (nat_eq_same unit);
          since_then = base.counts k.base sound D locked still fit index lp named bare known trs ws body goes ret x a b c I free mf ml step nz keeps since a x since;
          so_far = 0;
          count = λ s h. record { place = first_place a s; after_first = first_after a s; left = q s h };
          wrote = λ i u. false;
          past = λ s h i l. absurd (omega (arith, l));
          spared = λ u nu f. ap (λ o. o || false) nu;
        })
      where
        none : (u : ℕ) (o : Bool) → (not o && false) ≡ true → ⊥
        none u true h = true≢false (sym h)
        none u false h = true≢false (sym h)
