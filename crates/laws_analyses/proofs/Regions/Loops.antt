-- A DO: what its iterations access.
use Rattle.std.proofs.Common.{◌≡◌, ℕ, suc, ◌+◌, ◌<◌, ◌≤◌, List, [], ◌∷◌, ◌++◌, Option, Some, None, Bool, true, false, refl, sym, ap, ◌∙◌, subst, arith, ℤ, pos, ◌+ℤ◌, ◌*ℤ◌, nat_eq, nat_lt, true≢false}
use Rattle.std.specs.Prelude.{if◌then◌else◌}
use Rattle.std.specs.Ordering.{int_eq}
use Rattle.std.proofs.lemmas.Int.{ints}
use Rattle.std.proofs.lemmas.Bool.{or_left}
use Rattle.std.proofs.lemmas.Bool.Decides.{nat_tests}
use Rattle.f77_ast.specs.Store.{content, Int, Store, put}
use Rattle.f77_ast.specs.Runs.{Event, Wrote as WroteEvent, Answer, Gave, Broke}
use Rattle.f77_ast.specs.Places.{Variable}
use Rattle.f77_ast.specs.Writes.{Locks}
use Rattle.f77_ast.specs.Plans.{Flow, Normal, Jump, Returned, Stopped, Plan}
use Rattle.f77_ast.specs.Executions.{Claim}
use Rattle.f77_ast.specs.Loops.{iteration_count, iterations_from}
use Rattle.affine_forms.specs.Conditions.{no_rows}
use Rattle.affine_forms.specs.Claims.{unit_in, numbers_of}
use Rattle.preconditions.specs.transformer_algebra.declared.transformer.Transformer.{Transformer}
use Rattle.preconditions.specs.transformer_algebra.declared.loop_parts.LoopParts.{LoopParts}
use Rattle.preconditions.specs.transformer_algebra.Cells.{has}
use Rattle.preconditions.specs.transformer_algebra.Transformers.{exit_system, transformer}
use Rattle.preconditions.specs.transformer_algebra.Loops.{own_cells, stepped, next, iteration, goes_up}
use Rattle.preconditions.specs.transformer_algebra.Claims.{Scene, Does, Kept, Chain, none_yet, then_iteration, Wrote, Tracks, Means, NotBeyond}
use Rattle.preconditions.specs.transformer_algebra.Laws.{In, here, there}
use Rattle.preconditions.proofs.TransformerAlgebra.CellLaws.{right_in}
use Rattle.preconditions.proofs.TransformerAlgebra.RuleLaws.{does_then, kept_then}
use Rattle.in_out_regions.specs.region_sets.declared.range.Range.{Range}
use Rattle.in_out_regions.specs.region_sets.declared.region.Access.TheVariants.{Write}
use Rattle.in_out_regions.specs.region_sets.declared.region.Region.{Region}
use Rattle.in_out_regions.specs.region_sets.Loops.{over_loop}
use Rattle.in_out_regions.specs.region_sets.Claims.{IsSharp, InRange, Iteration, Begins}
use Rattle.in_out_regions.proofs.RegionSets.StepLaws.{in_map, of_map}
use Rattle.in_out_regions.proofs.RegionSets.PieceLaws.{loop_has, loop_sharp}
use Rattle.in_out_regions.specs.array_regions.References.{scalar}
use Rattle.in_out_regions.specs.array_regions.Loops.{range_with, all_over}
use Rattle.laws_analyses.specs.Statements.Good.{Ending}
use Rattle.laws_analyses.specs.Statements.Activation.{Fit, Still, Ended}
use Rattle.laws_analyses.proofs.Statements.Basics.{put_here}
use Rattle.laws_analyses.proofs.Statements.Writes.{put_cells, put_far}
use Rattle.laws_analyses.proofs.Statements.Loops.{also}
use Rattle.laws_analyses.proofs.Statements.Simple.{does_assigned, does_unchanging}
use Rattle.laws_analyses.proofs.Statements.Tracks.{turn_tracks}
use Rattle.laws_analyses.proofs.Statements.Counts.{NotZero, not_zero, count_more, count_none}
use Rattle.laws_analyses.proofs.Statements.Ranges.{StepIs}
use Rattle.f77_ast.specs.Shared.{symbol_at}
use Rattle.laws_analyses.specs.Regions.Settings.{Setting, scene, is_stored, elements_at, Sound}
use Rattle.laws_analyses.specs.Regions.Shown.{accessed, Holds, Sharp, Finally, Shown}
use Rattle.laws_analyses.proofs.Regions.Traces.{accessed_left}
use Rattle.laws_analyses.proofs.Regions.Rules.{Post, Goes, OnGave, goes_more, goes_with}
use Rattle.laws_analyses.proofs.Regions.Holding.{sharp_one, sharp_append, holds_then, sharp_first, sharp_last}
use Rattle.laws_analyses.proofs.Regions.Elements.{stored_by, scalar_lies, scalar_sharp}
use Rattle.laws_analyses.proofs.Regions.Expressions.{flat_scalar}
use Rattle.laws_analyses.proofs.Regions.Showing.{one_write}
use Rattle.laws_analyses.proofs.Regions.Places.{first_place, next_place, next_after, first_after, not_past, zero_not}
use Rattle.laws_analyses.proofs.Regions.Turns.{Turn_ends, turns_go}
use Rattle.fx_lists.proofs.Numbers.{same_is as nat_same, nat_eq_same}
use Rattle.fx_lists.proofs.Booleans.{clash as clashes}
use Rattle.f77_ast.proofs.KeptNumbers.{kept_is}

-- the value that the index takes next
stepped_means : (e : Scene) (i : ℕ) (o : Option ℤ) (x : ℕ → ℤ) (m c : ℤ) → e.tracked i ≡ true → x (e.unit i) ≡ m → StepIs o c → Means e (stepped i o) x (m +ℤ c)
stepped_means e i None x m c t h k = tt
stepped_means e i (Some s) x m c t h k = λ p st. (let q = st i t in omega (arith, ints, q, h, k))

module _ (k : Setting) (sound : Sound k) (D : Claim) (locked : Locks) (still : ℕ → Bool) (fit : Fit k.sc.names k.scalar k.at (scene k) locked still) (index : List ℕ) (lp : LoopParts) (named : k.sc.names index ≡ Variable lp.index) (bare : k.scalar index ≡ true) (known : (scene k).tracked lp.index ≡ lp.tracked) (trs : Tracks (scene k) lp.body.cells) (rs : List Region) (body : Plan) (goes : List ℕ → Bool) (ret : Bool) (x : Store) (a b c : ℤ) (I : Store → Type 0) where
  abbrev e : Scene
  e = scene k

  abbrev unit : ℕ
  unit = unit_in k.at lp.index

  abbrev g : Range
  g = range_with lp

  abbrev t : Transformer
  t = iteration lp

  abbrev pub tails : List Region
  tails = scalar Write lp.index ∷ all_over g rs

  abbrev x1 : Store
  x1 = put x unit (content Int a)

  pub stored : is_stored (symbol_at k.m.symbols lp.index) ≡ true
  stored = stored_by k index lp.index (sound.variables index lp.index named)

  pub flat : (k.at lp.index).dims ≡ []
  flat = flat_scalar k index lp.index (sound.variables index lp.index named) bare

  pub solid : 0 < (k.at lp.index).extent
  solid = fit.solid index lp.index named bare

  zero_off : unit ≡ unit + 0
  zero_off = omega arith

  -- ---- what the index does

  module _ (free : locked unit ≡ None) where
    pub wrote : (n : ℤ) (y : Store) → Wrote e lp.index n (numbers_of y) (numbers_of (put y unit (content Int n)))
    wrote n y = record {
      there = put_here y unit (content Int n);
      cells = λ d r q. put_cells k.sc.names k.m k.scalar k.at k.far k.place sound.names_fit locked still fit y (content Int n) index lp.index 0 unit named solid zero_off free d r q;
      foreign = λ u f. put_far k.sc.names k.m k.scalar k.at k.far k.place sound.names_fit locked still fit y (content Int n) index lp.index 0 unit named solid zero_off free u f;
    }

    pub does_next : (m : ℤ) (y : Store) → numbers_of y unit ≡ m → StepIs lp.step c → Does e (next lp) (numbers_of y) (numbers_of (put y unit (content Int (m +ℤ c))))
    does_next m y h q = go lp.tracked refl
      where
        w : Wrote e lp.index (m +ℤ c) (numbers_of y) (numbers_of (put y unit (content Int (m +ℤ c))))
        w = wrote (m +ℤ c) y

        go : (z : Bool) → lp.tracked ≡ z → Does e (transformer (if z then lp.index ∷ [] else []) [] (if z then exit_system lp.index (stepped lp.index lp.step) else no_rows)) (numbers_of y) (numbers_of (put y unit (content Int (m +ℤ c))))
        go true r = does_assigned e lp.index (stepped lp.index lp.step) (m +ℤ c) (numbers_of y) (numbers_of (put y unit (content Int (m +ℤ c)))) (known ∙ r) (stepped_means e lp.index lp.step (numbers_of y) m c (known ∙ r) h q) w
        go false r = does_unchanging e (numbers_of y) (numbers_of (put y unit (content Int (m +ℤ c)))) (record { cells = λ d s h'. w.cells d s (other d s (nat_eq lp.index d) refl); foreign = λ u f n. w.foreign u f })
          where
            other : (d : ℕ) → e.tracked d ≡ true → (v : Bool) → nat_eq lp.index d ≡ v → v ≡ false
            other d s false o = refl
            other d s true o = clashes (e.tracked d) s (ap e.tracked (sym (nat_same lp.index d o)) ∙ (known ∙ r))

    own_in : e.tracked lp.index ≡ true → has (own_cells lp) lp.index ≡ true
    own_in r = go lp.tracked refl
      where
        go : (z : Bool) → lp.tracked ≡ z → has (if z then lp.index ∷ [] else []) lp.index ≡ true
        go true q = or_left (nat_eq lp.index lp.index) false (nat_eq_same lp.index)
        go false q = clashes (e.tracked lp.index) r (known ∙ q)

    -- where it takes a value, no other cell changes
    own_kept : (n : ℤ) (y : Store) → Kept e (own_cells lp) [] (numbers_of y) (numbers_of (put y unit (content Int n)))
    own_kept n y = record { cells = λ d r q. (wrote n y).cells d r (apart d r q (nat_eq lp.index d) refl); foreign = λ u f h. (wrote n y).foreign u f }
      where
        apart : (d : ℕ) → e.tracked d ≡ true → has (own_cells lp) d ≡ false → (v : Bool) → nat_eq lp.index d ≡ v → v ≡ false
        apart d r q false o = refl
        apart d r q true o =
            let same = nat_same lp.index d o in
            clashes (has (own_cells lp) d) (subst (λ j. has (own_cells lp) j ≡ true) same (own_in (ap e.tracked same ∙ r))) q

    module _ (mf : Means e lp.first (numbers_of x) a) (ml : Means e lp.last (numbers_of x) b) (step : StepIs lp.step c) (nz : int_eq c (pos 0) ≡ false) (keeps : (y z : Store) → Kept e (iteration lp).cells (iteration lp).foreign (numbers_of y) (numbers_of z) → I y → I z) (begun : I x) where
      -- what holds stays over the body
      pub runs : (y z : Store) → Kept e lp.body.cells lp.body.foreign (numbers_of y) (numbers_of z) → I y → I z
      runs y z d = keeps y z (kept_then e lp.body.cells (own_cells lp) lp.body.foreign [] (numbers_of y) (numbers_of z) (numbers_of z) d (record { cells = λ v r q. refl; foreign = λ u r f. refl }))

      -- and where the index changes
      pub counts : (n : ℤ) (y : Store) → I y → I (put y unit (content Int n))
      counts n y = keeps y (put y unit (content Int n)) (kept_then e lp.body.cells (own_cells lp) lp.body.foreign [] (numbers_of y) (numbers_of y) (numbers_of (put y unit (content Int n))) (record { cells = λ v r q. refl; foreign = λ u r f. refl }) (own_kept n y))

      pub begins : Begins e g (numbers_of x) a b
      begins = record { first = mf; last = ml; tracks = turn_tracks e lp known trs; index = λ r. right_in lp.body.cells (own_cells lp) lp.index (own_in r) }

      -- a constant step is the value, and not 0
      pub constant : (s : ℤ) → lp.step ≡ Some s → (c ≡ s) × NotZero s
      constant s q = (let h : c ≡ s = subst (λ o. StepIs o c) q step in (h, not_zero s (ap (λ y. int_eq y (pos 0)) (sym h) ∙ nz)))

      pub record Count (s : ℤ) (d j : ℕ) (m : ℤ) : Type 0 where
        pub place : m ≡ a +ℤ (s *ℤ pos d)
        pub after_first : NotBeyond (goes_up s) a m
        pub left : iteration_count m b s ≡ j

      -- an iteration that has ended
      record Past (s : ℤ) (i : ℕ) (es : List Event) : Type 0 where
        number : ℤ
        place : number ≡ a +ℤ (s *ℤ pos i)
        store : Store
        iteration : Iteration e g (numbers_of x) a b number i (numbers_of store)
        sharp : Sharp k rs store es

      record Turning (j : ℕ) (m : ℤ) (es : List Event) (y : Store) : Type 0 where
        number : numbers_of y unit ≡ m
        chain : Chain e t (numbers_of x1) (numbers_of y)
        holds : Holds k tails x es
        written : accessed Write es unit ≡ true
        -- what holds at each store of the module
        since : I y
        so_far : ℕ
        count : (s : ℤ) → lp.step ≡ Some s → Count s so_far j m
        past : (s : ℤ) → lp.step ≡ Some s → (i : ℕ) → i < so_far → Past s i es

      this_turn : (j : ℕ) (m : ℤ) (es : List Event) (y : Store) (i : Turning (suc j) m es y) → Iteration e g (numbers_of x) a b m i.so_far (numbers_of y)
      this_turn j m es y i = record {
        begin = numbers_of x1;
        wrote = wrote a x;
        chain = i.chain;
        number = i.number;
        range = λ s q. (let h = i.count s q in record { after_first = h.after_first; before_last = (count_more m b s j (constant s q).1 h.left).in_range; place = h.place });
      }

      abbrev Q : Post Flow
      Q f z es = Shown k false tails x f es

      index_holds : (n : ℤ) → Holds k tails x (WroteEvent unit (content Int n) ∷ [])
      index_holds n = one_write k tails x unit (content Int n) (record { region = scalar Write lp.index; is_one = here; kind = refl; lies = scalar_lies k lp.index stored flat solid Write (numbers_of x) })

      turn_holds : (j : ℕ) (m : ℤ) (es : List Event) (y : Store) → Turning (suc j) m es y → (fs : List Event) → Holds k rs y fs → Holds k tails x fs
      turn_holds j m es y i fs h w u r =
          let l = h w u r in
          record {
            region = over_loop l.region g;
            is_one = there (in_map (λ (q : Region). over_loop q g) l.region rs l.is_one);
            kind = l.kind;
            lies = loop_has l.region g e (elements_at k l.region.variable) (numbers_of x) a b begins m i.so_far (numbers_of y) (this_turn j m es y i) u l.lies;
          }

      shown_so : (f : Answer Flow) (es : List Event) → Holds k tails x es → (f ≡ Gave Normal → Sharp k tails x es) → Shown k false tails x f es
      shown_so f es h s = record { holds = h; sharp = go f s }
        where
          go : (f : Answer Flow) → (f ≡ Gave Normal → Sharp k tails x es) → Finally false f (Sharp k tails x es)
          go (Gave Normal) s = s refl
          go (Gave (Jump l)) s = tt
          go (Gave Returned) s = λ o. absurd (true≢false (sym o))
          go (Gave Stopped) s = tt
          go (Broke d) s = tt

      abbrev still' : ℕ → Bool
      still' = also still unit

      abbrev Bodies : Store → Answer Flow → Store → List Event → Type 0
      Bodies y f z fs = Shown k false rs y f fs × OnGave D f z (λ h v. Ended e lp.body no_rows goes ret false still' y h v)

      -- the next turn
      onward : (j : ℕ) (m : ℤ) (es fs : List Event) (y z : Store) (i : Turning (suc j) m es y) → Shown k false rs y (Gave Normal) fs → Does e lp.body (numbers_of y) (numbers_of z) → Still still' y z → Turning j (m +ℤ c) ((es ++ fs) ++ WroteEvent unit (content Int (m +ℤ c)) ∷ []) (put z unit (content Int (m +ℤ c)))
      onward j m es fs y z i sh d st =
          let w = WroteEvent unit (content Int (m +ℤ c)) ∷ [] in
          let n : numbers_of z unit ≡ m = st unit (or_left (nat_eq unit unit) (still unit) (nat_eq_same unit)) ∙ i.number in
          record {
            number = put_here z unit (content Int (m +ℤ c));
            chain = then_iteration i.chain (does_then e lp.body (next lp) (numbers_of y) (numbers_of z) (numbers_of (put z unit (content Int (m +ℤ c)))) d (does_next m z n step));
            holds = holds_then k tails x (es ++ fs) (WroteEvent unit (content Int (m +ℤ c)) ∷ []) (holds_then k tails x es fs i.holds (turn_holds j m es y i fs sh.holds)) (index_holds (m +ℤ c));
            written = accessed_left Write (es ++ fs) (WroteEvent unit (content Int (m +ℤ c)) ∷ []) unit (accessed_left Write es fs unit i.written);
            since = counts (m +ℤ c) z (runs y z d.kept i.since);
            so_far = suc i.so_far;
            count = λ s q. (let h = i.count s q in let z1 = constant s q in let cm = count_more m b s j z1.1 h.left in
                subst (λ v. Count s (suc i.so_far) j (m +ℤ v)) (sym z1.0) (record { place = next_place a s m i.so_far h.place; after_first = next_after a s m z1.1 h.after_first; left = cm.rest }));
            past = λ s q n l. was s q n (nat_lt n i.so_far) refl l;
          }
        where
          all : List Event
          all = (es ++ fs) ++ WroteEvent unit (content Int (m +ℤ c)) ∷ []

          old : (qs : List Region) (v : Store) → Sharp k qs v es → Sharp k qs v ((es ++ fs) ++ WroteEvent unit (content Int (m +ℤ c)) ∷ [])
          old qs v h = sharp_first k qs v (es ++ fs) (WroteEvent unit (content Int (m +ℤ c)) ∷ []) (sharp_first k qs v es fs h)

          new : (qs : List Region) (v : Store) → Sharp k qs v fs → Sharp k qs v ((es ++ fs) ++ WroteEvent unit (content Int (m +ℤ c)) ∷ [])
          new qs v h = sharp_first k qs v (es ++ fs) (WroteEvent unit (content Int (m +ℤ c)) ∷ []) (sharp_last k qs v es fs h)

          was : (s : ℤ) → lp.step ≡ Some s → (n : ℕ) (z : Bool) → nat_lt n i.so_far ≡ z → n < suc i.so_far → Past s n ((es ++ fs) ++ WroteEvent unit (content Int (m +ℤ c)) ∷ [])
          was s q n true h l = (let p = i.past s q n (grind (arith, nat_tests)) in record { number = p.number; place = p.place; store = p.store; iteration = p.iteration; sharp = old rs p.store p.sharp })
          was s q n false h l =
              let same : i.so_far ≡ n = grind (arith, nat_tests) in
              subst (λ d. Past s d ((es ++ fs) ++ WroteEvent unit (content Int (m +ℤ c)) ∷ [])) same
              (record { number = m; place = (i.count s q).place; store = y; iteration = this_turn j m es y i; sharp = new rs y sh.sharp })

      ends : (j : ℕ) (m : ℤ) (es : List Event) (y : Store) → Turning (suc j) m es y → (f : Answer Flow) (z : Store) (fs : List Event) → Bodies y f z fs → Turn_ends D c unit body Turning Q j m f z (es ++ fs)
      ends j m es y i f z fs h = go f h
        where
          held : Holds k rs y fs → Holds k tails x (es ++ fs)
          held l = holds_then k tails x es fs i.holds (turn_holds j m es y i fs l)

          go : (f : Answer Flow) → Bodies y f z fs → Turn_ends D c unit body Turning Q j m f z (es ++ fs)
          go (Gave Normal) p = (
            record { holds = held p.0.holds; sharp = tt },
            λ n q. subst (λ v. Turning j v ((es ++ fs) ++ WroteEvent unit (content Int v) ∷ []) (put z unit (content Int v))) (kept_is (m +ℤ c) n q) (onward j m es fs y z i p.0 p.1.does p.1.steady),
          )
          go (Gave (Jump l)) p = record { holds = held p.0.holds; sharp = tt }
          go (Gave Returned) p = record { holds = held p.0.holds; sharp = λ o. absurd (true≢false (sym o)) }
          go (Gave Stopped) p = record { holds = held p.0.holds; sharp = tt }
          go (Broke d) p = record { holds = held p.0.holds; sharp = tt }

      -- ---- the end

      every : (m : ℤ) (y : Store) (es : List Event) → Turning 0 m es y → (s : ℤ) → lp.step ≡ Some s → (n : ℤ) (j : ℕ) → InRange a b s n j → (st : Store) × Iteration e g (numbers_of x) a b n j (numbers_of st) × Sharp k rs st es
      every m y es i s q n j r = go (nat_lt j i.so_far) refl
        where
          go : (z : Bool) → nat_lt j i.so_far ≡ z → (st : Store) × Iteration e g (numbers_of x) a b n j (numbers_of st) × Sharp k rs st es
          go true h = (let p = i.past s q j (grind (arith, nat_tests)) in (p.store, subst (λ v. Iteration e g (numbers_of x) a b v j (numbers_of p.store)) (p.place ∙ sym r.place) p.iteration, p.sharp))
          go false h =
              let z1 = constant s q in
              let w = i.count s q in
              let l : i.so_far ≤ j = grind (arith, nat_tests) in
              absurd (not_past a b s m n i.so_far j z1.1 l w.place r.place (count_none m b s z1.1 w.left) r.before_last)

      at_end : (m : ℤ) (y : Store) (es : List Event) → Turning 0 m es y → Q (Gave Normal) y es
      at_end m y es i = record { holds = i.holds; sharp = sharp_tails }
        where
          over : (r : Region) → In r rs → IsSharp e (elements_at k r.variable) (over_loop r g) (numbers_of x) (accessed r.kind es)
          over r o =
              loop_sharp r g e (elements_at k r.variable) (numbers_of x) a b (accessed r.kind es) begins
              (λ s q. (zero_not s (constant s q).1, λ n j w. (let v = every m y es i s q n j w in record { begin = numbers_of v.0; iteration = v.1; sharp = v.2 r o })))

          sharp_tails : Sharp k tails x es
          sharp_tails =
              sharp_append e (elements_at k) (numbers_of x) (scalar Write lp.index ∷ []) (all_over g rs) (λ w. accessed w es)
              (sharp_one e (elements_at k) (numbers_of x) (scalar Write lp.index) (λ w. accessed w es) (scalar_sharp k lp.index stored flat solid Write (numbers_of x) (accessed Write es) i.written))
              (of_map (λ (r : Region). over_loop r g) (λ (r : Region). IsSharp e (elements_at k r.variable) r (numbers_of x) (accessed r.kind es)) rs over)

      pub loop_goes : ((y : Store) → I y → Goes D body y (λ f z fs. Shown k false rs y f fs)) → ((y : Store) → Ending body y (λ f z. Ended e lp.body no_rows goes ret false still' y f z)) → (j : ℕ) → ((s : ℤ) → lp.step ≡ Some s → iteration_count a b s ≡ j) → Goes D (iterations_from j a c unit body) x1 (λ f z fs. Shown k false tails x f (WroteEvent unit (content Int a) ∷ fs))
      loop_goes bodies moves j q =
          turns_go D c unit body Turning Q
          (λ i m z es h. goes_more D body z (λ f v fs. Bodies z f v fs) (λ f v fs. Turn_ends D c unit body Turning Q i m f v (es ++ fs)) (λ f v fs p. ends i m es z h f v fs p) (goes_with D body z (λ f v fs. Shown k false rs z f fs) (λ f v. Ended e lp.body no_rows goes ret false still' z f v) (bodies z h.since) (moves z)))
          (λ m z es h. at_end m z es h) j a x1 (WroteEvent unit (content Int a) ∷ [])
          (record {
            number = put_here x unit (content Int a);
            chain = none_yet;
            holds = index_holds a;
            written = or_left (nat_eq unit unit) false (nat_eq_same unit);
            since = counts a x begun;
            so_far = 0;
            count = λ s h. record { place = first_place a s; after_first = first_after a s; left = q s h };
            past = λ s h i l. absurd (omega (arith, l));
          })
