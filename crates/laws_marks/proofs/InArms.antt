-- IFs, from their tests and their parts.
use Rattle.std.proofs.Common.{◌≡◌, ⊎_elim, ℕ, ◌<◌, List, [], ◌∷◌, ◌++◌, Bool, true, false, refl, sym, ◌∙◌, subst, true≢false}
use Rattle.std.specs.Prelude.{if◌then◌else◌}
use Rattle.f77_ast.specs.Trees.{ExprTree, StmtTrees, ArmTrees, ElseTree}
use Rattle.f77_ast.specs.Trees as tree
use Rattle.f77_ast.specs.Store.{Store}
use Rattle.f77_ast.specs.Runs.{Event, Answer, Gave}
use Rattle.f77_ast.specs.Numbers.{is_true}
use Rattle.f77_ast.specs.Places.{Variable}
use Rattle.f77_ast.specs.Values.{value}
use Rattle.f77_ast.specs.Writes.{Locks}
use Rattle.f77_ast.specs.Plans.{Flow, Normal, Plan, Ends, first}
use Rattle.f77_ast.specs.Executions.{Claim}
use Rattle.f77_ast.specs.declared.results.At.{At}
use Rattle.affine_forms.specs.Claims.{numbers_of}
use Rattle.preconditions.specs.transformer_algebra.Claims.{HoldsAt}
use Rattle.preconditions.specs.transformer_algebra.Laws.{In, here, there}
use Rattle.in_out_regions.specs.region_sets.declared.region.Access.TheVariants.{In as AtIn}
use Rattle.in_out_regions.specs.region_sets.declared.region.Region.{Region}
use Rattle.in_out_regions.specs.region_sets.Sets.{unite_all}
use Rattle.in_out_regions.proofs.RegionSets.StepLaws.{in_either, in_map, of_map}
use Rattle.in_out_regions.specs.array_regions.declared.arms.Reached.{Reached}
use Rattle.in_out_regions.specs.array_regions.Arms.{always, if_true, if_false, past_arms, under_tests, all_met, tests_reads}
use Rattle.in_out_regions.specs.array_regions.Reads.{reads}
use Rattle.in_out_regions.specs.Kinds.{as_in, all_in}
use Rattle.in_out_regions.specs.array_regions.Calls.{Called}
use Rattle.in_out_regions.specs.Known.{KnownTree}
use Rattle.in_out_regions.specs.Statement.{list_of, arms_in, else_in, at_list}
use Rattle.laws_analyses.specs.Regions.Settings.{elements_at, scene, Sound, is_plain}
use Rattle.laws_marks.specs.InFrames.{Frame, elements_in}
use Rattle.laws_analyses.specs.Regions.Shown.{accessed, Holds, Sharp}
use Rattle.laws_analyses.proofs.Regions.Traces.{trace_nil}
use Rattle.laws_analyses.proofs.Regions.Rules.{Goes, goes_ends, goes_more}
use Rattle.laws_analyses.proofs.Regions.Looks.{goes_first}
use Rattle.laws_analyses.proofs.Regions.Arms.{Knows, test_looks}
use Rattle.laws_analyses.proofs.Regions.Meeting.{Off, set_met, all_sharp_met, all_sharp_off, holds_true, holds_false, off_true, off_false, test_off_true, test_off_false}
use Rattle.laws_marks.specs.InShown.{first_read, FirstHolds, FirstSharp, FirstShown}
use Rattle.laws_marks.specs.InUnits.{AreOf}
use Rattle.laws_marks.specs.InKnowns.{known_in}
use Rattle.laws_marks.proofs.InTaking.{NoWrites, no_writes_none, free_none, free_both, first_holds_then, first_holds_left, first_holds_both, first_holds_wider, first_sharp_none, first_sharp_more, first_sharp_first, first_sharp_last, first_sharp_append, first_more, first_gathered, first_broke, first_normal, seen_first, seen_sharp}
use Rattle.laws_marks.proofs.InQuiet.{looked_quiet}
use Rattle.preconditions.proofs.TransformerAlgebra.Members.{in_left, in_right}

in_all : (rs qs : List Region) (r : Region) → ((q : Region) → In q rs → In q qs) → In r (all_in rs) → In r (all_in qs)
in_all [] qs r f i = elim i [ ]
in_all (q ∷ rs) qs r f here = in_map as_in q qs (f q here)
in_all (q ∷ rs) qs r f (there i) = in_all rs qs r (λ w j. f w (there j)) i

all_append : (rs qs : List Region) (r : Region) → In r (all_in (rs ++ qs)) → In r (all_in rs ++ all_in qs)
all_append [] qs r i = i
all_append (q ∷ rs) qs r here = here
all_append (q ∷ rs) qs r (there i) = there (all_append rs qs r i)

module _ (k : Frame) (sound : Sound k.base) (solid : (x : List ℕ) (v : ℕ) → k.sc.names x ≡ Variable v → k.scalar x ≡ true → 0 < (k.at v).extent) (named : (e : ExprTree) → AreOf k.may_name (reads e k.m)) (locked : Locks) where
  abbrev F : List Region → Store → Answer Flow → List Event → Type 0
  F rs s x es = FirstShown k false locked rs s x es

  off_yes : (e : ExprTree) (w : Reached) (s : Store) (b : Bool) → Knows k.base sound solid e s b → b ≡ false → Off (scene k.base) (numbers_of s) (if_true k.m e w)
  off_yes e w s b h f = test_off_true (scene k.base) (numbers_of s) k.m e w (λ x v p st g. true≢false (sym (h.tells.yes x v p st g) ∙ f))

  off_no : (e : ExprTree) (w : Reached) (s : Store) (b : Bool) → Knows k.base sound solid e s b → b ≡ true → Off (scene k.base) (numbers_of s) (if_false k.m e w)
  off_no e w s b h f = test_off_false (scene k.base) (numbers_of s) k.m e w (λ x v p st g. true≢false (sym f ∙ h.tells.no x v p st g))

  -- met with how a part is reached
  met_first : (w : Reached) (rs : List Region) (s : Store) (es : List Event) → HoldsAt (scene k.base) w.system (numbers_of s) → FirstHolds k rs s es → FirstHolds k (all_met w rs) s es
  met_first w rs s es h g u i = set_met (scene k.base) (numbers_of s) (elements_in k) AtIn w rs u h (g u i)

  met_sharp : (w : Reached) (rs : List Region) (s : Store) (es : List Event) → FirstSharp k rs s es → FirstSharp k (all_met w rs) s es
  met_sharp w rs s es h = all_sharp_met (scene k.base) (numbers_of s) (elements_in k) w rs (λ a. first_read es) h

  met_off : (w : Reached) (rs : List Region) (s : Store) (es : List Event) → Off (scene k.base) (numbers_of s) w → FirstSharp k (all_met w rs) s es
  met_off w rs s es o = all_sharp_off (scene k.base) (numbers_of s) (elements_in k) w rs (λ a. first_read es) o

  -- what a test reads that is reached so
  met_named : (w : Reached) (rs : List Region) → AreOf k.may_name rs → AreOf k.may_name (all_met w rs)
  met_named w rs h = of_map (under_tests w) (λ (r : Region). k.may_name r.variable ≡ true) rs (λ r i. h r i)

  test_first : (w : Reached) (e : ExprTree) (s : Store) (es : List Event) → HoldsAt (scene k.base) w.system (numbers_of s) → Holds k.base (reads e k.m) s es → FirstHolds k (all_in (all_met w (reads e k.m))) s es
  test_first w e s es h g = seen_first k (all_met w (reads e k.m)) s es (met_named w (reads e k.m) (named e)) (λ a u i. set_met (scene k.base) (numbers_of s) (elements_at k.base) a w (reads e k.m) u h (g a u i))

  test_sharp : (w : Reached) (e : ExprTree) (s : Store) (es : List Event) → NoWrites es → Sharp k.base (reads e k.m) s es → FirstSharp k (all_in (all_met w (reads e k.m))) s es
  test_sharp w e s es n g = seen_sharp k (all_met w (reads e k.m)) s es (met_named w (reads e k.m) (named e)) n (all_sharp_met (scene k.base) (numbers_of s) (elements_at k.base) w (reads e k.m) (λ a. accessed a es) g)

  -- an exact one of a part that is not reached says nothing
  test_off : (w : Reached) (e : ExprTree) (s : Store) (es : List Event) → Off (scene k.base) (numbers_of s) w → FirstSharp k (all_in (all_met w (reads e k.m))) s es
  test_off w e s es o = first_sharp_more k (all_in (all_met w (reads e k.m))) s [] es (λ u i. absurd (true≢false (sym i))) (seen_sharp k (all_met w (reads e k.m)) s [] (met_named w (reads e k.m) (named e)) no_writes_none (all_sharp_off (scene k.base) (numbers_of s) (elements_at k.base) w (reads e k.m) (λ a. accessed a []) o))

  -- ---- logical IF

  module _ (D : Claim) where
    pub logical_in : (e : ExprTree) (rs : List Region) (one : Plan) (s : Store) → is_plain k.scalar e ≡ true → Goes D one s (λ x z es. FirstShown k false locked rs s x es) → Goes D (first (value e k.sc.names k.at) (λ c. if is_true c.number then one else Ends Normal)) s (λ x z es. FirstShown k false locked (unite_all (all_in (reads e k.m) ++ all_met (if_true k.m e always) rs)) s x es)
    logical_in e rs one s p h =
        goes_more D (first (value e k.sc.names k.at) (λ c. if is_true c.number then one else Ends Normal)) s (λ x z es. F all s x es) (λ x z es. F (unite_all all) s x es) (λ x z es g. first_gathered k false locked all s x es g)
        (goes_first D (value e k.sc.names k.at) (λ c. if is_true c.number then one else Ends Normal) s _ (λ x z es. F all s x es) (looked_quiet (value e k.sc.names k.at) s _ (test_looks k.base sound solid e s p))
        (λ c es g. go es g.0.0.0.holds g.0.0.0.sharp g.1 (is_true c.number) (record { says = g.0.0.1; tells = g.0.1 }))
        (λ b es g. first_broke k false locked all s b es (first_holds_left k (all_in (reads e k.m)) then_set s es (seen_first k (reads e k.m) s es (named e) g.0.0.0.holds)) (free_none k locked es g.1)))
      where
        then_set : List Region
        then_set = all_met (if_true k.m e always) rs

        all : List Region
        all = all_in (reads e k.m) ++ all_met (if_true k.m e always) rs

        go : (es : List Event) → Holds k.base (reads e k.m) s es → Sharp k.base (reads e k.m) s es → NoWrites es → (b : Bool) → Knows k.base sound solid e s b → Goes D (if b then one else Ends Normal) s (λ x z fs. FirstShown k false locked (all_in (reads e k.m) ++ all_met (if_true k.m e always) rs) s x (es ++ fs))
        go es g y q true n =
            goes_more D one s (λ x z fs. FirstShown k false locked rs s x fs) (λ x z fs. FirstShown k false locked (all_in (reads e k.m) ++ all_met (if_true k.m e always) rs) s x (es ++ fs))
            (λ x z fs r. first_more k false locked rs (all_in (reads e k.m) ++ all_met (if_true k.m e always) rs) s x fs (es ++ fs)
            (λ i. first_holds_both k (all_in (reads e k.m)) (all_met (if_true k.m e always) rs) s es fs (seen_first k (reads e k.m) s es (named e) g) (met_first (if_true k.m e always) rs s fs (holds_true (scene k.base) (numbers_of s) k.m e always (λ z st. tt) (n.says.true_side refl)) i))
            (λ i. first_sharp_append k (all_in (reads e k.m)) (all_met (if_true k.m e always) rs) s (es ++ fs) (first_sharp_first k (all_in (reads e k.m)) s es fs (seen_sharp k (reads e k.m) s es (named e) q y)) (first_sharp_last k (all_met (if_true k.m e always) rs) s es fs q (met_sharp (if_true k.m e always) rs s fs i)))
            (λ f. free_both k locked es fs (free_none k locked es q) f) r)
            h
        go es g y q false n =
            goes_ends D Normal s (λ x z fs. FirstShown k false locked (all_in (reads e k.m) ++ all_met (if_true k.m e always) rs) s x (es ++ fs))
            (subst (λ ts. FirstShown k false locked (all_in (reads e k.m) ++ all_met (if_true k.m e always) rs) s (Gave Normal) ts) (sym (trace_nil es))
            (first_normal k false locked (all_in (reads e k.m) ++ all_met (if_true k.m e always) rs) s es
            (first_holds_left k (all_in (reads e k.m)) (all_met (if_true k.m e always) rs) s es (seen_first k (reads e k.m) s es (named e) g))
            (first_sharp_append k (all_in (reads e k.m)) (all_met (if_true k.m e always) rs) s es (seen_sharp k (reads e k.m) s es (named e) q y) (met_off (if_true k.m e always) rs s es (off_yes e always s false n refl)))
            (free_none k locked es q)))

    -- ---- block IF

    module _ (acc : List (At (List Region))) (called : Called) (other : ElseTree) (s : Store) where
      abbrev t : KnownTree
      t = known_in k acc called

      abbrev pub arms_all : ArmTrees → Reached → List Region
      arms_all arms w = all_in (tests_reads arms k.m w) ++ (arms_in arms t w ++ else_in other t (past_arms arms k.m w))

      -- nothing is said of what is not reached
      tests_off : (arms : ArmTrees) (w : Reached) (es : List Event) → Off (scene k.base) (numbers_of s) w → FirstSharp k (all_in (tests_reads arms k.m w)) s es
      tests_off tree.no_arms w es o = first_sharp_none k s es
      tests_off (tree.more_arms (tree.arm e body) rest) w es o = λ r i.
          ⊎_elim (λ j. test_off w e s es o r j) (λ j. tests_off rest (if_false k.m e w) es (off_false (scene k.base) (numbers_of s) k.m e w o) r j)
          (in_either r (all_in (all_met w (reads e k.m))) (all_in (tests_reads rest k.m (if_false k.m e w))) (all_append (all_met w (reads e k.m)) (tests_reads rest k.m (if_false k.m e w)) r i))

      abbrev set_of : StmtTrees → List Region
      set_of body = list_of false body t (at_list body t)

      sets_off : (arms : ArmTrees) (w : Reached) (es : List Event) → Off (scene k.base) (numbers_of s) w → FirstSharp k (arms_in arms t w) s es
      sets_off tree.no_arms w es o = first_sharp_none k s es
      sets_off (tree.more_arms (tree.arm e body) rest) w es o =
          first_sharp_append k (all_met (if_true k.m e w) (set_of body)) (arms_in rest t (if_false k.m e w)) s es
          (met_off (if_true k.m e w) (set_of body) s es (off_true (scene k.base) (numbers_of s) k.m e w o)) (sets_off rest (if_false k.m e w) es (off_false (scene k.base) (numbers_of s) k.m e w o))

      past_off : (arms : ArmTrees) (w : Reached) → Off (scene k.base) (numbers_of s) w → Off (scene k.base) (numbers_of s) (past_arms arms k.m w)
      past_off tree.no_arms w o = o
      past_off (tree.more_arms (tree.arm e body) rest) w o = past_off rest (if_false k.m e w) (off_false (scene k.base) (numbers_of s) k.m e w o)

      else_off : (other : ElseTree) (w : Reached) (es : List Event) → Off (scene k.base) (numbers_of s) w → FirstSharp k (else_in other t w) s es
      else_off tree.no_else w es o = first_sharp_none k s es
      else_off (tree.otherwise body) w es o = met_off w (set_of body) s es o

      module _ (e : ExprTree) (body : StmtTrees) (rest : ArmTrees) (w : Reached) where
        abbrev w' : Reached
        w' = if_false k.m e w

        abbrev here_test : List Region
        here_test = all_met w (reads e k.m)

        abbrev more_tests : List Region
        more_tests = tests_reads rest k.m (if_false k.m e w)

        abbrev this_test : List Region
        this_test = all_in here_test

        abbrev later_tests : List Region
        later_tests = all_in more_tests

        abbrev this_arm : List Region
        this_arm = all_met (if_true k.m e w) (set_of body)

        abbrev later_arms : List Region
        later_arms = arms_in rest t (if_false k.m e w)

        abbrev E : List Region
        E = else_in other t (past_arms rest k.m (if_false k.m e w))

        abbrev All : List Region
        All = all_in (here_test ++ more_tests) ++ ((this_arm ++ later_arms) ++ E)

        from_test : (r : Region) → In r this_test → In r All
        from_test r i = in_left r (all_in (here_test ++ more_tests)) ((this_arm ++ later_arms) ++ E) (in_all here_test (here_test ++ more_tests) r (λ q j. in_left q here_test more_tests j) i)

        from_tests : (r : Region) → In r later_tests → In r All
        from_tests r i = in_left r (all_in (here_test ++ more_tests)) ((this_arm ++ later_arms) ++ E) (in_all more_tests (here_test ++ more_tests) r (λ q j. in_right q here_test more_tests j) i)

        from_body : (r : Region) → In r this_arm → In r All
        from_body r i = in_right r (all_in (here_test ++ more_tests)) ((this_arm ++ later_arms) ++ E) (in_left r (this_arm ++ later_arms) E (in_left r this_arm later_arms i))

        from_rest : (r : Region) → In r (later_tests ++ (later_arms ++ E)) → In r All
        from_rest r i =
            ⊎_elim (λ j. from_tests r j)
            (λ j. ⊎_elim (λ l. in_right r (all_in (here_test ++ more_tests)) ((this_arm ++ later_arms) ++ E) (in_left r (this_arm ++ later_arms) E (in_right r this_arm later_arms l))) (λ l. in_right r (all_in (here_test ++ more_tests)) ((this_arm ++ later_arms) ++ E) (in_right r (this_arm ++ later_arms) E l)) (in_either r later_arms E j))
            (in_either r later_tests (later_arms ++ E) i)

        -- each of them is so
        all_sharp : (es : List Event) → FirstSharp k this_test s es → FirstSharp k later_tests s es → FirstSharp k this_arm s es → FirstSharp k later_arms s es → FirstSharp k E s es → FirstSharp k All s es
        all_sharp es a b c d f r i =
            ⊎_elim (λ j. ⊎_elim (λ l. a r l) (λ l. b r l) (in_either r this_test later_tests (all_append here_test more_tests r j)))
            (λ j. ⊎_elim (λ l. ⊎_elim (λ n. c r n) (λ n. d r n) (in_either r this_arm later_arms l)) (λ l. f r l) (in_either r (this_arm ++ later_arms) E j))
            (in_either r (all_in (here_test ++ more_tests)) ((this_arm ++ later_arms) ++ E) i)

        -- this arm is taken
        taken : (es fs : List Event) (x : Answer Flow) → HoldsAt (scene k.base) w.system (numbers_of s) → Holds k.base (reads e k.m) s es → Sharp k.base (reads e k.m) s es → NoWrites es → Knows k.base sound solid e s true → FirstShown k false locked (set_of body) s x fs → FirstShown k false locked All s x (es ++ fs)
        taken es fs x h g z q n b =
            first_more k false locked (set_of body) All s x fs (es ++ fs)
            (λ i. first_holds_then k All s es fs (first_holds_wider k this_test All s es from_test (test_first w e s es h g)) (first_holds_wider k this_arm All s fs from_body (met_first (if_true k.m e w) (set_of body) s fs (holds_true (scene k.base) (numbers_of s) k.m e w h (n.says.true_side refl)) i)))
            (λ i. all_sharp (es ++ fs) (first_sharp_first k this_test s es fs (test_sharp w e s es q z)) (tests_off rest (if_false k.m e w) (es ++ fs) off) (first_sharp_last k this_arm s es fs q (met_sharp (if_true k.m e w) (set_of body) s fs i)) (sets_off rest (if_false k.m e w) (es ++ fs) off) (else_off other (past_arms rest k.m (if_false k.m e w)) (es ++ fs) (past_off rest (if_false k.m e w) off)))
            (λ f. free_both k locked es fs (free_none k locked es q) f)
            b
          where
            off : Off (scene k.base) (numbers_of s) (if_false k.m e w)
            off = off_no e w s true n refl

        -- it is not
        passed : (es fs : List Event) (x : Answer Flow) → HoldsAt (scene k.base) w.system (numbers_of s) → Holds k.base (reads e k.m) s es → Sharp k.base (reads e k.m) s es → NoWrites es → Knows k.base sound solid e s false → FirstShown k false locked (later_tests ++ (later_arms ++ E)) s x fs → FirstShown k false locked All s x (es ++ fs)
        passed es fs x h g z q n b =
            first_more k false locked (later_tests ++ (later_arms ++ E)) All s x fs (es ++ fs)
            (λ i. first_holds_then k All s es fs (first_holds_wider k this_test All s es from_test (test_first w e s es h g)) (first_holds_wider k (later_tests ++ (later_arms ++ E)) All s fs from_rest i))
            (λ i. all_sharp (es ++ fs) (first_sharp_first k this_test s es fs (test_sharp w e s es q z)) (first_sharp_last k later_tests s es fs q (λ r j. i r (in_left r later_tests (later_arms ++ E) j))) (met_off (if_true k.m e w) (set_of body) s (es ++ fs) (off_yes e w s false n refl)) (first_sharp_last k later_arms s es fs q (λ r j. i r (in_right r later_tests (later_arms ++ E) (in_left r later_arms E j)))) (first_sharp_last k E s es fs q (λ r j. i r (in_right r later_tests (later_arms ++ E) (in_right r later_arms E j)))))
            (λ f. free_both k locked es fs (free_none k locked es q) f)
            b

        pub arm_first : (one two : Plan) → is_plain k.scalar e ≡ true → HoldsAt (scene k.base) w.system (numbers_of s) → Goes D one s (λ x z fs. FirstShown k false locked (set_of body) s x fs) → (HoldsAt (scene k.base) (if_false k.m e w).system (numbers_of s) → Goes D two s (λ x z fs. FirstShown k false locked (later_tests ++ (later_arms ++ E)) s x fs)) → Goes D (first (value e k.sc.names k.at) (λ c. if is_true c.number then one else two)) s (λ x z fs. FirstShown k false locked All s x fs)
        arm_first one two p h a b =
            goes_first D (value e k.sc.names k.at) (λ c. if is_true c.number then one else two) s _ (λ x z fs. FirstShown k false locked All s x fs) (looked_quiet (value e k.sc.names k.at) s _ (test_looks k.base sound solid e s p))
            (λ c es g. go es g.0.0.0.holds g.0.0.0.sharp g.1 (is_true c.number) (record { says = g.0.0.1; tells = g.0.1 }))
            (λ z es g. first_broke k false locked All s z es (first_holds_wider k this_test All s es from_test (test_first w e s es h g.0.0.0.holds)) (free_none k locked es g.1))
          where
            go : (es : List Event) → Holds k.base (reads e k.m) s es → Sharp k.base (reads e k.m) s es → NoWrites es → (b : Bool) → Knows k.base sound solid e s b → Goes D (if b then one else two) s (λ x z fs. FirstShown k false locked All s x (es ++ fs))
            go es g z q true n = goes_more D one s (λ x z fs. FirstShown k false locked (set_of body) s x fs) (λ x z fs. FirstShown k false locked All s x (es ++ fs)) (λ x y fs i. taken es fs x h g z q n i) a
            go es g z q false n = goes_more D two s (λ x z fs. FirstShown k false locked (later_tests ++ (later_arms ++ E)) s x fs) (λ x z fs. FirstShown k false locked All s x (es ++ fs)) (λ x y fs i. passed es fs x h g z q n i) (b (holds_false (scene k.base) (numbers_of s) k.m e w h (n.says.false_side refl)))

    pub otherwise_first : (rs : List Region) (w : Reached) (one : Plan) (s : Store) → HoldsAt (scene k.base) w.system (numbers_of s) → Goes D one s (λ x z fs. FirstShown k false locked rs s x fs) → Goes D one s (λ x z fs. FirstShown k false locked (all_met w rs) s x fs)
    otherwise_first rs w one s h g = goes_more D one s (λ x z fs. FirstShown k false locked rs s x fs) (λ x z fs. FirstShown k false locked (all_met w rs) s x fs) (λ x z fs i. first_more k false locked rs (all_met w rs) s x fs fs (met_first w rs s fs h) (met_sharp w rs s fs) (λ f. f) i) g
