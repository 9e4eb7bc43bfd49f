-- IFs, from their tests and their parts.
use Rattle.std.proofs.Common.{◌≡◌, ⊎_elim, ℕ, ◌<◌, List, [], ◌++◌, Bool, true, false, refl, sym, ◌∙◌, subst, true≢false}
use Rattle.std.specs.Prelude.{if◌then◌else◌}
use Rattle.f77_ast.specs.Trees.{ExprTree, ArmTrees, ElseTree, StmtTrees}
use Rattle.f77_ast.specs.Trees as tree
use Rattle.f77_ast.specs.Store.{Store}
use Rattle.f77_ast.specs.Runs.{Event, Answer, Gave}
use Rattle.f77_ast.specs.Numbers.{is_true}
use Rattle.f77_ast.specs.Places.{Variable}
use Rattle.f77_ast.specs.Values.{value}
use Rattle.f77_ast.specs.Plans.{Flow, Normal, Plan, Ends, first}
use Rattle.f77_ast.specs.Executions.{Claim}
use Rattle.affine_forms.specs.Scalars.{is_cell}
use Rattle.affine_forms.specs.Conditions.{condition_of}
use Rattle.affine_forms.specs.Claims.{Says, numbers_of}
use Rattle.affine_forms.proofs.ConditionLaws.{condition_leads}
use Rattle.preconditions.specs.transformer_algebra.Claims.{HoldsAt}
use Rattle.preconditions.specs.transformer_algebra.Laws.{In}
use Rattle.in_out_regions.specs.region_sets.declared.region.Region.{Region}
use Rattle.in_out_regions.specs.region_sets.Lists.{accesses_at, list_regions}
use Rattle.in_out_regions.proofs.RegionSets.StepLaws.{in_either}
use Rattle.in_out_regions.specs.array_regions.declared.arms.Reached.{Reached}
use Rattle.in_out_regions.specs.array_regions.Arms.{always, if_true, if_false, past_arms, all_met, tests_reads, if_set}
use Rattle.in_out_regions.specs.array_regions.Reads.{reads}
use Rattle.in_out_regions.specs.array_regions.Statement.{arm_sets, else_set, at_list}
use Rattle.laws_analyses.specs.Regions.Settings.{Setting, scene, elements_at, Sound, is_plain}
use Rattle.laws_analyses.specs.Regions.Shown.{accessed, Holds, Sharp, Shown}
use Rattle.laws_analyses.proofs.Regions.Traces.{trace_nil}
use Rattle.laws_analyses.proofs.Regions.Rules.{Goes, goes_ends, goes_more}
use Rattle.laws_analyses.proofs.Regions.Looks.{Looked, IfGave, looked_with, goes_first}
use Rattle.laws_analyses.proofs.Regions.Holding.{sharp_append, holds_left, holds_then, holds_both, sharp_both, sharp_first, sharp_last}
use Rattle.laws_analyses.proofs.Regions.Conditions.{Tells, tells_leads}
use Rattle.laws_analyses.proofs.Regions.Expressions.{Seen, value_looks}
use Rattle.laws_analyses.proofs.Regions.Meeting.{Off, set_met, all_sharp_met, all_sharp_off, holds_true, holds_false, off_true, off_false, test_off_true, test_off_false}
use Rattle.laws_analyses.proofs.Regions.Showing.{shown_broke, shown_more, shown_gathered}
use Rattle.preconditions.proofs.TransformerAlgebra.Members.{in_left, in_right}

module _ (k : Setting) (sound : Sound k) (solid : (x : List ℕ) (v : ℕ) → k.sc.names x ≡ Variable v → k.scalar x ≡ true → 0 < (k.at v).extent) where
  -- what the value of a test tells, both ways
  pub record Knows (e : ExprTree) (s : Store) (b : Bool) : Type 0 where
    pub says : Says (scene k).tracked (scene k).unit (condition_of k.m.scalars e).yes (condition_of k.m.scalars e).no (numbers_of s) b
    pub tells : Tells (scene k).tracked (scene k).unit (numbers_of s) (condition_of k.m.scalars e) b

  -- a test is evaluated
  pub test_looks : (e : ExprTree) (s : Store) → is_plain k.scalar e ≡ true → Looked (value e k.sc.names k.at) s (λ a es. (Seen k sound s (reads e k.m) a es × IfGave a (λ c. Says (scene k).tracked (scene k).unit (condition_of k.m.scalars e).yes (condition_of k.m.scalars e).no (numbers_of s) (is_true c.number))) × IfGave a (λ c. Tells (scene k).tracked (scene k).unit (numbers_of s) (condition_of k.m.scalars e) (is_true c.number)))
  test_looks e s p =
      looked_with (value e k.sc.names k.at) s [] (λ a es. Seen k sound s (reads e k.m) a es × IfGave a (λ c. Says (scene k).tracked (scene k).unit (condition_of k.m.scalars e).yes (condition_of k.m.scalars e).no (numbers_of s) (is_true c.number))) (λ c z j. Tells (scene k).tracked (scene k).unit (numbers_of s) (condition_of k.m.scalars e) (is_true c.number))
      (looked_with (value e k.sc.names k.at) s [] (Seen k sound s (reads e k.m)) (λ c z j. Says (scene k).tracked (scene k).unit (condition_of k.m.scalars e).yes (condition_of k.m.scalars e).no (numbers_of s) (is_true c.number)) (value_looks k sound s solid e p)
      (condition_leads k.sc.names k.m.scalars (is_cell k.m.tracked) k.at s [] sound.names_fit.agrees e (λ c z j. Says (scene k).tracked (scene k).unit (condition_of k.m.scalars e).yes (condition_of k.m.scalars e).no (numbers_of s) (is_true c.number)) (λ c h. h)))
      (tells_leads k.sc.names k.m.scalars (is_cell k.m.tracked) k.at s [] sound.names_fit.agrees e (λ c z j. Tells (scene k).tracked (scene k).unit (numbers_of s) (condition_of k.m.scalars e) (is_true c.number)) (λ c h. h))

  -- where the test is false, or true, the other side is left out
  off_yes : (e : ExprTree) (w : Reached) (s : Store) (b : Bool) → Knows e s b → b ≡ false → Off (scene k) (numbers_of s) (if_true k.m e w)
  off_yes e w s b h f = test_off_true (scene k) (numbers_of s) k.m e w (λ x v p st g. true≢false (sym (h.tells.yes x v p st g) ∙ f))

  off_no : (e : ExprTree) (w : Reached) (s : Store) (b : Bool) → Knows e s b → b ≡ true → Off (scene k) (numbers_of s) (if_false k.m e w)
  off_no e w s b h f = test_off_false (scene k) (numbers_of s) k.m e w (λ x v p st g. true≢false (sym f ∙ h.tells.no x v p st g))

  -- met with how a part is reached
  holds_met : (w : Reached) (rs : List Region) (s : Store) (es : List Event) → HoldsAt (scene k) w.system (numbers_of s) → Holds k rs s es → Holds k (all_met w rs) s es
  holds_met w rs s es h g a u i = set_met (scene k) (numbers_of s) (elements_at k) a w rs u h (g a u i)

  met_sharp : (w : Reached) (rs : List Region) (s : Store) (es : List Event) → Sharp k rs s es → Sharp k (all_met w rs) s es
  met_sharp w rs s es h = all_sharp_met (scene k) (numbers_of s) (elements_at k) w rs (λ a. accessed a es) h

  met_off : (w : Reached) (rs : List Region) (s : Store) (es : List Event) → Off (scene k) (numbers_of s) w → Sharp k (all_met w rs) s es
  met_off w rs s es o = all_sharp_off (scene k) (numbers_of s) (elements_at k) w rs (λ a. accessed a es) o

  shown_met : (w : Reached) (rs : List Region) (s : Store) (x : Answer Flow) (es : List Event) → HoldsAt (scene k) w.system (numbers_of s) → Shown k false rs s x es → Shown k false (all_met w rs) s x es
  shown_met w rs s x es h g = shown_more k false rs (all_met w rs) s x es es (holds_met w rs s es h) (met_sharp w rs s es) g

  -- ---- logical IF

  module _ (D : Claim) where
    pub logical_goes : (e : ExprTree) (rs : List Region) (one : Plan) (s : Store) → is_plain k.scalar e ≡ true → Goes D one s (λ x z es. Shown k false rs s x es) → Goes D (first (value e k.sc.names k.at) (λ c. if is_true c.number then one else Ends Normal)) s (λ x z es. Shown k false (if_set k.m e rs) s x es)
    logical_goes e rs one s p h =
        goes_more D (first (value e k.sc.names k.at) (λ c. if is_true c.number then one else Ends Normal)) s (λ x z es. Shown k false all s x es) (λ x z es. Shown k false (if_set k.m e rs) s x es) (λ x z es g. shown_gathered k false all s x es g)
        (goes_first D (value e k.sc.names k.at) (λ c. if is_true c.number then one else Ends Normal) s _ (λ x z es. Shown k false all s x es) (test_looks e s p)
        (λ c es g. go es g.0.0.holds g.0.0.sharp (is_true c.number) (record { says = g.0.1; tells = g.1 }))
        (λ b es g. shown_broke k false all s b es (holds_left k (reads e k.m) then_set s es g.0.0.holds)))
      where
        w : Reached
        w = if_true k.m e always

        then_set : List Region
        then_set = all_met (if_true k.m e always) rs

        all : List Region
        all = reads e k.m ++ all_met (if_true k.m e always) rs

        go : (es : List Event) → Holds k (reads e k.m) s es → Sharp k (reads e k.m) s es → (b : Bool) → Knows e s b → Goes D (if b then one else Ends Normal) s (λ x z fs. Shown k false (reads e k.m ++ all_met (if_true k.m e always) rs) s x (es ++ fs))
        go es g y true n =
            goes_more D one s (λ x z fs. Shown k false rs s x fs) (λ x z fs. Shown k false (reads e k.m ++ all_met (if_true k.m e always) rs) s x (es ++ fs))
            (λ x z fs r. shown_more k false rs (reads e k.m ++ all_met (if_true k.m e always) rs) s x fs (es ++ fs)
            (λ i. holds_both k (reads e k.m) (all_met (if_true k.m e always) rs) s es fs g (holds_met (if_true k.m e always) rs s fs (holds_true (scene k) (numbers_of s) k.m e always (λ q st. tt) (n.says.true_side refl)) i))
            (λ i. sharp_both k (reads e k.m) (all_met (if_true k.m e always) rs) s es fs y (met_sharp (if_true k.m e always) rs s fs i)) r)
            h
        go es g y false n =
            goes_ends D Normal s (λ x z fs. Shown k false (reads e k.m ++ all_met (if_true k.m e always) rs) s x (es ++ fs))
            (subst (λ t. Shown k false (reads e k.m ++ all_met (if_true k.m e always) rs) s (Gave Normal) t) (sym (trace_nil es)) (record {
              holds = holds_left k (reads e k.m) (all_met (if_true k.m e always) rs) s es g;
              sharp = sharp_append (scene k) (elements_at k) (numbers_of s) (reads e k.m) (all_met (if_true k.m e always) rs) (λ a. accessed a es) y (met_off (if_true k.m e always) rs s es (off_yes e always s false n refl));
            }))

    -- ---- block IF

    module _ (other : ElseTree) (s : Store) where
      abbrev tests : ArmTrees → Reached → List Region
      tests arms w = tests_reads arms k.m w

      abbrev sets : ArmTrees → Reached → List Region
      sets arms w = arm_sets arms k.m k.does k.calls w

      abbrev last : ArmTrees → Reached → List Region
      last arms w = else_set other k.m k.does k.calls (past_arms arms k.m w)

      abbrev pub arms_all : ArmTrees → Reached → List Region
      arms_all arms w = tests_reads arms k.m w ++ (arm_sets arms k.m k.does k.calls w ++ else_set other k.m k.does k.calls (past_arms arms k.m w))

      -- nothing is said of what is not reached
      tests_off : (arms : ArmTrees) (w : Reached) (es : List Event) → Off (scene k) (numbers_of s) w → Sharp k (tests_reads arms k.m w) s es
      tests_off tree.no_arms w es o = λ r i. elim i [ ]
      tests_off (tree.more_arms (tree.arm e body) rest) w es o =
          sharp_append (scene k) (elements_at k) (numbers_of s) (all_met w (reads e k.m)) (tests_reads rest k.m (if_false k.m e w)) (λ a. accessed a es)
          (met_off w (reads e k.m) s es o) (tests_off rest (if_false k.m e w) es (off_false (scene k) (numbers_of s) k.m e w o))

      abbrev set_of : StmtTrees → List Region
      set_of body = list_regions k.does (accesses_at (at_list body k.m k.does k.calls)) false body

      sets_off : (arms : ArmTrees) (w : Reached) (es : List Event) → Off (scene k) (numbers_of s) w → Sharp k (arm_sets arms k.m k.does k.calls w) s es
      sets_off tree.no_arms w es o = λ r i. elim i [ ]
      sets_off (tree.more_arms (tree.arm e body) rest) w es o =
          sharp_append (scene k) (elements_at k) (numbers_of s) (all_met (if_true k.m e w) (set_of body)) (arm_sets rest k.m k.does k.calls (if_false k.m e w)) (λ a. accessed a es)
          (met_off (if_true k.m e w) (set_of body) s es (off_true (scene k) (numbers_of s) k.m e w o)) (sets_off rest (if_false k.m e w) es (off_false (scene k) (numbers_of s) k.m e w o))

      past_off : (arms : ArmTrees) (w : Reached) → Off (scene k) (numbers_of s) w → Off (scene k) (numbers_of s) (past_arms arms k.m w)
      past_off tree.no_arms w o = o
      past_off (tree.more_arms (tree.arm e body) rest) w o = past_off rest (if_false k.m e w) (off_false (scene k) (numbers_of s) k.m e w o)

      else_off : (other : ElseTree) (w : Reached) (es : List Event) → Off (scene k) (numbers_of s) w → Sharp k (else_set other k.m k.does k.calls w) s es
      else_off tree.no_else w es o = λ r i. elim i [ ]
      else_off (tree.otherwise body) w es o = met_off w (set_of body) s es o

      -- in another order
      wider : (rs qs : List Region) (es : List Event) → ((r : Region) → In r rs → In r qs) → Holds k rs s es → Holds k qs s es
      wider rs qs es f h a u i = (let l = h a u i in record { region = l.region; is_one = f l.region l.is_one; kind = l.kind; lies = l.lies })

      module _ (e : ExprTree) (body : StmtTrees) (rest : ArmTrees) (w : Reached) where
        abbrev w' : Reached
        w' = if_false k.m e w

        abbrev this_test : List Region
        this_test = all_met w (reads e k.m)

        abbrev later_tests : List Region
        later_tests = tests_reads rest k.m (if_false k.m e w)

        abbrev this_arm : List Region
        this_arm = all_met (if_true k.m e w) (set_of body)

        abbrev later_arms : List Region
        later_arms = arm_sets rest k.m k.does k.calls (if_false k.m e w)

        abbrev E : List Region
        E = else_set other k.m k.does k.calls (past_arms rest k.m (if_false k.m e w))

        abbrev All : List Region
        All = (this_test ++ later_tests) ++ ((this_arm ++ later_arms) ++ E)

        from_test : (r : Region) → In r this_test → In r All
        from_test r i = in_left r (this_test ++ later_tests) ((this_arm ++ later_arms) ++ E) (in_left r this_test later_tests i)

        from_body : (r : Region) → In r this_arm → In r All
        from_body r i = in_right r (this_test ++ later_tests) ((this_arm ++ later_arms) ++ E) (in_left r (this_arm ++ later_arms) E (in_left r this_arm later_arms i))

        from_rest : (r : Region) → In r (later_tests ++ (later_arms ++ E)) → In r All
        from_rest r i =
            ⊎_elim (λ j. in_left r (this_test ++ later_tests) ((this_arm ++ later_arms) ++ E) (in_right r this_test later_tests j))
            (λ j. ⊎_elim (λ l. in_right r (this_test ++ later_tests) ((this_arm ++ later_arms) ++ E) (in_left r (this_arm ++ later_arms) E (in_right r this_arm later_arms l))) (λ l. in_right r (this_test ++ later_tests) ((this_arm ++ later_arms) ++ E) (in_right r (this_arm ++ later_arms) E l)) (in_either r later_arms E j))
            (in_either r later_tests (later_arms ++ E) i)

        -- each of them is so
        all_sharp : (es : List Event) → Sharp k this_test s es → Sharp k later_tests s es → Sharp k this_arm s es → Sharp k later_arms s es → Sharp k E s es → Sharp k All s es
        all_sharp es a b c d f r i =
            ⊎_elim (λ j. ⊎_elim (λ l. a r l) (λ l. b r l) (in_either r this_test later_tests j))
            (λ j. ⊎_elim (λ l. ⊎_elim (λ n. c r n) (λ n. d r n) (in_either r this_arm later_arms l)) (λ l. f r l) (in_either r (this_arm ++ later_arms) E j))
            (in_either r (this_test ++ later_tests) ((this_arm ++ later_arms) ++ E) i)

        -- this arm is taken
        taken : (es fs : List Event) (x : Answer Flow) → HoldsAt (scene k) w.system (numbers_of s) → Holds k (reads e k.m) s es → Sharp k (reads e k.m) s es → Knows e s true → Shown k false (set_of body) s x fs → Shown k false All s x (es ++ fs)
        taken es fs x h g z n b =
            shown_more k false (set_of body) All s x fs (es ++ fs)
            (λ i. holds_then k All s es fs (wider this_test All es from_test (holds_met w (reads e k.m) s es h g)) (wider this_arm All fs from_body (holds_met (if_true k.m e w) (set_of body) s fs (holds_true (scene k) (numbers_of s) k.m e w h (n.says.true_side refl)) i)))
            (λ i. all_sharp (es ++ fs) (sharp_first k this_test s es fs (met_sharp w (reads e k.m) s es z)) (tests_off rest (if_false k.m e w) (es ++ fs) off) (sharp_last k this_arm s es fs (met_sharp (if_true k.m e w) (set_of body) s fs i)) (sets_off rest (if_false k.m e w) (es ++ fs) off) (else_off other (past_arms rest k.m (if_false k.m e w)) (es ++ fs) (past_off rest (if_false k.m e w) off)))
            b
          where
            off : Off (scene k) (numbers_of s) (if_false k.m e w)
            off = off_no e w s true n refl

        -- it is not
        passed : (es fs : List Event) (x : Answer Flow) → HoldsAt (scene k) w.system (numbers_of s) → Holds k (reads e k.m) s es → Sharp k (reads e k.m) s es → Knows e s false → Shown k false (later_tests ++ (later_arms ++ E)) s x fs → Shown k false All s x (es ++ fs)
        passed es fs x h g z n b =
            shown_more k false (later_tests ++ (later_arms ++ E)) All s x fs (es ++ fs)
            (λ i. holds_then k All s es fs (wider this_test All es from_test (holds_met w (reads e k.m) s es h g)) (wider (later_tests ++ (later_arms ++ E)) All fs from_rest i))
            (λ i. all_sharp (es ++ fs) (sharp_first k this_test s es fs (met_sharp w (reads e k.m) s es z)) (sharp_last k later_tests s es fs (λ r j. i r (in_left r later_tests (later_arms ++ E) j))) (met_off (if_true k.m e w) (set_of body) s (es ++ fs) (off_yes e w s false n refl)) (sharp_last k later_arms s es fs (λ r j. i r (in_right r later_tests (later_arms ++ E) (in_left r later_arms E j)))) (sharp_last k E s es fs (λ r j. i r (in_right r later_tests (later_arms ++ E) (in_right r later_arms E j)))))
            b

        pub arm_goes : (one two : Plan) → is_plain k.scalar e ≡ true → HoldsAt (scene k) w.system (numbers_of s) → Goes D one s (λ x z fs. Shown k false (set_of body) s x fs) → (HoldsAt (scene k) (if_false k.m e w).system (numbers_of s) → Goes D two s (λ x z fs. Shown k false (later_tests ++ (later_arms ++ E)) s x fs)) → Goes D (first (value e k.sc.names k.at) (λ c. if is_true c.number then one else two)) s (λ x z fs. Shown k false All s x fs)
        arm_goes one two p h a b =
            goes_first D (value e k.sc.names k.at) (λ c. if is_true c.number then one else two) s _ (λ x z fs. Shown k false All s x fs) (test_looks e s p)
            (λ c es g. go es g.0.0.holds g.0.0.sharp (is_true c.number) (record { says = g.0.1; tells = g.1 }))
            (λ z es g. shown_broke k false All s z es (wider this_test All es from_test (holds_met w (reads e k.m) s es h g.0.0.holds)))
          where
            go : (es : List Event) → Holds k (reads e k.m) s es → Sharp k (reads e k.m) s es → (b : Bool) → Knows e s b → Goes D (if b then one else two) s (λ x z fs. Shown k false All s x (es ++ fs))
            go es g z true n = goes_more D one s (λ x z fs. Shown k false (set_of body) s x fs) (λ x z fs. Shown k false All s x (es ++ fs)) (λ x y fs i. taken es fs x h g z n i) a
            go es g z false n = goes_more D two s (λ x z fs. Shown k false (later_tests ++ (later_arms ++ E)) s x fs) (λ x z fs. Shown k false All s x (es ++ fs)) (λ x y fs i. passed es fs x h g z n i) (b (holds_false (scene k) (numbers_of s) k.m e w h (n.says.false_side refl)))

    pub otherwise_goes : (body : StmtTrees) (w : Reached) (one : Plan) (s : Store) → HoldsAt (scene k) w.system (numbers_of s) → Goes D one s (λ x z fs. Shown k false (list_regions k.does (accesses_at (at_list body k.m k.does k.calls)) false body) s x fs) → Goes D one s (λ x z fs. Shown k false (else_set (tree.otherwise body) k.m k.does k.calls w) s x fs)
    otherwise_goes body w one s h g = goes_more D one s (λ x z fs. Shown k false (list_regions k.does (accesses_at (at_list body k.m k.does k.calls)) false body) s x fs) (λ x z fs. Shown k false (else_set (tree.otherwise body) k.m k.does k.calls w) s x fs) (λ x z fs i. shown_met w (list_regions k.does (accesses_at (at_list body k.m k.does k.calls)) false body) s x fs h i) g
