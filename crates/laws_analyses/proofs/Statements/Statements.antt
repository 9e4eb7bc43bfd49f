-- Each execution in a statement has its claims, and the statement ends as its transformer and its precondition say.
use Rattle.std.proofs.Common.{◌≡◌, ℕ, zero, suc, ◌<◌, List, [], ◌∷◌, ◌++◌, ◌||◌, ◌&&◌, Option, Some, None, Bool, true, false, refl, sym, ap, ◌∙◌, subst, ℤ, pos, nat_eq, true≢false}
use Rattle.std.specs.Prelude.{unwrap_or}
use Rattle.std.specs.Ordering.{int_eq}
use Rattle.std.proofs.lemmas.Bool.{or_left, or_right, and_parts}
use Rattle.affine_systems.specs.declared.row.System.{System}
use Rattle.affine_systems.specs.Calls.{meet}
use Rattle.f77_ast.specs.Trees.{ExprTree, ExprTrees, StmtTree, WhatTree, ArmTree, ArmTrees, ElseTree, LoopTree, StmtTrees}
use Rattle.f77_ast.specs.Trees as tree
use Rattle.f77_ast.specs.Store.{Content, content, Int, Store, put}
use Rattle.f77_ast.specs.Faults.{Locked}
use Rattle.f77_ast.specs.Places.{Names, Places, Variable}
use Rattle.f77_ast.specs.Values.{name_target}
use Rattle.f77_ast.specs.Writes.{Locks, lock, write}
use Rattle.f77_ast.specs.Plans.{Flow, Normal, Jump, Returned, Stopped, Plan, Ends, first}
use Rattle.f77_ast.specs.Executions.{Claim}
use Rattle.f77_ast.specs.Lists.{Part, in_order, list_plan}
use Rattle.f77_ast.specs.Loops.{Range, range_of, iteration_count, iterations_from, loop_plan}
use Rattle.f77_ast.specs.Calls.{actuals, call_plan}
use Rattle.f77_ast.specs.Statements.{Scope, spot, statement_plan, execution, arms_plan, else_plan, do_plan, parts}
use Rattle.f77_ast.specs.declared.variable.Unit.{Unit as BlockUnit}
use Rattle.f77_ast.specs.Symbols.{number_from}
use Rattle.affine_forms.specs.Scalars.{is_cell}
use Rattle.affine_forms.specs.Forms.{affine_of}
use Rattle.affine_forms.specs.Conditions.{no_rows, condition_of}
use Rattle.affine_forms.specs.Claims.{unit_in, numbers_of}
use Rattle.preconditions.specs.transformer_algebra.declared.transformer.Transformer.{Transformer}
use Rattle.preconditions.specs.transformer_algebra.declared.loop_parts.LoopParts.{LoopParts}
use Rattle.preconditions.specs.transformer_algebra.Cells.{has}
use Rattle.preconditions.specs.transformer_algebra.Transformers.{identity_transformer, nowhere, without, apply, all_cells}
use Rattle.preconditions.specs.transformer_algebra.Loops.{iteration, at_iteration, after_loop}
use Rattle.preconditions.specs.transformer_algebra.Claims.{Scene, HoldsAt, Tracks, Means}
use Rattle.preconditions.specs.transformer_algebra.Laws.{In, here, there}
use Rattle.preconditions.proofs.TransformerAlgebra.RuleLaws.{does_test}
use Rattle.preconditions.specs.call_translation.Scopes.{ScopeTree}
use Rattle.preconditions.specs.call_translation.Summary.{call_transformer}
use Rattle.preconditions.specs.transformers.Given.{Callees}
use Rattle.preconditions.specs.transformers.Simple.{assignment, reading}
use Rattle.preconditions.specs.transformers.Jumps.{stmt_has, parts_have, list_has, arms_have, arm_has, else_has, loop_has, goes_to, is_end, unstructured}
use Rattle.preconditions.specs.transformers.Lists.{list_of, each_at, list_at}
use Rattle.preconditions.specs.transformers.Loops.{step_of, number_in, loop_parts}
use Rattle.preconditions.specs.transformers.Whiles.{WhileTree, goes_back, while_iteration}
use Rattle.preconditions.specs.transformers.Statement.{parts_do, where_holds, if_does, without_arm, without_arms, stmt_transformer, what_transformer, each_transformer, arm_transformers, inner_transformers, arm_list_transformer, else_transformer, body_transformer}
use Rattle.preconditions.specs.Statement.{some_holds, if_true, if_false, past_arm, past_arms, parts_of, each_iteration, throughout, after, after_what, after_each, after_arms, after_else, after_loop_of, after_list, after_arm_list}
use Rattle.laws_analyses.specs.Statements.Good.{Good}
use Rattle.laws_analyses.proofs.Statements.Rules.{good_ends, good_more, good_first, good_write, good_at}
use Rattle.laws_analyses.proofs.Statements.ListRules.{Verified}
use Rattle.laws_analyses.proofs.Statements.Evaluations.{target_leads}
use Rattle.laws_analyses.specs.Statements.Targets.{has_index}
use Rattle.laws_analyses.specs.Statements.Leads.{stmt_leads, what_leads, each_leads, arms_lead, else_leads, loop_leads, list_leads}
use Rattle.laws_analyses.specs.Statements.Activation.{NamesFit, scene_at, Fit, Stayed, Done, Ended}
use Rattle.laws_analyses.specs.Statements.Placed.{Found, PlacedAt, Placed, PlacedParts, PlacedEach, PlacedAll, PlacedArms, PlacedArm, PlacedElse, PlacedLoop, PlacedList}
use Rattle.laws_analyses.proofs.Statements.Simple.{same_kept, idle_done, idle_good, nowhere_stayed, assign_good, print_good, read_good}
use Rattle.laws_analyses.proofs.Statements.Tracks.{while_tracks, inner_track, all_track, what_tracks, arms_track, else_tracks, body_tracks, stmt_tracks}
use Rattle.laws_analyses.proofs.Statements.Counts.{not_zero}
use Rattle.laws_analyses.proofs.Statements.Ranges.{StepIs, range_leads}
use Rattle.laws_analyses.proofs.Statements.Rows.{SoFar, added, row_from, so_far_end}
use Rattle.laws_analyses.proofs.Statements.Arms.{ArmsEnded, if_ends, arm_ends, more_arms}
use Rattle.laws_analyses.proofs.Statements.Loops.{also, counted_good, loose_good}
use Rattle.laws_analyses.proofs.Statements.Lists.{Inc, inc_all, inc_next, own_of, H, E, goes_in, Stmt_ended, Claimed, claim_of, list_found, Verified_all, loose_holds, loose_done, loose_next, Straight, row_one, list_from}
use Rattle.laws_analyses.proofs.Statements.Tests.{tested, met, nothing_asked}
use Rattle.laws_analyses.proofs.Statements.Backs.{other_leads, others_first, OfArm, OfArms, OfWhat, OfStmt, OfInner, OfFirst}
use Rattle.laws_analyses.proofs.Statements.Bodies.{Row_back, last_back, one_back, body_from}
use Rattle.laws_analyses.proofs.Statements.Whiles.{BodyGood, FirstGood, arm_list_good}
use Rattle.f77_ast.specs.Shapes.{is_return}

module _ (C : Claim) (m : ScopeTree) (cs : Callees) (r : Found) (covers : List ℕ → ExprTrees → System → Type 0) (scalar : List ℕ → Bool) (sc : Scope) (at : Places) (far : BlockUnit → Bool) (place : BlockUnit → ℕ) (nf : NamesFit sc.names m) (claimed : Claimed C m cs r covers scalar sc at far place) (Fits : Locks → (ℕ → Bool) → Type 0) (base : (locked : Locks) (still : ℕ → Bool) → Fits locked still → Fit sc.names scalar at (scene_at m at far place) locked still) (more_fits : (locked : Locks) (still : ℕ → Bool) (x : List ℕ) (v : ℕ) → sc.names x ≡ Variable v → scalar x ≡ true → Fits locked still → Fits (lock locked (at v).first Locked) (also still (at v).first)) (calls_track : (x : List ℕ) (es : ExprTrees) → Tracks (scene_at m at far place) (call_transformer m (cs x) es).cells) (call_good : (x : List ℕ) (es : ExprTrees) (n : ℕ) (locked : Locks) (still : ℕ → Bool) → Fits locked still → (P : System) (z : Store) → HoldsAt (scene_at m at far place) P (numbers_of z) → covers x es P → Good C (call_plan (actuals es 0 sc.names at (sc.own_unit n)) (sc.callee x) locked) z (Ended (scene_at m at far place) (call_transformer m (cs x) es) (apply (call_transformer m (cs x) es) P) (λ ls. false) false false still z)) where
  abbrev e : Scene
  e = scene_at m at far place

  abbrev Hs : System → Store → Type 0
  Hs p z = HoldsAt e p (numbers_of z)

  abbrev Ends_as : Transformer → System → (List ℕ → Bool) → Bool → Bool → (ℕ → Bool) → Store → Flow → Store → Type 0
  Ends_as = Ended e

  abbrev goes_what : WhatTree → List ℕ → Bool
  goes_what v ls = what_leads v ls

  abbrev rets_what : WhatTree → Bool
  rets_what v = is_return v || parts_have is_return v

  abbrev bodies : StmtTrees → Locks → Plan
  bodies body l = list_plan sc.turns (parts body sc at l)

  is : (c : ℕ) → is_cell m.tracked c ≡ true → e.tracked c ≡ true
  is c h = h

  back : (c : ℕ) → e.tracked c ≡ is_cell m.tracked c
  back c = refl

  -- what is proved of the statements of a DO WHILE, and of its labelled block IF
  abbrev BodyOf : Locks → (ℕ → Bool) → StmtTrees → Type 0
  BodyOf locked still ss = BodyGood C m cs r covers scalar sc at far place nf locked still ss

  abbrev IfOf : Locks → (ℕ → Bool) → StmtTree → Type 0
  IfOf locked still s = FirstGood C m cs r covers scalar sc at far place nf locked still s

  inner_tracks : (ss : StmtTrees) (v : WhileTree) → Tracks e (while_iteration m v (inner_transformers ss m cs)).cells
  inner_tracks ss v = while_tracks e m v (inner_transformers ss m cs) (inner_track e sc.names m nf is back cs calls_track ss)

  no_own : (last : Bool) → (last && false) ≡ true → ⊥
  no_own last h = true≢false (sym (and_parts last false h).1)

  -- with the transformer that was found for the statement
  found_apply : (v : WhatTree) (n : ℕ) (last : Bool) (P Q : System) (t : Plan) (goes : List ℕ → Bool) (ret own : Bool) (still : ℕ → Bool) (z : Store) → PlacedAt r covers m cs scalar n v last Q → Good C t z (Ends_as (what_transformer v m cs last) (apply (what_transformer v m cs last) P) goes ret own still z) → Good C t z (Ends_as (what_transformer v m cs last) (apply (r.transformer n) P) goes ret own still z)
  found_apply v n last P Q t goes ret own still z pl g = subst (λ x. Good C t z (Ends_as (what_transformer v m cs last) (apply x P) goes ret own still z)) (sym pl.transformer) g

  -- ---- CALL, RETURN and GO TO

  call_more : (t : Transformer) (q : System) (goes : List ℕ → Bool) (ret own : Bool) (still : ℕ → Bool) (z : Store) (f : Flow) (y : Store) → Ends_as t q (λ ls. false) false false still z f y → Ends_as t q goes ret own still z f y
  call_more t q goes ret own still z Normal y d = d
  call_more t q goes ret own still z (Jump l) y d = ((λ ls h. absurd (true≢false (sym (d.0 ls h)))), d.1)
  call_more t q goes ret own still z Returned y d = absurd (true≢false (sym d.0))
  call_more t q goes ret own still z Stopped y d = tt

  return_good : (n : ℕ) (last : Bool) (locked : Locks) (still : ℕ → Bool) → Fits locked still → (P : System) (z : Store) → Hs P z → Good C (Ends Returned) z (Ends_as (what_transformer tree.return m cs last) (apply (what_transformer tree.return m cs last) P) (goes_what tree.return) true (last && true) still z)
  return_good n true locked still fit P z hp = good_ends C Returned z _ (refl, nowhere_stayed C sc.names m scalar at far place nf locked still (base locked still fit) (goes_what tree.return) true true P z hp identity_transformer, λ h. idle_done C sc.names m scalar at far place nf locked still (base locked still fit) (goes_what tree.return) true true P z hp)
  return_good n false locked still fit P z hp = good_ends C Returned z _ (refl, nowhere_stayed C sc.names m scalar at far place nf locked still (base locked still fit) (goes_what tree.return) true false P z hp nowhere, λ h. absurd (true≢false (sym h)))

  -- ---- DO

  -- from what its body does
  module _ (index : List ℕ) (e1 e2 : ExprTree) (e3 : Option ExprTree) (body : StmtTrees) (last : Bool) (locked : Locks) (still : ℕ → Bool) (fit : Fits locked still) (P : System) (z : Store) (hp : Hs P z) (sx : scalar index ≡ true) where
    abbrev L : LoopTree
    L = tree.loop index e1 e2 e3 body

    abbrev lp : LoopParts
    lp = loop_parts m L (body_transformer L m cs)

    abbrev Pb : System
    Pb = after_list false body m r.transformer (each_iteration L m r.transformer P)

    abbrev G : List ℕ → Bool
    G = goes_in C m cs r covers scalar sc at far place body

    abbrev R : Bool
    R = list_has is_return body

    abbrev Q : Flow → Store → Type 0
    Q = Ends_as (parts_do lp) (after_loop lp (iteration lp) P Pb) G R (last && false) still z

    abbrev unit : ℕ
    unit = unit_in at lp.index

    is_index : (v : ℕ) → sc.names index ≡ Variable v → number_in m index ≡ v
    is_index v h = ap (λ o. unwrap_or o 0) (nf.numbers index v h)

    named : (v : ℕ) → sc.names index ≡ Variable v → sc.names index ≡ Variable (number_in m index)
    named v h = h ∙ ap Variable (sym (is_index v h))

    abbrev Inner : Type 0
    Inner = (u : ℕ) → Fits (lock locked u Locked) (also still u) → (y : Store) → Hs (each_iteration L m r.transformer P) y → Good C (bodies body (lock locked u Locked)) y (Ends_as (body_transformer L m cs) Pb G R false (also still u) y)

    module _ (path : list_at r.transformer false body ≡ body_transformer L m cs) (inner : Inner) where
      body_at : Fits (lock locked unit Locked) (also still unit) → (y : Store) → Hs (at_iteration lp (iteration lp) P) y → Good C (bodies body (lock locked unit Locked)) y (Ends_as lp.body Pb G R false (also still unit) y)
      body_at f y hy = inner unit f y (subst (λ x. Hs (at_iteration (loop_parts m L x) (iteration (loop_parts m L x)) P) y) (sym path) hy)

      turns : (a b c : ℤ) → Means e lp.first (numbers_of z) a → Means e lp.last (numbers_of z) b → StepIs lp.step c → int_eq c (pos 0) ≡ false → sc.names index ≡ Variable lp.index → locked unit ≡ None → Good C (iterations_from (iteration_count a b c) a c unit (bodies body (lock locked unit Locked))) (put z unit (content Int a)) Q
      turns a b c ma mb mc nz nm free = go lp.step refl mc
        where
          go : (o : Option ℤ) → lp.step ≡ o → StepIs o c → Good C (iterations_from (iteration_count a b c) a c unit (bodies body (lock locked unit Locked))) (put z unit (content Int a)) Q
          go None q k =
              loose_good C sc.names m scalar at far place nf locked still (base locked still fit) index lp nm sx free (back lp.index) (body_tracks e sc.names m nf is back cs calls_track L) (bodies body (lock locked unit Locked)) G R (last && false) (no_own last) P Pb z hp (iteration_count a b c) a c q
              (body_at (more_fits locked still index lp.index nm sx fit))
          go (Some s) q k =
              subst (λ x. Good C (iterations_from (iteration_count a b x) a x unit (bodies body (lock locked unit Locked))) (put z unit (content Int a)) Q) (sym k)
              (counted_good C sc.names m scalar at far place nf locked still (base locked still fit) index lp nm sx free (back lp.index) (body_tracks e sc.names m nf is back cs calls_track L) (bodies body (lock locked unit Locked)) G R (last && false) (no_own last) P Pb z hp s a b (not_zero s (ap (λ x. int_eq x (pos 0)) (sym k) ∙ nz)) q ma mb
              (body_at (more_fits locked still index lp.index nm sx fit)))

      at_unit : (a b c : ℤ) → Means e lp.first (numbers_of z) a → Means e lp.last (numbers_of z) b → StepIs lp.step c → int_eq c (pos 0) ≡ false → (u : ℕ) → u ≡ unit → sc.names index ≡ Variable lp.index → Good C (first (write locked u (content Int a)) (λ o. iterations_from (iteration_count a b c) a c u (bodies body (lock locked u Locked)))) z Q
      at_unit a b c ma mb mc nz u eq nm =
          subst (λ x. Good C (first (write locked x (content Int a)) (λ o. iterations_from (iteration_count a b c) a c x (bodies body (lock locked x Locked)))) z Q) (sym eq)
          (good_write C locked unit (content Int a) _ z Q (λ free. turns a b c ma mb mc nz nm free))

      loop_good : Good C (do_plan L sc at locked) z Q
      loop_good =
          good_first C (range_of e1 e2 e3 sc.names at) _ z Q (λ i. range_leads sc.names m.scalars (is_cell m.tracked) at z i nf.agrees e1 e2 e3 _ (λ a b c ma mb mc nz.
          good_first C (name_target (sc.names index) at) _ z Q (λ j. target_leads sc.names at z j (tree.name index) _ (λ u h.
          at_unit a b c ma mb mc nz u.unit (h.unit ∙ ap (λ v. (at v).first) (sym (is_index h.variable h.names))) (named h.variable h.names)))))

      do_found : Good C (do_plan L sc at locked) z (Ends_as (parts_do lp) (after_loop_of L m r.transformer P) G R (last && false) still z)
      do_found = subst (λ x. Good C (do_plan L sc at locked) z (Ends_as (parts_do lp) (after_loop (loop_parts m L x) (iteration (loop_parts m L x)) P Pb) G R (last && false) still z)) (sym path) loop_good

    do_good : PlacedList r covers m cs scalar body false (each_iteration L m r.transformer P) → Inner → Good C (do_plan L sc at locked) z (Ends_as (parts_do lp) (after_loop_of L m r.transformer P) G R (last && false) still z)
    do_good pl inner = do_found (ap (λ xs. list_of false body xs) (list_found C m cs r covers scalar sc at far place body false (each_iteration L m r.transformer P) pl)) inner

  -- ---- IF

  -- nothing is done where a system holds
  none_done : (q : System) (still : ℕ → Bool) (z : Store) → Hs q z → Done e identity_transformer q still z z
  none_done q still z h = record { does = does_test e no_rows (numbers_of z) (nothing_asked C m sc.names at far place nf z); after = h; steady = λ u f. refl }

  -- ---- logical IF

  module _ (f : ExprTree) (s : StmtTree) (n : ℕ) (last : Bool) (locked : Locks) (still : ℕ → Bool) (P : System) (z : Store) (hp : Hs P z) where
    abbrev Ts : List Transformer
    Ts = where_holds (meet no_rows (condition_of m.scalars f).yes) (stmt_transformer s m cs false) ∷ where_holds (meet no_rows (condition_of m.scalars f).no) identity_transformer ∷ []

    abbrev Qs : List System
    Qs = after s m r.transformer (if_true m f P) ∷ if_false m f P ∷ []

    abbrev Go : List ℕ → Bool
    Go ls = stmt_leads s ls

    abbrev Rt : Bool
    Rt = stmt_has is_return s

    abbrev One : Flow → Store → Type 0
    One = ArmsEnded e still z Ts Qs Go Rt

    abbrev Yes : System
    Yes = meet no_rows (condition_of m.scalars f).yes

    abbrev No : System
    No = meet no_rows (condition_of m.scalars f).no

    logical_good : (Hs (if_true m f P) z → Good C (statement_plan s sc at locked) z (Stmt_ended C m cs r covers scalar sc at far place s false (if_true m f P) still z)) → Good C (execution (tree.logical_if f s) n sc at locked) z (Ends_as (if_does m f (stmt_transformer s m cs false)) (some_holds Qs) Go Rt (last && false) still z)
    logical_good inner =
        good_more C (execution (tree.logical_if f s) n sc at locked) z One _
        (if_ends e still z Ts Qs Go Rt (last && false) (no_own last) (what_tracks e sc.names m nf is back cs calls_track (tree.logical_if f s) false))
        (tested C m sc.names at far place nf f (statement_plan s sc at locked) (Ends Normal) z One
        (λ h. good_more C (statement_plan s sc at locked) z (Stmt_ended C m cs r covers scalar sc at far place s false (if_true m f P) still z) One
        (arm_ends e still z Yes (stmt_transformer s m cs false) (after s m r.transformer (if_true m f P)) Ts Qs Go Go Rt Rt (own_of false s) (met C m sc.names at far place nf no_rows (condition_of m.scalars f).yes z (nothing_asked C m sc.names at far place nf z) h) here here (λ ls k. k) (λ k. k))
        (inner (met C m sc.names at far place nf P (condition_of m.scalars f).yes z hp h)))
        (λ h. good_ends C Normal z One
        (arm_ends e still z No identity_transformer (if_false m f P) Ts Qs (λ ls. false) Go false Rt false (met C m sc.names at far place nf no_rows (condition_of m.scalars f).no z (nothing_asked C m sc.names at far place nf z) h) (there here) (there here) (λ ls k. absurd (true≢false (sym k))) (λ k. absurd (true≢false (sym k))) Normal z
        (none_done (if_false m f P) still z (met C m sc.names at far place nf P (condition_of m.scalars f).no z hp h)))))

  -- ---- block IF

  module _ (other : ElseTree) (locked : Locks) (still : ℕ → Bool) (z : Store) where
    -- the arms, and what is done where no test is true
    abbrev AllT : ArmTrees → System → List Transformer
    AllT arms bt = arm_transformers arms m cs bt ++ where_holds (without_arms arms m bt) (else_transformer other m cs) ∷ []

    abbrev AllP : ArmTrees → System → List System
    AllP arms bp = after_arms arms m r.transformer bp ++ after_else other m r.transformer (past_arms arms m bp) ∷ []

    abbrev GoA : ArmTrees → List ℕ → Bool
    GoA arms ls = arms_lead arms ls || else_leads other ls

    abbrev RtA : ArmTrees → Bool
    RtA arms = arms_have is_return arms || else_has is_return other

    abbrev Arms : ArmTrees → System → System → Type 0
    Arms arms bt bp = Good C (arms_plan arms sc at locked (else_plan other sc at locked)) z (ArmsEnded e still z (AllT arms bt) (AllP arms bp) (GoA arms) (RtA arms))

    no_arm_good : (bt bp : System) → Hs bt z → Good C (else_plan other sc at locked) z (Ends_as (else_transformer other m cs) (after_else other m r.transformer bp) (λ ls. else_leads other ls) (else_has is_return other) false still z) → Arms tree.no_arms bt bp
    no_arm_good bt bp h g =
        good_more C (else_plan other sc at locked) z _ _
        (arm_ends e still z bt (else_transformer other m cs) (after_else other m r.transformer bp) (AllT tree.no_arms bt) (AllP tree.no_arms bp) (λ ls. else_leads other ls) (GoA tree.no_arms) (else_has is_return other) (RtA tree.no_arms) false h here here (λ ls k. k) (λ k. k)) g

    from_first : (a b c : Bool) → a ≡ true → ((a || b) || c) ≡ true
    from_first a b c h = or_left (a || b) c (or_left a b h)

    from_rest : (a b c : Bool) → (b || c) ≡ true → ((a || b) || c) ≡ true
    from_rest true b c h = refl
    from_rest false b c h = h

    module _ (f : ExprTree) (body : StmtTrees) (rest : ArmTrees) (bt bp : System) (ht : Hs bt z) (hp : Hs bp z) where
      abbrev one : ArmTree
      one = tree.arm f body

      abbrev these : ArmTrees
      these = tree.more_arms one rest

      abbrev yes : System
      yes = (condition_of m.scalars f).yes

      abbrev no : System
      no = (condition_of m.scalars f).no

      abbrev Tb : Transformer
      Tb = arm_list_transformer body m cs

      abbrev Qb : System
      Qb = after_arm_list body m r.transformer (if_true m f bp)

      more_arms_good : (Hs (if_true m f bp) z → Good C (bodies body locked) z (Ends_as Tb Qb (λ ls. list_leads body ls) (list_has is_return body) false still z)) → (Hs (meet bt no) z → Hs (meet bp no) z → Arms rest (meet bt no) (meet bp no)) → Arms these bt bp
      more_arms_good this others =
          tested C m sc.names at far place nf f (bodies body locked) (arms_plan rest sc at locked (else_plan other sc at locked)) z (ArmsEnded e still z (AllT these bt) (AllP these bp) (GoA these) (RtA these))
          (λ h. good_more C (bodies body locked) z _ _
          (arm_ends e still z (meet bt yes) Tb Qb (AllT these bt) (AllP these bp) (λ ls. list_leads body ls) (GoA these) (list_has is_return body) (RtA these) false (met C m sc.names at far place nf bt yes z ht h) here here
          (λ ls k. from_first (list_leads body ls) (arms_lead rest ls) (else_leads other ls) k) (λ k. from_first (list_has is_return body) (arms_have is_return rest) (else_has is_return other) k))
          (this (met C m sc.names at far place nf bp yes z hp h)))
          (λ h. good_more C (arms_plan rest sc at locked (else_plan other sc at locked)) z _ _
          (more_arms e still z (where_holds (meet bt yes) Tb) Qb (AllT rest (meet bt no)) (AllP rest (meet bp no)) (GoA rest) (GoA these) (RtA rest) (RtA these)
          (λ ls k. from_rest (list_leads body ls) (arms_lead rest ls) (else_leads other ls) k) (λ k. from_rest (list_has is_return body) (arms_have is_return rest) (else_has is_return other) k))
          (others (met C m sc.names at far place nf bt no z ht h) (met C m sc.names at far place nf bp no z hp h)))

  -- ---- all statements

  mutual
    pub stmt_good : (s : StmtTree) (last : Bool) (locked : Locks) (still : ℕ → Bool) → Fits locked still → (P : System) (z : Store) → Hs P z → Placed r covers m cs scalar s last P → Good C (statement_plan s sc at locked) z (Stmt_ended C m cs r covers scalar sc at far place s last P still z)
    stmt_good (tree.stmt n label v) last locked still fit P z hp pl =
        let g = what_good v n last locked still fit P z hp pl.0 pl.1 in
        good_at C (spot sc.module_name n) at (execution v n sc at locked) z _
        (claim_of C m cs r covers scalar sc at far place claimed n v last P (after_what v n m r.transformer P) (goes_what v) (rets_what v) (last && is_return v) still (execution v n sc at locked) z pl.0 hp g.ending) g

    what_good : (v : WhatTree) (n : ℕ) (last : Bool) (locked : Locks) (still : ℕ → Bool) → Fits locked still → (P : System) (z : Store) → Hs P z → PlacedAt r covers m cs scalar n v last P → PlacedParts r covers m cs scalar v P → Good C (execution v n sc at locked) z (Ends_as (what_transformer v m cs last) (after_what v n m r.transformer P) (goes_what v) (rets_what v) (last && is_return v) still z)
    what_good (tree.assign a b) n last locked still fit P z hp pa pl =
        found_apply (tree.assign a b) n last P P _ _ _ _ still z pa
        (assign_good C sc.names m scalar at far place nf locked still (base locked still fit) (goes_what (tree.assign a b)) (rets_what (tree.assign a b)) (last && false) P z hp a b pa.targets)
    what_good (tree.block_if arms other) n last locked still fit P z hp pa pl =
        good_more C (arms_plan arms sc at locked (else_plan other sc at locked)) z _ _
        (if_ends e still z (AllT other locked still z arms no_rows) (AllP other locked still z arms P) (GoA other locked still z arms) (RtA other locked still z arms) (last && false) (no_own last)
        (all_track e (AllT other locked still z arms no_rows) (arms_track e sc.names m nf is back cs calls_track arms (else_transformer other m cs) (else_tracks e sc.names m nf is back cs calls_track other) no_rows)))
        (arms_good arms other locked still fit no_rows P z (nothing_asked C m sc.names at far place nf z) hp pl.0 (λ hq. else_good other locked still fit (past_arms arms m P) z hq pl.1))
    what_good (tree.logical_if f s) n last locked still fit P z hp pa pl =
        logical_good f s n last locked still P z hp (λ h. stmt_good s false locked still fit (if_true m f P) z h pl)
    what_good (tree.do_loop l) n last locked still fit P z hp pa pl = loop_list l last locked still fit P z hp pa.targets pl
    what_good (tree.call x es) n last locked still fit P z hp pa pl =
        found_apply (tree.call x es) n last P P _ _ _ _ still z pa
        (good_more C _ z _ _ (call_more (call_transformer m (cs x) es) (apply (call_transformer m (cs x) es) P) (goes_what (tree.call x es)) (rets_what (tree.call x es)) (last && false) still z) (call_good x es n locked still fit P z hp pl))
    what_good (tree.goto l) n last locked still fit P z hp pa pl =
        good_ends C (Jump l) z _ ((λ ls h. h), nowhere_stayed C sc.names m scalar at far place nf locked still (base locked still fit) (goes_what (tree.goto l)) false false P z hp nowhere)
    what_good tree.continue n last locked still fit P z hp pa pl =
        found_apply tree.continue n last P P _ _ _ _ still z pa
        (idle_good C sc.names m scalar at far place nf locked still (base locked still fit) (goes_what tree.continue) (rets_what tree.continue) (last && false) P z hp)
    what_good tree.return n last locked still fit P z hp pa pl =
        found_apply tree.return n last P P _ _ _ _ still z pa (return_good n last locked still fit P z hp)
    what_good (tree.stop text) n last locked still fit P z hp pa pl = good_ends C Stopped z _ tt
    what_good (tree.print es) n last locked still fit P z hp pa pl =
        found_apply (tree.print es) n last P P _ _ _ _ still z pa
        (print_good C sc.names m scalar at far place nf locked still (base locked still fit) (goes_what (tree.print es)) (rets_what (tree.print es)) (last && false) P z hp es)
    what_good (tree.read es) n last locked still fit P z hp pa pl =
        found_apply (tree.read es) n last P P _ _ _ _ still z pa
        (read_good C sc.names m scalar at far place nf locked still (base locked still fit) (goes_what (tree.read es)) (rets_what (tree.read es)) (last && false) P z hp es pa.targets)

    loop_list : (l : LoopTree) (last : Bool) (locked : Locks) (still : ℕ → Bool) → Fits locked still → (P : System) (z : Store) → Hs P z → has_index scalar l ≡ true → PlacedLoop r covers m cs scalar l P → Good C (do_plan l sc at locked) z (Ends_as (parts_do (loop_parts m l (body_transformer l m cs))) (after_loop_of l m r.transformer P) (λ ls. loop_leads l ls) (loop_has is_return l) (last && false) still z)
    loop_list (tree.loop index e1 e2 e3 body) last locked still fit P z hp sx pl =
        do_good index e1 e2 e3 body last locked still fit P z hp sx pl
        (λ u f y hy. list_from C m cs r covers scalar sc at far place body false (each_iteration (tree.loop index e1 e2 e3 body) m r.transformer P) (lock locked u Locked) (also still u) y hy pl
        (λ jump st pe. row_good body body false jump (lock locked u Locked) (also still u) f None (each_iteration (tree.loop index e1 e2 e3 body) m r.transformer P) y y st (inc_all m cs false body) refl hy pe)
        (λ pa. each_good body body false (each_iteration (tree.loop index e1 e2 e3 body) m r.transformer P) (lock locked u Locked) (also still u) f y hy 0 (inc_all m cs false body) pa))

    arms_good : (arms : ArmTrees) (other : ElseTree) (locked : Locks) (still : ℕ → Bool) → Fits locked still → (bt bp : System) (z : Store) → Hs bt z → Hs bp z → PlacedArms r covers m cs scalar arms bp → (Hs (past_arms arms m bp) z → Good C (else_plan other sc at locked) z (Ends_as (else_transformer other m cs) (after_else other m r.transformer (past_arms arms m bp)) (λ ls. else_leads other ls) (else_has is_return other) false still z)) → Arms other locked still z arms bt bp
    arms_good tree.no_arms other locked still fit bt bp z ht hp pl else_ok = no_arm_good other locked still z bt bp ht (else_ok hp)
    arms_good (tree.more_arms a rest) other locked still fit bt bp z ht hp pl else_ok =
        arm_good a rest other locked still fit bt bp z ht hp pl.0 (λ h1 h2. arms_good rest other locked still fit (without_arm a m bt) (past_arm a m bp) z h1 h2 pl.1 else_ok)

    arm_good : (a : ArmTree) (rest : ArmTrees) (other : ElseTree) (locked : Locks) (still : ℕ → Bool) → Fits locked still → (bt bp : System) (z : Store) → Hs bt z → Hs bp z → PlacedArm r covers m cs scalar a bp → (Hs (without_arm a m bt) z → Hs (past_arm a m bp) z → Arms other locked still z rest (without_arm a m bt) (past_arm a m bp)) → Arms other locked still z (tree.more_arms a rest) bt bp
    arm_good (tree.arm f body) rest other locked still fit bt bp z ht hp pl others =
        more_arms_good other locked still z f body rest bt bp ht hp
        (λ h. arm_list_good C m cs r covers scalar sc at far place nf locked still body (if_true m f bp) z h (inner_tracks body) (inner_good body locked still fit) (first_good body locked still fit)
        (λ pa. list_from C m cs r covers scalar sc at far place body false (if_true m f bp) locked still z h pa
        (λ jump st pe. row_good body body false jump locked still fit None (if_true m f bp) z z st (inc_all m cs false body) refl h pe)
        (λ pb. each_good body body false (if_true m f bp) locked still fit z h 0 (inc_all m cs false body) pb))
        pl)
        others

    -- the first statement of a list
    first_good : (ss : StmtTrees) (locked : Locks) (still : ℕ → Bool) → Fits locked still → OfFirst (IfOf locked still) ss
    first_good tree.no_stmts locked still fit = tt
    first_good (tree.more_stmts s rest) locked still fit = λ P z h pl. stmt_good s false locked still fit P z h pl

    -- the statements of the first arm of the block IF with which a list begins, as those of a DO WHILE
    inner_good : (ss : StmtTrees) (locked : Locks) (still : ℕ → Bool) → Fits locked still → OfInner (BodyOf locked still) ss
    inner_good tree.no_stmts locked still fit = tt
    inner_good (tree.more_stmts s rest) locked still fit = inner_stmt s locked still fit

    inner_stmt : (s : StmtTree) (locked : Locks) (still : ℕ → Bool) → Fits locked still → OfStmt (BodyOf locked still) s
    inner_stmt (tree.stmt n label v) locked still fit = inner_what v locked still fit

    inner_what : (v : WhatTree) (locked : Locks) (still : ℕ → Bool) → Fits locked still → OfWhat (BodyOf locked still) v
    inner_what (tree.assign a b) locked still fit = tt
    inner_what (tree.block_if arms other) locked still fit = inner_arms arms locked still fit
    inner_what (tree.logical_if f s) locked still fit = tt
    inner_what (tree.do_loop l) locked still fit = tt
    inner_what (tree.call x es) locked still fit = tt
    inner_what (tree.goto l) locked still fit = tt
    inner_what tree.continue locked still fit = tt
    inner_what tree.return locked still fit = tt
    inner_what (tree.stop text) locked still fit = tt
    inner_what (tree.print es) locked still fit = tt
    inner_what (tree.read es) locked still fit = tt

    inner_arms : (arms : ArmTrees) (locked : Locks) (still : ℕ → Bool) → Fits locked still → OfArms (BodyOf locked still) arms
    inner_arms tree.no_arms locked still fit = tt
    inner_arms (tree.more_arms a rest) locked still fit = inner_arm a locked still fit

    inner_arm : (a : ArmTree) (locked : Locks) (still : ℕ → Bool) → Fits locked still → OfArm (BodyOf locked still) a
    inner_arm (tree.arm f body) locked still fit = λ L P z back h pl.
        body_from C m cs r covers scalar sc at far place L body back P locked still z h pl
        (λ jump st pe. row_back body body L jump locked still fit None P z z back st (inc_all m cs false body) refl h pe)
        (λ pa. each_good body body false P locked still fit z h 0 (inc_all m cs false body) pa)

    row_back : (ss all : StmtTrees) (L : ℕ) (jump : ℕ → Plan) (locked : Locks) (still : ℕ → Bool) → Fits locked still → (acc : Option Transformer) (P : System) (z0 z : Store) → goes_back L ss ≡ true → Straight C m cs r covers scalar sc at far place all false ss → Inc m cs false ss all → SoFar e still acc z0 z → Hs P z → PlacedEach r covers m cs scalar ss false P → Good C (in_order jump (parts all sc at locked) (parts ss sc at locked)) z (Row_back C m cs r covers scalar sc at far place L ss all acc P still z0)
    row_back tree.no_stmts all L jump locked still fit acc P z0 z back st inc sf h pl = absurd (true≢false (sym back))
    row_back (tree.more_stmts s tree.no_stmts) all L jump locked still fit acc P z0 z back st inc sf h pl =
        last_back C m cs r covers scalar sc at far place L all jump locked still acc P z0 z s back st inc sf h (stmt_good s false locked still fit P z h pl.0)
    row_back (tree.more_stmts s (tree.more_stmts r2 rest)) all L jump locked still fit acc P z0 z back st inc sf h pl =
        let o = others_first (goes_to (L ∷ [])) s r2 rest back in
        one_back C m cs r covers scalar sc at far place L s r2 rest all jump locked still acc P z0 z st inc sf (other_leads L s o.0) (stmt_good s false locked still fit P z h pl.0)
        (λ y sf' h'. row_back (tree.more_stmts r2 rest) all L jump locked still fit (Some (added acc (stmt_transformer s m cs false))) (after s m r.transformer P) z0 y o.1 (st.0, λ k. absurd (true≢false (sym k))) (inc_next m cs false s (tree.more_stmts r2 rest) all inc) sf' h' pl.1)

    else_good : (other : ElseTree) (locked : Locks) (still : ℕ → Bool) → Fits locked still → (P : System) (z : Store) → Hs P z → PlacedElse r covers m cs scalar other P → Good C (else_plan other sc at locked) z (Ends_as (else_transformer other m cs) (after_else other m r.transformer P) (λ ls. else_leads other ls) (else_has is_return other) false still z)
    else_good tree.no_else locked still fit P z hp pl = good_ends C Normal z _ (none_done P still z hp)
    else_good (tree.otherwise body) locked still fit P z hp pl =
        list_from C m cs r covers scalar sc at far place body false P locked still z hp pl
        (λ jump st pe. row_good body body false jump locked still fit None P z z st (inc_all m cs false body) refl hp pe)
        (λ pa. each_good body body false P locked still fit z hp 0 (inc_all m cs false body) pa)

    pub row_good : (ss all : StmtTrees) (whole : Bool) (jump : ℕ → Plan) (locked : Locks) (still : ℕ → Bool) → Fits locked still → (acc : Option Transformer) (P : System) (z0 z : Store) → Straight C m cs r covers scalar sc at far place all whole ss → Inc m cs whole ss all → SoFar e still acc z0 z → Hs P z → PlacedEach r covers m cs scalar ss whole P → Good C (in_order jump (parts all sc at locked) (parts ss sc at locked)) z (Ends_as (row_from acc (each_transformer ss m cs whole)) (after_each ss m r.transformer P) (λ ls. list_leads all ls) (list_has is_return all) whole still z0)
    row_good tree.no_stmts all whole jump locked still fit acc P z0 z st inc sf h pl = good_ends C Normal z _ (so_far_end e still acc P z0 z sf h)
    row_good (tree.more_stmts s rest) all whole jump locked still fit acc P z0 z st inc sf h pl =
        row_one C m cs r covers scalar sc at far place s rest all whole jump locked still acc P z0 z st inc sf (stmt_good s (whole && is_end rest) locked still fit P z h pl.0)
        (λ st' y sf' h'. row_good rest all whole jump locked still fit (Some (added acc (stmt_transformer s m cs (whole && is_end rest)))) (after s m r.transformer P) z0 y st' (inc_next m cs whole s rest all inc) sf' h' pl.1)

    pub each_good : (ss all : StmtTrees) (whole : Bool) (P : System) (locked : Locks) (still : ℕ → Bool) → Fits locked still → (s : Store) (hp : Hs P s) (k : ℕ) → Inc m cs whole ss all → PlacedAll r covers m cs scalar ss whole (without (all_cells (each_transformer all m cs whole)) P) → Verified_all C m cs r covers scalar sc at far place all whole P locked still s hp k (parts ss sc at locked)
    each_good tree.no_stmts all whole P locked still fit s hp k inc pl = λ z h. loose_done C m cs r covers scalar sc at far place all whole P locked still s hp z h
    each_good (tree.more_stmts t ss) all whole P locked still fit s hp k inc pl = (
      (λ y h. good_more C (statement_plan t sc at locked) y (Stmt_ended C m cs r covers scalar sc at far place t (whole && is_end ss) (without (all_cells (each_transformer all m cs whole)) P) still y) _
          (loose_next C m cs r covers scalar sc at far place all whole P locked still s hp k (stmt_transformer t m cs (whole && is_end ss)) (after t m r.transformer (without (all_cells (each_transformer all m cs whole)) P)) (λ ls. stmt_leads t ls) (stmt_has is_return t) (own_of (whole && is_end ss) t)
          (inc.inside (stmt_transformer t m cs (whole && is_end ss)) here) (λ ls q. inc.leads ls (or_left (stmt_leads t ls) (each_leads ss ls) q)) (λ q. inc.rets (or_left (stmt_has is_return t) (list_has is_return ss) q)) y h)
          (stmt_good t (whole && is_end ss) locked still fit (without (all_cells (each_transformer all m cs whole)) P) y (loose_holds C m cs r covers scalar sc at far place all whole P locked still s hp y h) pl.0)),
      each_good ss all whole P locked still fit s hp (suc k) (inc_next m cs whole t ss all inc) pl.1,
    )

  -- a list, from its first statement on; `whole` says that it is the body of the module
  pub list_good : (whole : Bool) (ss : StmtTrees) (locked : Locks) (still : ℕ → Bool) → Fits locked still → (P : System) (z : Store) → Hs P z → PlacedList r covers m cs scalar ss whole P → Good C (bodies ss locked) z (Ends_as (list_of whole ss (each_transformer ss m cs whole)) (after_list whole ss m r.transformer P) (λ ls. list_leads ss ls) (list_has is_return ss) whole still z)
  list_good whole ss locked still fit P z hp pl =
      list_from C m cs r covers scalar sc at far place ss whole P locked still z hp pl
      (λ jump st pe. row_good ss ss whole jump locked still fit None P z z st (inc_all m cs whole ss) refl hp pe)
      (λ pa. each_good ss ss whole P locked still fit z hp 0 (inc_all m cs whole ss) pa)
