-- Where a module was entered: its claims, and how its call ends.
use Rattle.std.proofs.Common.{◌≡◌, ℕ, zero, suc, List, [], ◌∷◌, ◌||◌, true, false, refl, sym, ap, ◌∙◌, subst, ℤ, true≢false, ⊎_elim}
use Rattle.affine_systems.specs.declared.row.System.{System}
use Rattle.f77_ast.specs.Trees.{StmtTrees}
use Rattle.f77_ast.specs.Trees as tree
use Rattle.f77_ast.specs.Store.{Content, Store, put, undefined}
use Rattle.f77_ast.specs.Steps.{Steps, Done as DoneStep, Breaks, Look, Set, Hold, Forget, Show, Take, Arrive}
use Rattle.f77_ast.specs.Runs.{Ran, first_of, rest_of}
use Rattle.f77_ast.specs.Places.{Place, Places}
use Rattle.f77_ast.specs.Writes.{Locks}
use Rattle.f77_ast.specs.Plans.{Flow, Normal, Jump, Returned, Stopped, Plan, Ends, Within, first}
use Rattle.f77_ast.specs.Executions.{run_of, AtEndOf, Claim}
use Rattle.f77_ast.specs.Calls.{Meaning, arrays_bound, lock_doubly, forget_all, after_call}
use Rattle.f77_ast.specs.Lists.{list_plan}
use Rattle.f77_ast.specs.Statements.{Scope, spot, parts, body_plan}
use Rattle.f77_ast.specs.Programs.{scope, body_of, called}
use Rattle.f77_ast.proofs.StepLaws.{Leads}
use Rattle.f77_meaning.specs.Occurrences.{first_places, is_normal}
use Rattle.affine_forms.specs.Scalars.{is_cell}
use Rattle.affine_forms.specs.Claims.{unit_in, numbers_of}
use Rattle.preconditions.specs.transformer_algebra.declared.transformer.Transformer.{Transformer}
use Rattle.preconditions.specs.transformer_algebra.Claims.{Scene, HoldsAt, Does}
use Rattle.preconditions.specs.call_translation.Sites.{HoldingSite}
use Rattle.preconditions.specs.transformers.Given.{Callees}
use Rattle.preconditions.specs.transformers.Jumps.{list_has}
use Rattle.preconditions.specs.transformers.Statement.{list_transformer}
use Rattle.laws_analyses.specs.Statements.Good.{Good}
use Rattle.laws_analyses.proofs.Statements.Ends.{more}
use Rattle.laws_analyses.proofs.Statements.Rules.{good_ends, good_more, good_first, good_within, good_forget_all}
use Rattle.laws_analyses.specs.Statements.Leads.{list_leads}
use Rattle.laws_analyses.specs.Statements.Activation.{Ended}
use Rattle.laws_analyses.specs.Statements.Placed.{PlacedList}
use Rattle.laws_analyses.proofs.Statements.Lists.{Claimed}
use Rattle.laws_analyses.proofs.Statements.Statements.{list_good}
use Rattle.laws_analyses.specs.Calls.Scenes.{outside}
use Rattle.laws_analyses.proofs.Calls.AllLaws.{call_rules_hold}
use Rattle.laws_analyses.specs.Calls.Parts.{Blocks, Part, summary, places_in, far_in, scene_in, still_in, Sane}
use Rattle.laws_analyses.specs.Calls.Sites.{Covers, lookup, Entered, CallEnded, CalleeOk}
use Rattle.laws_analyses.proofs.Calls.Bound.{Made, arrays_leads, scalars_dummy}
use Rattle.laws_analyses.proofs.Calls.Enter.{find_dummy, Fits, begin_fits, more_fits}
use Rattle.laws_analyses.proofs.Calls.CallGood.{call_good}
use Rattle.fx_lists.proofs.Numbers.{nat_eq_same}
use Rattle.f77_ast.specs.Shapes.{is_return}

-- ---- the places of the first statement

first_list : (ss : StmtTrees) (sc : Scope) (at at0 : Places) (locked : Locks) (turns : ℕ) (z : Store) (i : List Content) (P : Places → Type 0) → P at → P at0 → P (first_places (list_plan turns (parts ss sc at locked)) z i at0)
first_list tree.no_stmts sc at at0 locked zero z i P h k = k
first_list tree.no_stmts sc at at0 locked (suc n) z i P h k = k
first_list (tree.more_stmts (tree.stmt n label v) rest) sc at at0 locked zero z i P h k = h
first_list (tree.more_stmts (tree.stmt n label v) rest) sc at at0 locked (suc m) z i P h k = h

first_steps : {A : Type 0} (P : Places → Type 0) (t : Steps A) (f : A → Plan) (s : Store) (i : List Content) (at : Places) → P at → Leads t s i (λ a z j. P (first_places (f a) z j at)) → P (first_places (first t f) s i at)
first_steps P (DoneStep a) f s i at h k = k
first_steps P (Breaks b) f s i at h k = h
first_steps P (Look u g) f s i at h k = first_steps P (g (s u)) f s i at h k
first_steps P (Set u c t) f s i at h k = first_steps P t f (put s u c) i at h k
first_steps P (Hold u c t) f s i at h k = first_steps P t f (put s u c) i at h k
first_steps P (Forget u t) f s i at h k = first_steps P t f (put s u (undefined (s u))) i at h k
first_steps P (Show xs t) f s i at h k = first_steps P t f s i at h k
first_steps P (Take g) f s i at h k = first_steps P (g (first_of i)) f s (rest_of i) at h k
first_steps P (Arrive p t) f s i at h k = first_steps P t f s i at h k

first_forget : (P : Places → Type 0) (us : List ℕ) (t : Plan) (s : Store) (i : List Content) (at : Places) → ((z : Store) → P (first_places t z i at)) → P (first_places (forget_all us t) s i at)
first_forget P [] t s i at h = h s
first_forget P (u ∷ us) t s i at h = first_forget P us t (put s u (undefined (s u))) i at h

-- ---- a module, with what is known of what it calls

-- what it is to claim the executions of its entry
abbrev pub EntryClaimed : Claim → Blocks → Callees → Part → Type 0
EntryClaimed C b cs k = (ps : List Place) (at : Places) (z : Store) (q : Ran Flow) → ((v : ℕ) → (at v).first ≡ (places_in k ps v).first) → HoldsAt (scene_in b k ps (places_in k ps)) k.entry (numbers_of z) →
    AtEndOf q (λ f y j. is_normal 0 f ≡ true → Does (outside k.scope.symbols (scene_in b k ps (places_in k ps))) (summary cs k) (numbers_of z) (numbers_of y)) → C (spot k.routine.name 0) at z q

abbrev pub StatementsClaimed : Claim → Blocks → Callees → (List ℕ → List HoldingSite) → List Part → Part → Scope → Type 0
StatementsClaimed C b cs sites below k sc = (ps : List Place) (at : Places) → Claimed C k.scope cs k.found (Covers b cs sites below k) k.scalar sc at (far_in b k ps) b.place

module _ (C : Claim) (b : Blocks) (cs : Callees) (sites : List ℕ → List HoldingSite) (k : Part) (sane : Sane b k) (below : List Part) (turns : ℕ) (callee : List ℕ → Meaning) (callees : (x : List ℕ) → CalleeOk C b cs (lookup below x) (callee x)) (statements : StatementsClaimed C b cs sites below k (scope k.routine turns callee)) (entries : EntryClaimed C b cs k) (placed : PlacedList k.found (Covers b cs sites below k) k.scope cs k.scalar k.routine.body true k.entry) where
  abbrev sc : Scope
  sc = scope k.routine turns callee

  abbrev body : StmtTrees
  body = k.routine.body

  abbrev T : Transformer
  T = list_transformer body k.scope cs true

  module _ (ps : List Place) (locked : Locks) (ent : Entered k ps locked) where
    abbrev at0 : Places
    at0 = places_in k ps

    abbrev e0 : Scene
    e0 = scene_in b k ps at0

    -- a variable stays at its first unit
    first_same : (at : Places) → Made k.routine.dummies ps at0 at → (v : ℕ) → (at v).first ≡ (at0 v).first
    first_same at made v =
        ⊎_elim
        (λ o. ap (λ y. (at y).first) (sym o.symbol) ∙ (⊎_elim (λ a. ap (λ p. p.first) a.1) (λ a. a.1.first ∙ sym (ap (λ p. p.first) (scalars_dummy k.routine.dummies ps k.routine.fixed o.at o.dummy sane.distinct o.is_dummy))) (made.dummy o.at o.dummy o.is_dummy) ∙ ap (λ y. (at0 y).first) o.symbol))
        (λ n. ap (λ p. p.first) (made.other v n))
        (find_dummy k.routine.dummies v)

    -- how the body ends
    abbrev pub Gone : (ℕ → ℤ) → (ℕ → ℤ) → Type 0
    Gone x y = Does (outside k.scope.symbols e0) (summary cs k) x y × ((u : ℕ) → still_in k ps locked u ≡ true → y u ≡ x u)

    abbrev pub LeftFrom : (ℕ → ℤ) → Flow → Store → Type 0
    LeftFrom x Normal y = Gone x (numbers_of y)
    LeftFrom x (Jump l) y = ⊥
    LeftFrom x Returned y = Gone x (numbers_of y)
    LeftFrom x Stopped y = Unit {0}

    abbrev pub Left : Store → Flow → Store → Type 0
    Left s f y = LeftFrom (numbers_of s) f y

    module _ (at : Places) (made : Made k.routine.dummies ps at0 at) where
      abbrev e1 : Scene
      e1 = scene_in b k ps at

      same_units : unit_in at ≡ unit_in at0
      same_units = λ i c. first_same at made c i

      seen_outside : (x y : ℕ → _) → Does e1 T x y → Does (outside k.scope.symbols e0) (summary cs k) x y
      seen_outside x y d =
          subst (λ (u : ℕ → ℕ). Does (outside k.scope.symbols (record { tracked = is_cell k.scope.tracked; unit = u; far = far_in b k ps; place = b.place })) (summary cs k) x y) same_units
          (call_rules_hold.summary_does e1 k.scope.symbols T x y d)

      entry_in : (s : Store) → HoldsAt e0 k.entry (numbers_of s) → HoldsAt e1 k.entry (numbers_of s)
      entry_in s h p st = h p (λ c t. st c t ∙ ap (λ u. numbers_of s u) (first_same at made c))

      left_by : (s : Store) (q : System) (f : Flow) (y : Store) → Ended e1 T q (λ ls. list_leads body ls) (list_has is_return body) true (still_in k ps locked) s f y → Left s f y
      left_by s q Normal y d = (seen_outside (numbers_of s) (numbers_of y) d.does, d.steady)
      left_by s q (Jump l) y d = true≢false (sym (d.0 (l ∷ []) (ap (λ b. b || false) (nat_eq_same l))) ∙ sane.stays_in (l ∷ []))
      left_by s q Returned y d = let x = d.2 refl in (seen_outside (numbers_of s) (numbers_of y) x.does, x.steady)
      left_by s q Stopped y d = tt

      statements_good : (s : Store) → HoldsAt e0 k.entry (numbers_of s) → Good C (body_plan body sc at (lock_doubly locked k.routine.dummies at k.routine.common)) s (Left s)
      statements_good s h =
          good_more C (body_plan body sc at (lock_doubly locked k.routine.dummies at k.routine.common)) s _ (Left s) (λ f y d. left_by s _ f y d)
          (list_good C k.scope cs k.found (Covers b cs sites below k) k.scalar sc at (far_in b k ps) b.place sane.names_fit (statements ps at)
          (Fits b k ps at) (λ l st f. f.base) (λ l st x v named sx f. more_fits b k ps at l st x v named sx f)
          (λ x es. call_rules_hold.call_tracks k.scope (cs x) es e1 (λ c t. t) (λ y c q. (sane.names_fit.agrees.cells y c q).1))
          (λ x es n l st f P z hp cov. call_good C b cs sites k sane ps at made x es P n l st f z hp below (callee x) (callees x) cov)
          true body (lock_doubly locked k.routine.dummies at k.routine.common) (still_in k ps locked) (begin_fits b k sane ps locked ent at made) k.entry s (entry_in s h) placed)

    abbrev inner : Plan
    inner = body_of k.routine turns callee ps at0 locked

    pub inner_good : (s : Store) → HoldsAt e0 k.entry (numbers_of s) → Good C inner s (Left s)
    inner_good s h =
        good_first C (arrays_bound k.routine.dummies ps k.routine.names at0) _ s (Left s) (λ i.
        arrays_leads k.routine.names at0 s i k.routine.dummies ps at0 _ sane.distinct (λ at made. statements_good at made s h))

    -- the places of the entry
    pub entry_places : (s : Store) (i : List Content) → (v : ℕ) → (first_places inner s i at0 v).first ≡ (at0 v).first
    entry_places s i =
        first_steps (λ at. (v : ℕ) → (at v).first ≡ (at0 v).first) (arrays_bound k.routine.dummies ps k.routine.names at0) _ s i at0 (λ v. refl)
        (arrays_leads k.routine.names at0 s i k.routine.dummies ps at0 _ sane.distinct (λ at made. first_list body sc at at0 (lock_doubly locked k.routine.dummies at k.routine.common) turns s i (λ a. (v : ℕ) → (a v).first ≡ (at0 v).first) (first_same at made) (λ v. refl)))

    -- ---- its call

    abbrev inside : Plan
    inside = forget_all k.routine.locals inner

    same_numbers : (s z : Store) → ((u : ℕ) → (s u).number ≡ (z u).number) → numbers_of s ≡ numbers_of z
    same_numbers s z e = λ i u. e u i

    inside_good : (z : Store) → HoldsAt e0 k.entry (numbers_of z) → Good C inside z (Left z)
    inside_good z h =
        good_forget_all C k.routine.locals inner z (Left z) (λ s e.
        good_more C inner s (Left s) (Left z) (λ f y d. subst (λ x. LeftFrom x f y) (same_numbers s z e) d)
        (inner_good s (subst (λ x. HoldsAt e0 k.entry x) (sym (same_numbers s z e)) h)))

    normal_left : (z : Store) (f : Flow) (y : Store) → Left z f y → is_normal 0 f ≡ true → Does (outside k.scope.symbols e0) (summary cs k) (numbers_of z) (numbers_of y)
    normal_left z Normal y d n = d.0
    normal_left z (Jump l) y d n = absurd d
    normal_left z Returned y d n = d.0
    normal_left z Stopped y d n = absurd (true≢false (sym n))

    entry_claim : (z : Store) → HoldsAt e0 k.entry (numbers_of z) → (i : List Content) → C (spot k.routine.name 0) (first_places inside z i at0) z (run_of inside z i)
    entry_claim z h i =
        entries ps (first_places inside z i at0) z (run_of inside z i) (first_forget (λ at. (v : ℕ) → (at v).first ≡ (at0 v).first) k.routine.locals inner z i at0 (λ s. entry_places s i)) h
        (more (run_of inside z i) (λ f y j. Left z f y) (λ f y j. is_normal 0 f ≡ true → Does (outside k.scope.symbols e0) (summary cs k) (numbers_of z) (numbers_of y)) (λ f y j d n. normal_left z f y d n) ((inside_good z h).ending i))

    pub meaning_good : (z : Store) → HoldsAt e0 k.entry (numbers_of z) → Good C (called k.routine turns callee ps locked) z (CallEnded b cs k ps locked z)
    meaning_good z h =
        good_within C (spot k.routine.name 0) at0 inside (after_call k.routine.locals) z (CallEnded b cs k ps locked z) (entry_claim z h)
        (good_more C inside z (Left z) (λ f y. Good C (after_call k.routine.locals f) y (CallEnded b cs k ps locked z)) next (inside_good z h))
      where
        leave : (y : Store) → Gone (numbers_of z) (numbers_of y) → Good C (forget_all k.routine.locals (Ends Normal)) y (CallEnded b cs k ps locked z)
        leave y d = good_forget_all C k.routine.locals (Ends Normal) y (CallEnded b cs k ps locked z) (λ w e. good_ends C Normal w (CallEnded b cs k ps locked z) (subst (λ x. Gone (numbers_of z) x) (sym (same_numbers w y e)) d))

        next : (f : Flow) (y : Store) → Left z f y → Good C (after_call k.routine.locals f) y (CallEnded b cs k ps locked z)
        next Normal y d = leave y d
        next (Jump l) y d = absurd d
        next Returned y d = leave y d
        next Stopped y d = good_ends C Stopped y (CallEnded b cs k ps locked z) tt

    -- the main program arrives at its entry, and its locals stay
    pub main_good : (z : Store) → HoldsAt e0 k.entry (numbers_of z) → Good C (Within (spot k.routine.name 0) at0 inner (λ f. Ends f)) z (λ f y. Unit {0})
    main_good z h =
        good_within C (spot k.routine.name 0) at0 inner (λ f. Ends f) z (λ f y. Unit {0})
        (λ i. entries ps (first_places inner z i at0) z (run_of inner z i) (entry_places z i) h
        (more (run_of inner z i) (λ f y j. Left z f y) (λ f y j. is_normal 0 f ≡ true → Does (outside k.scope.symbols e0) (summary cs k) (numbers_of z) (numbers_of y)) (λ f y j d n. normal_left z f y d n) ((inner_good z h).ending i)))
        (good_more C inner z (Left z) (λ f y. Good C (Ends f) y (λ g w. Unit {0})) (λ f y d. good_ends C f y (λ g w. Unit {0}) tt) (inner_good z h))
