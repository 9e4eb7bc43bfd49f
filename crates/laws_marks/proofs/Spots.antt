-- Where statements are executed in a plan, and where the variables of their modules lie there. A CALL executes statements of the called module, and of modules that stand behind it.
use Rattle.std.proofs.Common.{ℕ, zero, suc, List, [], ◌∷◌, Option, Bool, true, false, ℤ, ◌+ℤ◌, bytes_eq}
use Rattle.std.specs.Prelude.{if◌then◌else◌}
use Rattle.f77_ast.specs.Trees.{ExprTrees, StmtTree, WhatTree, ArmTree, ArmTrees, ElseTree, LoopTree, StmtTrees}
use Rattle.f77_ast.specs.Trees as tree
use Rattle.f77_ast.specs.Store.{Int, Content, Store, content, put, undefined}
use Rattle.f77_ast.specs.Faults.{Locked}
use Rattle.f77_ast.specs.Steps.{Spot, OutOfTurns, Steps}
use Rattle.f77_ast.specs.Steps as steps
use Rattle.f77_ast.specs.Numbers.{is_true, kept}
use Rattle.f77_ast.specs.Runs.{first_of, rest_of}
use Rattle.f77_ast.specs.Places.{Names, Place, Places}
use Rattle.f77_ast.specs.Values.{given, value, all_shown, name_target}
use Rattle.f77_ast.specs.Writes.{Locks, no_locks, write, assigned, items_read, lock}
use Rattle.f77_ast.specs.Plans.{Flow, Normal, Jump, Returned, Stopped, Plan, ◌▹◌, first, on_normal, steps_of}
use Rattle.f77_ast.specs.Plans as plan
use Rattle.f77_ast.specs.Executions.{run_of}
use Rattle.f77_ast.specs.Lists.{Part, is_label, has_label, from_label, go_on, in_order, with_jumps, list_plan}
use Rattle.f77_ast.specs.Loops.{range_of, iteration_count, iterations_from}
use Rattle.f77_ast.specs.Calls.{actuals, places_of, own_units, lock_own, forget_all, after_call, scalars_bound, arrays_bound, lock_doubly}
use Rattle.f77_ast.specs.Statements.{Scope, spot, statement_plan, execution, arms_plan, arm_plan, else_plan, do_plan, parts, body_plan}
use Rattle.f77_ast.specs.Programs.{Routine, Program, scope, body_of, called, meanings, program_plan}
use Rattle.f77_ast.proofs.StepLaws.{leads_true}
use Rattle.laws_analyses.proofs.Statements.Ends.{more}
use Rattle.laws_interleavings.proofs.Plans.Fine.{Yields, yields_any}
use Rattle.fx_lists.proofs.Every.{Anything}
use Rattle.laws_marks.specs.ConflictExecutions.{Execution, AtEachExecution}

module _ (B : Spot → Places → Type 0) where
  -- of each statement that is executed
  abbrev pub SpotsIn : Plan → Type 0
  SpotsIn (plan.Ends f) = Unit {0}
  SpotsIn (plan.Breaks b) = Unit {0}
  SpotsIn (plan.Look u k) = (c : Content) → SpotsIn (k c)
  SpotsIn (plan.Set u c t) = SpotsIn t
  SpotsIn (plan.Hold u c t) = SpotsIn t
  SpotsIn (plan.Forget u t) = SpotsIn t
  SpotsIn (plan.Show xs t) = SpotsIn t
  SpotsIn (plan.Take k) = (o : Option Content) → SpotsIn (k o)
  SpotsIn (plan.Within p at t k) = B p at × SpotsIn t × ((f : Flow) → SpotsIn (k f))

  -- then what holds of each such execution holds of all in the plan
  pub at_spots : (C : Execution → Type 0) → ((x : Execution) → B x.spot x.places → C x) → (t : Plan) → SpotsIn t → (s : Store) (i : List Content) → AtEachExecution C t s i
  at_spots C m (plan.Ends f) h s i = tt
  at_spots C m (plan.Breaks b) h s i = tt
  at_spots C m (plan.Look u k) h s i = at_spots C m (k (s u)) (h (s u)) s i
  at_spots C m (plan.Set u c t) h s i = at_spots C m t h (put s u c) i
  at_spots C m (plan.Hold u c t) h s i = at_spots C m t h (put s u c) i
  at_spots C m (plan.Forget u t) h s i = at_spots C m t h (put s u (undefined (s u))) i
  at_spots C m (plan.Show xs t) h s i = at_spots C m t h s i
  at_spots C m (plan.Take k) h s i = at_spots C m (k (first_of i)) (h (first_of i)) s (rest_of i)
  at_spots C m (plan.Within p at t k) h s i = (
    m (record { spot = p; places = at; does = t; start = s; input = i }) h.0,
    at_spots C m t h.1 s i,
    more (run_of t s i) (λ f z j. Unit {0}) (λ f z j. AtEachExecution C (k f) z j) (λ f z j u. at_spots C m (k f) (h.2 f) z j) (leads_true (steps_of t) s i),
  )

  spots_then : (t : Plan) (k : Flow → Plan) → SpotsIn t → ((f : Flow) → SpotsIn (k f)) → SpotsIn (t ▹ k)
  spots_then (plan.Ends g) k h n = n g
  spots_then (plan.Breaks b) k h n = tt
  spots_then (plan.Look u t) k h n = λ c. spots_then (t c) k (h c) n
  spots_then (plan.Set u c t) k h n = spots_then t k h n
  spots_then (plan.Hold u c t) k h n = spots_then t k h n
  spots_then (plan.Forget u t) k h n = spots_then t k h n
  spots_then (plan.Show xs t) k h n = spots_then t k h n
  spots_then (plan.Take t) k h n = λ o. spots_then (t o) k (h o) n
  spots_then (plan.Within p at t w) k h n = (h.0, h.1, λ f. spots_then (w f) k (h.2 f) n)

  spots_first : {A : Type 0} (t : Steps A) (f : A → Plan) → ((a : A) → SpotsIn (f a)) → SpotsIn (first t f)
  spots_first (steps.Done a) f h = h a
  spots_first (steps.Breaks b) f h = tt
  spots_first (steps.Look u k) f h = λ c. spots_first (k c) f h
  spots_first (steps.Set u c t) f h = spots_first t f h
  spots_first (steps.Hold u c t) f h = spots_first t f h
  spots_first (steps.Forget u t) f h = spots_first t f h
  spots_first (steps.Show xs t) f h = spots_first t f h
  spots_first (steps.Take k) f h = λ o. spots_first (k o) f h
  spots_first (steps.Arrive p t) f h = spots_first t f h

  pub spots_with : {A : Type 0} (P : A → Type 0) (t : Steps A) (f : A → Plan) → Yields P t → ((a : A) → P a → SpotsIn (f a)) → SpotsIn (first t f)
  spots_with P (steps.Done a) f y h = h a y
  spots_with P (steps.Breaks b) f y h = tt
  spots_with P (steps.Look u k) f y h = λ c. spots_with P (k c) f (y c) h
  spots_with P (steps.Set u c t) f y h = spots_with P t f y h
  spots_with P (steps.Hold u c t) f y h = spots_with P t f y h
  spots_with P (steps.Forget u t) f y h = spots_with P t f y h
  spots_with P (steps.Show xs t) f y h = spots_with P t f y h
  spots_with P (steps.Take k) f y h = λ o. spots_with P (k o) f (y o) h
  spots_with P (steps.Arrive p t) f y h = spots_with P t f y h

  spots_if : (b : Bool) (t z : Plan) → SpotsIn t → SpotsIn z → SpotsIn (if b then t else z)
  spots_if true t z h g = h
  spots_if false t z h g = g

  pub spots_forget : (us : List ℕ) (t : Plan) → SpotsIn t → SpotsIn (forget_all us t)
  spots_forget [] t h = h
  spots_forget (u ∷ us) t h = spots_forget us t h

  pub spots_after : (us : List ℕ) (f : Flow) → SpotsIn (after_call us f)
  spots_after us Normal = spots_forget us (plan.Ends Normal) tt
  spots_after us (Jump l) = tt
  spots_after us Returned = spots_forget us (plan.Ends Normal) tt
  spots_after us Stopped = tt

  -- ---- lists

  abbrev PartsIn : List Part → Type 0
  PartsIn [] = Unit {0}
  PartsIn (q ∷ qs) = SpotsIn q.does × PartsIn qs

  from_in : (l : ℕ) (qs : List Part) → PartsIn qs → PartsIn (from_label l qs)
  from_in l [] h = tt
  from_in l (q ∷ qs) h = go (is_label l q.label) (from_in l qs h.1)
    where
      go : (b : Bool) → PartsIn (from_label l qs) → PartsIn (if b then q ∷ qs else from_label l qs)
      go true ih = h
      go false ih = ih

  go_on_in : (jump : ℕ → Plan) (all : List Part) (rest : Plan) → ((l : ℕ) → SpotsIn (jump l)) → SpotsIn rest → (f : Flow) → SpotsIn (go_on jump all rest f)
  go_on_in jump all rest j h Normal = h
  go_on_in jump all rest j h (Jump l) = spots_if (has_label l all) (jump l) (plan.Ends (Jump l)) (j l) tt
  go_on_in jump all rest j h Returned = tt
  go_on_in jump all rest j h Stopped = tt

  order_in : (jump : ℕ → Plan) (all qs : List Part) → ((l : ℕ) → SpotsIn (jump l)) → PartsIn qs → SpotsIn (in_order jump all qs)
  order_in jump all [] j h = tt
  order_in jump all (q ∷ qs) j h = spots_then q.does (go_on jump all (in_order jump all qs)) h.0 (go_on_in jump all (in_order jump all qs) j (order_in jump all qs j h.1))

  jumps_in : (n : ℕ) (all qs : List Part) → PartsIn all → PartsIn qs → SpotsIn (with_jumps n all qs)
  jumps_in zero all qs a h = order_in (λ l. plan.Breaks OutOfTurns) all qs (λ l. tt) h
  jumps_in (suc n) all qs a h = order_in (λ l. with_jumps n all (from_label l all)) all qs (λ l. jumps_in n all (from_label l all) a (from_in l all a)) h

  list_in : (turns : ℕ) (qs : List Part) → PartsIn qs → SpotsIn (list_plan turns qs)
  list_in turns qs h = jumps_in turns qs qs h h

  normal_in : (f : Flow) (t : Plan) → SpotsIn t → SpotsIn (on_normal f t)
  normal_in Normal t h = h
  normal_in (Jump l) t h = tt
  normal_in Returned t h = tt
  normal_in Stopped t h = tt

  iterations_in : (k : ℕ) (n step : ℤ) (u : ℕ) (body : Plan) → SpotsIn body → SpotsIn (iterations_from k n step u body)
  iterations_in zero n step u body h = tt
  iterations_in (suc k) n step u body h =
      spots_then body (λ f. on_normal f (first (given Int (kept (n +ℤ step))) (λ c. plan.Set u c (iterations_from k c.number step u body)))) h
      (λ f. normal_in f (first (given Int (kept (n +ℤ step))) (λ c. plan.Set u c (iterations_from k c.number step u body))) (spots_first (given Int (kept (n +ℤ step))) (λ c. plan.Set u c (iterations_from k c.number step u body)) (λ c. iterations_in k c.number step u body h)))

  -- ---- statements

  -- what is called is called with such places
  module _ (R : List Place → Type 0) (sc : Scope) (at : Places) (here : (n : ℕ) → B (spot sc.module_name n) at) (callee : (x : List ℕ) (ps : List Place) (locked : Locks) → R ps → SpotsIn (sc.callee x ps locked))
      (passed : (n : ℕ) (es : ExprTrees) → Yields (λ xs. R (places_of xs)) (actuals es 0 sc.names at (sc.own_unit n))) where
    mutual
      stmt_in : (s : StmtTree) (locked : Locks) → SpotsIn (statement_plan s sc at locked)
      stmt_in (tree.stmt n label w) locked = (here n, what_in w n locked, λ f. tt)

      what_in : (w : WhatTree) (n : ℕ) (locked : Locks) → SpotsIn (execution w n sc at locked)
      what_in (tree.assign a b) n locked = spots_first (assigned a b sc.names at locked) (λ o. plan.Ends Normal) (λ o. tt)
      what_in (tree.block_if arms rest) n locked = arms_in arms (else_plan rest sc at locked) locked (else_in rest locked)
      what_in (tree.logical_if test s) n locked = spots_first (value test sc.names at) _ (λ c. spots_if (is_true c.number) (statement_plan s sc at locked) (plan.Ends Normal) (stmt_in s locked) tt)
      what_in (tree.do_loop l) n locked = do_in l locked
      what_in (tree.call x es) n locked =
          spots_with (λ xs. R (places_of xs)) (actuals es 0 sc.names at (sc.own_unit n)) (λ xs. sc.callee x (places_of xs) (lock_own locked (own_units xs)) ▹ after_call (own_units xs)) (passed n es)
          (λ xs r. spots_then (sc.callee x (places_of xs) (lock_own locked (own_units xs))) (after_call (own_units xs)) (callee x (places_of xs) (lock_own locked (own_units xs)) r) (spots_after (own_units xs)))
      what_in (tree.goto l) n locked = tt
      what_in tree.continue n locked = tt
      what_in tree.return n locked = tt
      what_in (tree.stop text) n locked = tt
      what_in (tree.print es) n locked = spots_first (all_shown es sc.names at) (λ xs. plan.Show xs (plan.Ends Normal)) (λ xs. tt)
      what_in (tree.read es) n locked = spots_first (items_read es sc.names at locked) (λ o. plan.Ends Normal) (λ o. tt)

      arms_in : (arms : ArmTrees) (rest : Plan) (locked : Locks) → SpotsIn rest → SpotsIn (arms_plan arms sc at locked rest)
      arms_in tree.no_arms rest locked h = h
      arms_in (tree.more_arms a as') rest locked h = arm_in a (arms_plan as' sc at locked rest) locked (arms_in as' rest locked h)

      arm_in : (a : ArmTree) (rest : Plan) (locked : Locks) → SpotsIn rest → SpotsIn (arm_plan a sc at locked rest)
      arm_in (tree.arm test body) rest locked h = spots_first (value test sc.names at) _ (λ c. spots_if (is_true c.number) (list_plan sc.turns (parts body sc at locked)) rest (list_in sc.turns (parts body sc at locked) (parts_in body locked)) h)

      else_in : (o : ElseTree) (locked : Locks) → SpotsIn (else_plan o sc at locked)
      else_in tree.no_else locked = tt
      else_in (tree.otherwise body) locked = list_in sc.turns (parts body sc at locked) (parts_in body locked)

      do_in : (l : LoopTree) (locked : Locks) → SpotsIn (do_plan l sc at locked)
      do_in (tree.loop index e1 e2 e3 body) locked =
          spots_first (range_of e1 e2 e3 sc.names at) _ (λ r. spots_first (name_target (sc.names index) at) _ (λ t. spots_first (write locked t.unit (content Int r.from)) _
          (λ o. iterations_in (iteration_count r.from r.last r.step) r.from r.step t.unit (list_plan sc.turns (parts body sc at (lock locked t.unit Locked))) (list_in sc.turns (parts body sc at (lock locked t.unit Locked)) (parts_in body (lock locked t.unit Locked))))))

      parts_in : (ss : StmtTrees) (locked : Locks) → PartsIn (parts ss sc at locked)
      parts_in tree.no_stmts locked = tt
      parts_in (tree.more_stmts s ss) locked = (stmt_in s locked, parts_in ss locked)

    pub body_in : (ss : StmtTrees) (locked : Locks) → SpotsIn (body_plan ss sc at locked)
    body_in ss locked = list_in sc.turns (parts ss sc at locked) (parts_in ss locked)

-- what holds of them may be weakened
pub spots_more : (B C : Spot → Places → Type 0) → ((p : Spot) (at : Places) → B p at → C p at) → (t : Plan) → SpotsIn B t → SpotsIn C t
spots_more B C m (plan.Ends f) h = tt
spots_more B C m (plan.Breaks b) h = tt
spots_more B C m (plan.Look u k) h = λ c. spots_more B C m (k c) (h c)
spots_more B C m (plan.Set u c t) h = spots_more B C m t h
spots_more B C m (plan.Hold u c t) h = spots_more B C m t h
spots_more B C m (plan.Forget u t) h = spots_more B C m t h
spots_more B C m (plan.Show xs t) h = spots_more B C m t h
spots_more B C m (plan.Take k) h = λ o. spots_more B C m (k o) (h o)
spots_more B C m (plan.Within p at t k) h = (m p at h.0, spots_more B C m t h.1, λ f. spots_more B C m (k f) (h.2 f))

-- ---- modules

module _ (B : List ℕ → Type 0) where
  -- statements of such modules alone
  abbrev pub InModules : Spot → Places → Type 0
  InModules p at = B p.module_name

  -- the names of all of them are such
  abbrev pub AllNamed : List Routine → Type 0
  AllNamed [] = Unit {0}
  AllNamed (r ∷ rs) = B r.name × AllNamed rs

  module _ (turns : ℕ) where
    any_places : (es : ExprTrees) (w : Names) (at : Places) (own : ℕ → ℕ) → Yields (λ xs. Anything {A = List Place} (places_of xs)) (actuals es 0 w at own)
    any_places es w at own = yields_any (actuals es 0 w at own)

    statements_in : (r : Routine) (rs : List Routine) → B r.name → ((x : List ℕ) (ps : List Place) (locked : Locks) → SpotsIn InModules (meanings rs turns x ps locked)) → (at : Places) (locked : Locks) → SpotsIn InModules (body_plan r.body (scope r turns (meanings rs turns)) at locked)
    statements_in r rs here callee at locked =
        body_in InModules Anything (scope r turns (meanings rs turns)) at (λ n. here) (λ x ps l h. callee x ps l) (λ n es. any_places es r.names at (r.own_unit n)) r.body locked

    called_in : (r : Routine) (rs : List Routine) → B r.name → ((x : List ℕ) (ps : List Place) (locked : Locks) → SpotsIn InModules (meanings rs turns x ps locked)) → (ps : List Place) (locked : Locks) → SpotsIn InModules (called r turns (meanings rs turns) ps locked)
    called_in r rs here callee ps locked =
        let at = scalars_bound r.dummies ps r.fixed in (
          here,
          spots_forget InModules r.locals (body_of r turns (meanings rs turns) ps at locked)
              (spots_first InModules (arrays_bound r.dummies ps r.names at) (λ at'. body_plan r.body (scope r turns (meanings rs turns)) at' (lock_doubly locked r.dummies at' r.common)) (λ at'. statements_in r rs here callee at' (lock_doubly locked r.dummies at' r.common))),
          spots_after InModules r.locals,
        )

    pub meanings_in : (rs : List Routine) → AllNamed rs → (x : List ℕ) (ps : List Place) (locked : Locks) → SpotsIn InModules (meanings rs turns x ps locked)
    meanings_in [] h x ps locked = tt
    meanings_in (r ∷ rs) h x ps locked = go (bytes_eq x r.name) (meanings_in rs h.1)
      where
        go : (b : Bool) → ((y : List ℕ) (qs : List Place) (l : Locks) → SpotsIn InModules (meanings rs turns y qs l)) → SpotsIn InModules ((if b then called r turns (meanings rs turns) else meanings rs turns x) ps locked)
        go true ih = called_in r rs h.0 ih ps locked
        go false ih = ih x ps locked

    pub program_in : (p : Program) → B p.main.name → AllNamed p.others → SpotsIn InModules (program_plan p turns)
    program_in p here h =
        let r = p.main in (
          here,
          spots_first InModules (arrays_bound r.dummies [] r.names r.fixed) (λ at'. body_plan r.body (scope r turns (meanings p.others turns)) at' (lock_doubly no_locks r.dummies at' r.common)) (λ at'. statements_in r p.others here (meanings_in p.others h) at' (lock_doubly no_locks r.dummies at' r.common)),
          λ f. tt,
        )
