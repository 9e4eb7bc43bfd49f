-- How plans end: a GO TO leads out of a statement only where the statement has such, and out of no module.
use Rattle.std.proofs.Common.{◌≡◌, ℕ, zero, suc, List, [], ◌∷◌, Bool, true, false, refl, sym, ap, ◌∙◌, nat_eq, true≢false, ℤ, ◌+ℤ◌, bytes_eq}
use Rattle.std.specs.Prelude.{if◌then◌else◌}
use Rattle.std.proofs.lemmas.Bool.{or_left, or_right, eq-eqb}
use Rattle.f77_ast.specs.Trees.{StmtTree, WhatTree, ArmTree, ArmTrees, ElseTree, LoopTree, StmtTrees}
use Rattle.f77_ast.specs.Trees as tree
use Rattle.f77_ast.specs.Store.{Int, Content, Store, content, put, undefined}
use Rattle.f77_ast.specs.Faults.{Locked}
use Rattle.f77_ast.specs.Steps.{OutOfTurns, Steps, ◌>>=◌}
use Rattle.f77_ast.specs.Numbers.{is_true, kept}
use Rattle.f77_ast.specs.Runs.{Whole, run}
use Rattle.f77_ast.specs.Places.{Places}
use Rattle.f77_ast.specs.Values.{given, value, all_shown, name_target}
use Rattle.f77_ast.specs.Writes.{Locks, write, assigned, items_read, lock}
use Rattle.f77_ast.specs.Plans.{Flow, Normal, Jump, Returned, Stopped, Plan, Ends, Breaks, Set, ◌▹◌, first, on_normal, steps_of}
use Rattle.f77_ast.specs.Executions.{run_of, AtEndOf}
use Rattle.f77_ast.specs.Lists.{Part, is_label, has_label, from_label, go_on, in_order, with_jumps, list_plan}
use Rattle.f77_ast.specs.Loops.{range_of, iteration_count, iterations_from}
use Rattle.f77_ast.specs.Calls.{actuals, places_of, own_units, lock_own, forget_all, after_call, scalars_bound, arrays_bound, lock_doubly}
use Rattle.f77_ast.specs.Statements.{Scope, statement_plan, execution, arms_plan, arm_plan, else_plan, do_plan, parts, body_plan}
use Rattle.f77_ast.specs.Programs.{Routine, scope, body_of, called, meanings}
use Rattle.f77_ast.proofs.StepLaws.{Leads, leads_then, first_leads, leads_true}
use Rattle.laws_analyses.specs.Statements.Leads.{stmt_leads, what_leads, each_leads, arms_lead, arm_leads, else_leads, loop_leads, list_leads, StaysIn}
use Rattle.laws_analyses.proofs.Statements.Ends.{more, ends_then}
use Rattle.laws_analyses.proofs.Statements.Rows.{labelled}
use Rattle.laws_interleavings.specs.Plans.Cleared.{IsNoJump, EndsWell, AllEnd}

-- ---- ends of plans

-- whatever the store and the input are
abbrev pub Flows : (Flow → Type 0) → Plan → Type 0
Flows P t = (s : Store) (i : List Content) → AtEndOf (run_of t s i) (λ f z j. P f)

flows_more : (P Q : Flow → Type 0) (t : Plan) → ((f : Flow) → P f → Q f) → Flows P t → Flows Q t
flows_more P Q t m h s i = more (run_of t s i) (λ f z j. P f) (λ f z j. Q f) (λ f z j p. m f p) (h s i)

flows_then : (P Q : Flow → Type 0) (t : Plan) (k : Flow → Plan) → Flows P t → ((f : Flow) → P f → Flows Q (k f)) → Flows Q (t ▹ k)
flows_then P Q t k h n s i = ends_then t k s i (λ f z j. Q f) (more (run_of t s i) (λ f z j. P f) (λ f z j. AtEndOf (run_of (k f) z j) (λ g y l. Q g)) (λ f z j p. n f p z j) (h s i))

flows_within : (P Q : Flow → Type 0) (t : Plan) (k : Flow → Plan) → Flows P t → ((f : Flow) → P f → Flows Q (k f)) → (s : Store) (i : List Content) → Leads (steps_of t >>= λ f. steps_of (k f)) s i (λ f z j. Q f)
flows_within P Q t k h n s i = leads_then (steps_of t) (λ f. steps_of (k f)) s i (λ f z j. Q f) (more (run_of t s i) (λ f z j. P f) (λ f z j. AtEndOf (run_of (k f) z j) (λ g y l. Q g)) (λ f z j p. n f p z j) (h s i))

flows_first : {A : Type 0} (Q : Flow → Type 0) (t : Steps A) (f : A → Plan) → ((a : A) → Flows Q (f a)) → Flows Q (first t f)
flows_first Q t f h s i = first_leads t f s i (λ g z j. Q g) (more (run t (Whole s) i) (λ a z j. Unit {0}) (λ a z j. AtEndOf (run_of (f a) z j) (λ g y l. Q g)) (λ a z j u. h a z j) (leads_true t s i))

flows_if : (Q : Flow → Type 0) (b : Bool) (t z : Plan) → Flows Q t → Flows Q z → Flows Q (if b then t else z)
flows_if Q true t z h g = h
flows_if Q false t z h g = g

flows_forget : (Q : Flow → Type 0) (us : List ℕ) (t : Plan) → Flows Q t → Flows Q (forget_all us t)
flows_forget Q [] t h = h
flows_forget Q (u ∷ us) t h = λ s i. flows_forget Q us t h (put s u (undefined (s u))) i

-- ---- GO TOs that lead out

-- by a GO TO only to such a label
abbrev Out : (ℕ → Bool) → Flow → Type 0
Out f Normal = Unit {0}
Out f (Jump l) = f l ≡ true
Out f Returned = Unit {0}
Out f Stopped = Unit {0}

out_more : (f g : ℕ → Bool) → ((l : ℕ) → f l ≡ true → g l ≡ true) → (w : Flow) → Out f w → Out g w
out_more f g m Normal h = tt
out_more f g m (Jump l) h = m l h
out_more f g m Returned h = tt
out_more f g m Stopped h = tt

wider : (f g : ℕ → Bool) (t : Plan) → ((l : ℕ) → f l ≡ true → g l ≡ true) → Flows (Out f) t → Flows (Out g) t
wider f g t m h = flows_more (Out f) (Out g) t (out_more f g m) h

-- ---- lists

abbrev PartsOut : (ℕ → Bool) → List Part → Type 0
PartsOut f [] = Unit {0}
PartsOut f (q ∷ qs) = Flows (Out f) q.does × PartsOut f qs

from_out : (f : ℕ → Bool) (l : ℕ) (qs : List Part) → PartsOut f qs → PartsOut f (from_label l qs)
from_out f l [] h = tt
from_out f l (q ∷ qs) h = go (is_label l q.label) (from_out f l qs h.1)
  where
    go : (b : Bool) → PartsOut f (from_label l qs) → PartsOut f (if b then q ∷ qs else from_label l qs)
    go true ih = h
    go false ih = ih

module _ (f g : ℕ → Bool) (all : List Part) (m : (l : ℕ) → has_label l all ≡ false → f l ≡ true → g l ≡ true) where
  goes_on : (jump : ℕ → Plan) (rest : Plan) → ((l : ℕ) → Flows (Out g) (jump l)) → Flows (Out g) rest → (w : Flow) → Out f w → Flows (Out g) (go_on jump all rest w)
  goes_on jump rest j h Normal o = h
  goes_on jump rest j h (Jump l) o = go (has_label l all) refl
    where
      go : (b : Bool) → has_label l all ≡ b → Flows (Out g) (if b then jump l else Ends (Jump l))
      go true e = j l
      go false e = λ s i. m l e o
  goes_on jump rest j h Returned o = λ s i. tt
  goes_on jump rest j h Stopped o = λ s i. tt

  order_out : (jump : ℕ → Plan) → ((l : ℕ) → Flows (Out g) (jump l)) → (qs : List Part) → PartsOut f qs → Flows (Out g) (in_order jump all qs)
  order_out jump j [] h = λ s i. tt
  order_out jump j (q ∷ qs) h = flows_then (Out f) (Out g) q.does (go_on jump all (in_order jump all qs)) h.0 (goes_on jump (in_order jump all qs) j (order_out jump j qs h.1))

  jumps_out : PartsOut f all → (n : ℕ) (qs : List Part) → PartsOut f qs → Flows (Out g) (with_jumps n all qs)
  jumps_out a zero qs h = order_out (λ l. Breaks OutOfTurns) (λ l s i. tt) qs h
  jumps_out a (suc n) qs h = order_out (λ l. with_jumps n all (from_label l all)) (λ l. jumps_out a n (from_label l all) (from_out f l all a)) qs h

-- ---- iterations

module _ (g : ℕ → Bool) (step : ℤ) (u : ℕ) (body : Plan) (h : Flows (Out g) body) where
  iterations_out : (k : ℕ) (n : ℤ) → Flows (Out g) (iterations_from k n step u body)
  iterations_out zero n = λ s i. tt
  iterations_out (suc k) n = flows_then (Out g) (Out g) body (λ w. on_normal w (first (given Int (kept (n +ℤ step))) (λ c. Set u c (iterations_from k c.number step u body)))) h (λ w o. next w o (λ c. iterations_out k c.number))
    where
      next : (w : Flow) → Out g w → ((c : Content) → Flows (Out g) (iterations_from k c.number step u body)) → Flows (Out g) (on_normal w (first (given Int (kept (n +ℤ step))) (λ c. Set u c (iterations_from k c.number step u body))))
      next Normal o ih = flows_first (Out g) (given Int (kept (n +ℤ step))) (λ c. Set u c (iterations_from k c.number step u body)) (λ c s i. ih c (put s u c) i)
      next (Jump l) o ih = λ s i. o
      next Returned o ih = λ s i. tt
      next Stopped o ih = λ s i. tt

-- ---- calls

after_out : (Q : Flow → Type 0) → Q Normal → Q Stopped → (us : List ℕ) (w : Flow) → IsNoJump w → Flows Q (after_call us w)
after_out Q n s us Normal h = flows_forget Q us (Ends Normal) (λ z i. n)
after_out Q n s us (Jump l) h = absurd h
after_out Q n s us Returned h = flows_forget Q us (Ends Normal) (λ z i. n)
after_out Q n s us Stopped h = λ z i. s

-- ---- statements

module _ (sc : Scope) (well : (x : List ℕ) → EndsWell (sc.callee x)) (at : Places) where
  -- a list, of whose statements this is known
  list_from : (ss : StmtTrees) (locked : Locks) → PartsOut (λ l. each_leads ss (l ∷ [])) (parts ss sc at locked) → Flows (Out (λ l. list_leads ss (l ∷ []))) (list_plan sc.turns (parts ss sc at locked))
  list_from ss locked h = jumps_out (λ l. each_leads ss (l ∷ [])) (λ l. list_leads ss (l ∷ [])) (parts ss sc at locked) leaves h sc.turns (parts ss sc at locked) h
    where
      leaves : (l : ℕ) → has_label l (parts ss sc at locked) ≡ false → each_leads ss (l ∷ []) ≡ true → list_leads ss (l ∷ []) ≡ true
      leaves l e q = ap (λ b. each_leads ss (if b then [] else l ∷ [])) (sym (labelled l ss sc at locked) ∙ e) ∙ q

  mutual
    stmt_out : (s : StmtTree) (locked : Locks) → Flows (Out (λ l. stmt_leads s (l ∷ []))) (statement_plan s sc at locked)
    stmt_out (tree.stmt n label w) locked = flows_within (Out (λ l. what_leads w (l ∷ []))) (Out (λ l. what_leads w (l ∷ []))) (execution w n sc at locked) (λ f. Ends f) (what_out w n locked) (λ f o s i. o)

    what_out : (w : WhatTree) (n : ℕ) (locked : Locks) → Flows (Out (λ l. what_leads w (l ∷ []))) (execution w n sc at locked)
    what_out (tree.assign a b) n locked = flows_first (Out (λ l. false)) (assigned a b sc.names at locked) (λ o. Ends Normal) (λ o s i. tt)
    what_out (tree.block_if arms rest) n locked =
        arms_out arms (else_plan rest sc at locked) locked (λ l. what_leads (tree.block_if arms rest) (l ∷ [])) (λ l e. or_left (arms_lead arms (l ∷ [])) (else_leads rest (l ∷ [])) e)
        (wider (λ l. else_leads rest (l ∷ [])) (λ l. what_leads (tree.block_if arms rest) (l ∷ [])) (else_plan rest sc at locked) (λ l e. or_right (arms_lead arms (l ∷ [])) (else_leads rest (l ∷ [])) e) (else_out rest locked))
    what_out (tree.logical_if test s) n locked = flows_first (Out (λ l. stmt_leads s (l ∷ []))) (value test sc.names at) _ (λ c. flows_if (Out (λ l. stmt_leads s (l ∷ []))) (is_true c.number) (statement_plan s sc at locked) (Ends Normal) (stmt_out s locked) (λ s i. tt))
    what_out (tree.do_loop l) n locked = do_out l locked
    what_out (tree.call x es) n locked =
        flows_first (Out (λ l. false)) (actuals es 0 sc.names at (sc.own_unit n)) (λ xs. sc.callee x (places_of xs) (lock_own locked (own_units xs)) ▹ after_call (own_units xs))
        (λ xs. flows_then IsNoJump (Out (λ l. false)) (sc.callee x (places_of xs) (lock_own locked (own_units xs))) (after_call (own_units xs)) (well x (places_of xs) (lock_own locked (own_units xs))) (after_out (Out (λ l. false)) tt tt (own_units xs)))
    what_out (tree.goto m) n locked = λ s i. or_left (nat_eq m m) false (eq-eqb m m refl)
    what_out tree.continue n locked = λ s i. tt
    what_out tree.return n locked = λ s i. tt
    what_out (tree.stop text) n locked = λ s i. tt
    what_out (tree.print es) n locked = flows_first (Out (λ l. false)) (all_shown es sc.names at) _ (λ xs s i. tt)
    what_out (tree.read es) n locked = flows_first (Out (λ l. false)) (items_read es sc.names at locked) (λ o. Ends Normal) (λ o s i. tt)

    arms_out : (arms : ArmTrees) (rest : Plan) (locked : Locks) (g : ℕ → Bool) → ((l : ℕ) → arms_lead arms (l ∷ []) ≡ true → g l ≡ true) → Flows (Out g) rest → Flows (Out g) (arms_plan arms sc at locked rest)
    arms_out tree.no_arms rest locked g m h = h
    arms_out (tree.more_arms a as') rest locked g m h =
        arm_out a (arms_plan as' sc at locked rest) locked g (λ l e. m l (or_left (arm_leads a (l ∷ [])) (arms_lead as' (l ∷ [])) e)) (arms_out as' rest locked g (λ l e. m l (or_right (arm_leads a (l ∷ [])) (arms_lead as' (l ∷ [])) e)) h)

    arm_out : (a : ArmTree) (rest : Plan) (locked : Locks) (g : ℕ → Bool) → ((l : ℕ) → arm_leads a (l ∷ []) ≡ true → g l ≡ true) → Flows (Out g) rest → Flows (Out g) (arm_plan a sc at locked rest)
    arm_out (tree.arm test body) rest locked g m h =
        flows_first (Out g) (value test sc.names at) _ (λ c. flows_if (Out g) (is_true c.number) (list_plan sc.turns (parts body sc at locked)) rest (wider (λ l. list_leads body (l ∷ [])) g (list_plan sc.turns (parts body sc at locked)) m (list_from body locked (parts_out body locked (λ l. each_leads body (l ∷ [])) (λ l e. e)))) h)

    else_out : (o : ElseTree) (locked : Locks) → Flows (Out (λ l. else_leads o (l ∷ []))) (else_plan o sc at locked)
    else_out tree.no_else locked = λ s i. tt
    else_out (tree.otherwise body) locked = list_from body locked (parts_out body locked (λ l. each_leads body (l ∷ [])) (λ l e. e))

    do_out : (l : LoopTree) (locked : Locks) → Flows (Out (λ j. loop_leads l (j ∷ []))) (do_plan l sc at locked)
    do_out (tree.loop index e1 e2 e3 body) locked =
        flows_first (Out (λ l. list_leads body (l ∷ []))) (range_of e1 e2 e3 sc.names at) _ (λ r. flows_first (Out (λ l. list_leads body (l ∷ []))) (name_target (sc.names index) at) _ (λ t. flows_first (Out (λ l. list_leads body (l ∷ []))) (write locked t.unit (content Int r.from)) _
        (λ o. iterations_out (λ l. list_leads body (l ∷ [])) r.step t.unit (list_plan sc.turns (parts body sc at (lock locked t.unit Locked))) (list_from body (lock locked t.unit Locked) (parts_out body (lock locked t.unit Locked) (λ l. each_leads body (l ∷ [])) (λ l e. e))) (iteration_count r.from r.last r.step) r.from)))

    parts_out : (ss : StmtTrees) (locked : Locks) (g : ℕ → Bool) → ((l : ℕ) → each_leads ss (l ∷ []) ≡ true → g l ≡ true) → PartsOut g (parts ss sc at locked)
    parts_out tree.no_stmts locked g m = tt
    parts_out (tree.more_stmts s ss) locked g m = (
      wider (λ l. stmt_leads s (l ∷ [])) g (statement_plan s sc at locked) (λ l e. m l (or_left (stmt_leads s (l ∷ [])) (each_leads ss (l ∷ [])) e)) (stmt_out s locked),
      parts_out ss locked g (λ l e. m l (or_right (stmt_leads s (l ∷ [])) (each_leads ss (l ∷ [])) e)),
    )

  body_ends : (ss : StmtTrees) (locked : Locks) → StaysIn ss → Flows IsNoJump (body_plan ss sc at locked)
  body_ends ss locked stays = flows_more (Out (λ l. list_leads ss (l ∷ []))) IsNoJump (body_plan ss sc at locked) none (list_from ss locked (parts_out ss locked (λ l. each_leads ss (l ∷ [])) (λ l e. e)))
    where
      none : (w : Flow) → Out (λ l. list_leads ss (l ∷ [])) w → IsNoJump w
      none Normal o = tt
      none (Jump l) o = true≢false (sym o ∙ stays (l ∷ []))
      none Returned o = tt
      none Stopped o = tt

-- ---- modules

-- every GO TO of each leads to a label of a list around it
abbrev pub AllStay : List Routine → Type 0
AllStay [] = Unit {0}
AllStay (r ∷ rs) = StaysIn r.body × AllStay rs

module _ (turns : ℕ) where
  called_ends : (r : Routine) (rs : List Routine) → StaysIn r.body → ((x : List ℕ) → EndsWell (meanings rs turns x)) → EndsWell (called r turns (meanings rs turns))
  called_ends r rs stays well ps locked s i =
      let at = scalars_bound r.dummies ps r.fixed in
      let sc = scope r turns (meanings rs turns) in
      flows_within IsNoJump IsNoJump (forget_all r.locals (body_of r turns (meanings rs turns) ps at locked)) (after_call r.locals)
      (flows_forget IsNoJump r.locals (body_of r turns (meanings rs turns) ps at locked)
      (flows_first IsNoJump (arrays_bound r.dummies ps r.names at) (λ at'. body_plan r.body sc at' (lock_doubly locked r.dummies at' r.common)) (λ at'. body_ends sc well at' r.body (lock_doubly locked r.dummies at' r.common) stays)))
      (after_out IsNoJump tt tt r.locals) s i

  pub meanings_end : (rs : List Routine) → AllStay rs → (x : List ℕ) → EndsWell (meanings rs turns x)
  meanings_end [] h x = λ ps locked s i. tt
  meanings_end (r ∷ rs) h x = either (called_ends r rs h.0 (meanings_end rs h.1)) (meanings_end rs h.1 x) (bytes_eq x r.name)
    where
      either : EndsWell (called r turns (meanings rs turns)) → EndsWell (meanings rs turns x) → (b : Bool) → EndsWell (if b then called r turns (meanings rs turns) else meanings rs turns x)
      either g k true = g
      either g k false = k

  pub all_end : (rs : List Routine) → AllStay rs → AllEnd turns rs
  all_end [] h = tt
  all_end (r ∷ rs) h = (called_ends r rs h.0 (meanings_end rs h.1), meanings_end rs h.1, all_end rs h.1)
