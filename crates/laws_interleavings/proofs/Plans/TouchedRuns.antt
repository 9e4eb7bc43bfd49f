-- What plans that avoid a unit, and plans that keep numbers in range, do in their runs.
use Rattle.std.proofs.Common.{◌≡◌, ℕ, List, [], ◌∷◌, Option, Some, None, Bool, true, false, ◌||◌, refl, ap, ap₂, ◌∙◌, subst, arith, nat_eq}
use Rattle.std.specs.Prelude.{if◌then◌else◌}
use Rattle.std.proofs.lemmas.Bool.Decides.{nat_tests}
use Rattle.f77_ast.specs.Trees.{ExprTree, ExprTrees, StmtTree, StmtTrees, WhatTree, ArmTree, ArmTrees, ElseTree, LoopTree}
use Rattle.f77_ast.specs.Trees as tree
use Rattle.f77_ast.specs.Store.{Content, Store, put, undefined}
use Rattle.f77_ast.specs.Steps.{Steps, Done, Breaks, Look, Set, Hold, Forget, Show, Take, Arrive}
use Rattle.f77_ast.specs.Runs.{Arrived, Read, Wrote, Printed, Took, Ran, Whole, run, first_of, rest_of, store_of}
use Rattle.f77_ast.specs.Places.{Places}
use Rattle.f77_ast.specs.Writes.{Locks}
use Rattle.f77_ast.specs.Calls.{BoundTree, Dummy}
use Rattle.f77_ast.specs.Plans.{Plan, steps_of}
use Rattle.f77_ast.specs.Statements.{Scope, statement_plan}
use Rattle.f77_ast.specs.Programs.{Routine, meanings}
use Rattle.f77_meaning.specs.Accesses.{is_read, is_written}
use Rattle.laws_interleavings.specs.Plans.Touched.{IsOther, AnyNumber, Avoids, Suits, Leaves, AllLeaves, OptionLeaves, StatementLeaves, WhatLeaves, ArmsLeaves, ArmLeaves, ElseLeaves, LoopLeaves, ListLeaves, MeaningAvoids, AnyName, BoundsLeaves, DummiesLeaves, AllKeep, AllUnused, DifferAt, RunsAlike}
use Rattle.laws_interleavings.proofs.Plans.Touching.{IsClosed, Good, good_steps, each_meanings, each_statement}
use Rattle.laws_interleavings.proofs.Plans.Ranges.{on}
use Rattle.fx_lists.proofs.Every.{Anything}

put_other : (s : Store) (u : ℕ) (c : Content) (x : ℕ) → nat_eq u x ≡ false → put s u c x ≡ s x
put_other s u c x e = grind (arith, nat_tests)

-- ---- a unit that is avoided

-- two computations on two stores
record Alike {A : Type 0} (v : ℕ) (t h : Steps A) (s z : Store) (i : List Content) : Type 0 where
  answer : (on t s i).answer ≡ (on h z i).answer
  input : (on t s i).input ≡ (on h z i).input
  trace : (on t s i).trace ≡ (on h z i).trace
  ends : DifferAt v (store_of (on t s i).memory) (store_of (on h z i).memory)
  stays : store_of (on t s i).memory v ≡ s v
  unread : is_read v (on t s i).trace ≡ false
  unwritten : is_written v (on t s i).trace ≡ false

differ_put : (v u : ℕ) (c : Content) (s z : Store) → DifferAt v s z → DifferAt v (put s u c) (put z u c)
differ_put v u c s z d x e = go (nat_eq x u)
  where
    go : (b : Bool) → (if b then c else s x) ≡ (if b then c else z x)
    go true = refl
    go false = d x e

differ_forget : (v u : ℕ) (s z : Store) → nat_eq u v ≡ false → DifferAt v s z → DifferAt v (put s u (undefined (s u))) (put z u (undefined (z u)))
differ_forget v u s z n d = subst (λ c. DifferAt v (put s u (undefined (s u))) (put z u c)) (ap undefined (d u n)) (differ_put v u (undefined (s u)) s z d)

alike : {A : Type 0} (v : ℕ) (t : Steps A) → Good (IsOther v) AnyNumber Anything t → (s z : Store) → DifferAt v s z → (i : List Content) → Alike v t t s z i
alike v (Done a) h s z d i = record { answer = refl; input = refl; trace = refl; ends = d; stays = refl; unread = refl; unwritten = refl }
alike v (Breaks b) h s z d i = record { answer = refl; input = refl; trace = refl; ends = d; stays = refl; unread = refl; unwritten = refl }
alike v (Look u k) h s z d i =
    let e = subst (λ c. Alike v (k (s u)) (k c) s z i) (d u h.0) (alike v (k (s u)) (h.1 (s u) tt) s z d i) in
    record {
      answer = e.answer;
      input = e.input;
      trace = ap₂ (λ c l. Read u c ∷ l) (d u h.0) e.trace;
      ends = e.ends;
      stays = e.stays;
      unread = ap₂ (λ a b. a || b) h.0 e.unread;
      unwritten = e.unwritten;
    }
alike v (Set u c t) h s z d i =
    let e = alike v t h.2 (put s u c) (put z u c) (differ_put v u c s z d) i in
    record {
      answer = e.answer;
      input = e.input;
      trace = ap (λ l. Wrote u c ∷ l) e.trace;
      ends = e.ends;
      stays = e.stays ∙ put_other s u c v h.0;
      unread = e.unread;
      unwritten = ap₂ (λ a b. a || b) h.0 e.unwritten;
    }
alike v (Hold u c t) h s z d i =
    let e = alike v t h.2 (put s u c) (put z u c) (differ_put v u c s z d) i in
    record { answer = e.answer; input = e.input; trace = e.trace; ends = e.ends; stays = e.stays ∙ put_other s u c v h.0; unread = e.unread; unwritten = e.unwritten }
alike v (Forget u t) h s z d i =
    let e = alike v t h.1 (put s u (undefined (s u))) (put z u (undefined (z u))) (differ_forget v u s z h.0 d) i in
    record { answer = e.answer; input = e.input; trace = e.trace; ends = e.ends; stays = e.stays ∙ put_other s u (undefined (s u)) v h.0; unread = e.unread; unwritten = e.unwritten }
alike v (Show xs t) h s z d i =
    let e = alike v t h s z d i in
    record { answer = e.answer; input = e.input; trace = ap (λ l. Printed xs ∷ l) e.trace; ends = e.ends; stays = e.stays; unread = e.unread; unwritten = e.unwritten }
alike v (Take k) h s z d i =
    let e = alike v (k (first_of i)) (h (first_of i)) s z d (rest_of i) in
    record { answer = e.answer; input = e.input; trace = ap (λ l. Took (first_of i) ∷ l) e.trace; ends = e.ends; stays = e.stays; unread = e.unread; unwritten = e.unwritten }
alike v (Arrive p t) h s z d i =
    let e = alike v t h s z d i in
    record { answer = e.answer; input = e.input; trace = ap (λ l. Arrived p ∷ l) e.trace; ends = e.ends; stays = e.stays; unread = e.unread; unwritten = e.unwritten }

pub runs_alike : (v : ℕ) (t : Plan) → Avoids v t → (s z : Store) → DifferAt v s z → (i : List Content) → RunsAlike v t s z i
runs_alike v t h s z d i =
    let e = alike v (steps_of t) (good_steps (IsOther v) AnyNumber t h) s z d i in
    record { answer = e.answer; input = e.input; trace = e.trace; ends = e.ends; kept = e.stays; unread = e.unread; unwritten = e.unwritten }

-- ---- modules that do not have the unit

any_number : IsClosed AnyNumber
any_number = record {
  unary = λ o m n h e. tt;
  binary = λ o m k n h l e. tt;
  function = λ f ns n h e. tt;
  truths = λ b. tt;
  stepped = λ n m e. tt;
  input = λ t n e. tt;
}

mutual
  any_leaves : (e : ExprTree) → Leaves AnyName AnyNumber e
  any_leaves (tree.int n) = tt
  any_leaves (tree.log b) = tt
  any_leaves (tree.name x) = tt
  any_leaves (tree.element x es) = (tt, any_all es)
  any_leaves (tree.paren e) = any_leaves e
  any_leaves (tree.unary o e) = any_leaves e
  any_leaves (tree.binary o a b) = (any_leaves a, any_leaves b)
  any_leaves (tree.chars x) = tt

  any_all : (es : ExprTrees) → AllLeaves AnyName AnyNumber es
  any_all tree.no_exprs = tt
  any_all (tree.more_exprs e es) = (any_leaves e, any_all es)

any_option : (o : Option ExprTree) → OptionLeaves AnyName AnyNumber o
any_option None = tt
any_option (Some e) = any_leaves e

any_bounds : (bs : List BoundTree) → BoundsLeaves AnyName AnyNumber bs
any_bounds [] = tt
any_bounds (b ∷ bs) = (any_leaves b.low, any_option b.high, any_bounds bs)

any_dummies : (ds : List Dummy) → DummiesLeaves AnyName AnyNumber ds
any_dummies [] = tt
any_dummies (d ∷ ds) = (any_bounds d.bounds, any_dummies ds)

mutual
  any_statement : (s : StmtTree) → StatementLeaves AnyName AnyNumber s
  any_statement (tree.stmt n label w) = any_what w

  any_what : (w : WhatTree) → WhatLeaves AnyName AnyNumber w
  any_what (tree.assign a b) = (any_leaves a, any_leaves b)
  any_what (tree.block_if arms other) = (any_arms arms, any_else other)
  any_what (tree.logical_if test s) = (any_leaves test, any_statement s)
  any_what (tree.do_loop l) = any_loop l
  any_what (tree.call x es) = any_all es
  any_what (tree.goto l) = tt
  any_what tree.continue = tt
  any_what tree.return = tt
  any_what (tree.stop text) = tt
  any_what (tree.print es) = any_all es
  any_what (tree.read es) = any_all es

  any_arms : (as' : ArmTrees) → ArmsLeaves AnyName AnyNumber as'
  any_arms tree.no_arms = tt
  any_arms (tree.more_arms a as') = (any_arm a, any_arms as')

  any_arm : (a : ArmTree) → ArmLeaves AnyName AnyNumber a
  any_arm (tree.arm test body) = (any_leaves test, any_list body)

  any_else : (o : ElseTree) → ElseLeaves AnyName AnyNumber o
  any_else tree.no_else = tt
  any_else (tree.otherwise body) = any_list body

  any_loop : (l : LoopTree) → LoopLeaves AnyName AnyNumber l
  any_loop (tree.loop index e1 e2 e3 body) = (tt, any_leaves e1, any_leaves e2, any_option e3, any_list body)

  any_list : (ss : StmtTrees) → ListLeaves AnyName AnyNumber ss
  any_list tree.no_stmts = tt
  any_list (tree.more_stmts s ss) = (any_statement s, any_list ss)

unused_keeps : (v : ℕ) (rs : List Routine) → AllUnused v rs → AllKeep (IsOther v) AnyNumber rs
unused_keeps v [] h = tt
unused_keeps v (r ∷ rs) h = (
  record {
    fixed = h.0.fixed;
    constants = λ x c e. tt;
    locals = h.0.locals;
    own = h.0.own;
    bounds = any_dummies r.dummies;
    literals = any_list r.body;
  },
  unused_keeps v rs h.1,
)

pub modules_avoid : (rs : List Routine) (turns v : ℕ) → IsOther v 0 → AllUnused v rs → (x : List ℕ) → MeaningAvoids v (meanings rs turns x)
modules_avoid rs turns v z h x = each_meanings (IsOther v) AnyNumber any_number z rs turns (unused_keeps v rs h) x

pub statements_avoid : (sc : Scope) (v : ℕ) → ((x : List ℕ) → MeaningAvoids v (sc.callee x)) → ((n k : ℕ) → IsOther v (sc.own_unit n k)) → (at : Places) (s : StmtTree) (locked : Locks) → StatementLeaves (λ x. Suits (IsOther v) AnyNumber at (sc.names x)) AnyNumber s → Avoids v (statement_plan s sc at locked)
statements_avoid sc v callee own at s locked h = each_statement (IsOther v) AnyNumber any_number sc callee own at s locked h
