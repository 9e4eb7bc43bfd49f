-- Expressions, statements and modules touch the units that their names reach, and write numbers that come from those that they read.
use Rattle.std.proofs.Common.{◌≡◌, subst, arith, ℕ, zero, suc, ◌+◌, ◌-◌, List, [], ◌∷◌, Bool, true, false, refl, Option, Some, None, ℤ, ◌+ℤ◌, nat_le, nat_lt, nat_eq, bytes_eq, ◌&&◌}
use Rattle.std.specs.Prelude.{if◌then◌else◌, pos}
use Rattle.std.specs.Ordering.{int_eq}
use Rattle.std.proofs.lemmas.Bool.{and_parts}
use Rattle.std.proofs.lemmas.Bool.Decides.{nat_tests}
use Rattle.f77_ast.specs.declared.expr.UnaryOp.{UnaryOp}
use Rattle.f77_ast.specs.declared.expr.BinaryOp.{BinaryOp}
use Rattle.f77_ast.specs.Trees.{ExprTree, ExprTrees, StmtTree, WhatTree, ArmTree, ArmTrees, ElseTree, LoopTree, StmtTrees}
use Rattle.f77_ast.specs.Trees as tree
use Rattle.f77_ast.specs.Store.{Tag, Int, Undefined, same_tag, Content, content, truth, put}
use Rattle.f77_ast.specs.Faults.{Fault, Arithmetic, Unset, Bounds, Input, Locked}
use Rattle.f77_ast.specs.Steps.{OutOfTurns, Shown, Value, Steps, ◌>>=◌}
use Rattle.f77_ast.specs.Steps as steps
use Rattle.f77_ast.specs.Numbers.{unary_tag, unary_number, binary_tag, binary_number, Intrinsic, intrinsic_named, intrinsic_number, is_true, kept}
use Rattle.f77_ast.specs.Places.{Meant, Constant, Variable, Function, Names, Dim, Place, Places, scalar_place, total_size, position, within, element_in}
use Rattle.f77_ast.specs.Values.{fault, given, read_unit, unit_after, element_unit, name_value, intrinsic_value, element_value, value, values, Target, to, name_target, element_target, target, shown, all_shown}
use Rattle.f77_ast.specs.Writes.{Locks, lock, written, write, assigned, is_value, taken, items_read}
use Rattle.f77_ast.specs.Plans.{Flow, Normal, Jump, Returned, Stopped, Plan, Ends, Breaks, Look, Set, Hold, Forget, Show, Take, Within, ◌▹◌, first, on_normal, steps_of}
use Rattle.f77_ast.specs.Lists.{Part, is_label, has_label, from_label, go_on, in_order, with_jumps, list_plan}
use Rattle.f77_ast.specs.Loops.{Range, range, step_value, range_of, iteration_count, iterations_from}
use Rattle.f77_ast.specs.Calls.{Actual, stored, rest_after, name_actual, element_actual, actual, actuals, places_of, own_units, lock_own, forget_all, after_call, BoundTree, Dummy, first_place, other_places, scalars_bound, high_value, dims_read, is_open, array_at, open_extent, array_place, dummy_bound, arrays_bound, in_place, lock_doubly, Meaning}
use Rattle.f77_ast.specs.Statements.{Scope, statement_plan, execution, arms_plan, arm_plan, else_plan, do_plan, parts, body_plan}
use Rattle.f77_ast.specs.Programs.{Routine, scope, body_of, called, meanings}
use Rattle.laws_interleavings.specs.Typed.{IsNoDummy}
use Rattle.laws_interleavings.specs.Plans.Touched.{EachStep, Reaches, AllReach, Suits, Leaves, AllLeaves, OptionLeaves, StatementLeaves, WhatLeaves, ArmsLeaves, ArmLeaves, ElseLeaves, LoopLeaves, ListLeaves, MeaningKeeps, AnyName, BoundsLeaves, DummiesLeaves, EachUnit, Keeps, AllKeep}
use Rattle.fx_lists.proofs.Every.{Anything}

abbrev pub AllNumbers : (ℤ → Type 0) → List ℤ → Type 0
AllNumbers N [] = Unit {0}
AllNumbers N (n ∷ ns) = N n × AllNumbers N ns

-- what operators, functions, tests and the input give
pub record IsClosed (N : ℤ → Type 0) : Type 0 where
  pub unary : (o : UnaryOp) (m n : ℤ) → N m → unary_number o m ≡ Some n → N n
  pub binary : (o : BinaryOp) (m k n : ℤ) → N m → N k → binary_number o m k ≡ Some n → N n
  pub function : (f : Intrinsic) (ns : List ℤ) (n : ℤ) → AllNumbers N ns → intrinsic_number f ns ≡ Some n → N n
  pub truths : (b : Bool) → N (truth b)
  pub stepped : (n m : ℤ) → kept n ≡ Some m → N m
  pub input : (t : Tag) (n : ℤ) → is_value t n ≡ true → N n

-- ---- every name, and every literal

module _ (P : List ℕ → Type 0) (N : ℤ → Type 0) (all : (x : List ℕ) → P x) where
  mutual
    named : (e : ExprTree) → Leaves AnyName N e → Leaves P N e
    named (tree.int n) h = h
    named (tree.log b) h = tt
    named (tree.name x) h = all x
    named (tree.element x es) h = (all x, named_all es h.1)
    named (tree.paren e) h = named e h
    named (tree.unary o e) h = named e h
    named (tree.binary o a b) h = (named a h.0, named b h.1)
    named (tree.chars x) h = tt

    named_all : (es : ExprTrees) → AllLeaves AnyName N es → AllLeaves P N es
    named_all tree.no_exprs h = tt
    named_all (tree.more_exprs e es) h = (named e h.0, named_all es h.1)

  named_option : (o : Option ExprTree) → OptionLeaves AnyName N o → OptionLeaves P N o
  named_option None h = tt
  named_option (Some e) h = named e h

  pub named_bounds : (bs : List BoundTree) → BoundsLeaves AnyName N bs → BoundsLeaves P N bs
  named_bounds [] h = tt
  named_bounds (b ∷ bs) h = (named b.low h.0, named_option b.high h.1, named_bounds bs h.2)

  mutual
    named_statement : (s : StmtTree) → StatementLeaves AnyName N s → StatementLeaves P N s
    named_statement (tree.stmt n label w) h = named_what w h

    named_what : (w : WhatTree) → WhatLeaves AnyName N w → WhatLeaves P N w
    named_what (tree.assign a b) h = (named a h.0, named b h.1)
    named_what (tree.block_if arms other) h = (named_arms arms h.0, named_else other h.1)
    named_what (tree.logical_if test s) h = (named test h.0, named_statement s h.1)
    named_what (tree.do_loop l) h = named_loop l h
    named_what (tree.call x es) h = named_all es h
    named_what (tree.goto l) h = tt
    named_what tree.continue h = tt
    named_what tree.return h = tt
    named_what (tree.stop text) h = tt
    named_what (tree.print es) h = named_all es h
    named_what (tree.read es) h = named_all es h

    named_arms : (as' : ArmTrees) → ArmsLeaves AnyName N as' → ArmsLeaves P N as'
    named_arms tree.no_arms h = tt
    named_arms (tree.more_arms a as') h = (named_arm a h.0, named_arms as' h.1)

    named_arm : (a : ArmTree) → ArmLeaves AnyName N a → ArmLeaves P N a
    named_arm (tree.arm test body) h = (named test h.0, named_list body h.1)

    named_else : (o : ElseTree) → ElseLeaves AnyName N o → ElseLeaves P N o
    named_else tree.no_else h = tt
    named_else (tree.otherwise body) h = named_list body h

    named_loop : (l : LoopTree) → LoopLeaves AnyName N l → LoopLeaves P N l
    named_loop (tree.loop index e1 e2 e3 body) h = (all index, named e1 h.1, named e2 h.2, named_option e3 h.3, named_list body h.4)

    pub named_list : (ss : StmtTrees) → ListLeaves AnyName N ss → ListLeaves P N ss
    named_list tree.no_stmts h = tt
    named_list (tree.more_stmts s ss) h = (named_statement s h.0, named_list ss h.1)

-- ---- places

in_range : (p : Place) (k : ℕ) → nat_lt k p.extent ≡ true → in_place p (p.first + k) ≡ true
in_range p k h = grind (arith, nat_tests)

in_scalar : (x : ℕ) (t : Tag) (u : ℕ) → in_place (scalar_place x t) u ≡ true → x ≡ u
in_scalar x t u h = grind (arith, nat_tests)

in_rest : (p : Place) (k u : ℕ) → nat_lt k p.extent ≡ true → nat_le (p.first + k) u && nat_lt u ((p.first + k) + (p.extent - k)) ≡ true → in_place p u ≡ true
in_rest p k u h e = grind (arith, nat_tests)

in_part : (p : Place) (n u : ℕ) → nat_le n p.extent ≡ true → nat_le p.first u && nat_lt u (p.first + n) ≡ true → in_place p u ≡ true
in_part p n u h e = grind (arith, nat_tests)

open_small : (p : Place) (ds : List Dim) → nat_le (open_extent p ds) p.extent ≡ true
open_small p ds = go (nat_eq (total_size ds) 0)
  where
    none : nat_le 0 p.extent ≡ true
    none = grind (arith, nat_tests)

    all : nat_le p.extent p.extent ≡ true
    all = grind (arith, nat_tests)

    go : (b : Bool) → nat_le (if b then 0 else p.extent) p.extent ≡ true
    go true = none
    go false = all

module _ (U : ℕ → Type 0) (N : ℤ → Type 0) where
  scalar_reaches : (x : ℕ) (t : Tag) → U x → Reaches U (scalar_place x t)
  scalar_reaches x t h = (h, λ u e. subst U (in_scalar x t u e) h)

  -- ---- computations

  -- the same of a computation, and of what it gives
  abbrev pub Good : {A : Type 0} → (A → Type 0) → Steps A → Type 0
  Good R (steps.Done a) = R a
  Good R (steps.Breaks b) = Unit {0}
  Good R (steps.Look u k) = U u × ((c : Content) → N c.number → Good R (k c))
  Good R (steps.Set u c t) = U u × N c.number × Good R t
  Good R (steps.Hold u c t) = U u × N c.number × Good R t
  Good R (steps.Forget u t) = U u × Good R t
  Good R (steps.Show xs t) = Good R t
  Good R (steps.Take k) = (o : Option Content) → Good R (k o)
  Good R (steps.Arrive p t) = Good R t

  good_after : {A B : Type 0} (R : A → Type 0) (Q : B → Type 0) (t : Steps A) (f : A → Steps B) → Good R t → ((a : A) → R a → Good Q (f a)) → Good Q (t >>= f)
  good_after R Q (steps.Done a) f h n = n a h
  good_after R Q (steps.Breaks b) f h n = tt
  good_after R Q (steps.Look u k) f h n = (h.0, λ c i. good_after R Q (k c) f (h.1 c i) n)
  good_after R Q (steps.Set u c t) f h n = (h.0, h.1, good_after R Q t f h.2 n)
  good_after R Q (steps.Hold u c t) f h n = (h.0, h.1, good_after R Q t f h.2 n)
  good_after R Q (steps.Forget u t) f h n = (h.0, good_after R Q t f h.1 n)
  good_after R Q (steps.Show xs t) f h n = good_after R Q t f h n
  good_after R Q (steps.Take k) f h n = λ o. good_after R Q (k o) f (h o) n
  good_after R Q (steps.Arrive p t) f h n = good_after R Q t f h n

  good_first : {A : Type 0} (R : A → Type 0) (t : Steps A) (f : A → Plan) → Good R t → ((a : A) → R a → EachStep U N (f a)) → EachStep U N (first t f)
  good_first R (steps.Done a) f h n = n a h
  good_first R (steps.Breaks b) f h n = tt
  good_first R (steps.Look u k) f h n = (h.0, λ c i. good_first R (k c) f (h.1 c i) n)
  good_first R (steps.Set u c t) f h n = (h.0, h.1, good_first R t f h.2 n)
  good_first R (steps.Hold u c t) f h n = (h.0, h.1, good_first R t f h.2 n)
  good_first R (steps.Forget u t) f h n = (h.0, good_first R t f h.1 n)
  good_first R (steps.Show xs t) f h n = good_first R t f h n
  good_first R (steps.Take k) f h n = λ o. good_first R (k o) f (h o) n
  good_first R (steps.Arrive p t) f h n = good_first R t f h n

  each_then : (t : Plan) (f : Flow → Plan) → EachStep U N t → ((g : Flow) → EachStep U N (f g)) → EachStep U N (t ▹ f)
  each_then (Ends g) f h n = n g
  each_then (Breaks b) f h n = tt
  each_then (Look u k) f h n = (h.0, λ c i. each_then (k c) f (h.1 c i) n)
  each_then (Set u c t) f h n = (h.0, h.1, each_then t f h.2 n)
  each_then (Hold u c t) f h n = (h.0, h.1, each_then t f h.2 n)
  each_then (Forget u t) f h n = (h.0, each_then t f h.1 n)
  each_then (Show xs t) f h n = each_then t f h n
  each_then (Take k) f h n = λ o. each_then (k o) f (h o) n
  each_then (Within p at t k) f h n = (h.0, λ g. each_then (k g) f (h.1 g) n)

  -- the steps of a plan
  pub good_steps : (t : Plan) → EachStep U N t → Good {A = Flow} Anything (steps_of t)
  good_steps (Ends f) h = tt
  good_steps (Breaks b) h = tt
  good_steps (Look u k) h = (h.0, λ c i. good_steps (k c) (h.1 c i))
  good_steps (Set u c t) h = (h.0, h.1, good_steps t h.2)
  good_steps (Hold u c t) h = (h.0, h.1, good_steps t h.2)
  good_steps (Forget u t) h = (h.0, good_steps t h.1)
  good_steps (Show xs t) h = good_steps t h
  good_steps (Take k) h = λ o. good_steps (k o) (h o)
  good_steps (Within p at t k) h = good_after Anything Anything (steps_of t) (λ f. steps_of (k f)) (good_steps t h.0) (λ f i. good_steps (k f) (h.1 f))

  abbrev HasNumber : Content → Type 0
  HasNumber c = N c.number

  module _ (ok : IsClosed N) where
    good_given : (t : Tag) (o : Option ℤ) → ((n : ℤ) → o ≡ Some n → N n) → Good HasNumber (given t o)
    good_given t None h = tt
    good_given t (Some n) h = h n refl

    good_read : (t : Tag) (u : ℕ) → U u → Good HasNumber (read_unit t u)
    good_read t u h = (h, λ c n. go (same_tag t c.tag) c n)
      where
        go : (b : Bool) (c : Content) → N c.number → Good {A = Content} HasNumber (if b then steps.Done c else fault Unset)
        go true c n = n
        go false c n = tt

    -- an element's unit is one of the place
    good_element_unit : (p : Place) (ns : List ℤ) → Reaches U p → Good U (element_unit p ns)
    good_element_unit p ns r = go (position p.dims ns)
      where
        inside : (k : ℕ) (b : Bool) → nat_lt k p.extent ≡ b → Good U (unit_after p.first (if b then Some k else None))
        inside k true h = r.1 (p.first + k) (in_range p k h)
        inside k false h = tt

        go : (o : Option ℕ) → Good U (unit_after p.first (within p o))
        go None = tt
        go (Some k) = inside k (nat_lt k p.extent) refl

    good_name : (m : Meant) (at : Places) → Suits U N at m → Good HasNumber (name_value m at)
    good_name (Constant c) at h = h
    good_name (Variable v) at h = good_read (at v).tag (at v).first h.0
    good_name Function at h = tt

    good_intrinsic : (o : Option Intrinsic) (ns : List ℤ) → AllNumbers N ns → Good HasNumber (intrinsic_value o ns)
    good_intrinsic None ns h = tt
    good_intrinsic (Some f) ns h = good_given Int (intrinsic_number f ns) (λ n e. ok.function f ns n h e)

    good_element : (m : Meant) (x : List ℕ) (at : Places) (ns : List ℤ) → Suits U N at m → AllNumbers N ns → Good HasNumber (element_value m x at ns)
    good_element (Constant c) x at ns h l = tt
    good_element (Variable v) x at ns h l = good_after U HasNumber (element_unit (at v) ns) (read_unit (at v).tag) (good_element_unit (at v) ns h) (λ u i. good_read (at v).tag u i)
    good_element Function x at ns h l = good_intrinsic (intrinsic_named x) ns l

    module _ (w : Names) (at : Places) where
      abbrev Fits : List ℕ → Type 0
      Fits x = Suits U N at (w x)

      mutual
        good_value : (e : ExprTree) → Leaves Fits N e → Good HasNumber (value e w at)
        good_value (tree.int n) h = h
        good_value (tree.log b) h = ok.truths b
        good_value (tree.name x) h = good_name (w x) at h
        good_value (tree.element x es) h = good_after (AllNumbers N) HasNumber (values es w at) (element_value (w x) x at) (good_values es h.1) (λ ns l. good_element (w x) x at ns h.0 l)
        good_value (tree.paren e) h = good_value e h
        good_value (tree.unary o e) h =
            good_after HasNumber HasNumber (value e w at) (λ c. given (unary_tag o) (unary_number o c.number)) (good_value e h) (λ c i. good_given (unary_tag o) (unary_number o c.number) (λ n q. ok.unary o c.number n i q))
        good_value (tree.binary o a b) h =
            good_after HasNumber HasNumber (value a w at) (λ c. value b w at >>= λ d. given (binary_tag o) (binary_number o c.number d.number)) (good_value a h.0)
            (λ c i. good_after HasNumber HasNumber (value b w at) (λ d. given (binary_tag o) (binary_number o c.number d.number)) (good_value b h.1)
            (λ d j. good_given (binary_tag o) (binary_number o c.number d.number) (λ n q. ok.binary o c.number d.number n i j q)))
        good_value (tree.chars x) h = tt

        good_values : (es : ExprTrees) → AllLeaves Fits N es → Good (AllNumbers N) (values es w at)
        good_values tree.no_exprs h = tt
        good_values (tree.more_exprs e es) h =
            good_after HasNumber (AllNumbers N) (value e w at) (λ c. values es w at >>= λ ns. steps.Done (c.number ∷ ns)) (good_value e h.0)
            (λ c i. good_after (AllNumbers N) (AllNumbers N) (values es w at) (λ ns. steps.Done (c.number ∷ ns)) (good_values es h.1) (λ ns l. (i, l)))

      abbrev Aims : Target → Type 0
      Aims t = U t.unit

      good_name_target : (m : Meant) → Suits U N at m → Good Aims (name_target m at)
      good_name_target (Constant c) h = tt
      good_name_target (Variable v) h = h.0
      good_name_target Function h = tt

      good_element_target : (m : Meant) (ns : List ℤ) → Suits U N at m → Good Aims (element_target m at ns)
      good_element_target (Constant c) ns h = tt
      good_element_target (Variable v) ns h = good_after U Aims (element_unit (at v) ns) (λ u. steps.Done (to u (at v).tag)) (good_element_unit (at v) ns h) (λ u i. i)
      good_element_target Function ns h = tt

      good_target : (e : ExprTree) → Leaves Fits N e → Good Aims (target e w at)
      good_target (tree.int n) h = tt
      good_target (tree.log b) h = tt
      good_target (tree.name x) h = good_name_target (w x) h
      good_target (tree.element x es) h = good_after (AllNumbers N) Aims (values es w at) (element_target (w x) at) (good_values es h.1) (λ ns l. good_element_target (w x) ns h.0)
      good_target (tree.paren e) h = tt
      good_target (tree.unary o e) h = tt
      good_target (tree.binary o a b) h = tt
      good_target (tree.chars x) h = tt

      good_value_shown : (e : ExprTree) → Leaves Fits N e → Good {A = Shown} Anything (value e w at >>= λ c. steps.Done (Value c))
      good_value_shown e h = good_after HasNumber Anything (value e w at) (λ c. steps.Done (Value c)) (good_value e h) (λ c i. tt)

      good_shown : (e : ExprTree) → Leaves Fits N e → Good {A = Shown} Anything (shown e w at)
      good_shown (tree.chars x) h = tt
      good_shown (tree.int n) h = good_value_shown (tree.int n) h
      good_shown (tree.log b) h = good_value_shown (tree.log b) h
      good_shown (tree.name x) h = good_value_shown (tree.name x) h
      good_shown (tree.element x es) h = good_value_shown (tree.element x es) h
      good_shown (tree.paren e) h = good_value_shown (tree.paren e) h
      good_shown (tree.unary o e) h = good_value_shown (tree.unary o e) h
      good_shown (tree.binary o a b) h = good_value_shown (tree.binary o a b) h

      good_all_shown : (es : ExprTrees) → AllLeaves Fits N es → Good {A = List Shown} Anything (all_shown es w at)
      good_all_shown tree.no_exprs h = tt
      good_all_shown (tree.more_exprs e es) h =
          good_after Anything Anything (shown e w at) (λ x. all_shown es w at >>= λ xs. steps.Done (x ∷ xs)) (good_shown e h.0) (λ x i. good_after Anything Anything (all_shown es w at) (λ xs. steps.Done (x ∷ xs)) (good_all_shown es h.1) (λ xs j. tt))

      good_write : (locked : Locks) (u : ℕ) (c : Content) → U u → N c.number → Good {A = Unit {0}} Anything (write locked u c)
      good_write locked u c h n = go (locked u)
        where
          go : (o : Option Fault) → Good {A = Unit {0}} Anything (written o u c)
          go None = (h, n, tt)
          go (Some f) = tt

      good_assigned : (a b : ExprTree) (locked : Locks) → Leaves Fits N a → Leaves Fits N b → Good {A = Unit {0}} Anything (assigned a b w at locked)
      good_assigned a b locked h k =
          good_after HasNumber Anything (value b w at) (λ c. target a w at >>= λ t. write locked t.unit (content t.tag c.number)) (good_value b k)
          (λ c i. good_after Aims Anything (target a w at) (λ t. write locked t.unit (content t.tag c.number)) (good_target a h) (λ t j. good_write locked t.unit (content t.tag c.number) j i))

      good_taken : (locked : Locks) (t : Target) (o : Option Content) → U t.unit → Good {A = Unit {0}} Anything (taken locked t o)
      good_taken locked t None h = tt
      good_taken locked t (Some c) h = go (same_tag t.tag c.tag && is_value t.tag c.number) refl
        where
          go : (b : Bool) → (same_tag t.tag c.tag && is_value t.tag c.number) ≡ b → Good {A = Unit {0}} Anything (if b then write locked t.unit c else fault Input)
          go true e = good_write locked t.unit c h (ok.input t.tag c.number (and_parts (same_tag t.tag c.tag) (is_value t.tag c.number) e).1)
          go false e = tt

      good_items : (es : ExprTrees) (locked : Locks) → AllLeaves Fits N es → Good {A = Unit {0}} Anything (items_read es w at locked)
      good_items tree.no_exprs locked h = tt
      good_items (tree.more_exprs e es) locked h =
          good_after Aims Anything (target e w at) (λ t. steps.Take (taken locked t) >>= λ o. items_read es w at locked) (good_target e h.0)
          (λ t i. λ o. good_after Anything Anything (taken locked t o) (λ u. items_read es w at locked) (good_taken locked t o i) (λ u j. good_items es locked h.1))

      abbrev Begins : Range → Type 0
      Begins r = N r.from

      good_range : (a b c : ℤ) → N a → Good Begins (range a b c)
      good_range a b c h = go (int_eq c (pos 0))
        where
          go : (z : Bool) → Good {A = Range} Begins (if z then fault Arithmetic else steps.Done (record { from = a; last = b; step = c }))
          go true = tt
          go false = h

      good_step : (e : Option ExprTree) → OptionLeaves Fits N e → Good {A = Content} Anything (step_value e w at)
      good_step None h = tt
      good_step (Some e) h = less (value e w at) (good_value e h)
        where
          less : (t : Steps Content) → Good HasNumber t → Good {A = Content} Anything t
          less (steps.Done a) h = tt
          less (steps.Breaks b) h = tt
          less (steps.Look u k) h = (h.0, λ c i. less (k c) (h.1 c i))
          less (steps.Set u c t) h = (h.0, h.1, less t h.2)
          less (steps.Hold u c t) h = (h.0, h.1, less t h.2)
          less (steps.Forget u t) h = (h.0, less t h.1)
          less (steps.Show xs t) h = less t h
          less (steps.Take k) h = λ o. less (k o) (h o)
          less (steps.Arrive p t) h = less t h

      good_range_of : (e1 e2 : ExprTree) (e3 : Option ExprTree) → Leaves Fits N e1 → Leaves Fits N e2 → OptionLeaves Fits N e3 → Good Begins (range_of e1 e2 e3 w at)
      good_range_of e1 e2 e3 h1 h2 h3 =
          good_after HasNumber Begins (value e1 w at) (λ a. value e2 w at >>= λ b. step_value e3 w at >>= λ c. range a.number b.number c.number) (good_value e1 h1)
          (λ a i. good_after HasNumber Begins (value e2 w at) (λ b. step_value e3 w at >>= λ c. range a.number b.number c.number) (good_value e2 h2)
          (λ b j. good_after Anything Begins (step_value e3 w at) (λ c. range a.number b.number c.number) (good_step e3 h3) (λ c l. good_range a.number b.number c.number i)))

      -- ---- actuals

      abbrev Offers : Actual → Type 0
      Offers x = Reaches U x.place

      good_stored : (u : ℕ) (c : Content) → U u → N c.number → Good Offers (stored u c)
      good_stored u c h n = (h, n, scalar_reaches u c.tag h)

      good_rest : (p : Place) (ns : List ℤ) → Reaches U p → Good Offers (rest_after p (element_in p ns))
      good_rest p ns r = go (position p.dims ns)
        where
          inside : (k : ℕ) (b : Bool) → nat_lt k p.extent ≡ b → Good Offers (rest_after p (if b then Some k else None))
          inside k true h = (r.1 (p.first + k) (in_range p k h), λ u e. r.1 u (in_rest p k u h e))
          inside k false h = tt

          go : (o : Option ℕ) → Good Offers (rest_after p (within p o))
          go None = tt
          go (Some k) = inside k (nat_lt k p.extent) refl

      good_value_stored : (e : ExprTree) (u : ℕ) → U u → Leaves Fits N e → Good Offers (value e w at >>= stored u)
      good_value_stored e u h l = good_after HasNumber Offers (value e w at) (stored u) (good_value e l) (λ c n. good_stored u c h n)

      good_name_actual : (m : Meant) (u : ℕ) → U u → Suits U N at m → Good Offers (name_actual m at u)
      good_name_actual (Constant c) u h s = good_stored u c h s
      good_name_actual (Variable v) u h s = s
      good_name_actual Function u h s = tt

      good_element_actual : (m : Meant) (e : ExprTree) (es : ExprTrees) (u : ℕ) → U u → Suits U N at m → Leaves Fits N e → AllLeaves Fits N es → Good Offers (element_actual m e es w at u)
      good_element_actual (Constant c) e es u h s l ls = tt
      good_element_actual (Variable v) e es u h s l ls = good_after (AllNumbers N) Offers (values es w at) (λ ns. rest_after (at v) (element_in (at v) ns)) (good_values es ls) (λ ns n. good_rest (at v) ns s)
      good_element_actual Function e es u h s l ls = good_value_stored e u h l

      good_actual : (e : ExprTree) (u : ℕ) → U u → Leaves Fits N e → Good Offers (actual e w at u)
      good_actual (tree.name x) u h l = good_name_actual (w x) u h l
      good_actual (tree.element x es) u h l = good_element_actual (w x) (tree.element x es) es u h l.0 l l.1
      good_actual (tree.int n) u h l = good_value_stored (tree.int n) u h l
      good_actual (tree.log b) u h l = good_value_stored (tree.log b) u h l
      good_actual (tree.paren e) u h l = good_value_stored (tree.paren e) u h l
      good_actual (tree.unary o e) u h l = good_value_stored (tree.unary o e) u h l
      good_actual (tree.binary o a b) u h l = good_value_stored (tree.binary o a b) u h l
      good_actual (tree.chars x) u h l = tt

      abbrev AllOffer : List Actual → Type 0
      AllOffer xs = AllReach U (places_of xs)

      good_actuals : (es : ExprTrees) (k : ℕ) (units : ℕ → ℕ) → ((i : ℕ) → U (units i)) → AllLeaves Fits N es → Good AllOffer (actuals es k w at units)
      good_actuals tree.no_exprs k units h l = tt
      good_actuals (tree.more_exprs e es) k units h l =
          good_after Offers AllOffer (actual e w at (units k)) (λ x. actuals es (suc k) w at units >>= λ xs. steps.Done (x ∷ xs)) (good_actual e (units k) (h k) l.0)
          (λ x i. good_after AllOffer AllOffer (actuals es (suc k) w at units) (λ xs. steps.Done (x ∷ xs)) (good_actuals es (suc k) units h l.1) (λ xs j. (i, j)))

      own_reach : (xs : List Actual) → AllReach U (places_of xs) → EachUnit U (own_units xs)
      own_reach [] h = tt
      own_reach (x ∷ xs) h = go x.own (own_reach xs h.1)
        where
          go : (b : Bool) → EachUnit U (own_units xs) → EachUnit U (if b then x.place.first ∷ own_units xs else own_units xs)
          go true i = (h.0.0, i)
          go false i = i

      -- ---- bounds

      good_high : (o : Option ExprTree) → OptionLeaves Fits N o → Good {A = Option ℤ} Anything (high_value o w at)
      good_high None h = tt
      good_high (Some e) h = good_after HasNumber Anything (value e w at) (λ c. steps.Done (Some c.number)) (good_value e h) (λ c i. tt)

      good_dims : (bs : List BoundTree) → BoundsLeaves Fits N bs → Good {A = List Dim} Anything (dims_read bs w at)
      good_dims [] h = tt
      good_dims (b ∷ bs) h =
          good_after HasNumber Anything (value b.low w at) _ (good_value b.low h.0)
          (λ m i. good_after Anything Anything (high_value b.high w at) _ (good_high b.high h.1) (λ n j. good_after Anything Anything (dims_read bs w at) _ (good_dims bs h.2) (λ ds k. tt)))

    -- ---- lists

    abbrev PartsKeep : List Part → Type 0
    PartsKeep [] = Unit {0}
    PartsKeep (q ∷ qs) = EachStep U N q.does × PartsKeep qs

    each_from : (l : ℕ) (qs : List Part) → PartsKeep qs → PartsKeep (from_label l qs)
    each_from l [] h = tt
    each_from l (q ∷ qs) h = go (is_label l q.label) (each_from l qs h.1)
      where
        go : (b : Bool) → PartsKeep (from_label l qs) → PartsKeep (if b then q ∷ qs else from_label l qs)
        go true ih = h
        go false ih = ih

    each_go_on : (jump : ℕ → Plan) (all : List Part) (rest : Plan) → ((l : ℕ) → EachStep U N (jump l)) → EachStep U N rest → (g : Flow) → EachStep U N (go_on jump all rest g)
    each_go_on jump all rest j h Normal = h
    each_go_on jump all rest j h (Jump l) = go (has_label l all)
      where
        go : (b : Bool) → EachStep U N (if b then jump l else Ends (Jump l))
        go true = j l
        go false = tt
    each_go_on jump all rest j h Returned = tt
    each_go_on jump all rest j h Stopped = tt

    each_in_order : (jump : ℕ → Plan) (all qs : List Part) → ((l : ℕ) → EachStep U N (jump l)) → PartsKeep qs → EachStep U N (in_order jump all qs)
    each_in_order jump all [] j h = tt
    each_in_order jump all (q ∷ qs) j h = each_then q.does (go_on jump all (in_order jump all qs)) h.0 (each_go_on jump all (in_order jump all qs) j (each_in_order jump all qs j h.1))

    each_jumps : (n : ℕ) (all qs : List Part) → PartsKeep all → PartsKeep qs → EachStep U N (with_jumps n all qs)
    each_jumps zero all qs a h = each_in_order (λ l. Breaks OutOfTurns) all qs (λ l. tt) h
    each_jumps (suc n) all qs a h = each_in_order (λ l. with_jumps n all (from_label l all)) all qs (λ l. each_jumps n all (from_label l all) a (each_from l all a)) h

    each_list : (turns : ℕ) (qs : List Part) → PartsKeep qs → EachStep U N (list_plan turns qs)
    each_list turns qs h = each_jumps turns qs qs h h

    each_on_normal : (f : Flow) (t : Plan) → EachStep U N t → EachStep U N (on_normal f t)
    each_on_normal Normal t h = h
    each_on_normal (Jump l) t h = tt
    each_on_normal Returned t h = tt
    each_on_normal Stopped t h = tt

    each_iterations : (k : ℕ) (n step : ℤ) (u : ℕ) (body : Plan) → U u → EachStep U N body → EachStep U N (iterations_from k n step u body)
    each_iterations zero n step u body hu h = tt
    each_iterations (suc k) n step u body hu h =
        each_then body (λ f. on_normal f (first (given Int (kept (n +ℤ step))) (λ c. Set u c (iterations_from k c.number step u body)))) h
        (λ f. each_on_normal f (first (given Int (kept (n +ℤ step))) (λ c. Set u c (iterations_from k c.number step u body)))
        (good_first HasNumber (given Int (kept (n +ℤ step))) (λ c. Set u c (iterations_from k c.number step u body)) (good_given Int (kept (n +ℤ step)) (λ m e. ok.stepped (n +ℤ step) m e)) (λ c i. (hu, i, each_iterations k c.number step u body hu h))))

    each_forget : (us : List ℕ) → EachUnit U us → (t : Plan) → EachStep U N t → EachStep U N (forget_all us t)
    each_forget [] o t h = h
    each_forget (u ∷ us) o t h = (o.0, each_forget us o.1 t h)

    each_after_call : (us : List ℕ) → EachUnit U us → (f : Flow) → EachStep U N (after_call us f)
    each_after_call us o Normal = each_forget us o (Ends Normal) tt
    each_after_call us o Returned = each_forget us o (Ends Normal) tt
    each_after_call us o Stopped = tt
    each_after_call us o (Jump l) = tt

    either : (b : Bool) (t z : Plan) → EachStep U N t → EachStep U N z → EachStep U N (if b then t else z)
    either true t z h k = h
    either false t z h k = k

    -- ---- statements

    module _ (sc : Scope) (callee : (x : List ℕ) → MeaningKeeps U N (sc.callee x)) (own : (n k : ℕ) → U (sc.own_unit n k)) (at : Places) where
      abbrev Named : List ℕ → Type 0
      Named x = Suits U N at (sc.names x)

      each_head : (index : List ℕ) (e1 e2 : ExprTree) (e3 : Option ExprTree) (body : StmtTrees) (locked : Locks) → Named index → Leaves Named N e1 → Leaves Named N e2 → OptionLeaves Named N e3 → ((l : Locks) → PartsKeep (parts body sc at l)) → EachStep U N (do_plan (tree.loop index e1 e2 e3 body) sc at locked)
      each_head index e1 e2 e3 body locked hi h1 h2 h3 p =
          good_first (λ (r : Range). N r.from) (range_of e1 e2 e3 sc.names at) _ (good_range_of sc.names at e1 e2 e3 h1 h2 h3)
          (λ r i. good_first (λ (t : Target). U t.unit) (name_target (sc.names index) at) _ (good_name_target sc.names at (sc.names index) hi)
          (λ t j. begin r t.unit (locked t.unit) i j))
        where
          loop : Range → ℕ → Plan
          loop r u = iterations_from (iteration_count r.from r.last r.step) r.from r.step u (list_plan sc.turns (parts body sc at (lock locked u Locked)))

          begin : (r : Range) (u : ℕ) (o : Option Fault) → N r.from → U u → EachStep U N (first (written o u (content Int r.from)) (λ z. loop r u))
          begin r u (Some f) i j = tt
          begin r u None i j =
              (j, i, each_iterations (iteration_count r.from r.last r.step) r.from r.step u (list_plan sc.turns (parts body sc at (lock locked u Locked))) j (each_list sc.turns (parts body sc at (lock locked u Locked)) (p (lock locked u Locked))))

      mutual
        pub each_statement : (s : StmtTree) (locked : Locks) → StatementLeaves Named N s → EachStep U N (statement_plan s sc at locked)
        each_statement (tree.stmt n label w) locked h = (each_what w n locked h, λ f. tt)

        each_what : (w : WhatTree) (n : ℕ) (locked : Locks) → WhatLeaves Named N w → EachStep U N (execution w n sc at locked)
        each_what (tree.assign a b) n locked h = good_first Anything (assigned a b sc.names at locked) (λ o. Ends Normal) (good_assigned sc.names at a b locked h.0 h.1) (λ o i. tt)
        each_what (tree.block_if arms rest) n locked h = each_arms arms (else_plan rest sc at locked) locked h.0 (each_else rest locked h.1)
        each_what (tree.logical_if test s) n locked h =
            good_first HasNumber (value test sc.names at) (λ c. if is_true c.number then statement_plan s sc at locked else Ends Normal) (good_value sc.names at test h.0) (λ c i. either (is_true c.number) (statement_plan s sc at locked) (Ends Normal) (each_statement s locked h.1) tt)
        each_what (tree.do_loop l) n locked h = each_do l locked h
        each_what (tree.call x es) n locked h =
            good_first (λ xs. AllReach U (places_of xs)) (actuals es 0 sc.names at (sc.own_unit n)) _ (good_actuals sc.names at es 0 (sc.own_unit n) (own n) h)
            (λ xs i. each_then (sc.callee x (places_of xs) (lock_own locked (own_units xs))) (after_call (own_units xs)) (callee x (places_of xs) (lock_own locked (own_units xs)) i) (each_after_call (own_units xs) (own_reach sc.names at xs i)))
        each_what (tree.goto l) n locked h = tt
        each_what tree.continue n locked h = tt
        each_what tree.return n locked h = tt
        each_what (tree.stop text) n locked h = tt
        each_what (tree.print es) n locked h = good_first Anything (all_shown es sc.names at) (λ xs. Show xs (Ends Normal)) (good_all_shown sc.names at es h) (λ xs i. tt)
        each_what (tree.read es) n locked h = good_first Anything (items_read es sc.names at locked) (λ o. Ends Normal) (good_items sc.names at es locked h) (λ o i. tt)

        each_arms : (arms : ArmTrees) (rest : Plan) (locked : Locks) → ArmsLeaves Named N arms → EachStep U N rest → EachStep U N (arms_plan arms sc at locked rest)
        each_arms tree.no_arms rest locked h k = k
        each_arms (tree.more_arms a more) rest locked h k = each_arm a (arms_plan more sc at locked rest) locked h.0 (each_arms more rest locked h.1 k)

        each_arm : (a : ArmTree) (rest : Plan) (locked : Locks) → ArmLeaves Named N a → EachStep U N rest → EachStep U N (arm_plan a sc at locked rest)
        each_arm (tree.arm test body) rest locked h k =
            good_first HasNumber (value test sc.names at) (λ c. if is_true c.number then list_plan sc.turns (parts body sc at locked) else rest) (good_value sc.names at test h.0)
            (λ c i. either (is_true c.number) (list_plan sc.turns (parts body sc at locked)) rest (each_list sc.turns (parts body sc at locked) (each_parts body locked h.1)) k)

        each_else : (o : ElseTree) (locked : Locks) → ElseLeaves Named N o → EachStep U N (else_plan o sc at locked)
        each_else tree.no_else locked h = tt
        each_else (tree.otherwise body) locked h = each_list sc.turns (parts body sc at locked) (each_parts body locked h)

        each_do : (l : LoopTree) (locked : Locks) → LoopLeaves Named N l → EachStep U N (do_plan l sc at locked)
        each_do (tree.loop index e1 e2 e3 body) locked h = each_head index e1 e2 e3 body locked h.0 h.1 h.2 h.3 (λ l. each_parts body l h.4)

        each_parts : (ss : StmtTrees) (locked : Locks) → ListLeaves Named N ss → PartsKeep (parts ss sc at locked)
        each_parts tree.no_stmts locked h = tt
        each_parts (tree.more_stmts s rest) locked h = (each_statement s locked h.0, each_parts rest locked h.1)

      pub each_body : (ss : StmtTrees) (locked : Locks) → ListLeaves Named N ss → EachStep U N (body_plan ss sc at locked)
      each_body ss locked h = each_list sc.turns (parts ss sc at locked) (each_parts ss locked h)

    -- ---- modules

    module _ (zero_is : U 0) where
      first_reaches : (ps : List Place) → AllReach U ps → Reaches U (first_place ps)
      first_reaches [] h = scalar_reaches 0 Undefined zero_is
      first_reaches (p ∷ ps) h = h.0

      others_reach : (ps : List Place) → AllReach U ps → AllReach U (other_places ps)
      others_reach [] h = tt
      others_reach (p ∷ ps) h = h.1

      scalar_at : (ds : List Dummy) (ps : List Place) (at : Places) → AllReach U ps → (v : ℕ) → (IsNoDummy ds v → Reaches U (at v)) → Reaches U (scalars_bound ds ps at v)
      scalar_at [] ps at o v f = f tt
      scalar_at (d ∷ ds) ps at o v f = go (nat_eq v d.symbol) refl (λ e. scalar_at ds (other_places ps) at (others_reach ps o) v (λ n. f (e, n)))
        where
          go : (b : Bool) → nat_eq v d.symbol ≡ b → (nat_eq v d.symbol ≡ false → Reaches U (scalars_bound ds (other_places ps) at v)) → Reaches U (if b then scalar_place (first_place ps).first d.tag else scalars_bound ds (other_places ps) at v)
          go true e ih = scalar_reaches (first_place ps).first d.tag (first_reaches ps o).0
          go false e ih = ih e

      part_reaches : (p : Place) (t : Tag) (ds : List Dim) (n : ℕ) → nat_le n p.extent ≡ true → Reaches U p → Reaches U (array_at p t ds n)
      part_reaches p t ds n h r = (r.0, λ u e. r.1 u (in_part p n u h e))

      good_array : (p : Place) (t : Tag) (ds : List Dim) → Reaches U p → Good (Reaches U) (array_place p t ds)
      good_array p t ds r = go (is_open ds) (nat_le (total_size ds) p.extent) refl
        where
          go : (a b : Bool) → nat_le (total_size ds) p.extent ≡ b → Good {A = Place} (Reaches U) (if a then steps.Done (array_at p t ds (open_extent p ds)) else if b then steps.Done (array_at p t ds (total_size ds)) else fault Bounds)
          go true b e = part_reaches p t ds (open_extent p ds) (open_small p ds) r
          go false true e = part_reaches p t ds (total_size ds) e r
          go false false e = tt

      module _ (w : Names) where
        -- each name suits
        abbrev AllSuit : Places → Type 0
        AllSuit at = (x : List ℕ) → Suits U N at (w x)

        put_suits : (at : Places) (n : ℕ) (p : Place) → AllSuit at → Reaches U p → AllSuit (put at n p)
        put_suits at n p h r x = go (w x) (h x)
          where
            go : (m : Meant) → Suits U N at m → Suits U N (put at n p) m
            go (Constant c) s = s
            go (Variable v) s = pick (nat_eq v n) s
              where
                pick : (b : Bool) → Reaches U (at v) → Reaches U (if b then p else at v)
                pick true q = r
                pick false q = q
            go Function s = tt

        good_dummy : (d : Dummy) (p : Place) (ds : List Dim) (at : Places) → Reaches U p → AllSuit at → Good AllSuit (dummy_bound d p ds at)
        good_dummy d p [] at r h = h
        good_dummy d p (m ∷ ms) at r h = good_after (Reaches U) AllSuit (array_place p d.tag (m ∷ ms)) (λ q. steps.Done (put at d.symbol q)) (good_array p d.tag (m ∷ ms) r) (λ q i. put_suits at d.symbol q h i)

        good_arrays : (ds : List Dummy) (ps : List Place) (at : Places) → DummiesLeaves AnyName N ds → AllReach U ps → AllSuit at → Good AllSuit (arrays_bound ds ps w at)
        good_arrays [] ps at l o h = h
        good_arrays (d ∷ ds) ps at l o h =
            good_after Anything AllSuit (dims_read d.bounds w at) (λ ms. dummy_bound d (first_place ps) ms at >>= arrays_bound ds (other_places ps) w) (good_dims w at d.bounds (named_bounds (λ x. Suits U N at (w x)) N h d.bounds l.0))
            (λ ms i. good_after AllSuit AllSuit (dummy_bound d (first_place ps) ms at) (arrays_bound ds (other_places ps) w) (good_dummy d (first_place ps) ms at (first_reaches ps o) h) (λ at' h'. good_arrays ds (other_places ps) at' l.1 (others_reach ps o) h'))

      pub each_body_of : (r : Routine) (turns : ℕ) (callee : List ℕ → Meaning) → Keeps U N r → ((x : List ℕ) → MeaningKeeps U N (callee x)) → (ps : List Place) (at : Places) (locked : Locks) → AllReach U ps → ((x : List ℕ) → Suits U N at (r.names x)) → EachStep U N (body_of r turns callee ps at locked)
      each_body_of r turns callee k c ps at locked o suits =
          good_first (AllSuit r.names) (arrays_bound r.dummies ps r.names at) (λ at'. body_plan r.body (scope r turns callee) at' (lock_doubly locked r.dummies at' r.common)) (good_arrays r.names r.dummies ps at k.bounds o suits)
          (λ at' h. each_body (scope r turns callee) c k.own at' r.body (lock_doubly locked r.dummies at' r.common) (named_list (λ x. Suits U N at' (r.names x)) N h r.body k.literals))

      each_called : (r : Routine) (turns : ℕ) (callee : List ℕ → Meaning) → Keeps U N r → ((x : List ℕ) → MeaningKeeps U N (callee x)) → MeaningKeeps U N (called r turns callee)
      each_called r turns callee k c ps locked o = (
        each_forget r.locals k.locals (body_of r turns callee ps (scalars_bound r.dummies ps r.fixed) locked) (each_body_of r turns callee k c ps (scalars_bound r.dummies ps r.fixed) locked o suits),
        each_after_call r.locals k.locals,
      )
        where
          suits : (x : List ℕ) → Suits U N (scalars_bound r.dummies ps r.fixed) (r.names x)
          suits x = go (r.names x) refl
            where
              go : (m : Meant) → r.names x ≡ m → Suits U N (scalars_bound r.dummies ps r.fixed) m
              go (Constant v) e = k.constants x v e
              go (Variable v) e = scalar_at r.dummies ps r.fixed o v (λ n. k.fixed x v e n)
              go Function e = tt

      pub each_meanings : (rs : List Routine) (turns : ℕ) → AllKeep U N rs → (x : List ℕ) → MeaningKeeps U N (meanings rs turns x)
      each_meanings [] turns k x = λ ps locked o. tt
      each_meanings (r ∷ rs) turns k x = pick (bytes_eq x r.name) (each_called r turns (meanings rs turns) k.0 (λ y. each_meanings rs turns k.1 y)) (each_meanings rs turns k.1 x)
        where
          pick : (b : Bool) → MeaningKeeps U N (called r turns (meanings rs turns)) → MeaningKeeps U N (meanings rs turns x) → MeaningKeeps U N (if b then called r turns (meanings rs turns) else meanings rs turns x)
          pick true h k = h
          pick false h k = k
