-- Expressions, statements and modules read no unit without a value, but for a fault.
use Rattle.std.proofs.Common.{◌≡◌, ℕ, zero, suc, List, [], ◌∷◌, Bool, true, false, refl, ap, ◌∙◌, Option, Some, None, ℤ, ◌+ℤ◌, nat_le, bytes_eq, true≢false, ◌&&◌}
use Rattle.std.specs.Prelude.{if◌then◌else◌, pos}
use Rattle.std.specs.Ordering.{int_eq}
use Rattle.f77_ast.specs.Trees.{ExprTree, ExprTrees, StmtTree, WhatTree, ArmTree, ArmTrees, ElseTree, LoopTree, StmtTrees}
use Rattle.f77_ast.specs.Trees as tree
use Rattle.f77_ast.specs.Store.{Tag, Int, Undefined, same_tag, Content, content, put}
use Rattle.f77_ast.specs.Faults.{Fault, Arithmetic, Unset, Bounds, Input, Locked}
use Rattle.f77_ast.specs.Steps.{Faulty, Wants, OutOfTurns, Shown, Value, Text, Steps, ◌>>=◌}
use Rattle.f77_ast.specs.Steps as steps
use Rattle.f77_ast.specs.Numbers.{unary_tag, unary_number, binary_tag, binary_number, Intrinsic, intrinsic_named, intrinsic_number, is_true, kept}
use Rattle.f77_ast.specs.Places.{Meant, Constant, Variable, Function, Names, Dim, Place, Places, total_size, element_in}
use Rattle.f77_ast.specs.Values.{fault, given, read_unit, unit_after, element_unit, name_value, intrinsic_value, element_value, value, values, Target, to, name_target, element_target, target, shown, all_shown}
use Rattle.f77_ast.specs.Writes.{Locks, lock, written, write, assigned, is_value, taken, items_read}
use Rattle.f77_ast.specs.Plans.{Flow, Normal, Jump, Returned, Stopped, Plan, Ends, Breaks, Look, Set, Hold, Forget, Show, Take, Within, ◌▹◌, first, on_normal}
use Rattle.f77_ast.specs.Lists.{Part, is_label, has_label, from_label, go_on, in_order, with_jumps, list_plan}
use Rattle.f77_ast.specs.Loops.{Range, range, step_value, range_of, iteration_count, iterations_from}
use Rattle.f77_ast.specs.Calls.{stored, rest_after, name_actual, element_actual, actual, actuals, places_of, own_units, lock_own, forget_all, after_call, Meaning, BoundTree, Dummy, first_place, other_places, scalars_bound, high_value, dims_read, is_open, array_at, open_extent, array_place, dummy_bound, arrays_bound, lock_doubly}
use Rattle.f77_ast.specs.Statements.{Scope, statement_plan, execution, arms_plan, arm_plan, else_plan, do_plan, parts, body_plan}
use Rattle.f77_ast.specs.Programs.{Routine, scope, body_of, called, meanings}
use Rattle.laws_interleavings.specs.Faults.{IsFault, StepsFault}
use Rattle.laws_interleavings.specs.Typed.{HasTag, TagsStand, DummiesTagged, IsTagged}
use Rattle.laws_marks.specs.OutRests.{IsStrict, AreStrict, Follows}
use Rattle.laws_interleavings.proofs.Plans.Fine.{no_undefined, fault_first, fault_after, fault_then, Yields, dummy_tagged, arrays_tagged, scalars_tagged}

module _ (lost : ℕ → Bool) where
  -- ---- one after another

  pub strict_then : (t : Plan) (f : Flow → Plan) → IsStrict lost t → ((g : Flow) → IsStrict lost (f g)) → IsStrict lost (t ▹ f)
  strict_then (Ends g) f h n = n g
  strict_then (Breaks b) f h n = tt
  strict_then (Look u k) f h n = ((λ c. strict_then (k c) f (h.0 c) n), (λ c e. fault_then (k c) f (h.1 c e)))
  strict_then (Set u c t) f h n = strict_then t f h n
  strict_then (Hold u c t) f h n = (h.0, strict_then t f h.1 n)
  strict_then (Forget u t) f h n = strict_then t f h n
  strict_then (Show xs t) f h n = strict_then t f h n
  strict_then (Take k) f h n = λ o. strict_then (k o) f (h o) n
  strict_then (Within p at t k) f h n = (h.0, λ g. strict_then (k g) f (h.1 g) n)

  pub strict_first : {A : Type 0} (t : Steps A) (f : A → Plan) → AreStrict lost t → ((a : A) → IsStrict lost (f a)) → IsStrict lost (first t f)
  strict_first (steps.Done a) f h n = n a
  strict_first (steps.Breaks b) f h n = tt
  strict_first (steps.Look u k) f h n = ((λ c. strict_first (k c) f (h.0 c) n), (λ c e. fault_first (k c) f (h.1 c e)))
  strict_first (steps.Set u c t) f h n = strict_first t f h n
  strict_first (steps.Hold u c t) f h n = (h.0, strict_first t f h.1 n)
  strict_first (steps.Forget u t) f h n = strict_first t f h n
  strict_first (steps.Show xs t) f h n = strict_first t f h n
  strict_first (steps.Take k) f h n = λ o. strict_first (k o) f (h o) n
  strict_first (steps.Arrive p t) f h n = strict_first t f h n

  strict_after : {A B : Type 0} (t : Steps A) (f : A → Steps B) → AreStrict lost t → ((a : A) → AreStrict lost (f a)) → AreStrict lost (t >>= f)
  strict_after (steps.Done a) f h n = n a
  strict_after (steps.Breaks b) f h n = tt
  strict_after (steps.Look u k) f h n = ((λ c. strict_after (k c) f (h.0 c) n), (λ c e. fault_after (k c) f (h.1 c e)))
  strict_after (steps.Set u c t) f h n = strict_after t f h n
  strict_after (steps.Hold u c t) f h n = (h.0, strict_after t f h.1 n)
  strict_after (steps.Forget u t) f h n = strict_after t f h n
  strict_after (steps.Show xs t) f h n = strict_after t f h n
  strict_after (steps.Take k) f h n = λ o. strict_after (k o) f (h o) n
  strict_after (steps.Arrive p t) f h n = strict_after t f h n

  -- with what the first gives
  strict_first_so : {A : Type 0} (P : A → Type 0) (t : Steps A) (f : A → Plan) → AreStrict lost t → Yields P t → ((a : A) → P a → IsStrict lost (f a)) → IsStrict lost (first t f)
  strict_first_so P (steps.Done a) f h y n = n a y
  strict_first_so P (steps.Breaks b) f h y n = tt
  strict_first_so P (steps.Look u k) f h y n = ((λ c. strict_first_so P (k c) f (h.0 c) (y c) n), (λ c e. fault_first (k c) f (h.1 c e)))
  strict_first_so P (steps.Set u c t) f h y n = strict_first_so P t f h y n
  strict_first_so P (steps.Hold u c t) f h y n = (h.0, strict_first_so P t f h.1 y n)
  strict_first_so P (steps.Forget u t) f h y n = strict_first_so P t f h y n
  strict_first_so P (steps.Show xs t) f h y n = strict_first_so P t f h y n
  strict_first_so P (steps.Take k) f h y n = λ o. strict_first_so P (k o) f (h o) (y o) n
  strict_first_so P (steps.Arrive p t) f h y n = strict_first_so P t f h y n

  strict_after_so : {A B : Type 0} (P : A → Type 0) (t : Steps A) (f : A → Steps B) → AreStrict lost t → Yields P t → ((a : A) → P a → AreStrict lost (f a)) → AreStrict lost (t >>= f)
  strict_after_so P (steps.Done a) f h y n = n a y
  strict_after_so P (steps.Breaks b) f h y n = tt
  strict_after_so P (steps.Look u k) f h y n = ((λ c. strict_after_so P (k c) f (h.0 c) (y c) n), (λ c e. fault_after (k c) f (h.1 c e)))
  strict_after_so P (steps.Set u c t) f h y n = strict_after_so P t f h y n
  strict_after_so P (steps.Hold u c t) f h y n = (h.0, strict_after_so P t f h.1 y n)
  strict_after_so P (steps.Forget u t) f h y n = strict_after_so P t f h y n
  strict_after_so P (steps.Show xs t) f h y n = strict_after_so P t f h y n
  strict_after_so P (steps.Take k) f h y n = λ o. strict_after_so P (k o) f (h o) (y o) n
  strict_after_so P (steps.Arrive p t) f h y n = strict_after_so P t f h y n

  -- ---- units, and numbers

  pub strict_given : (t : Tag) (o : Option ℤ) → AreStrict lost (given t o)
  strict_given t None = tt
  strict_given t (Some n) = tt

  strict_read : (t : Tag) (u : ℕ) → HasTag t → AreStrict lost (read_unit t u)
  strict_read t u h = ((λ c. either (same_tag t c.tag) c), (λ c e. none (same_tag t c.tag) c (no_undefined t c.tag h e)))
    where
      either : (b : Bool) (c : Content) → AreStrict {A = Content} lost (if b then steps.Done c else fault Unset)
      either true c = tt
      either false c = tt

      none : (b : Bool) (c : Content) → b ≡ false → StepsFault {A = Content} (if b then steps.Done c else fault Unset)
      none true c e = absurd (true≢false e)
      none false c e = tt

  strict_unit_after : (u : ℕ) (o : Option ℕ) → AreStrict lost (unit_after u o)
  strict_unit_after u None = tt
  strict_unit_after u (Some k) = tt

  strict_intrinsic : (o : Option Intrinsic) (ns : List ℤ) → AreStrict lost (intrinsic_value o ns)
  strict_intrinsic None ns = tt
  strict_intrinsic (Some f) ns = strict_given Int (intrinsic_number f ns)

  strict_write : (locked : Locks) (u : ℕ) (c : Content) → AreStrict lost (write locked u c)
  strict_write locked u c = go (locked u)
    where
      go : (o : Option Fault) → AreStrict lost (written o u c)
      go None = tt
      go (Some f) = tt

  strict_taken : (locked : Locks) (t : Target) (o : Option Content) → AreStrict lost (taken locked t o)
  strict_taken locked t None = tt
  strict_taken locked t (Some c) = go (same_tag t.tag c.tag && is_value t.tag c.number)
    where
      go : (b : Bool) → AreStrict lost (if b then write locked t.unit c else fault Input)
      go true = strict_write locked t.unit c
      go false = tt

  strict_range : (a b c : ℤ) → AreStrict lost (range a b c)
  strict_range a b c = go (int_eq c (pos 0))
    where
      go : (z : Bool) → AreStrict {A = Range} lost (if z then fault Arithmetic else steps.Done (record { from = a; last = b; step = c }))
      go true = tt
      go false = tt

  strict_stored : (u : ℕ) (c : Content) → lost u ≡ false → AreStrict lost (stored u c)
  strict_stored u c h = (h, tt)

  strict_rest_after : (p : Place) (o : Option ℕ) → AreStrict lost (rest_after p o)
  strict_rest_after p None = tt
  strict_rest_after p (Some k) = tt

  -- ---- expressions, and what statements evaluate

  strict_name : (w : Meant) (at : Places) → ((v : ℕ) → w ≡ Variable v → HasTag (at v).tag) → AreStrict lost (name_value w at)
  strict_name (Constant c) at h = tt
  strict_name (Variable v) at h = strict_read (at v).tag (at v).first (h v refl)
  strict_name Function at h = tt

  strict_element : (w : Meant) (x : List ℕ) (at : Places) → ((v : ℕ) → w ≡ Variable v → HasTag (at v).tag) → (ns : List ℤ) → AreStrict lost (element_value w x at ns)
  strict_element (Constant c) x at h ns = tt
  strict_element (Variable v) x at h ns = strict_after (element_unit (at v) ns) (read_unit (at v).tag) (strict_unit_after (at v).first (element_in (at v) ns)) (λ u. strict_read (at v).tag u (h v refl))
  strict_element Function x at h ns = strict_intrinsic (intrinsic_named x) ns

  mutual
    pub strict_value : (e : ExprTree) (w : Names) (at : Places) (ok : TagsStand w at) → AreStrict lost (value e w at)
    strict_value (tree.int n) w at ok = tt
    strict_value (tree.log b) w at ok = tt
    strict_value (tree.name x) w at ok = strict_name (w x) at (ok x)
    strict_value (tree.element x es) w at ok = strict_after (values es w at) (element_value (w x) x at) (strict_values es w at ok) (λ ns. strict_element (w x) x at (ok x) ns)
    strict_value (tree.paren e) w at ok = strict_value e w at ok
    strict_value (tree.unary o e) w at ok = strict_after (value e w at) (λ c. given (unary_tag o) (unary_number o c.number)) (strict_value e w at ok) (λ c. strict_given (unary_tag o) (unary_number o c.number))
    strict_value (tree.binary o a b) w at ok =
        strict_after (value a w at) (λ c. value b w at >>= λ d. given (binary_tag o) (binary_number o c.number d.number)) (strict_value a w at ok)
        (λ c. strict_after (value b w at) (λ d. given (binary_tag o) (binary_number o c.number d.number)) (strict_value b w at ok) (λ d. strict_given (binary_tag o) (binary_number o c.number d.number)))
    strict_value (tree.chars x) w at ok = tt

    strict_values : (es : ExprTrees) (w : Names) (at : Places) (ok : TagsStand w at) → AreStrict lost (values es w at)
    strict_values tree.no_exprs w at ok = tt
    strict_values (tree.more_exprs e es) w at ok =
        strict_after (value e w at) (λ c. values es w at >>= λ ns. steps.Done (c.number ∷ ns)) (strict_value e w at ok) (λ c. strict_after (values es w at) (λ ns. steps.Done (c.number ∷ ns)) (strict_values es w at ok) (λ ns. tt))

  strict_name_target : (w : Meant) (at : Places) → AreStrict lost (name_target w at)
  strict_name_target (Constant c) at = tt
  strict_name_target (Variable v) at = tt
  strict_name_target Function at = tt

  strict_element_target : (w : Meant) (at : Places) (ns : List ℤ) → AreStrict lost (element_target w at ns)
  strict_element_target (Constant c) at ns = tt
  strict_element_target (Variable v) at ns = strict_after (element_unit (at v) ns) (λ u. steps.Done (to u (at v).tag)) (strict_unit_after (at v).first (element_in (at v) ns)) (λ u. tt)
  strict_element_target Function at ns = tt

  strict_target : (e : ExprTree) (w : Names) (at : Places) (ok : TagsStand w at) → AreStrict lost (target e w at)
  strict_target (tree.int n) w at ok = tt
  strict_target (tree.log b) w at ok = tt
  strict_target (tree.name x) w at ok = strict_name_target (w x) at
  strict_target (tree.element x es) w at ok = strict_after (values es w at) (element_target (w x) at) (strict_values es w at ok) (λ ns. strict_element_target (w x) at ns)
  strict_target (tree.paren e) w at ok = tt
  strict_target (tree.unary o e) w at ok = tt
  strict_target (tree.binary o a b) w at ok = tt
  strict_target (tree.chars x) w at ok = tt

  strict_value_shown : (e : ExprTree) (w : Names) (at : Places) (ok : TagsStand w at) → AreStrict lost (value e w at >>= λ c. steps.Done (Value c))
  strict_value_shown e w at ok = strict_after (value e w at) (λ c. steps.Done (Value c)) (strict_value e w at ok) (λ c. tt)

  strict_shown : (e : ExprTree) (w : Names) (at : Places) (ok : TagsStand w at) → AreStrict lost (shown e w at)
  strict_shown (tree.chars x) w at ok = tt
  strict_shown (tree.int n) w at ok = strict_value_shown (tree.int n) w at ok
  strict_shown (tree.log b) w at ok = strict_value_shown (tree.log b) w at ok
  strict_shown (tree.name x) w at ok = strict_value_shown (tree.name x) w at ok
  strict_shown (tree.element x es) w at ok = strict_value_shown (tree.element x es) w at ok
  strict_shown (tree.paren e) w at ok = strict_value_shown (tree.paren e) w at ok
  strict_shown (tree.unary o e) w at ok = strict_value_shown (tree.unary o e) w at ok
  strict_shown (tree.binary o a b) w at ok = strict_value_shown (tree.binary o a b) w at ok

  strict_all_shown : (es : ExprTrees) (w : Names) (at : Places) (ok : TagsStand w at) → AreStrict lost (all_shown es w at)
  strict_all_shown tree.no_exprs w at ok = tt
  strict_all_shown (tree.more_exprs e es) w at ok =
      strict_after (shown e w at) (λ x. all_shown es w at >>= λ xs. steps.Done (x ∷ xs)) (strict_shown e w at ok) (λ x. strict_after (all_shown es w at) (λ xs. steps.Done (x ∷ xs)) (strict_all_shown es w at ok) (λ xs. tt))

  strict_assigned : (a b : ExprTree) (w : Names) (at : Places) (ok : TagsStand w at) (locked : Locks) → AreStrict lost (assigned a b w at locked)
  strict_assigned a b w at ok locked =
      strict_after (value b w at) (λ c. target a w at >>= λ t. write locked t.unit (content t.tag c.number)) (strict_value b w at ok)
      (λ c. strict_after (target a w at) (λ t. write locked t.unit (content t.tag c.number)) (strict_target a w at ok) (λ t. strict_write locked t.unit (content t.tag c.number)))

  strict_items : (es : ExprTrees) (w : Names) (at : Places) (ok : TagsStand w at) (locked : Locks) → AreStrict lost (items_read es w at locked)
  strict_items tree.no_exprs w at ok locked = tt
  strict_items (tree.more_exprs e es) w at ok locked =
      strict_after (target e w at) (λ t. steps.Take (taken locked t) >>= λ o. items_read es w at locked) (strict_target e w at ok)
      (λ t. λ o. strict_after (taken locked t o) (λ u. items_read es w at locked) (strict_taken locked t o) (λ u. strict_items es w at ok locked))

  strict_step : (e : Option ExprTree) (w : Names) (at : Places) (ok : TagsStand w at) → AreStrict lost (step_value e w at)
  strict_step None w at ok = tt
  strict_step (Some e) w at ok = strict_value e w at ok

  strict_range_of : (e1 e2 : ExprTree) (e3 : Option ExprTree) (w : Names) (at : Places) (ok : TagsStand w at) → AreStrict lost (range_of e1 e2 e3 w at)
  strict_range_of e1 e2 e3 w at ok =
      strict_after (value e1 w at) (λ a. value e2 w at >>= λ b. step_value e3 w at >>= λ c. range a.number b.number c.number) (strict_value e1 w at ok)
      (λ a. strict_after (value e2 w at) (λ b. step_value e3 w at >>= λ c. range a.number b.number c.number) (strict_value e2 w at ok)
      (λ b. strict_after (step_value e3 w at) (λ c. range a.number b.number c.number) (strict_step e3 w at ok) (λ c. strict_range a.number b.number c.number)))

  strict_name_actual : (w : Meant) (at : Places) (u : ℕ) → lost u ≡ false → AreStrict lost (name_actual w at u)
  strict_name_actual (Constant c) at u h = strict_stored u c h
  strict_name_actual (Variable v) at u h = tt
  strict_name_actual Function at u h = tt

  strict_value_stored : (e : ExprTree) (w : Names) (at : Places) (ok : TagsStand w at) (u : ℕ) → lost u ≡ false → AreStrict lost (value e w at >>= stored u)
  strict_value_stored e w at ok u h = strict_after (value e w at) (stored u) (strict_value e w at ok) (λ c. strict_stored u c h)

  strict_element_actual : (m : Meant) (e : ExprTree) (es : ExprTrees) (w : Names) (at : Places) (ok : TagsStand w at) (u : ℕ) → lost u ≡ false → AreStrict lost (element_actual m e es w at u)
  strict_element_actual (Constant c) e es w at ok u h = tt
  strict_element_actual (Variable v) e es w at ok u h = strict_after (values es w at) (λ ns. rest_after (at v) (element_in (at v) ns)) (strict_values es w at ok) (λ ns. strict_rest_after (at v) (element_in (at v) ns))
  strict_element_actual Function e es w at ok u h = strict_value_stored e w at ok u h

  strict_actual : (e : ExprTree) (w : Names) (at : Places) (ok : TagsStand w at) (u : ℕ) → lost u ≡ false → AreStrict lost (actual e w at u)
  strict_actual (tree.name x) w at ok u h = strict_name_actual (w x) at u h
  strict_actual (tree.element x es) w at ok u h = strict_element_actual (w x) (tree.element x es) es w at ok u h
  strict_actual (tree.int n) w at ok u h = strict_value_stored (tree.int n) w at ok u h
  strict_actual (tree.log b) w at ok u h = strict_value_stored (tree.log b) w at ok u h
  strict_actual (tree.paren e) w at ok u h = strict_value_stored (tree.paren e) w at ok u h
  strict_actual (tree.unary o e) w at ok u h = strict_value_stored (tree.unary o e) w at ok u h
  strict_actual (tree.binary o a b) w at ok u h = strict_value_stored (tree.binary o a b) w at ok u h
  strict_actual (tree.chars x) w at ok u h = tt

  strict_actuals : (es : ExprTrees) (k : ℕ) (w : Names) (at : Places) (ok : TagsStand w at) (own : ℕ → ℕ) → ((i : ℕ) → lost (own i) ≡ false) → AreStrict lost (actuals es k w at own)
  strict_actuals tree.no_exprs k w at ok own h = tt
  strict_actuals (tree.more_exprs e es) k w at ok own h =
      strict_after (actual e w at (own k)) (λ x. actuals es (suc k) w at own >>= λ xs. steps.Done (x ∷ xs)) (strict_actual e w at ok (own k) (h k))
      (λ x. strict_after (actuals es (suc k) w at own) (λ xs. steps.Done (x ∷ xs)) (strict_actuals es (suc k) w at ok own h) (λ xs. tt))

  strict_high : (o : Option ExprTree) (w : Names) (at : Places) (ok : TagsStand w at) → AreStrict lost (high_value o w at)
  strict_high None w at ok = tt
  strict_high (Some e) w at ok = strict_after (value e w at) (λ c. steps.Done (Some c.number)) (strict_value e w at ok) (λ c. tt)

  strict_dims : (bs : List BoundTree) (w : Names) (at : Places) (ok : TagsStand w at) → AreStrict lost (dims_read bs w at)
  strict_dims [] w at ok = tt
  strict_dims (b ∷ bs) w at ok =
      strict_after (value b.low w at) _ (strict_value b.low w at ok)
      (λ m. strict_after (high_value b.high w at) _ (strict_high b.high w at ok) (λ n. strict_after (dims_read bs w at) _ (strict_dims bs w at ok) (λ ds. tt)))

  -- ---- lists

  abbrev pub PartsStrict : List Part → Type 0
  PartsStrict [] = Unit {0}
  PartsStrict (q ∷ qs) = IsStrict lost q.does × PartsStrict qs

  pub strict_from : (l : ℕ) (qs : List Part) → PartsStrict qs → PartsStrict (from_label l qs)
  strict_from l [] h = tt
  strict_from l (q ∷ qs) h = go (is_label l q.label) (strict_from l qs h.1)
    where
      go : (b : Bool) → PartsStrict (from_label l qs) → PartsStrict (if b then q ∷ qs else from_label l qs)
      go true ih = h
      go false ih = ih

  pub strict_go_on : (jump : ℕ → Plan) (all : List Part) (rest : Plan) → ((l : ℕ) → IsStrict lost (jump l)) → IsStrict lost rest → (g : Flow) → IsStrict lost (go_on jump all rest g)
  strict_go_on jump all rest j h Normal = h
  strict_go_on jump all rest j h (Jump l) = go (has_label l all)
    where
      go : (b : Bool) → IsStrict lost (if b then jump l else Ends (Jump l))
      go true = j l
      go false = tt
  strict_go_on jump all rest j h Returned = tt
  strict_go_on jump all rest j h Stopped = tt

  pub strict_in_order : (jump : ℕ → Plan) (all qs : List Part) → ((l : ℕ) → IsStrict lost (jump l)) → PartsStrict qs → IsStrict lost (in_order jump all qs)
  strict_in_order jump all [] j h = tt
  strict_in_order jump all (q ∷ qs) j h = strict_then q.does (go_on jump all (in_order jump all qs)) h.0 (strict_go_on jump all (in_order jump all qs) j (strict_in_order jump all qs j h.1))

  pub strict_jumps : (n : ℕ) (all qs : List Part) → PartsStrict all → PartsStrict qs → IsStrict lost (with_jumps n all qs)
  strict_jumps zero all qs a h = strict_in_order (λ l. Breaks OutOfTurns) all qs (λ l. tt) h
  strict_jumps (suc n) all qs a h = strict_in_order (λ l. with_jumps n all (from_label l all)) all qs (λ l. strict_jumps n all (from_label l all) a (strict_from l all a)) h

  pub strict_on_normal : (f : Flow) (t : Plan) → IsStrict lost t → IsStrict lost (on_normal f t)
  strict_on_normal Normal t h = h
  strict_on_normal (Jump l) t h = tt
  strict_on_normal Returned t h = tt
  strict_on_normal Stopped t h = tt

  pub strict_iterations : (k : ℕ) (n step : ℤ) (u : ℕ) (body : Plan) → IsStrict lost body → IsStrict lost (iterations_from k n step u body)
  strict_iterations zero n step u body h = tt
  strict_iterations (suc k) n step u body h =
      strict_then body (λ f. on_normal f (first (given Int (kept (n +ℤ step))) (λ c. Set u c (iterations_from k c.number step u body)))) h
      (λ f. strict_on_normal f (first (given Int (kept (n +ℤ step))) (λ c. Set u c (iterations_from k c.number step u body)))
      (strict_first (given Int (kept (n +ℤ step))) (λ c. Set u c (iterations_from k c.number step u body)) (strict_given Int (kept (n +ℤ step))) (λ c. strict_iterations k c.number step u body h)))

  pub strict_forget : (us : List ℕ) (t : Plan) → IsStrict lost t → IsStrict lost (forget_all us t)
  strict_forget [] t h = h
  strict_forget (u ∷ us) t h = strict_forget us t h

  pub strict_after_call : (us : List ℕ) (f : Flow) → IsStrict lost (after_call us f)
  strict_after_call us Normal = strict_forget us (Ends Normal) tt
  strict_after_call us Returned = strict_forget us (Ends Normal) tt
  strict_after_call us Stopped = tt
  strict_after_call us (Jump l) = tt

  abbrev pub MeaningStrict : Meaning → Type 0
  MeaningStrict m = (ps : List Place) (locked : Locks) → IsStrict lost (m ps locked)

  -- ---- statements

  module _ (sc : Scope) (own : (n i : ℕ) → lost (sc.own_unit n i) ≡ false) (callee : (x : List ℕ) → MeaningStrict (sc.callee x)) (at : Places) (ok : TagsStand sc.names at) where
    -- a DO, from its body
    strict_head : (index : List ℕ) (e1 e2 : ExprTree) (e3 : Option ExprTree) (body : StmtTrees) (locked : Locks) → ((l : Locks) → PartsStrict (parts body sc at l)) → IsStrict lost (do_plan (tree.loop index e1 e2 e3 body) sc at locked)
    strict_head index e1 e2 e3 body locked p =
        strict_first (range_of e1 e2 e3 sc.names at) _ (strict_range_of e1 e2 e3 sc.names at ok)
        (λ r. strict_first (name_target (sc.names index) at) _ (strict_name_target (sc.names index) at)
        (λ t. strict_first (write locked t.unit (content Int r.from)) _ (strict_write locked t.unit (content Int r.from))
        (λ o. strict_iterations (iteration_count r.from r.last r.step) r.from r.step t.unit (list_plan sc.turns (parts body sc at (lock locked t.unit Locked))) (strict_jumps sc.turns (parts body sc at (lock locked t.unit Locked)) (parts body sc at (lock locked t.unit Locked)) (p (lock locked t.unit Locked)) (p (lock locked t.unit Locked))))))

    mutual
      pub strict_stmt : (s : StmtTree) (locked : Locks) → IsStrict lost (statement_plan s sc at locked)
      strict_stmt (tree.stmt n label w) locked = (strict_what w n locked, λ f. tt)

      pub strict_what : (w : WhatTree) (n : ℕ) (locked : Locks) → IsStrict lost (execution w n sc at locked)
      strict_what (tree.assign a b) n locked = strict_first (assigned a b sc.names at locked) (λ o. Ends Normal) (strict_assigned a b sc.names at ok locked) (λ o. tt)
      strict_what (tree.block_if arms rest) n locked = strict_arms arms (else_plan rest sc at locked) locked (strict_else rest locked)
      strict_what (tree.logical_if test s) n locked = strict_first (value test sc.names at) (λ c. if is_true c.number then statement_plan s sc at locked else Ends Normal) (strict_value test sc.names at ok) (λ c. either (is_true c.number) (strict_stmt s locked))
        where
          either : (b : Bool) → IsStrict lost (statement_plan s sc at locked) → IsStrict lost (if b then statement_plan s sc at locked else Ends Normal)
          either true h = h
          either false h = tt
      strict_what (tree.do_loop l) n locked = strict_do l locked
      strict_what (tree.call x es) n locked =
          strict_first (actuals es 0 sc.names at (sc.own_unit n)) (λ xs. sc.callee x (places_of xs) (lock_own locked (own_units xs)) ▹ after_call (own_units xs)) (strict_actuals es 0 sc.names at ok (sc.own_unit n) (own n))
          (λ xs. strict_then (sc.callee x (places_of xs) (lock_own locked (own_units xs))) (after_call (own_units xs)) (callee x (places_of xs) (lock_own locked (own_units xs))) (strict_after_call (own_units xs)))
      strict_what (tree.goto l) n locked = tt
      strict_what tree.continue n locked = tt
      strict_what tree.return n locked = tt
      strict_what (tree.stop text) n locked = tt
      strict_what (tree.print es) n locked = strict_first (all_shown es sc.names at) (λ xs. Show xs (Ends Normal)) (strict_all_shown es sc.names at ok) (λ xs. tt)
      strict_what (tree.read es) n locked = strict_first (items_read es sc.names at locked) (λ o. Ends Normal) (strict_items es sc.names at ok locked) (λ o. tt)

      strict_arms : (arms : ArmTrees) (rest : Plan) (locked : Locks) → IsStrict lost rest → IsStrict lost (arms_plan arms sc at locked rest)
      strict_arms tree.no_arms rest locked h = h
      strict_arms (tree.more_arms a more) rest locked h = strict_arm a (arms_plan more sc at locked rest) locked (strict_arms more rest locked h)

      strict_arm : (a : ArmTree) (rest : Plan) (locked : Locks) → IsStrict lost rest → IsStrict lost (arm_plan a sc at locked rest)
      strict_arm (tree.arm test body) rest locked h = strict_first (value test sc.names at) (λ c. if is_true c.number then list_plan sc.turns (parts body sc at locked) else rest) (strict_value test sc.names at ok) (λ c. either (is_true c.number) (strict_parts body locked))
        where
          either : (b : Bool) → PartsStrict (parts body sc at locked) → IsStrict lost (if b then list_plan sc.turns (parts body sc at locked) else rest)
          either true p = strict_jumps sc.turns (parts body sc at locked) (parts body sc at locked) p p
          either false p = h

      strict_else : (other : ElseTree) (locked : Locks) → IsStrict lost (else_plan other sc at locked)
      strict_else tree.no_else locked = tt
      strict_else (tree.otherwise body) locked = strict_list body (strict_parts body locked)
        where
          strict_list : (body : StmtTrees) → PartsStrict (parts body sc at locked) → IsStrict lost (list_plan sc.turns (parts body sc at locked))
          strict_list body p = strict_jumps sc.turns (parts body sc at locked) (parts body sc at locked) p p

      strict_do : (l : LoopTree) (locked : Locks) → IsStrict lost (do_plan l sc at locked)
      strict_do (tree.loop index e1 e2 e3 body) locked = strict_head index e1 e2 e3 body locked (λ l. strict_parts body l)

      pub strict_parts : (ss : StmtTrees) (locked : Locks) → PartsStrict (parts ss sc at locked)
      strict_parts tree.no_stmts locked = tt
      strict_parts (tree.more_stmts s rest) locked = (strict_stmt s locked, strict_parts rest locked)

  -- ---- modules

  strict_array : (p : Place) (t : Tag) (ds : List Dim) → AreStrict lost (array_place p t ds)
  strict_array p t ds = go (is_open ds) (nat_le (total_size ds) p.extent)
    where
      go : (a b : Bool) → AreStrict {A = Place} lost (if a then steps.Done (array_at p t ds (open_extent p ds)) else if b then steps.Done (array_at p t ds (total_size ds)) else fault Bounds)
      go true b = tt
      go false true = tt
      go false false = tt

  strict_dummy : (d : Dummy) (p : Place) (ds : List Dim) (at : Places) → AreStrict lost (dummy_bound d p ds at)
  strict_dummy d p [] at = tt
  strict_dummy d p (m ∷ ms) at = strict_after (array_place p d.tag (m ∷ ms)) (λ q. steps.Done (put at d.symbol q)) (strict_array p d.tag (m ∷ ms)) (λ q. tt)

  strict_arrays : (ds : List Dummy) (ps : List Place) (w : Names) (at : Places) → DummiesTagged ds → TagsStand w at → AreStrict lost (arrays_bound ds ps w at)
  strict_arrays [] ps w at h ok = tt
  strict_arrays (d ∷ ds) ps w at h ok =
      strict_after (dims_read d.bounds w at) (λ ms. dummy_bound d (first_place ps) ms at >>= arrays_bound ds (other_places ps) w) (strict_dims d.bounds w at ok)
      (λ ms. strict_after_so (TagsStand w) (dummy_bound d (first_place ps) ms at) (arrays_bound ds (other_places ps) w) (strict_dummy d (first_place ps) ms at) (dummy_tagged w d (first_place ps) ms at h.0 ok) (λ at' ok'. strict_arrays ds (other_places ps) w at' h.1 ok'))

  pub strict_body : (r : Routine) (turns : ℕ) (callee : List ℕ → Meaning) → IsTagged r → ((n i : ℕ) → lost (r.own_unit n i) ≡ false) → ((x : List ℕ) → MeaningStrict (callee x)) → (ps : List Place) (at : Places) (locked : Locks) → TagsStand r.names at → IsStrict lost (body_of r turns callee ps at locked)
  strict_body r turns callee tagged own h ps at locked ok =
      strict_first_so (TagsStand r.names) (arrays_bound r.dummies ps r.names at) (λ at'. body_plan r.body (scope r turns callee) at' (lock_doubly locked r.dummies at' r.common)) (strict_arrays r.dummies ps r.names at tagged.dummies ok) (arrays_tagged r.dummies ps r.names at tagged.dummies ok)
      (λ at' ok'. list (lock_doubly locked r.dummies at' r.common) at' (strict_parts (scope r turns callee) own h at' ok' r.body (lock_doubly locked r.dummies at' r.common)))
    where
      list : (l : Locks) (at' : Places) → PartsStrict (parts r.body (scope r turns callee) at' l) → IsStrict lost (body_plan r.body (scope r turns callee) at' l)
      list l at' p = strict_jumps turns (parts r.body (scope r turns callee) at' l) (parts r.body (scope r turns callee) at' l) p p

  pub strict_called : (r : Routine) (turns : ℕ) (callee : List ℕ → Meaning) → IsTagged r → ((n i : ℕ) → lost (r.own_unit n i) ≡ false) → ((x : List ℕ) → MeaningStrict (callee x)) → MeaningStrict (called r turns callee)
  strict_called r turns callee tagged own h ps locked =
      let at = scalars_bound r.dummies ps r.fixed in
      (strict_forget r.locals (body_of r turns callee ps at locked) (strict_body r turns callee tagged own h ps at locked (scalars_tagged r.names r.dummies ps r.fixed tagged.dummies tagged.fixed)), strict_after_call r.locals)

  -- of each module
  abbrev pub AllKept : List Routine → Type 0
  AllKept [] = Unit {0}
  AllKept (r ∷ rs) = IsTagged r × ((n i : ℕ) → lost (r.own_unit n i) ≡ false) × AllKept rs

  pub strict_meanings : (rs : List Routine) (turns : ℕ) → AllKept rs → (x : List ℕ) → MeaningStrict (meanings rs turns x)
  strict_meanings [] turns o x ps locked = tt
  strict_meanings (r ∷ rs) turns o x ps locked = either (bytes_eq x r.name) (strict_called r turns (meanings rs turns) o.0 o.1 (λ y. strict_meanings rs turns o.2 y)) (strict_meanings rs turns o.2 x)
    where
      either : (b : Bool) → MeaningStrict (called r turns (meanings rs turns)) → MeaningStrict (meanings rs turns x) → IsStrict lost ((if b then called r turns (meanings rs turns) else meanings rs turns x) ps locked)
      either true g h = g ps locked
      either false g h = h ps locked

  -- what follows a part, where it goes on with more
  pub follows_then : (f k : Flow → Plan) → ((g : Flow) → IsStrict lost (f g)) → f Stopped ≡ Ends Stopped → Follows lost k → Follows lost (λ g. f g ▹ k)
  follows_then f k h e r = record { strict = λ g. strict_then (f g) k (h g) r.strict; stopped = ap (λ t. t ▹ k) e ∙ r.stopped }
