-- Expressions, statements and modules are fine.
use Rattle.std.proofs.Common.{◌≡◌, ◌≤◌, ◌<◌, ⊎_elim, subst, arith, ℕ, zero, suc, ◌+◌, List, [], ◌∷◌, Bool, true, false, refl, sym, ap, ◌∙◌, Option, Some, None, ℤ, ◌+ℤ◌, nat_le, nat_eq, bytes_eq, true≢false, ◌&&◌}
use Rattle.std.specs.Prelude.{if◌then◌else◌, pos}
use Rattle.std.specs.Ordering.{int_eq}
use Rattle.std.specs.List.{list_any}
use Rattle.std.proofs.lemmas.Bool.{or_left, or_right}
use Rattle.std.proofs.lemmas.Bool.Decides.{eqb_tells, nat_tests}
use Rattle.f77_ast.specs.Trees.{ExprTree, ExprTrees, StmtTree, WhatTree, ArmTree, ArmTrees, ElseTree, LoopTree, StmtTrees}
use Rattle.f77_ast.specs.Trees as tree
use Rattle.f77_ast.specs.Shapes.{walk_stmt, walk_what, walk_arms, walk_arm, walk_else, walk_body}
use Rattle.f77_ast.specs.Store.{Tag, Int, Undefined, same_tag, Content, content, put}
use Rattle.f77_ast.specs.Faults.{Fault, Arithmetic, Unset, Bounds, Input, Locked, Shared}
use Rattle.f77_ast.specs.Steps.{Faulty, Wants, OutOfTurns, Shown, Value, Text, Steps, ◌>>=◌}
use Rattle.f77_ast.specs.Steps as steps
use Rattle.f77_ast.specs.Numbers.{unary_tag, unary_number, binary_tag, binary_number, Intrinsic, intrinsic_named, intrinsic_number, is_true, kept}
use Rattle.f77_ast.specs.Places.{Meant, Constant, Variable, Function, Names, Dim, Place, Places, scalar_place, total_size, element_in}
use Rattle.f77_ast.specs.Values.{fault, given, read_unit, unit_after, element_unit, name_value, intrinsic_value, element_value, value, values, Target, to, name_target, element_target, target, shown, all_shown}
use Rattle.f77_ast.specs.Writes.{Locks, first_lock, lock, written, write, assigned, is_value, taken, items_read}
use Rattle.f77_ast.specs.Plans.{Flow, Normal, Jump, Returned, Stopped, Plan, Ends, Breaks, Look, Set, Hold, Forget, Show, Take, Within, ◌▹◌, first, on_normal}
use Rattle.f77_ast.specs.Lists.{Part, is_label, has_label, from_label, go_on, in_order, with_jumps, list_plan}
use Rattle.f77_ast.specs.Loops.{Range, range, step_value, range_of, iteration_count, iterations_from}
use Rattle.f77_ast.specs.Calls.{Actual, passed_by_reference, stored, rest_after, name_actual, element_actual, actual, actuals, places_of, own_units, lock_own, forget_all, after_call, BoundTree, Dummy, first_place, other_places, scalars_bound, high_value, dims_read, is_open, array_at, open_extent, array_place, dummy_bound, arrays_bound, doubly_reached, lock_doubly}
use Rattle.f77_ast.specs.Statements.{statement_plan, execution, arms_plan, arm_plan, else_plan, do_plan, parts, body_plan}
use Rattle.f77_ast.specs.Programs.{Routine, scope, body_of, called, meanings}
use Rattle.laws_interleavings.specs.MarkedStatements.{one_of, count, MarkedScope, own_of_leaf, own_walk, own_in}
use Rattle.laws_interleavings.specs.MarkedPrograms.{Directives, marked_scope, marked_called, marked_meanings}
use Rattle.laws_interleavings.specs.Faults.{IsFault, StepsFault}
use Rattle.laws_interleavings.specs.Typed.{HasTag, TagsStand, DummiesTagged, IsNoDummy, IsTagged, AllTagged}
use Rattle.laws_interleavings.specs.Plans.Fine.{IsFine, AreFine, Frees, MeaningFine}
use Rattle.fx_lists.proofs.Every.{Anything}

pub no_undefined : (t c : Tag) → HasTag t → c ≡ Undefined → same_tag t c ≡ false
no_undefined t c h e = ap (same_tag t) e ∙ h

pub fault_first : {A : Type 0} (t : Steps A) (f : A → Plan) → StepsFault t → IsFault (first t f)
fault_first (steps.Done a) f h = absurd h
fault_first (steps.Breaks (Faulty x)) f h = tt
fault_first (steps.Breaks (Wants u)) f h = absurd h
fault_first (steps.Breaks OutOfTurns) f h = absurd h
fault_first (steps.Look u k) f h = absurd h
fault_first (steps.Set u c t) f h = absurd h
fault_first (steps.Hold u c t) f h = absurd h
fault_first (steps.Forget u t) f h = absurd h
fault_first (steps.Show xs t) f h = absurd h
fault_first (steps.Take k) f h = absurd h
fault_first (steps.Arrive p t) f h = absurd h

pub fault_after : {A B : Type 0} (t : Steps A) (f : A → Steps B) → StepsFault t → StepsFault (t >>= f)
fault_after (steps.Done a) f h = absurd h
fault_after (steps.Breaks (Faulty x)) f h = tt
fault_after (steps.Breaks (Wants u)) f h = absurd h
fault_after (steps.Breaks OutOfTurns) f h = absurd h
fault_after (steps.Look u k) f h = absurd h
fault_after (steps.Set u c t) f h = absurd h
fault_after (steps.Hold u c t) f h = absurd h
fault_after (steps.Forget u t) f h = absurd h
fault_after (steps.Show xs t) f h = absurd h
fault_after (steps.Take k) f h = absurd h
fault_after (steps.Arrive p t) f h = absurd h

pub fault_then : (t : Plan) (f : Flow → Plan) → IsFault t → IsFault (t ▹ f)
fault_then (Ends g) f h = absurd h
fault_then (Breaks (Faulty x)) f h = tt
fault_then (Breaks (Wants u)) f h = absurd h
fault_then (Breaks OutOfTurns) f h = absurd h
fault_then (Look u k) f h = absurd h
fault_then (Set u c t) f h = absurd h
fault_then (Hold u c t) f h = absurd h
fault_then (Forget u t) f h = absurd h
fault_then (Show xs t) f h = absurd h
fault_then (Take k) f h = absurd h
fault_then (Within p at t k) f h = absurd h

-- what a computation gives, where it gives something
abbrev pub Yields : {A : Type 0} → (A → Type 0) → Steps A → Type 0
Yields P (steps.Done a) = P a
Yields P (steps.Breaks b) = Unit {0}
Yields P (steps.Look u k) = (c : Content) → Yields P (k c)
Yields P (steps.Set u c t) = Yields P t
Yields P (steps.Hold u c t) = Yields P t
Yields P (steps.Forget u t) = Yields P t
Yields P (steps.Show xs t) = Yields P t
Yields P (steps.Take k) = (o : Option Content) → Yields P (k o)
Yields P (steps.Arrive p t) = Yields P t

pub yields_then : {A B : Type 0} (P : A → Type 0) (Q : B → Type 0) (t : Steps A) (f : A → Steps B) → Yields P t → ((a : A) → P a → Yields Q (f a)) → Yields Q (t >>= f)
yields_then P Q (steps.Done a) f h n = n a h
yields_then P Q (steps.Breaks b) f h n = tt
yields_then P Q (steps.Look u k) f h n = λ c. yields_then P Q (k c) f (h c) n
yields_then P Q (steps.Set u c t) f h n = yields_then P Q t f h n
yields_then P Q (steps.Hold u c t) f h n = yields_then P Q t f h n
yields_then P Q (steps.Forget u t) f h n = yields_then P Q t f h n
yields_then P Q (steps.Show xs t) f h n = yields_then P Q t f h n
yields_then P Q (steps.Take k) f h n = λ o. yields_then P Q (k o) f (h o) n
yields_then P Q (steps.Arrive p t) f h n = yields_then P Q t f h n

pub yields_any : {A : Type 0} (t : Steps A) → Yields Anything t
yields_any (steps.Done a) = tt
yields_any (steps.Breaks b) = tt
yields_any (steps.Look u k) = λ c. yields_any (k c)
yields_any (steps.Set u c t) = yields_any t
yields_any (steps.Hold u c t) = yields_any t
yields_any (steps.Forget u t) = yields_any t
yields_any (steps.Show xs t) = yields_any t
yields_any (steps.Take k) = λ o. yields_any (k o)
yields_any (steps.Arrive p t) = yields_any t

-- ---- tags

tag_given : (p : Place) (t : Tag) (ds : List Dim) → HasTag t → Yields (λ (q : Place). HasTag q.tag) (array_place p t ds)
tag_given p t ds h = go (is_open ds) (nat_le (total_size ds) p.extent)
  where
    go : (a b : Bool) → Yields {A = Place} (λ (q : Place). HasTag q.tag) (if a then steps.Done (array_at p t ds (open_extent p ds)) else if b then steps.Done (array_at p t ds (total_size ds)) else fault Bounds)
    go true b = h
    go false true = h
    go false false = tt

put_tagged : (w : Names) (at : Places) (n : ℕ) (p : Place) → TagsStand w at → HasTag p.tag → TagsStand w (put at n p)
put_tagged w at n p ok h x v e = go (nat_eq v n)
  where
    go : (b : Bool) → HasTag (if b then p else at v).tag
    go true = h
    go false = ok x v e

pub dummy_tagged : (w : Names) (d : Dummy) (p : Place) (ds : List Dim) (at : Places) → HasTag d.tag → TagsStand w at → Yields (TagsStand w) (dummy_bound d p ds at)
dummy_tagged w d p [] at h ok = ok
dummy_tagged w d p (m ∷ ms) at h ok = yields_then (λ (q : Place). HasTag q.tag) (TagsStand w) (array_place p d.tag (m ∷ ms)) (λ q. steps.Done (put at d.symbol q)) (tag_given p d.tag (m ∷ ms) h) (λ q i. put_tagged w at d.symbol q ok i)

pub arrays_tagged : (ds : List Dummy) (ps : List Place) (w : Names) (at : Places) → DummiesTagged ds → TagsStand w at → Yields (TagsStand w) (arrays_bound ds ps w at)
arrays_tagged [] ps w at h ok = ok
arrays_tagged (d ∷ ds) ps w at h ok =
    yields_then Anything (TagsStand w) (dims_read d.bounds w at) (λ ms. dummy_bound d (first_place ps) ms at >>= arrays_bound ds (other_places ps) w) (yields_any (dims_read d.bounds w at))
    (λ ms u. yields_then (TagsStand w) (TagsStand w) (dummy_bound d (first_place ps) ms at) (arrays_bound ds (other_places ps) w) (dummy_tagged w d (first_place ps) ms at h.0 ok) (λ at' ok'. arrays_tagged ds (other_places ps) w at' h.1 ok'))

scalar_tagged : (ds : List Dummy) (ps : List Place) (at : Places) → DummiesTagged ds → (v : ℕ) → (IsNoDummy ds v → HasTag (at v).tag) → HasTag (scalars_bound ds ps at v).tag
scalar_tagged [] ps at h v f = f tt
scalar_tagged (d ∷ ds) ps at h v f = go (nat_eq v d.symbol) refl (λ e. scalar_tagged ds (other_places ps) at h.1 v (λ n. f (e, n)))
  where
    go : (b : Bool) → nat_eq v d.symbol ≡ b → (nat_eq v d.symbol ≡ false → HasTag (scalars_bound ds (other_places ps) at v).tag) → HasTag (if b then scalar_place (first_place ps).first d.tag else scalars_bound ds (other_places ps) at v).tag
    go true e ih = h.0
    go false e ih = ih e

pub scalars_tagged : (w : Names) (ds : List Dummy) (ps : List Place) (at : Places) → DummiesTagged ds → ((x : List ℕ) (v : ℕ) → w x ≡ Variable v → IsNoDummy ds v → HasTag (at v).tag) → TagsStand w (scalars_bound ds ps at)
scalars_tagged w ds ps at h f x v e = scalar_tagged ds ps at h v (f x v e)

module _ (free own : ℕ → Bool) where
  -- ---- one after another

  pub fine_then : (t : Plan) (f : Flow → Plan) → IsFine free own t → ((g : Flow) → IsFine free own (f g)) → IsFine free own (t ▹ f)
  fine_then (Ends g) f h n = n g
  fine_then (Breaks b) f h n = tt
  fine_then (Look u k) f h n = ((λ c. fine_then (k c) f (h.0 c) n), (λ c e. fault_then (k c) f (h.1 c e)))
  fine_then (Set u c t) f h n = (h.0, fine_then t f h.1 n)
  fine_then (Hold u c t) f h n = (h.0, fine_then t f h.1 n)
  fine_then (Forget u t) f h n = (h.0, fine_then t f h.1 n)
  fine_then (Show xs t) f h n = fine_then t f h n
  fine_then (Take k) f h n = λ o. fine_then (k o) f (h o) n
  fine_then (Within p at t k) f h n = (h.0, λ g. fine_then (k g) f (h.1 g) n)

  pub fine_first : {A : Type 0} (t : Steps A) (f : A → Plan) → AreFine free own t → ((a : A) → IsFine free own (f a)) → IsFine free own (first t f)
  fine_first (steps.Done a) f h n = n a
  fine_first (steps.Breaks b) f h n = tt
  fine_first (steps.Look u k) f h n = ((λ c. fine_first (k c) f (h.0 c) n), (λ c e. fault_first (k c) f (h.1 c e)))
  fine_first (steps.Set u c t) f h n = (h.0, fine_first t f h.1 n)
  fine_first (steps.Hold u c t) f h n = (h.0, fine_first t f h.1 n)
  fine_first (steps.Forget u t) f h n = (h.0, fine_first t f h.1 n)
  fine_first (steps.Show xs t) f h n = fine_first t f h n
  fine_first (steps.Take k) f h n = λ o. fine_first (k o) f (h o) n
  fine_first (steps.Arrive p t) f h n = fine_first t f h n

  pub fine_after : {A B : Type 0} (t : Steps A) (f : A → Steps B) → AreFine free own t → ((a : A) → AreFine free own (f a)) → AreFine free own (t >>= f)
  fine_after (steps.Done a) f h n = n a
  fine_after (steps.Breaks b) f h n = tt
  fine_after (steps.Look u k) f h n = ((λ c. fine_after (k c) f (h.0 c) n), (λ c e. fault_after (k c) f (h.1 c e)))
  fine_after (steps.Set u c t) f h n = (h.0, fine_after t f h.1 n)
  fine_after (steps.Hold u c t) f h n = (h.0, fine_after t f h.1 n)
  fine_after (steps.Forget u t) f h n = (h.0, fine_after t f h.1 n)
  fine_after (steps.Show xs t) f h n = fine_after t f h n
  fine_after (steps.Take k) f h n = λ o. fine_after (k o) f (h o) n
  fine_after (steps.Arrive p t) f h n = fine_after t f h n

  -- with what the first gives
  pub fine_first_so : {A : Type 0} (P : A → Type 0) (t : Steps A) (f : A → Plan) → AreFine free own t → Yields P t → ((a : A) → P a → IsFine free own (f a)) → IsFine free own (first t f)
  fine_first_so P (steps.Done a) f h y n = n a y
  fine_first_so P (steps.Breaks b) f h y n = tt
  fine_first_so P (steps.Look u k) f h y n = ((λ c. fine_first_so P (k c) f (h.0 c) (y c) n), (λ c e. fault_first (k c) f (h.1 c e)))
  fine_first_so P (steps.Set u c t) f h y n = (h.0, fine_first_so P t f h.1 y n)
  fine_first_so P (steps.Hold u c t) f h y n = (h.0, fine_first_so P t f h.1 y n)
  fine_first_so P (steps.Forget u t) f h y n = (h.0, fine_first_so P t f h.1 y n)
  fine_first_so P (steps.Show xs t) f h y n = fine_first_so P t f h y n
  fine_first_so P (steps.Take k) f h y n = λ o. fine_first_so P (k o) f (h o) (y o) n
  fine_first_so P (steps.Arrive p t) f h y n = fine_first_so P t f h y n

  pub fine_after_so : {A B : Type 0} (P : A → Type 0) (t : Steps A) (f : A → Steps B) → AreFine free own t → Yields P t → ((a : A) → P a → AreFine free own (f a)) → AreFine free own (t >>= f)
  fine_after_so P (steps.Done a) f h y n = n a y
  fine_after_so P (steps.Breaks b) f h y n = tt
  fine_after_so P (steps.Look u k) f h y n = ((λ c. fine_after_so P (k c) f (h.0 c) (y c) n), (λ c e. fault_after (k c) f (h.1 c e)))
  fine_after_so P (steps.Set u c t) f h y n = (h.0, fine_after_so P t f h.1 y n)
  fine_after_so P (steps.Hold u c t) f h y n = (h.0, fine_after_so P t f h.1 y n)
  fine_after_so P (steps.Forget u t) f h y n = (h.0, fine_after_so P t f h.1 y n)
  fine_after_so P (steps.Show xs t) f h y n = fine_after_so P t f h y n
  fine_after_so P (steps.Take k) f h y n = λ o. fine_after_so P (k o) f (h o) (y o) n
  fine_after_so P (steps.Arrive p t) f h y n = fine_after_so P t f h y n

  -- ---- units, and numbers

  pub fine_given : (t : Tag) (o : Option ℤ) → AreFine free own (given t o)
  fine_given t None = tt
  fine_given t (Some n) = tt

  fine_read : (t : Tag) (u : ℕ) → HasTag t → AreFine free own (read_unit t u)
  fine_read t u h = ((λ c. either (same_tag t c.tag) c), (λ c e. none (same_tag t c.tag) c (no_undefined t c.tag h e)))
    where
      either : (b : Bool) (c : Content) → AreFine {A = Content} free own (if b then steps.Done c else fault Unset)
      either true c = tt
      either false c = tt

      none : (b : Bool) (c : Content) → b ≡ false → StepsFault {A = Content} (if b then steps.Done c else fault Unset)
      none true c e = absurd (true≢false e)
      none false c e = tt

  pub fine_unit_after : (u : ℕ) (o : Option ℕ) → AreFine free own (unit_after u o)
  fine_unit_after u None = tt
  fine_unit_after u (Some k) = tt

  fine_intrinsic : (o : Option Intrinsic) (ns : List ℤ) → AreFine free own (intrinsic_value o ns)
  fine_intrinsic None ns = tt
  fine_intrinsic (Some f) ns = fine_given Int (intrinsic_number f ns)

  fine_write : (locked : Locks) → Frees locked free → (u : ℕ) (c : Content) → AreFine free own (write locked u c)
  fine_write locked lk u c = go (locked u) refl
    where
      go : (o : Option Fault) → locked u ≡ o → AreFine free own (written o u c)
      go None e = (lk u e, tt)
      go (Some f) e = tt

  fine_taken : (locked : Locks) → Frees locked free → (t : Target) (o : Option Content) → AreFine free own (taken locked t o)
  fine_taken locked lk t None = tt
  fine_taken locked lk t (Some c) = go (same_tag t.tag c.tag && is_value t.tag c.number)
    where
      go : (b : Bool) → AreFine free own (if b then write locked t.unit c else fault Input)
      go true = fine_write locked lk t.unit c
      go false = tt

  fine_range : (a b c : ℤ) → AreFine free own (range a b c)
  fine_range a b c = go (int_eq c (pos 0))
    where
      go : (z : Bool) → AreFine {A = Range} free own (if z then fault Arithmetic else steps.Done (record { from = a; last = b; step = c }))
      go true = tt
      go false = tt

  fine_stored : (u : ℕ) (c : Content) → own u ≡ true → AreFine free own (stored u c)
  fine_stored u c h = (h, tt)

  fine_rest_after : (p : Place) (o : Option ℕ) → AreFine free own (rest_after p o)
  fine_rest_after p None = tt
  fine_rest_after p (Some k) = tt

  -- ---- expressions, and what statements evaluate

  fine_name : (w : Meant) (at : Places) → ((v : ℕ) → w ≡ Variable v → HasTag (at v).tag) → AreFine free own (name_value w at)
  fine_name (Constant c) at h = tt
  fine_name (Variable v) at h = fine_read (at v).tag (at v).first (h v refl)
  fine_name Function at h = tt

  fine_element : (w : Meant) (x : List ℕ) (at : Places) → ((v : ℕ) → w ≡ Variable v → HasTag (at v).tag) → (ns : List ℤ) → AreFine free own (element_value w x at ns)
  fine_element (Constant c) x at h ns = tt
  fine_element (Variable v) x at h ns = fine_after (element_unit (at v) ns) (read_unit (at v).tag) (fine_unit_after (at v).first (element_in (at v) ns)) (λ u. fine_read (at v).tag u (h v refl))
  fine_element Function x at h ns = fine_intrinsic (intrinsic_named x) ns

  mutual
    pub fine_value : (e : ExprTree) (w : Names) (at : Places) (ok : TagsStand w at) → AreFine free own (value e w at)
    fine_value (tree.int n) w at ok = tt
    fine_value (tree.log b) w at ok = tt
    fine_value (tree.name x) w at ok = fine_name (w x) at (ok x)
    fine_value (tree.element x es) w at ok = fine_after (values es w at) (element_value (w x) x at) (fine_values es w at ok) (λ ns. fine_element (w x) x at (ok x) ns)
    fine_value (tree.paren e) w at ok = fine_value e w at ok
    fine_value (tree.unary o e) w at ok = fine_after (value e w at) (λ c. given (unary_tag o) (unary_number o c.number)) (fine_value e w at ok) (λ c. fine_given (unary_tag o) (unary_number o c.number))
    fine_value (tree.binary o a b) w at ok =
        fine_after (value a w at) (λ c. value b w at >>= λ d. given (binary_tag o) (binary_number o c.number d.number)) (fine_value a w at ok)
        (λ c. fine_after (value b w at) (λ d. given (binary_tag o) (binary_number o c.number d.number)) (fine_value b w at ok) (λ d. fine_given (binary_tag o) (binary_number o c.number d.number)))
    fine_value (tree.chars x) w at ok = tt

    pub fine_values : (es : ExprTrees) (w : Names) (at : Places) (ok : TagsStand w at) → AreFine free own (values es w at)
    fine_values tree.no_exprs w at ok = tt
    fine_values (tree.more_exprs e es) w at ok =
        fine_after (value e w at) (λ c. values es w at >>= λ ns. steps.Done (c.number ∷ ns)) (fine_value e w at ok) (λ c. fine_after (values es w at) (λ ns. steps.Done (c.number ∷ ns)) (fine_values es w at ok) (λ ns. tt))

  pub fine_name_target : (w : Meant) (at : Places) → AreFine free own (name_target w at)
  fine_name_target (Constant c) at = tt
  fine_name_target (Variable v) at = tt
  fine_name_target Function at = tt

  fine_element_target : (w : Meant) (at : Places) (ns : List ℤ) → AreFine free own (element_target w at ns)
  fine_element_target (Constant c) at ns = tt
  fine_element_target (Variable v) at ns = fine_after (element_unit (at v) ns) (λ u. steps.Done (to u (at v).tag)) (fine_unit_after (at v).first (element_in (at v) ns)) (λ u. tt)
  fine_element_target Function at ns = tt

  pub fine_target : (e : ExprTree) (w : Names) (at : Places) (ok : TagsStand w at) → AreFine free own (target e w at)
  fine_target (tree.int n) w at ok = tt
  fine_target (tree.log b) w at ok = tt
  fine_target (tree.name x) w at ok = fine_name_target (w x) at
  fine_target (tree.element x es) w at ok = fine_after (values es w at) (element_target (w x) at) (fine_values es w at ok) (λ ns. fine_element_target (w x) at ns)
  fine_target (tree.paren e) w at ok = tt
  fine_target (tree.unary o e) w at ok = tt
  fine_target (tree.binary o a b) w at ok = tt
  fine_target (tree.chars x) w at ok = tt

  fine_value_shown : (e : ExprTree) (w : Names) (at : Places) (ok : TagsStand w at) → AreFine free own (value e w at >>= λ c. steps.Done (Value c))
  fine_value_shown e w at ok = fine_after (value e w at) (λ c. steps.Done (Value c)) (fine_value e w at ok) (λ c. tt)

  fine_shown : (e : ExprTree) (w : Names) (at : Places) (ok : TagsStand w at) → AreFine free own (shown e w at)
  fine_shown (tree.chars x) w at ok = tt
  fine_shown (tree.int n) w at ok = fine_value_shown (tree.int n) w at ok
  fine_shown (tree.log b) w at ok = fine_value_shown (tree.log b) w at ok
  fine_shown (tree.name x) w at ok = fine_value_shown (tree.name x) w at ok
  fine_shown (tree.element x es) w at ok = fine_value_shown (tree.element x es) w at ok
  fine_shown (tree.paren e) w at ok = fine_value_shown (tree.paren e) w at ok
  fine_shown (tree.unary o e) w at ok = fine_value_shown (tree.unary o e) w at ok
  fine_shown (tree.binary o a b) w at ok = fine_value_shown (tree.binary o a b) w at ok

  pub fine_all_shown : (es : ExprTrees) (w : Names) (at : Places) (ok : TagsStand w at) → AreFine free own (all_shown es w at)
  fine_all_shown tree.no_exprs w at ok = tt
  fine_all_shown (tree.more_exprs e es) w at ok =
      fine_after (shown e w at) (λ x. all_shown es w at >>= λ xs. steps.Done (x ∷ xs)) (fine_shown e w at ok) (λ x. fine_after (all_shown es w at) (λ xs. steps.Done (x ∷ xs)) (fine_all_shown es w at ok) (λ xs. tt))

  fine_assigned : (a b : ExprTree) (w : Names) (at : Places) (ok : TagsStand w at) (locked : Locks) → Frees locked free → AreFine free own (assigned a b w at locked)
  fine_assigned a b w at ok locked lk =
      fine_after (value b w at) (λ c. target a w at >>= λ t. write locked t.unit (content t.tag c.number)) (fine_value b w at ok)
      (λ c. fine_after (target a w at) (λ t. write locked t.unit (content t.tag c.number)) (fine_target a w at ok) (λ t. fine_write locked lk t.unit (content t.tag c.number)))

  fine_items : (es : ExprTrees) (w : Names) (at : Places) (ok : TagsStand w at) (locked : Locks) → Frees locked free → AreFine free own (items_read es w at locked)
  fine_items tree.no_exprs w at ok locked lk = tt
  fine_items (tree.more_exprs e es) w at ok locked lk =
      fine_after (target e w at) (λ t. steps.Take (taken locked t) >>= λ o. items_read es w at locked) (fine_target e w at ok)
      (λ t. λ o. fine_after (taken locked t o) (λ u. items_read es w at locked) (fine_taken locked lk t o) (λ u. fine_items es w at ok locked lk))

  fine_step : (e : Option ExprTree) (w : Names) (at : Places) (ok : TagsStand w at) → AreFine free own (step_value e w at)
  fine_step None w at ok = tt
  fine_step (Some e) w at ok = fine_value e w at ok

  pub fine_range_of : (e1 e2 : ExprTree) (e3 : Option ExprTree) (w : Names) (at : Places) (ok : TagsStand w at) → AreFine free own (range_of e1 e2 e3 w at)
  fine_range_of e1 e2 e3 w at ok =
      fine_after (value e1 w at) (λ a. value e2 w at >>= λ b. step_value e3 w at >>= λ c. range a.number b.number c.number) (fine_value e1 w at ok)
      (λ a. fine_after (value e2 w at) (λ b. step_value e3 w at >>= λ c. range a.number b.number c.number) (fine_value e2 w at ok)
      (λ b. fine_after (step_value e3 w at) (λ c. range a.number b.number c.number) (fine_step e3 w at ok) (λ c. fine_range a.number b.number c.number)))

  fine_name_actual : (w : Meant) (at : Places) (u : ℕ) → own u ≡ true → AreFine free own (name_actual w at u)
  fine_name_actual (Constant c) at u h = fine_stored u c h
  fine_name_actual (Variable v) at u h = tt
  fine_name_actual Function at u h = tt

  fine_value_stored : (e : ExprTree) (w : Names) (at : Places) (ok : TagsStand w at) (u : ℕ) → own u ≡ true → AreFine free own (value e w at >>= stored u)
  fine_value_stored e w at ok u h = fine_after (value e w at) (stored u) (fine_value e w at ok) (λ c. fine_stored u c h)

  fine_element_actual : (m : Meant) (e : ExprTree) (es : ExprTrees) (w : Names) (at : Places) (ok : TagsStand w at) (u : ℕ) → own u ≡ true → AreFine free own (element_actual m e es w at u)
  fine_element_actual (Constant c) e es w at ok u h = tt
  fine_element_actual (Variable v) e es w at ok u h = fine_after (values es w at) (λ ns. rest_after (at v) (element_in (at v) ns)) (fine_values es w at ok) (λ ns. fine_rest_after (at v) (element_in (at v) ns))
  fine_element_actual Function e es w at ok u h = fine_value_stored e w at ok u h

  fine_actual : (e : ExprTree) (w : Names) (at : Places) (ok : TagsStand w at) (u : ℕ) → own u ≡ true → AreFine free own (actual e w at u)
  fine_actual (tree.name x) w at ok u h = fine_name_actual (w x) at u h
  fine_actual (tree.element x es) w at ok u h = fine_element_actual (w x) (tree.element x es) es w at ok u h
  fine_actual (tree.int n) w at ok u h = fine_value_stored (tree.int n) w at ok u h
  fine_actual (tree.log b) w at ok u h = fine_value_stored (tree.log b) w at ok u h
  fine_actual (tree.paren e) w at ok u h = fine_value_stored (tree.paren e) w at ok u h
  fine_actual (tree.unary o e) w at ok u h = fine_value_stored (tree.unary o e) w at ok u h
  fine_actual (tree.binary o a b) w at ok u h = fine_value_stored (tree.binary o a b) w at ok u h
  fine_actual (tree.chars x) w at ok u h = tt

  pub fine_actuals : (es : ExprTrees) (k : ℕ) (w : Names) (at : Places) (ok : TagsStand w at) (units : ℕ → ℕ) → ((i : ℕ) → k ≤ i → i < k + count es → own (units i) ≡ true) → AreFine free own (actuals es k w at units)
  fine_actuals tree.no_exprs k w at ok units h = tt
  fine_actuals (tree.more_exprs e es) k w at ok units h =
      fine_after (actual e w at (units k)) (λ x. actuals es (suc k) w at units >>= λ xs. steps.Done (x ∷ xs)) (fine_actual e w at ok (units k) (h k (omega arith) (omega arith)))
      (λ x. fine_after (actuals es (suc k) w at units) (λ xs. steps.Done (x ∷ xs)) (fine_actuals es (suc k) w at ok units (λ i l m. h i (omega (arith, l)) (omega (arith, m)))) (λ xs. tt))

  fine_high : (o : Option ExprTree) (w : Names) (at : Places) (ok : TagsStand w at) → AreFine free own (high_value o w at)
  fine_high None w at ok = tt
  fine_high (Some e) w at ok = fine_after (value e w at) (λ c. steps.Done (Some c.number)) (fine_value e w at ok) (λ c. tt)

  pub fine_dims : (bs : List BoundTree) (w : Names) (at : Places) (ok : TagsStand w at) → AreFine free own (dims_read bs w at)
  fine_dims [] w at ok = tt
  fine_dims (b ∷ bs) w at ok =
      fine_after (value b.low w at) _ (fine_value b.low w at ok)
      (λ m. fine_after (high_value b.high w at) _ (fine_high b.high w at ok) (λ n. fine_after (dims_read bs w at) _ (fine_dims bs w at ok) (λ ds. tt)))

  -- ---- lists

  abbrev pub PartsFine : List Part → Type 0
  PartsFine [] = Unit {0}
  PartsFine (q ∷ qs) = IsFine free own q.does × PartsFine qs

  pub fine_from : (l : ℕ) (qs : List Part) → PartsFine qs → PartsFine (from_label l qs)
  fine_from l [] h = tt
  fine_from l (q ∷ qs) h = go (is_label l q.label) (fine_from l qs h.1)
    where
      go : (b : Bool) → PartsFine (from_label l qs) → PartsFine (if b then q ∷ qs else from_label l qs)
      go true ih = h
      go false ih = ih

  pub fine_go_on : (jump : ℕ → Plan) (all : List Part) (rest : Plan) → ((l : ℕ) → IsFine free own (jump l)) → IsFine free own rest → (g : Flow) → IsFine free own (go_on jump all rest g)
  fine_go_on jump all rest j h Normal = h
  fine_go_on jump all rest j h (Jump l) = go (has_label l all)
    where
      go : (b : Bool) → IsFine free own (if b then jump l else Ends (Jump l))
      go true = j l
      go false = tt
  fine_go_on jump all rest j h Returned = tt
  fine_go_on jump all rest j h Stopped = tt

  pub fine_in_order : (jump : ℕ → Plan) (all qs : List Part) → ((l : ℕ) → IsFine free own (jump l)) → PartsFine qs → IsFine free own (in_order jump all qs)
  fine_in_order jump all [] j h = tt
  fine_in_order jump all (q ∷ qs) j h = fine_then q.does (go_on jump all (in_order jump all qs)) h.0 (fine_go_on jump all (in_order jump all qs) j (fine_in_order jump all qs j h.1))

  pub fine_jumps : (n : ℕ) (all qs : List Part) → PartsFine all → PartsFine qs → IsFine free own (with_jumps n all qs)
  fine_jumps zero all qs a h = fine_in_order (λ l. Breaks OutOfTurns) all qs (λ l. tt) h
  fine_jumps (suc n) all qs a h = fine_in_order (λ l. with_jumps n all (from_label l all)) all qs (λ l. fine_jumps n all (from_label l all) a (fine_from l all a)) h

  pub fine_on_normal : (f : Flow) (t : Plan) → IsFine free own t → IsFine free own (on_normal f t)
  fine_on_normal Normal t h = h
  fine_on_normal (Jump l) t h = tt
  fine_on_normal Returned t h = tt
  fine_on_normal Stopped t h = tt

  pub fine_iterations : (k : ℕ) (n step : ℤ) (u : ℕ) (body : Plan) → free u ≡ true → IsFine free own body → IsFine free own (iterations_from k n step u body)
  fine_iterations zero n step u body fu h = tt
  fine_iterations (suc k) n step u body fu h =
      fine_then body (λ f. on_normal f (first (given Int (kept (n +ℤ step))) (λ c. Set u c (iterations_from k c.number step u body)))) h
      (λ f. fine_on_normal f (first (given Int (kept (n +ℤ step))) (λ c. Set u c (iterations_from k c.number step u body)))
      (fine_first (given Int (kept (n +ℤ step))) (λ c. Set u c (iterations_from k c.number step u body)) (fine_given Int (kept (n +ℤ step))) (λ c. (fu, fine_iterations k c.number step u body fu h))))

  -- they may be forgotten
  abbrev pub Owned : List ℕ → Type 0
  Owned [] = Unit {0}
  Owned (u ∷ us) = (own u ≡ true) × Owned us

  pub fine_forget : (us : List ℕ) → Owned us → (t : Plan) → IsFine free own t → IsFine free own (forget_all us t)
  fine_forget [] o t h = h
  fine_forget (u ∷ us) o t h = (o.0, fine_forget us o.1 t h)

  pub fine_after_call : (us : List ℕ) → Owned us → (f : Flow) → IsFine free own (after_call us f)
  fine_after_call us o Normal = fine_forget us o (Ends Normal) tt
  fine_after_call us o Returned = fine_forget us o (Ends Normal) tt
  fine_after_call us o Stopped = tt
  fine_after_call us o (Jump l) = tt

  -- ---- locks

  lock_frees : (locked : Locks) (u : ℕ) (f : Fault) → Frees locked free → Frees (lock locked u f) free
  lock_frees locked u f h x e = h x (go (nat_eq x u) (locked x) e)
    where
      go : (b : Bool) (o : Option Fault) → (if b then first_lock o f else o) ≡ None → o ≡ None
      go true None q = refl
      go true (Some g) q = absurd (some_none g q)
        where
          some_none : (g : Fault) → Some g ≡ None → ⊥
          some_none g q = cc
      go false o q = q

  own_frees : (locked : Locks) (us : List ℕ) → Frees locked free → Frees (lock_own locked us) free
  own_frees locked [] h = h
  own_frees locked (u ∷ us) h = own_frees (lock locked u Locked) us (lock_frees locked u Locked h)

  doubly_frees : (locked : Locks) (ds : List Dummy) (at : Places) (common : ℕ → Bool) → Frees locked free → Frees (lock_doubly locked ds at common) free
  doubly_frees locked ds at common h x e = h x (go (doubly_reached ds at common x) (locked x) e)
    where
      go : (b : Bool) (o : Option Fault) → (if b then first_lock o Shared else o) ≡ None → o ≡ None
      go true None q = refl
      go true (Some g) q = absurd (some_none g q)
        where
          some_none : (g : Fault) → Some g ≡ None → ⊥
          some_none g q = cc
      go false o q = q

  -- ---- units of an iteration's own

  -- an actual that is an expression has such a unit
  abbrev ActualOwned : Actual → Type 0
  ActualOwned x = x.own ≡ true → own x.place.first ≡ true

  stored_owned : (u : ℕ) → own u ≡ true → (c : Content) → Yields ActualOwned (stored u c)
  stored_owned u h c = λ e. h

  not_own : (p : Place) → ActualOwned (passed_by_reference p)
  not_own p e = absurd (true≢false (sym e))

  rest_owned : (p : Place) (o : Option ℕ) → Yields ActualOwned (rest_after p o)
  rest_owned p None = tt
  rest_owned p (Some k) = λ e. absurd (true≢false (sym e))

  value_owned : (e : ExprTree) (w : Names) (at : Places) (u : ℕ) → own u ≡ true → Yields ActualOwned (value e w at >>= stored u)
  value_owned e w at u h = yields_then Anything ActualOwned (value e w at) (stored u) (yields_any (value e w at)) (λ c n. stored_owned u h c)

  name_owned : (w : Meant) (at : Places) (u : ℕ) → own u ≡ true → Yields ActualOwned (name_actual w at u)
  name_owned (Constant c) at u h = stored_owned u h c
  name_owned (Variable v) at u h = not_own (at v)
  name_owned Function at u h = tt

  element_owned : (m : Meant) (e : ExprTree) (es : ExprTrees) (w : Names) (at : Places) (u : ℕ) → own u ≡ true → Yields ActualOwned (element_actual m e es w at u)
  element_owned (Constant c) e es w at u h = tt
  element_owned (Variable v) e es w at u h = yields_then Anything ActualOwned (values es w at) (λ ns. rest_after (at v) (element_in (at v) ns)) (yields_any (values es w at)) (λ ns n. rest_owned (at v) (element_in (at v) ns))
  element_owned Function e es w at u h = value_owned e w at u h

  actual_owned : (e : ExprTree) (w : Names) (at : Places) (u : ℕ) → own u ≡ true → Yields ActualOwned (actual e w at u)
  actual_owned (tree.name x) w at u h = name_owned (w x) at u h
  actual_owned (tree.element x es) w at u h = element_owned (w x) (tree.element x es) es w at u h
  actual_owned (tree.int n) w at u h = value_owned (tree.int n) w at u h
  actual_owned (tree.log b) w at u h = value_owned (tree.log b) w at u h
  actual_owned (tree.paren e) w at u h = value_owned (tree.paren e) w at u h
  actual_owned (tree.unary o e) w at u h = value_owned (tree.unary o e) w at u h
  actual_owned (tree.binary o a b) w at u h = value_owned (tree.binary o a b) w at u h
  actual_owned (tree.chars x) w at u h = tt

  abbrev OwnedActuals : List Actual → Type 0
  OwnedActuals xs = Owned (own_units xs)

  more_owned : (x : Actual) (xs : List Actual) → ActualOwned x → OwnedActuals xs → OwnedActuals (x ∷ xs)
  more_owned x xs h more = go x.own refl
    where
      go : (b : Bool) → x.own ≡ b → Owned (if b then x.place.first ∷ own_units xs else own_units xs)
      go true e = (h e, more)
      go false e = more

  actuals_owned : (es : ExprTrees) (k : ℕ) (w : Names) (at : Places) (units : ℕ → ℕ) → ((i : ℕ) → k ≤ i → i < k + count es → own (units i) ≡ true) → Yields OwnedActuals (actuals es k w at units)
  actuals_owned tree.no_exprs k w at units h = tt
  actuals_owned (tree.more_exprs e es) k w at units h =
      yields_then ActualOwned OwnedActuals (actual e w at (units k)) (λ x. actuals es (suc k) w at units >>= λ xs. steps.Done (x ∷ xs)) (actual_owned e w at (units k) (h k (omega arith) (omega arith)))
      (λ x ox. yields_then OwnedActuals OwnedActuals (actuals es (suc k) w at units) (λ xs. steps.Done (x ∷ xs)) (actuals_owned es (suc k) w at units (λ i l m. h i (omega (arith, l)) (omega (arith, m)))) (λ xs oxs. more_owned x xs ox oxs))

  one_true : (f : ℕ → ℕ) (n i : ℕ) → i < n → one_of f n (f i) ≡ true
  one_true f zero i lt = absurd (omega arith)
  one_true f (suc n) i lt =
      ⊎_elim
      (λ e. or_right (one_of f n (f i)) (nat_eq (f n) (f i)) (subst (λ k. nat_eq (f n) (f k) ≡ true) (sym e.1) (same (f n))))
      (λ e. or_left (one_of f n (f i)) (nat_eq (f n) (f i)) (one_true f n i (omega (arith, e.1))))
      (eqb_tells i n)
    where
      same : (v : ℕ) → nat_eq v v ≡ true
      same v = grind (arith, nat_tests)

  -- ---- statements

  module _ (sc : MarkedScope) (callee : (x : List ℕ) → ((u : ℕ) → (sc.callee x).own u ≡ true → own u ≡ true) → MeaningFine free own (sc.plain.callee x)) (at : Places) (ok : TagsStand sc.plain.names at) where
    abbrev Keeps : (ℕ → Bool) → Type 0
    Keeps f = (u : ℕ) → f u ≡ true → own u ≡ true

    -- a DO, from its body
    fine_head : (index : List ℕ) (e1 e2 : ExprTree) (e3 : Option ExprTree) (body : StmtTrees) (locked : Locks) → Frees locked free → ((l : Locks) → Frees l free → PartsFine (parts body sc.plain at l)) → IsFine free own (do_plan (tree.loop index e1 e2 e3 body) sc.plain at locked)
    fine_head index e1 e2 e3 body locked lk p =
        fine_first (range_of e1 e2 e3 sc.plain.names at) _ (fine_range_of e1 e2 e3 sc.plain.names at ok)
        (λ r. fine_first (name_target (sc.plain.names index) at) _ (fine_name_target (sc.plain.names index) at)
        (λ t. begin r t.unit (locked t.unit) refl))
      where
        loop : Range → ℕ → Plan
        loop r u = iterations_from (iteration_count r.from r.last r.step) r.from r.step u (list_plan sc.plain.turns (parts body sc.plain at (lock locked u Locked)))

        begin : (r : Range) (u : ℕ) (o : Option Fault) → locked u ≡ o → IsFine free own (first (written o u (content Int r.from)) (λ z. loop r u))
        begin r u (Some f) e = tt
        begin r u None e =
            let q = p (lock locked u Locked) (lock_frees locked u Locked lk) in
            (lk u e, fine_iterations (iteration_count r.from r.last r.step) r.from r.step u (list_plan sc.plain.turns (parts body sc.plain at (lock locked u Locked))) (lk u e) (fine_jumps sc.plain.turns (parts body sc.plain at (lock locked u Locked)) (parts body sc.plain at (lock locked u Locked)) q q))

    fine_call : (x : List ℕ) (es : ExprTrees) (n : ℕ) (locked : Locks) → Frees locked free → Keeps (own_of_leaf sc n (tree.call x es)) → IsFine free own (execution (tree.call x es) n sc.plain at locked)
    fine_call x es n locked lk k =
        fine_first_so OwnedActuals (actuals es 0 sc.plain.names at (sc.plain.own_unit n)) _ (fine_actuals es 0 sc.plain.names at ok (sc.plain.own_unit n) units) (actuals_owned es 0 sc.plain.names at (sc.plain.own_unit n) units)
        (λ xs o. fine_then (sc.plain.callee x (places_of xs) (lock_own locked (own_units xs))) (after_call (own_units xs))
        (callee x (λ u e. k u (or_right (one_of (sc.plain.own_unit n) (count es) u) ((sc.callee x).own u) e)) (places_of xs) (lock_own locked (own_units xs)) (own_frees locked (own_units xs) lk)) (fine_after_call (own_units xs) o))
      where
        units : (i : ℕ) → 0 ≤ i → i < 0 + count es → own (sc.plain.own_unit n i) ≡ true
        units i l m = k (sc.plain.own_unit n i) (or_left (one_of (sc.plain.own_unit n) (count es) (sc.plain.own_unit n i)) ((sc.callee x).own (sc.plain.own_unit n i)) (one_true (sc.plain.own_unit n) (count es) i (omega (arith, m))))

    in_arm : (a : ArmTree) (u : ℕ) (others : Bool) → others ≡ true → walk_arm (own_walk sc u) a others ≡ true
    in_arm (tree.arm test body) u others e = or_right (own_in sc body u) others e

    mutual
      pub fine_stmt : (s : StmtTree) (locked : Locks) → Frees locked free → Keeps (λ u. walk_stmt (own_walk sc u) s) → IsFine free own (statement_plan s sc.plain at locked)
      fine_stmt (tree.stmt n label w) locked lk k = (fine_what w n label locked lk k, λ f. tt)

      pub fine_what : (w : WhatTree) (n : ℕ) (label : Option ℕ) (locked : Locks) → Frees locked free → Keeps (λ u. walk_what (own_walk sc u) n label w) → IsFine free own (execution w n sc.plain at locked)
      fine_what (tree.assign a b) n label locked lk k = fine_first (assigned a b sc.plain.names at locked) (λ o. Ends Normal) (fine_assigned a b sc.plain.names at ok locked lk) (λ o. tt)
      fine_what (tree.block_if arms rest) n label locked lk k =
          fine_arms arms (else_plan rest sc.plain at locked) locked lk (λ u e. k u (or_left (walk_arms (own_walk sc u) arms) (walk_else (own_walk sc u) rest) e))
          (fine_else rest locked lk (λ u e. k u (or_right (walk_arms (own_walk sc u) arms) (walk_else (own_walk sc u) rest) e)))
      fine_what (tree.logical_if test s) n label locked lk k = fine_first (value test sc.plain.names at) (λ c. if is_true c.number then statement_plan s sc.plain at locked else Ends Normal) (fine_value test sc.plain.names at ok) (λ c. either (is_true c.number) (fine_stmt s locked lk k))
        where
          either : (b : Bool) → IsFine free own (statement_plan s sc.plain at locked) → IsFine free own (if b then statement_plan s sc.plain at locked else Ends Normal)
          either true h = h
          either false h = tt
      fine_what (tree.do_loop l) n label locked lk k = fine_do l locked lk k
      fine_what (tree.call x es) n label locked lk k = fine_call x es n locked lk k
      fine_what (tree.goto l) n label locked lk k = tt
      fine_what tree.continue n label locked lk k = tt
      fine_what tree.return n label locked lk k = tt
      fine_what (tree.stop text) n label locked lk k = tt
      fine_what (tree.print es) n label locked lk k = fine_first (all_shown es sc.plain.names at) (λ xs. Show xs (Ends Normal)) (fine_all_shown es sc.plain.names at ok) (λ xs. tt)
      fine_what (tree.read es) n label locked lk k = fine_first (items_read es sc.plain.names at locked) (λ o. Ends Normal) (fine_items es sc.plain.names at ok locked lk) (λ o. tt)

      fine_arms : (arms : ArmTrees) (rest : Plan) (locked : Locks) → Frees locked free → Keeps (λ u. walk_arms (own_walk sc u) arms) → IsFine free own rest → IsFine free own (arms_plan arms sc.plain at locked rest)
      fine_arms tree.no_arms rest locked lk k h = h
      fine_arms (tree.more_arms a more) rest locked lk k h =
          fine_arm a (λ u. walk_arms (own_walk sc u) more) (arms_plan more sc.plain at locked rest) locked lk k (fine_arms more rest locked lk (λ u e. k u (in_arm a u (walk_arms (own_walk sc u) more) e)) h)

      fine_arm : (a : ArmTree) (others : ℕ → Bool) (rest : Plan) (locked : Locks) → Frees locked free → Keeps (λ u. walk_arm (own_walk sc u) a (others u)) → IsFine free own rest → IsFine free own (arm_plan a sc.plain at locked rest)
      fine_arm (tree.arm test body) others rest locked lk k h = fine_first (value test sc.plain.names at) (λ c. if is_true c.number then list_plan sc.plain.turns (parts body sc.plain at locked) else rest) (fine_value test sc.plain.names at ok) (λ c. either (is_true c.number) (fine_parts body locked lk (λ u e. k u (or_left (own_in sc body u) (others u) e))))
        where
          either : (b : Bool) → PartsFine (parts body sc.plain at locked) → IsFine free own (if b then list_plan sc.plain.turns (parts body sc.plain at locked) else rest)
          either true p = fine_jumps sc.plain.turns (parts body sc.plain at locked) (parts body sc.plain at locked) p p
          either false p = h

      fine_else : (other : ElseTree) (locked : Locks) → Frees locked free → Keeps (λ u. walk_else (own_walk sc u) other) → IsFine free own (else_plan other sc.plain at locked)
      fine_else tree.no_else locked lk k = tt
      fine_else (tree.otherwise body) locked lk k = fine_list body (fine_parts body locked lk k)
        where
          fine_list : (body : StmtTrees) → PartsFine (parts body sc.plain at locked) → IsFine free own (list_plan sc.plain.turns (parts body sc.plain at locked))
          fine_list body p = fine_jumps sc.plain.turns (parts body sc.plain at locked) (parts body sc.plain at locked) p p

      fine_do : (l : LoopTree) (locked : Locks) → Frees locked free → Keeps (λ u. walk_body (own_walk sc u) l) → IsFine free own (do_plan l sc.plain at locked)
      fine_do (tree.loop index e1 e2 e3 body) locked lk k = fine_head index e1 e2 e3 body locked lk (λ l ll. fine_parts body l ll k)

      pub fine_parts : (ss : StmtTrees) (locked : Locks) → Frees locked free → Keeps (own_in sc ss) → PartsFine (parts ss sc.plain at locked)
      fine_parts tree.no_stmts locked lk k = tt
      fine_parts (tree.more_stmts s rest) locked lk k = (
        fine_stmt s locked lk (λ u e. k u (or_left (walk_stmt (own_walk sc u) s) (own_in sc rest u) e)),
        fine_parts rest locked lk (λ u e. k u (or_right (walk_stmt (own_walk sc u) s) (own_in sc rest u) e)),
      )

    pub fine_body_list : (ss : StmtTrees) (locked : Locks) → Frees locked free → Keeps (own_in sc ss) → IsFine free own (list_plan sc.plain.turns (parts ss sc.plain at locked))
    fine_body_list ss locked lk k = let p = fine_parts ss locked lk k in fine_jumps sc.plain.turns (parts ss sc.plain at locked) (parts ss sc.plain at locked) p p

  -- ---- modules

  fine_array : (p : Place) (t : Tag) (ds : List Dim) → AreFine free own (array_place p t ds)
  fine_array p t ds = go (is_open ds) (nat_le (total_size ds) p.extent)
    where
      go : (a b : Bool) → AreFine {A = Place} free own (if a then steps.Done (array_at p t ds (open_extent p ds)) else if b then steps.Done (array_at p t ds (total_size ds)) else fault Bounds)
      go true b = tt
      go false true = tt
      go false false = tt

  pub fine_dummy : (d : Dummy) (p : Place) (ds : List Dim) (at : Places) → AreFine free own (dummy_bound d p ds at)
  fine_dummy d p [] at = tt
  fine_dummy d p (m ∷ ms) at = fine_after (array_place p d.tag (m ∷ ms)) (λ q. steps.Done (put at d.symbol q)) (fine_array p d.tag (m ∷ ms)) (λ q. tt)

  pub fine_arrays : (ds : List Dummy) (ps : List Place) (w : Names) (at : Places) → DummiesTagged ds → TagsStand w at → AreFine free own (arrays_bound ds ps w at)
  fine_arrays [] ps w at h ok = tt
  fine_arrays (d ∷ ds) ps w at h ok =
      fine_after (dims_read d.bounds w at) (λ ms. dummy_bound d (first_place ps) ms at >>= arrays_bound ds (other_places ps) w) (fine_dims d.bounds w at ok)
      (λ ms. fine_after_so (TagsStand w) (dummy_bound d (first_place ps) ms at) (arrays_bound ds (other_places ps) w) (fine_dummy d (first_place ps) ms at) (dummy_tagged w d (first_place ps) ms at h.0 ok) (λ at' ok'. fine_arrays ds (other_places ps) w at' h.1 ok'))

  module _ (turns : ℕ) (marks : Directives) where
    abbrev pub scope_in : Routine → List Routine → MarkedScope
    scope_in r rs = marked_scope r turns marks (meanings rs turns) (marked_meanings rs turns marks)

    -- what is called has these units for itself
    abbrev pub CallsFine : List Routine → Type 0
    CallsFine rs = (x : List ℕ) → ((u : ℕ) → (marked_meanings rs turns marks x).own u ≡ true → own u ≡ true) → MeaningFine free own (meanings rs turns x)

    pub fine_body : (r : Routine) (rs : List Routine) → IsTagged r → CallsFine rs → ((u : ℕ) → own_in (scope_in r rs) r.body u ≡ true → own u ≡ true) → (ps : List Place) (at : Places) (locked : Locks) → Frees locked free → TagsStand r.names at → IsFine free own (body_of r turns (meanings rs turns) ps at locked)
    fine_body r rs tagged h k ps at locked lk ok =
        fine_first_so (TagsStand r.names) (arrays_bound r.dummies ps r.names at) (λ at'. body_plan r.body (scope r turns (meanings rs turns)) at' (lock_doubly locked r.dummies at' r.common)) (fine_arrays r.dummies ps r.names at tagged.dummies ok) (arrays_tagged r.dummies ps r.names at tagged.dummies ok)
        (λ at' ok'. fine_body_list (scope_in r rs) h at' ok' r.body (lock_doubly locked r.dummies at' r.common) (doubly_frees locked r.dummies at' r.common lk) k)

    owned_locals : (us : List ℕ) → ((u : ℕ) → list_any (λ v. nat_eq v u) us ≡ true → own u ≡ true) → Owned us
    owned_locals [] h = tt
    owned_locals (u ∷ us) h = (h u (or_left (nat_eq u u) (list_any (λ v. nat_eq v u) us) (same u)), owned_locals us (λ v e. h v (or_right (nat_eq u v) (list_any (λ x. nat_eq x v) us) e)))
      where
        same : (v : ℕ) → nat_eq v v ≡ true
        same v = grind (arith, nat_tests)

    pub fine_called : (r : Routine) (rs : List Routine) → IsTagged r → CallsFine rs → ((u : ℕ) → (marked_called r (scope_in r rs)).own u ≡ true → own u ≡ true) → MeaningFine free own (called r turns (meanings rs turns))
    fine_called r rs tagged h k ps locked lk =
        let at = scalars_bound r.dummies ps r.fixed in
        let o = owned_locals r.locals (λ u e. k u (or_left (list_any (λ v. nat_eq v u) r.locals) (own_in (scope_in r rs) r.body u) e)) in (
          fine_forget r.locals o (body_of r turns (meanings rs turns) ps at locked)
              (fine_body r rs tagged h (λ u e. k u (or_right (list_any (λ v. nat_eq v u) r.locals) (own_in (scope_in r rs) r.body u) e)) ps at locked lk (scalars_tagged r.names r.dummies ps r.fixed tagged.dummies tagged.fixed)),
          fine_after_call r.locals o,
        )

    pub fine_meanings : (rs : List Routine) → AllTagged rs → CallsFine rs
    fine_meanings [] o x k = λ ps locked lk. tt
    fine_meanings (r ∷ rs) o x k = either (fine_called r rs o.0 (λ y. fine_meanings rs o.1 y)) (fine_meanings rs o.1 x) (bytes_eq x r.name) k
      where
        either : (((u : ℕ) → (marked_called r (scope_in r rs)).own u ≡ true → own u ≡ true) → MeaningFine free own (called r turns (meanings rs turns))) → (((u : ℕ) → (marked_meanings rs turns marks x).own u ≡ true → own u ≡ true) → MeaningFine free own (meanings rs turns x)) →
            (b : Bool) → ((u : ℕ) → (if b then marked_called r (scope_in r rs) else marked_meanings rs turns marks x).own u ≡ true → own u ≡ true) → MeaningFine free own (if b then called r turns (meanings rs turns) else meanings rs turns x)
        either g h true k = g k
        either g h false k = h k
