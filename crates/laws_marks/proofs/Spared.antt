-- A unit that is none of a module's variables, or is locked, is not written.
use Rattle.std.proofs.Common.{◌≡◌, ◌⊎◌, ◌≤◌, ◌<◌, ℕ, zero, suc, ◌+◌, List, [], ◌∷◌, Option, Some, None, Bool, true, false, refl, sym, ap, ◌∙◌, subst, arith, nat_eq, bytes_eq, true≢false, ℤ, ◌+ℤ◌}
use Rattle.std.specs.Prelude.{not, if◌then◌else◌}
use Rattle.f77_ast.specs.Trees.{StmtTree, StmtTrees, WhatTree, ArmTree, ArmTrees, ElseTree, LoopTree, ExprTree, ExprTrees}
use Rattle.f77_ast.specs.Trees as tree
use Rattle.f77_ast.specs.Store.{Int, Content, content}
use Rattle.f77_ast.specs.Faults.{Fault, Locked}
use Rattle.f77_ast.specs.Numbers.{is_true}
use Rattle.f77_ast.specs.Steps.{Steps}
use Rattle.f77_ast.specs.Steps as steps
use Rattle.f77_ast.specs.Places.{Variable, Names, Place, Places}
use Rattle.f77_ast.specs.Values.{value, name_target, all_shown}
use Rattle.f77_ast.specs.Writes.{Locks, lock, written, assigned, items_read}
use Rattle.f77_ast.specs.Plans.{Flow, Normal, Plan, Ends, Show, first}
use Rattle.f77_ast.specs.Lists.{Part, list_plan}
use Rattle.f77_ast.specs.Loops.{Range, range_of, iteration_count, iterations_from}
use Rattle.f77_ast.specs.Calls.{Actual, actuals, places_of, own_units, lock_own, forget_all, after_call, Meaning, scalars_bound, arrays_bound, lock_doubly}
use Rattle.f77_ast.specs.Statements.{Scope, statement_plan, execution, arms_plan, arm_plan, else_plan, do_plan, parts, body_plan}
use Rattle.f77_ast.specs.Programs.{Routine, scope, body_of, called, meanings}
use Rattle.laws_interleavings.specs.Typed.{TagsStand, IsTagged, AllTagged}
use Rattle.laws_interleavings.specs.Plans.Fine.{AreFine, IsFine}
use Rattle.laws_interleavings.specs.Plans.Cleared.{OffPlaces, Off}
use Rattle.laws_interleavings.proofs.Plans.Fine.{Yields, fine_then, fine_first, fine_first_so, fine_value, fine_range_of, fine_name_target, fine_all_shown, fine_actuals, fine_arrays, arrays_tagged, scalars_tagged, PartsFine, fine_jumps, fine_iterations, Owned, fine_forget, fine_after_call}
use Rattle.laws_interleavings.proofs.Plans.Cleared.{Aims, other, ActualsOff, off_more, own_none, lock_none, doubly_none, held_locked, actuals_off, places_off, scalars_off, arrays_off, assigned_off, items_off, name_aims}
use Rattle.laws_marks.specs.Loops.{IsOutside}
use Rattle.laws_interleavings.proofs.Plans.MarkedStrict.{all}

owned : (us : List ℕ) → Owned all all us
owned [] = tt
owned (u ∷ us) = (refl, owned us)

-- whatever changes without an event
are_more : {A : Type 0} (free own : ℕ → Bool) (t : Steps A) → AreFine free own t → AreFine free all t
are_more free own (steps.Done a) h = tt
are_more free own (steps.Breaks b) h = tt
are_more free own (steps.Look u k) h = (λ c. are_more free own (k c) (h.0 c), h.1)
are_more free own (steps.Set u c t) h = (h.0, are_more free own t h.1)
are_more free own (steps.Hold u c t) h = (refl, are_more free own t h.1)
are_more free own (steps.Forget u t) h = (refl, are_more free own t h.1)
are_more free own (steps.Show xs t) h = are_more free own t h
are_more free own (steps.Take k) h = λ o. are_more free own (k o) (h o)
are_more free own (steps.Arrive p t) h = are_more free own t h

module _ (u : ℕ) where
  -- only other units are written
  abbrev pub Spared : Plan → Type 0
  Spared t = IsFine (other u) all t

  abbrev pub MeaningSpared : Meaning → Type 0
  MeaningSpared m = (ps : List Place) (locked : Locks) → OffPlaces u locked ps → Spared (m ps locked)

  off_lock : (locked : Locks) (x : ℕ) (w : Names) (at : Places) → Off u locked w at → Off u (lock locked x Locked) w at
  off_lock locked x w at h = off_more u locked (lock locked x Locked) w at (lock_none u locked x u Locked) h

  -- ---- statements

  module _ (sc : Scope) (callee : (x : List ℕ) → MeaningSpared (sc.callee x)) (at : Places) (ok : TagsStand sc.names at) where
    abbrev OffHere : Locks → Type 0
    OffHere locked = Off u locked sc.names at

    abbrev Parts : List Part → Type 0
    Parts = PartsFine (other u) all

    spared_list : (ss : StmtTrees) (locked : Locks) → Parts (parts ss sc at locked) → Spared (list_plan sc.turns (parts ss sc at locked))
    spared_list ss locked p = fine_jumps (other u) all sc.turns (parts ss sc at locked) (parts ss sc at locked) p p

    spared_if : (b : Bool) (t z : Plan) → Spared t → Spared z → Spared (if b then t else z)
    spared_if true t z h g = h
    spared_if false t z h g = g

    -- a DO, from its body
    spared_head : (index : List ℕ) (e1 e2 : ExprTree) (e3 : Option ExprTree) (body : StmtTrees) (locked : Locks) → OffHere locked → ((l : Locks) → OffHere l → Parts (parts body sc at l)) → Spared (do_plan (tree.loop index e1 e2 e3 body) sc at locked)
    spared_head index e1 e2 e3 body locked off p =
        fine_first (other u) all (range_of e1 e2 e3 sc.names at) _ (fine_range_of (other u) all e1 e2 e3 sc.names at ok)
        (λ r. fine_first_so (other u) all (Aims u locked) (name_target (sc.names index) at) _ (fine_name_target (other u) all (sc.names index) at) (name_aims u locked (sc.names index) at (off index))
        (λ t h. begin r t.unit (locked t.unit) refl h))
      where
        loop : Range → ℕ → Plan
        loop r x = iterations_from (iteration_count r.from r.last r.step) r.from r.step x (list_plan sc.turns (parts body sc at (lock locked x Locked)))

        begin : (r : Range) (x : ℕ) (o : Option Fault) → locked x ≡ o → (locked x ≡ None → other u x ≡ true) → Spared (first (written o x (content Int r.from)) (λ z. loop r x))
        begin r x (Some f) e h = tt
        begin r x None e h = (
          h e,
          fine_iterations (other u) all (iteration_count r.from r.last r.step) r.from r.step x (list_plan sc.turns (parts body sc at (lock locked x Locked))) (h e)
              (spared_list body (lock locked x Locked) (p (lock locked x Locked) (off_lock locked x sc.names at off))),
        )

    spared_call : (x : List ℕ) (es : ExprTrees) (n : ℕ) (locked : Locks) → OffHere locked → Spared (execution (tree.call x es) n sc at locked)
    spared_call x es n locked off =
        fine_first_so (other u) all (ActualsOff u locked) (actuals es 0 sc.names at (sc.own_unit n)) _ (fine_actuals (other u) all es 0 sc.names at ok (sc.own_unit n) (λ i l m. refl)) (actuals_off u locked es 0 sc.names at (sc.own_unit n) off)
        (λ xs h. fine_then (other u) all (sc.callee x (places_of xs) (lock_own locked (own_units xs))) (after_call (own_units xs))
        (callee x (places_of xs) (lock_own locked (own_units xs)) (places_off u locked (lock_own locked (own_units xs)) (own_none u locked (own_units xs)) xs (held_locked u locked (own_units xs)) h)) (fine_after_call (other u) all (own_units xs) (owned (own_units xs))))

    mutual
      spared_stmt : (s : StmtTree) (locked : Locks) → OffHere locked → Spared (statement_plan s sc at locked)
      spared_stmt (tree.stmt n label w) locked off = (spared_what w n locked off, λ f. tt)

      spared_what : (w : WhatTree) (n : ℕ) (locked : Locks) → OffHere locked → Spared (execution w n sc at locked)
      spared_what (tree.assign a b) n locked off = fine_first (other u) all (assigned a b sc.names at locked) (λ o. Ends Normal) (are_more (other u) (other u) (assigned a b sc.names at locked) (assigned_off u a b sc.names at locked ok off)) (λ o. tt)
      spared_what (tree.block_if arms rest) n locked off = spared_arms arms (else_plan rest sc at locked) locked off (spared_else rest locked off)
      spared_what (tree.logical_if test s) n locked off =
          fine_first (other u) all (value test sc.names at) (λ c. if is_true c.number then statement_plan s sc at locked else Ends Normal) (fine_value (other u) all test sc.names at ok) (λ c. spared_if (is_true c.number) (statement_plan s sc at locked) (Ends Normal) (spared_stmt s locked off) tt)
      spared_what (tree.do_loop l) n locked off = spared_do l locked off
      spared_what (tree.call x es) n locked off = spared_call x es n locked off
      spared_what (tree.goto l) n locked off = tt
      spared_what tree.continue n locked off = tt
      spared_what tree.return n locked off = tt
      spared_what (tree.stop text) n locked off = tt
      spared_what (tree.print es) n locked off = fine_first (other u) all (all_shown es sc.names at) (λ xs. Show xs (Ends Normal)) (fine_all_shown (other u) all es sc.names at ok) (λ xs. tt)
      spared_what (tree.read es) n locked off = fine_first (other u) all (items_read es sc.names at locked) (λ o. Ends Normal) (are_more (other u) (other u) (items_read es sc.names at locked) (items_off u es sc.names at locked ok off)) (λ o. tt)

      spared_arms : (arms : ArmTrees) (rest : Plan) (locked : Locks) → OffHere locked → Spared rest → Spared (arms_plan arms sc at locked rest)
      spared_arms tree.no_arms rest locked off h = h
      spared_arms (tree.more_arms a more) rest locked off h = spared_arm a (arms_plan more sc at locked rest) locked off (spared_arms more rest locked off h)

      spared_arm : (a : ArmTree) (rest : Plan) (locked : Locks) → OffHere locked → Spared rest → Spared (arm_plan a sc at locked rest)
      spared_arm (tree.arm test body) rest locked off h =
          fine_first (other u) all (value test sc.names at) (λ c. if is_true c.number then list_plan sc.turns (parts body sc at locked) else rest) (fine_value (other u) all test sc.names at ok)
          (λ c. spared_if (is_true c.number) (list_plan sc.turns (parts body sc at locked)) rest (spared_list body locked (spared_parts body locked off)) h)

      spared_else : (o : ElseTree) (locked : Locks) → OffHere locked → Spared (else_plan o sc at locked)
      spared_else tree.no_else locked off = tt
      spared_else (tree.otherwise body) locked off = spared_list body locked (spared_parts body locked off)

      spared_do : (l : LoopTree) (locked : Locks) → OffHere locked → Spared (do_plan l sc at locked)
      spared_do (tree.loop index e1 e2 e3 body) locked off = spared_head index e1 e2 e3 body locked off (λ l o. spared_parts body l o)

      spared_parts : (ss : StmtTrees) (locked : Locks) → OffHere locked → Parts (parts ss sc at locked)
      spared_parts tree.no_stmts locked off = tt
      spared_parts (tree.more_stmts s ss) locked off = (spared_stmt s locked off, spared_parts ss locked off)

    pub spared_body : (ss : StmtTrees) (locked : Locks) → OffHere locked → Spared (body_plan ss sc at locked)
    spared_body ss locked off = spared_list ss locked (spared_parts ss locked off)

  -- ---- modules

  abbrev pub AllOutside : List Routine → Type 0
  AllOutside [] = Unit {0}
  AllOutside (r ∷ rs) = IsOutside u r × AllOutside rs

  yields_with : {A : Type 0} (P Q : A → Type 0) (t : Steps A) → Yields P t → Yields Q t → Yields (λ a. P a × Q a) t
  yields_with P Q (steps.Done a) y q = (y, q)
  yields_with P Q (steps.Breaks b) y q = tt
  yields_with P Q (steps.Look x k) y q = λ c. yields_with P Q (k c) (y c) (q c)
  yields_with P Q (steps.Set x c t) y q = yields_with P Q t y q
  yields_with P Q (steps.Hold x c t) y q = yields_with P Q t y q
  yields_with P Q (steps.Forget x t) y q = yields_with P Q t y q
  yields_with P Q (steps.Show xs t) y q = yields_with P Q t y q
  yields_with P Q (steps.Take k) y q = λ o. yields_with P Q (k o) (y o) (q o)
  yields_with P Q (steps.Arrive p t) y q = yields_with P Q t y q

  module _ (turns : ℕ) (z : nat_eq 0 u ≡ false) where
    abbrev CallsSpared : List Routine → Type 0
    CallsSpared rs = (x : List ℕ) → MeaningSpared (meanings rs turns x)

    spared_module : (r : Routine) (rs : List Routine) → IsTagged r → CallsSpared rs → (ps : List Place) (at : Places) (locked : Locks) → OffPlaces u locked ps → TagsStand r.names at → Off u locked r.names at → Spared (body_of r turns (meanings rs turns) ps at locked)
    spared_module r rs tagged h ps at locked o ok off =
        fine_first_so (other u) all (λ at'. TagsStand r.names at' × Off u locked r.names at') (arrays_bound r.dummies ps r.names at) (λ at'. body_plan r.body (scope r turns (meanings rs turns)) at' (lock_doubly locked r.dummies at' r.common))
        (fine_arrays (other u) all r.dummies ps r.names at tagged.dummies ok)
        (yields_with (TagsStand r.names) (Off u locked r.names) (arrays_bound r.dummies ps r.names at) (arrays_tagged r.dummies ps r.names at tagged.dummies ok) (arrays_off u locked r.dummies ps r.names at z o off))
        (λ at' q. spared_body (scope r turns (meanings rs turns)) h at' q.0 r.body (lock_doubly locked r.dummies at' r.common) (off_more u locked (lock_doubly locked r.dummies at' r.common) r.names at' (doubly_none u locked r.dummies at' r.common) q.1))

    spared_called : (r : Routine) (rs : List Routine) → IsTagged r → IsOutside u r → CallsSpared rs → MeaningSpared (called r turns (meanings rs turns))
    spared_called r rs tagged out h ps locked o =
        let at = scalars_bound r.dummies ps r.fixed in (
          fine_forget (other u) all r.locals (owned r.locals) (body_of r turns (meanings rs turns) ps at locked)
              (spared_module r rs tagged h ps at locked o (scalars_tagged r.names r.dummies ps r.fixed tagged.dummies tagged.fixed)
              (scalars_off u locked r.names r.dummies ps r.fixed z o (λ x v g k m. out x v g k))),
          λ f. fine_after_call (other u) all r.locals (owned r.locals) f,
        )

    pub spared_meanings : (rs : List Routine) → AllTagged rs → AllOutside rs → CallsSpared rs
    spared_meanings [] t o x = λ ps locked q. tt
    spared_meanings (r ∷ rs) t o x = either (spared_called r rs t.0 o.0 (λ y. spared_meanings rs t.1 o.1 y)) (spared_meanings rs t.1 o.1 x) (bytes_eq x r.name)
      where
        either : MeaningSpared (called r turns (meanings rs turns)) → MeaningSpared (meanings rs turns x) → (b : Bool) → MeaningSpared (if b then called r turns (meanings rs turns) else meanings rs turns x)
        either g h true = g
        either g h false = h
