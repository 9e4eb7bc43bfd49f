-- Units of modules and CALLs that are not active have no value, in every run of a program that is read.
use Rattle.std.proofs.Common.{◌≡◌, ◌⊎◌, inl, inr, ⊎_elim, ℕ, Bool, true, false, List, [], ◌∷◌, refl, sym, ◌∙◌, true≢false, arith, nat_eq}
use Rattle.std.specs.Prelude.{bytes_eq}
use Rattle.std.proofs.lemmas.Bool.Decides.{nat_tests}
use Rattle.f77_ast.specs.DeclTrees.{ParsedTree}
use Rattle.f77_ast.specs.Store.{Content, Store, put, undefined}
use Rattle.f77_ast.specs.Runs.{Answer, Gave, Broke, first_of, rest_of, store_of}
use Rattle.f77_ast.specs.Plans.{Plan}
use Rattle.f77_ast.specs.Plans as plan
use Rattle.f77_ast.specs.Executions.{run_of, AtEnd}
use Rattle.f77_ast.specs.Programs.{Routine, Program, program_plan}
use Rattle.f77_ast.specs.Symbols.{SymbolTree}
use Rattle.call_graph.specs.declared.graph.Graph.{Graph}
use Rattle.f77_meaning.specs.Modules.{known_of}
use Rattle.f77_meaning.specs.Linked.{program_of}
use Rattle.laws_analyses.proofs.Statements.Ends.{more}
use Rattle.laws_programs.specs.Programs.{IsProgram}
use Rattle.laws_analyses.specs.JumpLaws.{JumpsStayInside}
use Rattle.laws_analyses.specs.ScalarLaws.{AcceptedDataStaysInLocals}
use Rattle.laws_marks.specs.ConflictExecutions.{Execution, AtEachExecution}
use Rattle.laws_marks.proofs.ConflictEach.{plan_more}
use Rattle.laws_marks.specs.Inactive.{IsOfExpression, IsOfSome, IsInactive, HasNone, InactiveHaveNone}
use Rattle.laws_marks.specs.OwnLaws.{InactiveUnitsHaveNone}
use Rattle.laws_marks.proofs.Typed.{variables_have_types, calls_end}
use Rattle.laws_marks.proofs.Apart.{FixedOff, OwnerOf, owner, units_are_apart}
use Rattle.laws_marks.proofs.Initial.{units_begin_unset}
use Rattle.laws_marks.proofs.Order.{Named, Distinct, all_named, later, some_of, names_distinct}
use Rattle.laws_marks.proofs.Owners.{Told, AllTold, all_told}
use Rattle.laws_marks.proofs.Reach.{Gone, Reach, each_program}
use Rattle.laws_marks.proofs.Walk.{C}

-- ---- where its modules stand

module _ (u : ℕ) (name : List ℕ) (all : List Routine) where
  -- the claim is of the modules in which it is inactive
  abbrev Claimed : List ℕ → Type 0
  Claimed y = IsInactive all y u

  -- none of these is the owner's
  none_mine : (rs : List Routine) → AllTold u name rs → (Named rs name → ⊥) → IsOfSome rs u → ⊥
  none_mine [] t n h = h
  none_mine (r ∷ rs) t n h = ⊎_elim (λ a. n (inl (t.0.mine a))) (λ b. none_mine rs t.1 (λ k. n (inr k)) b) h

  -- behind the owner's module it is inactive in none
  behind : (rs : List Routine) → AllTold u name rs → (Named rs name → ⊥) → ((y : List ℕ) → Named rs y → Claimed y → IsInactive rs y u) → Gone u Claimed rs
  behind rs t n down = all_named (λ y. Claimed y → ⊥) rs (λ y k c. none_mine rs t n (some_of rs y u (down y k c)))

  reaches : (rs : List Routine) → AllTold u name rs → Distinct rs → ((y : List ℕ) → Named rs y → Claimed y → IsInactive rs y u) → Reach u Claimed rs
  reaches [] t d down = tt
  reaches (r ∷ rs) t d down = go (bytes_eq name r.name) refl (reaches rs t.1 d.1 next)
    where
      next : (y : List ℕ) → Named rs y → Claimed y → IsInactive rs y u
      next y n c = later r rs y u (d.0 y n) (down y (inr n) c)

      -- the owner's module is not behind itself
      alone : bytes_eq name r.name ≡ true → Named rs name → ⊥
      alone e n = true≢false (sym e ∙ d.0 name n)

      none : bytes_eq name r.name ≡ true → (IsOfExpression r u → ⊥) → (y : List ℕ) → Named (r ∷ rs) y → Claimed y → ⊥
      none e k y n c =
          let free = none_mine rs t.1 (alone e) in
          ⊎_elim (λ a. ⊎_elim k free a.1) (λ b. free (some_of rs y u b.1)) (down y n c)

      mine : bytes_eq name r.name ≡ true → Reach u Claimed (r ∷ rs)
      mine e = ⊎_elim (λ f. inr (f, inr (behind rs t.1 (alone e) next), here e)) (λ k. inl (all_named (λ y. Claimed y → ⊥) (r ∷ rs) (none e k))) t.0.kind
        where
          here : bytes_eq name r.name ≡ true → Reach u Claimed rs
          here e = gone rs (behind rs t.1 (alone e) next)
            where
              gone : (ss : List Routine) → Gone u Claimed ss → Reach u Claimed ss
              gone [] g = tt
              gone (s ∷ ss) g = inl g

      own : bytes_eq name r.name ≡ false → (n k : ℕ) → nat_eq (r.own_unit n k) u ≡ false
      own e n k = fin (nat_eq (r.own_unit n k) u) refl
        where
          same : nat_eq (r.own_unit n k) u ≡ true → r.own_unit n k ≡ u
          same q = grind (arith, nat_tests)

          fin : (b : Bool) → nat_eq (r.own_unit n k) u ≡ b → b ≡ false
          fin true q = absurd (true≢false (sym (t.0.mine (inr (record { call = n; place = k; is_unit = same q }))) ∙ e))
          fin false q = refl

      go : (b : Bool) → bytes_eq name r.name ≡ b → Reach u Claimed rs → Reach u Claimed (r ∷ rs)
      go true e ih = mine e
      go false e ih = inr (t.0.off e, inl (own e), ih)

-- ---- all units at once

at_end_all : {W A : Type 0} (a : Answer A) (s : Store) (i : List Content) (P : W → A → Store → List Content → Type 0) → ((w : W) → AtEnd a s i (P w)) → AtEnd a s i (λ x z j. (w : W) → P w x z j)
at_end_all (Gave a) s i P h = h
at_end_all (Broke b) s i P h = tt

module _ {W : Type 0} (D : W → Execution → Type 0) where
  pub at_once : (t : Plan) (s : Store) (i : List Content) → ((w : W) → AtEachExecution (D w) t s i) → AtEachExecution (λ x. (w : W) → D w x) t s i
  at_once (plan.Ends f) s i h = tt
  at_once (plan.Breaks b) s i h = tt
  at_once (plan.Look u k) s i h = at_once (k (s u)) s i h
  at_once (plan.Set u c t) s i h = at_once t (put s u c) i h
  at_once (plan.Hold u c t) s i h = at_once t (put s u c) i h
  at_once (plan.Forget u t) s i h = at_once t (put s u (undefined (s u))) i h
  at_once (plan.Show xs t) s i h = at_once t s i h
  at_once (plan.Take k) s i h = at_once (k (first_of i)) s (rest_of i) h
  at_once (plan.Within p at t k) s i h =
      let q = run_of t s i in (
        λ w. (h w).0,
        at_once t s i (λ w. (h w).1),
        more q (λ f z j. (w : W) → AtEachExecution (D w) (k f) z j) (λ f z j. AtEachExecution (λ x. (w : W) → D w x) (k f) z j) (λ f z j g. at_once (k f) z j g)
            (at_end_all q.answer (store_of q.memory) q.input (λ w f z j. AtEachExecution (D w) (k f) z j) (λ w. (h w).2)),
      )

-- ---- programs

module _ (stays : JumpsStayInside) (data_stays : AcceptedDataStaysInLocals) (ps : List ParsedTree) (sss : List (List SymbolTree)) (g : Graph) (x : IsProgram ps sss g) where
  abbrev p : Program
  p = program_of (known_of ps sss) g

  -- a unit that is of an expression of the main program, or of a subroutine
  record Owns : Type 0 where
    unit : ℕ
    is_owned : IsOfExpression (program_of (known_of ps sss) g).main unit ⊎ IsOfSome (program_of (known_of ps sss) g).others unit

  owned_by : (y : List ℕ) (u : ℕ) → IsInactive ((program_of (known_of ps sss) g).main ∷ (program_of (known_of ps sss) g).others) y u → Owns
  owned_by y u h = record { unit = u; is_owned = ⊎_elim (λ a. a.1) (λ b. inr (some_of p.others y u b.1)) h }

  each_unit : (turns : ℕ) (i : List Content) (w : Owns) → AtEachExecution (C w.unit (λ y. IsInactive (p.main ∷ p.others) y w.unit)) (program_plan p turns) p.initial i
  each_unit turns i w =
      let o = owner ps sss g x w.unit w.is_owned in
      let typed = variables_have_types ps sss g x in
      let apart = units_are_apart ps sss g x w.unit w.is_owned in
      each_program w.unit (λ y. IsInactive (p.main ∷ p.others) y w.unit) turns apart.1 p typed.no_dummies typed.main typed.others apart.0 (calls_end stays ps sss g x turns)
      (reaches w.unit o.parsed.module_read.name (p.main ∷ p.others) (p.main ∷ p.others) (all_told ps sss g x w.unit o) (names_distinct ps sss g x) (λ y n c. c))
      (units_begin_unset data_stays ps sss g x w.unit w.is_owned) i

pub inactive_units_have_none : JumpsStayInside → AcceptedDataStaysInLocals → InactiveUnitsHaveNone
unfolding owned_by
inactive_units_have_none stays data_stays ps sss g x turns i =
    let p = program_of (known_of ps sss) g in
    plan_more (λ y. (w : Owns stays data_stays ps sss g x) → C w.unit (λ z. IsInactive (p.main ∷ p.others) z w.unit) y) (InactiveHaveNone p) (λ y h u c. h (owned_by stays data_stays ps sss g x y.spot.module_name u c) c) (program_plan p turns) p.initial i
    (at_once (λ (w : Owns stays data_stays ps sss g x). C w.unit (λ z. IsInactive (p.main ∷ p.others) z w.unit)) (program_plan p turns) p.initial i (each_unit stays data_stays ps sss g x turns i))
