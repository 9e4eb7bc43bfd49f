-- The executions in CALLs, and in a program, of a unit of a module or of its expressions.
use Rattle.std.proofs.Common.{◌≡◌, ◌⊎◌, inl, inr, ⊎_elim, ℕ, List, [], ◌∷◌, Bool, true, false, ap, subst, nat_eq, bytes_eq}
use Rattle.std.specs.Prelude.{if◌then◌else◌}
use Rattle.f77_ast.specs.Store.{Content, put, undefined}
use Rattle.f77_ast.specs.Places.{Place, Places}
use Rattle.f77_ast.specs.Writes.{Locks, no_locks}
use Rattle.f77_ast.specs.Plans.{Plan, Ends, Within, steps_of}
use Rattle.f77_ast.specs.Executions.{run_of}
use Rattle.f77_ast.specs.Calls.{scalars_bound, forget_all, after_call}
use Rattle.f77_ast.specs.Statements.{spot}
use Rattle.f77_ast.specs.Programs.{Routine, Program, body_of, called, meanings, program_plan}
use Rattle.f77_ast.proofs.StepLaws.{leads_true}
use Rattle.laws_analyses.proofs.Statements.Ends.{more}
use Rattle.laws_interleavings.specs.Typed.{IsTagged, AllTagged}
use Rattle.laws_interleavings.specs.Plans.Cleared.{HasNoValue, Cleared, OffPlaces, EndsWell, MeaningCleared, AllApart, AllEnd}
use Rattle.laws_interleavings.proofs.Plans.Fine.{scalars_tagged}
use Rattle.laws_interleavings.proofs.Plans.Cleared.{forgotten, scalars_off, cleared_forget_all, cleared_module, cleared_meanings}
use Rattle.laws_marks.specs.ConflictExecutions.{Execution, AtEachExecution}
use Rattle.laws_marks.proofs.ConflictEach.{plan_after}
use Rattle.laws_marks.proofs.Apart.{FixedOff}
use Rattle.laws_marks.proofs.Spots.{AllNamed, InModules, at_spots, meanings_in, program_in}
use Rattle.laws_marks.proofs.Walk.{C, Each, EachMeaning, Wild, each_module}

module _ (u : ℕ) (A : List ℕ → Type 0) where
  -- the claim is of none of these modules
  abbrev pub Gone : List Routine → Type 0
  Gone rs = AllNamed (λ y. A y → ⊥) rs

  -- the unit is none of a module's variables, nor of its expressions unless the claim is of no module behind it; from some module on it is of none
  abbrev pub Reach : List Routine → Type 0
  Reach [] = Unit {0}
  Reach (r ∷ rs) = Gone (r ∷ rs) ⊎ (FixedOff u r × (((n k : ℕ) → nat_eq (r.own_unit n k) u ≡ false) ⊎ Gone rs) × Reach rs)

  no_claim : (x : Execution) → (A x.spot.module_name → ⊥) → C u A x
  no_claim x b a = absurd (b a)

  each_forget : (us : List ℕ) (t : Plan) → Each u A t → Each u A (forget_all us t)
  each_forget [] t h = h
  each_forget (x ∷ us) t h = λ s n i. each_forget us t h (put s x (undefined (s x))) (forgotten u s x n) i

  module _ (turns : ℕ) (z : nat_eq 0 u ≡ false) where
    wild_meanings : (rs : List Routine) → Gone rs → (x : List ℕ) → Wild u A (meanings rs turns x)
    wild_meanings rs g x = λ ps locked s i. at_spots (InModules (λ y. A y → ⊥)) (C u A) no_claim (meanings rs turns x ps locked) (meanings_in (λ y. A y → ⊥) turns rs g x ps locked) s i

    -- what a module does, where the places of its variables are known
    module _ (r : Routine) (rs : List Routine) (tagged : IsTagged r) (fixed : FixedOff u r) (clear : (x : List ℕ) → MeaningCleared u (meanings rs turns x)) (well : (x : List ℕ) → EndsWell (meanings rs turns x)) (each : (x : List ℕ) → EachMeaning u A (meanings rs turns x))
        (own : ((n k : ℕ) → nat_eq (r.own_unit n k) u ≡ false) ⊎ ((x : List ℕ) → Wild u A (meanings rs turns x))) (ps : List Place) (locked : Locks) (o : OffPlaces u locked ps) where
      abbrev at : Places
      at = scalars_bound r.dummies ps r.fixed

      abbrev does : Plan
      does = body_of r turns (meanings rs turns) ps (scalars_bound r.dummies ps r.fixed) locked

      body_cleared : Cleared u does
      body_cleared =
          cleared_module u turns z r rs tagged clear well ps at locked o (scalars_tagged r.names r.dummies ps r.fixed tagged.dummies tagged.fixed)
          (scalars_off u locked r.names r.dummies ps r.fixed z o (λ x v e d k. fixed x v e d))

      body_each : Each u A does
      body_each = each_module u A turns z r rs tagged fixed clear well each own ps locked o

      each_called : Each u A (called r turns (meanings rs turns) ps locked)
      each_called s n i =
          let whole = forget_all r.locals does in (
            λ a. record { before = n; after = cleared_forget_all u r.locals does body_cleared s i n },
            each_forget r.locals does body_each s n i,
            more (run_of whole s i) (λ f y j. Unit {0}) (λ f y j. AtEachExecution (C u A) (after_call r.locals f) y j) (λ f y j e. plan_after (C u A) r.locals f y j) (leads_true (steps_of whole) s i),
          )

      each_main : Each u A (Within (spot r.name 0) at does (λ f. Ends f))
      each_main s n i = (
        λ a. record { before = n; after = body_cleared s i n },
        body_each s n i,
        more (run_of does s i) (λ f y j. Unit {0}) (λ f y j. AtEachExecution (C u A) (Ends f) y j) (λ f y j e. tt) (leads_true (steps_of does) s i),
      )

    own_or : (r : Routine) (rs : List Routine) → ((n k : ℕ) → nat_eq (r.own_unit n k) u ≡ false) ⊎ Gone rs → ((n k : ℕ) → nat_eq (r.own_unit n k) u ≡ false) ⊎ ((x : List ℕ) → Wild u A (meanings rs turns x))
    own_or r rs h = ⊎_elim (λ a. inl a) (λ g. inr (wild_meanings rs g)) h

    pub each_meanings : (rs : List Routine) → AllTagged rs → AllApart u rs → AllEnd turns rs → Reach rs → (x : List ℕ) → EachMeaning u A (meanings rs turns x)
    each_meanings [] t a w h x = λ ps locked o s n i. tt
    each_meanings (r ∷ rs) t a w h x = ⊎_elim (λ g. λ ps locked o s n i. wild_meanings (r ∷ rs) g x ps locked s i) (λ k. on k (λ y. each_meanings rs t.1 a.1 w.2 k.2 y)) h
      where
        either : EachMeaning u A (called r turns (meanings rs turns)) → EachMeaning u A (meanings rs turns x) → (b : Bool) → EachMeaning u A (if b then called r turns (meanings rs turns) else meanings rs turns x)
        either f g true = f
        either f g false = g

        on : FixedOff u r × (((n k : ℕ) → nat_eq (r.own_unit n k) u ≡ false) ⊎ Gone rs) × Reach rs → ((y : List ℕ) → EachMeaning u A (meanings rs turns y)) → EachMeaning u A (meanings (r ∷ rs) turns x)
        on k inner = either (λ ps locked o. each_called r rs t.0 k.0 (cleared_meanings u turns z rs t.1 a.1 w.2) w.1 inner (own_or r rs k.1) ps locked o) (inner x) (bytes_eq x r.name)

    -- no CALL ends by a GO TO
    all_well : (rs : List Routine) → AllEnd turns rs → (x : List ℕ) → EndsWell (meanings rs turns x)
    all_well [] w x = λ ps locked s i. tt
    all_well (r ∷ rs) w x = go (bytes_eq x r.name)
      where
        go : (b : Bool) → EndsWell (if b then called r turns (meanings rs turns) else meanings rs turns x)
        go true = w.0
        go false = w.1 x

    -- a program: its main program has no dummies
    pub each_program : (p : Program) → p.main.dummies ≡ [] → IsTagged p.main → AllTagged p.others → AllApart u p.others → AllEnd turns p.others → Reach (p.main ∷ p.others) → HasNoValue p.initial u → (i : List Content) →
        AtEachExecution (C u A) (program_plan p turns) p.initial i
    each_program p none tagged t a w h n i = ⊎_elim gone on h
      where
        gone : Gone (p.main ∷ p.others) → AtEachExecution (C u A) (program_plan p turns) p.initial i
        gone g = at_spots (InModules (λ y. A y → ⊥)) (C u A) no_claim (program_plan p turns) (program_in (λ y. A y → ⊥) turns p g.0 g.1) p.initial i

        on : FixedOff u p.main × (((m k : ℕ) → nat_eq (p.main.own_unit m k) u ≡ false) ⊎ Gone p.others) × Reach p.others → AtEachExecution (C u A) (program_plan p turns) p.initial i
        on k =
            subst (λ at. AtEachExecution (C u A) (Within (spot p.main.name 0) at (body_of p.main turns (meanings p.others turns) [] at no_locks) (λ f. Ends f)) p.initial i) (ap (λ ds. scalars_bound ds [] p.main.fixed) none)
            (each_main p.main p.others tagged k.0 (cleared_meanings u turns z p.others t a w) (all_well p.others w) (each_meanings p.others t a w k.2) (own_or p.main p.others k.1) [] no_locks tt p.initial n i)
