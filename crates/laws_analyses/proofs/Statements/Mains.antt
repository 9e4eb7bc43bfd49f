-- A main program that calls no module: its preconditions and transformers hold in every run.
use Rattle.std.proofs.Common.{◌≡◌, ℕ, zero, suc, ◌+◌, ◌-◌, ◌<◌, List, [], ◌∷◌, ◌++◌, ◌||◌, Option, Some, None, Bool, true, false, refl, sym, ap, ◌∙◌, subst, arith, ℤ, pos, nat_eq, true≢false}
use Rattle.std.specs.Prelude.{if◌then◌else◌, slice_get}
use Rattle.std.proofs.lemmas.Int.{ints}
use Rattle.std.proofs.lemmas.Bool.Decides.{nat_tests}
use Rattle.std.proofs.lemmas.Bool.{and_from}
use Rattle.affine_systems.specs.declared.row.Var.TheVariants.{Cell}
use Rattle.affine_systems.specs.declared.row.Row.{Row}
use Rattle.affine_systems.specs.declared.row.System.{System}
use Rattle.affine_systems.specs.Terms.{term}
use Rattle.affine_systems.specs.Rows.{row}
use Rattle.affine_systems.specs.Points.{Point, Holds, HoldsAll}
use Rattle.affine_systems.proofs.CallLaws.{append_all}
use Rattle.preconditions.proofs.TransformerAlgebra.KeepLaws.{of_rows_holds}
use Rattle.f77_ast.specs.Trees.{ExprTree, ExprTrees, StmtTrees}
use Rattle.f77_ast.specs.Trees as tree
use Rattle.f77_ast.specs.Store.{Content, Store}
use Rattle.f77_ast.specs.Faults.{Locked}
use Rattle.f77_ast.specs.Runs.{Ran, Event}
use Rattle.f77_ast.specs.Places.{Place, Places}
use Rattle.f77_ast.specs.Writes.{Locks, no_locks}
use Rattle.f77_ast.specs.Plans.{Flow, Plan, Ends, Within, first}
use Rattle.f77_ast.specs.Executions.{run_of, AtEndOf, Claim}
use Rattle.f77_ast.specs.Calls.{Meaning, Dummy, arrays_bound, lock_doubly}
use Rattle.f77_ast.specs.Lists.{list_plan}
use Rattle.f77_ast.specs.Statements.{Scope, spot, parts, body_plan}
use Rattle.f77_ast.specs.Programs.{Routine, Program, scope, body_of, meanings, program_plan}
use Rattle.f77_ast.specs.declared.symbol.InitialRun.{InitialRun}
use Rattle.f77_ast.specs.Symbols.{SymbolTree}
use Rattle.f77_ast.specs.Shared.{symbol_at}
use Rattle.call_graph.specs.declared.graph.Graph.{Graph}
use Rattle.f77_meaning.specs.Modules.{Known, names, fixed, dummies_from}
use Rattle.f77_meaning.specs.Linked.{numbering, main_of, initial, routine, subroutines, program_of}
use Rattle.f77_meaning.specs.Occurrences.{Occurrence, Onward, Throughout, first_places, places_in, is_normal}
use Rattle.f77_meaning.specs.Claims.{Numbers}
use Rattle.affine_forms.specs.Scalars.{is_cell}
use Rattle.affine_forms.specs.Claims.{unit_in, numbers_of}
use Rattle.preconditions.specs.transformer_algebra.declared.transformer.Transformer.{Transformer}
use Rattle.preconditions.specs.transformer_algebra.Cells.{has}
use Rattle.preconditions.specs.transformer_algebra.Claims.{Scene, HoldsAt, Does, Tracks}
use Rattle.preconditions.specs.call_translation.Scopes.{ScopeTree}
use Rattle.preconditions.specs.transformers.Lists.{or_unchanging}
use Rattle.preconditions.specs.transformers.Modules.{transformers_of}
use Rattle.preconditions.specs.Modules.{preconditions_of}
use Rattle.preconditions.specs.Entry.{begins_with, initial_row, initial_from, main_entry}
use Rattle.laws_analyses.specs.Statements.Good.{said, Good}
use Rattle.laws_analyses.proofs.Statements.Ends.{more, throughout}
use Rattle.laws_analyses.proofs.Statements.Rules.{good_more, good_at}
use Rattle.laws_analyses.specs.Statements.Activation.{scene_at, Fit, Ended}
use Rattle.laws_analyses.specs.Statements.Placed.{Found, PlacedList}
use Rattle.laws_analyses.specs.Statements.Results.{or_no_rows, found_in, pre_in, ScalarsHold}
use Rattle.laws_analyses.specs.Statements.Laws.{scope_of, no_callees, is_scalar, FirstValue, IsMainAlone, MainHolds}
use Rattle.laws_analyses.proofs.Statements.Loops.{fit_lock}
use Rattle.laws_analyses.proofs.Statements.Lists.{Claimed}
use Rattle.laws_analyses.proofs.Statements.Statements.{list_good}
use Rattle.laws_analyses.proofs.Statements.MainNames.{names_fit, main_fit, no_dummies, far, place_of, still}
use Rattle.call_graph.specs.CallsIn.{Each, list_calls}
use Rattle.laws_analyses.proofs.Statements.Placing.{Owed}
use Rattle.laws_analyses.proofs.Statements.ResultLaws.{results_placed}

-- ---- what DATA says

one_row : (n : ℕ) (v : ℤ) (p : Point) → p (Cell n) ≡ v → Holds p (row true (term (Cell n) (pos 1) ∷ []) v)
one_row n v p e = omega (arith, ints, e)

begins_hold : (n : ℕ) (rs : List InitialRun) (p : Point) → FirstValue rs (p (Cell n)) → HoldsAll p (begins_with n rs)
begins_hold n [] p h = tt
begins_hold n (r ∷ rs) p h = (one_row n r.value p h, tt)

initial_row_holds : (n : ℕ) (b : Bool) (s : SymbolTree) (p : Point) → (b ≡ true → FirstValue s.initial (p (Cell n))) → HoldsAll p (initial_row n b s)
initial_row_holds n true s p h = begins_hold n s.initial p (h refl)
initial_row_holds n false s p h = tt

initial_holds : (flags : List Bool) (n : ℕ) (ss : List SymbolTree) (p : Point) → ((i : ℕ) (s : SymbolTree) → slice_get ss i ≡ Some s → is_cell flags (n + i) ≡ true → FirstValue s.initial (p (Cell (n + i)))) → HoldsAll p (initial_from flags n ss)
initial_holds flags n [] p h = tt
initial_holds flags n (s ∷ ss) p h =
    (append_all p (initial_row n (is_cell flags n) s) (initial_from flags (suc n) ss)).0 (
      initial_row_holds n (is_cell flags n) s p (λ t. subst (λ k. FirstValue s.initial (p (Cell k))) none (h zero s refl (subst (λ k. is_cell flags k ≡ true) (sym none) t))),
      initial_holds flags (suc n) ss p (λ i r e t. subst (λ k. FirstValue r.initial (p (Cell k))) (later i) (h (suc i) r e (subst (λ k. is_cell flags k ≡ true) (sym (later i)) t))),
    )
  where
    none : n + 0 ≡ n
    none = omega arith

    later : (i : ℕ) → n + suc i ≡ suc n + i
    later i = omega arith

-- ---- the places of the first statement

first_list : (ss : StmtTrees) (sc : Scope) (at : Places) (locked : Locks) (turns : ℕ) (z : Store) (i : List Content) → first_places (list_plan turns (parts ss sc at locked)) z i at ≡ at
first_list tree.no_stmts sc at locked zero z i = refl
first_list tree.no_stmts sc at locked (suc n) z i = refl
first_list (tree.more_stmts (tree.stmt n label v) rest) sc at locked zero z i = refl
first_list (tree.more_stmts (tree.stmt n label v) rest) sc at locked (suc m) z i = refl

-- no CALL stands there
abbrev no_covers : List ℕ → ExprTrees → System → Type 0
no_covers x es p = ⊥

module _ (ks : List Known) (g : Graph) (k : Known) (flags : List Bool) (h : IsMainAlone ks g k flags) (turns : ℕ) (others : List Routine) where
  abbrev at : Places
  at = fixed (numbering ks g) k

  abbrev m : ScopeTree
  m = scope_of k.symbols flags

  abbrev body : StmtTrees
  body = k.read.body

  abbrev entry : System
  entry = main_entry m

  abbrev r : Found
  r = record { pre = pre_in body m no_callees entry; transformer = found_in body m no_callees }

  abbrev C : Claim
  C = said (λ x. ScalarsHold body m no_callees entry x.spot.statement x)

  abbrev main : Routine
  main = routine ks g k

  abbrev sc : Scope
  sc = scope main turns (meanings others turns)

  abbrev e : Scene
  e = scene_at m at far place_of

  abbrev z0 : Store
  z0 = initial ks g

  -- ---- claims

  claimed : Claimed C m no_callees r no_covers (is_scalar k.symbols) sc at far place_of
  claimed j z q hold d = λ later. (
    (λ n ag p hp. hold p (λ c t. hp c ∙ ag c t)),
    more q (λ f y i. is_normal (suc j) f ≡ true → Does e (r.transformer (suc j)) (numbers_of z) (numbers_of y)) _
        (λ f y i dd n. (let w = dd n in (
          (λ a b agrees changed p before after. w.relates p (λ c t. before c ∙ agrees c t) (λ c t v. after c ∙ changed c (and_from (is_cell flags c) (has (r.transformer (suc j)).cells c) t v))),
          (λ c t v. w.kept.cells c t v),
        ))) d,
  )

  -- ---- results

  placed : PlacedList r no_covers m no_callees (is_scalar k.symbols) body true entry
  placed =
      results_placed body m no_callees entry (is_scalar k.symbols) no_covers h.numbered h.targets
      (subst (λ calls. Each (Owed r no_covers m no_callees (is_scalar k.symbols)) calls) (sym h.no_call) tt)

  -- ---- the entry

  next_symbol : (i : ℕ) (s : SymbolTree) → slice_get k.symbols i ≡ Some s → symbol_at k.symbols (1 + i) ≡ Some s
  next_symbol i s q = (let less : 1 + i - 1 ≡ i = omega arith in ap (λ b. if b then None else slice_get k.symbols (1 + i - 1)) (not_zero i) ∙ (ap (slice_get k.symbols) less ∙ q))
    where
      not_zero : (i : ℕ) → nat_eq (1 + i) 0 ≡ false
      not_zero i = grind (arith, nat_tests)

  entry_holds : HoldsAt e entry (numbers_of z0)
  entry_holds p st =
      of_rows_holds (initial_from flags 1 k.symbols) p
      (initial_holds flags 1 k.symbols p (λ i s q t. first_value s.initial (numbers_of z0 (unit_in at (1 + i))) (p (Cell (1 + i))) (sym (st (1 + i) t)) (h.values (1 + i) s (next_symbol i s q) t)))
    where
      first_value : (rs : List InitialRun) (x y : ℤ) → x ≡ y → FirstValue rs x → FirstValue rs y
      first_value [] x y q v = tt
      first_value (a ∷ rs) x y q v = sym q ∙ v

  entry_claim : (ps : Places) → ps ≡ at → (q : Ran Flow) → C (spot k.read.name 0) ps z0 q
  entry_claim ps same q later n ag p hp = entry_holds p (λ c t. hp c ∙ (ag c t ∙ ap (λ o. (z0 (o c).first).number) same))

  -- ---- the run

  abbrev plan_for : List Dummy → Plan
  plan_for ds = first (arrays_bound ds [] main.names at) (λ at'. body_plan body sc at' (lock_doubly no_locks ds at' main.common))

  body_good : Good C (plan_for []) z0 (λ f z. Unit {0})
  body_good =
      good_more C (body_plan body sc at no_locks) z0 _ (λ f z. Unit {0}) (λ f z d. tt)
      (list_good C m no_callees r no_covers (is_scalar k.symbols) sc at far place_of (names_fit ks g k flags h) claimed
      (λ locked live. Fit sc.names (is_scalar k.symbols) at e locked live) (λ locked live f. f) (λ locked live x v named sx f. fit_lock sc.names (is_scalar k.symbols) at e locked live (unit_in at v) Locked f)
      (λ x es c v. absurd (true≢false (sym v))) (λ x es n locked live f P z hp cov. absurd cov)
      true body no_locks still (main_fit ks g k flags h) entry z0 entry_holds placed)

  abbrev node : List Dummy → Plan
  node ds = Within (spot k.read.name 0) at (plan_for ds) (λ f. Ends f)

  node_good : Good C (node []) z0 (λ f z. Unit {0})
  node_good = good_at C (spot k.read.name 0) at (plan_for []) z0 (λ f z. Unit {0}) (λ i. entry_claim (first_places (plan_for []) z0 i at) (first_list body sc at no_locks turns z0 i) (run_of (plan_for []) z0 i)) body_good

  main_good : Good C (node (dummies_from 1 k.symbols)) z0 (λ f z. Unit {0})
  main_good = subst (λ ds. Good C (node ds) z0 (λ f z. Unit {0})) (sym (no_dummies 1 k.symbols h.no_dummy)) node_good

  pub main_runs : (input : List Content) (onward : Onward) → Throughout (λ x. ScalarsHold body m no_callees entry x.spot.statement x) (program_plan (record { main = main; others = others; initial = z0 }) turns) z0 input onward
  main_runs input onward = throughout (λ x. ScalarsHold body m no_callees entry x.spot.statement x) (node (dummies_from 1 k.symbols)) z0 input onward (main_good.inside input)

pub main_holds : MainHolds
main_holds ks g k flags h turns input =
    subst (λ y. Throughout (λ x. ScalarsHold k.read.body (scope_of k.symbols flags) no_callees (main_entry (scope_of k.symbols flags)) x.spot.statement x) (program_plan (record { main = routine ks g y; others = subroutines ks g g.order; initial = initial ks g }) turns) (initial ks g) input (λ f s i. [])) (sym h.is_main)
    (main_runs ks g k flags h turns (subroutines ks g g.order) input (λ f s i. []))
