-- Lists of statements and loops, of parts that are fine.
use Rattle.std.proofs.Common.{ℕ, zero, suc, Bool, true, false, List, [], ◌∷◌, Option, Some, None, ℤ}
use Rattle.std.specs.Prelude.{if◌then◌else◌, ◌+ℤ◌}
use Rattle.f77_ast.specs.Store.{Tag, Int}
use Rattle.f77_ast.specs.Steps.{OutOfTurns}
use Rattle.f77_ast.specs.Numbers.{kept}
use Rattle.f77_ast.specs.Values.{given}
use Rattle.f77_ast.specs.Plans.{Flow, Normal, Jump, Returned, Stopped, Plan, Ends, Breaks, Set, first, on_normal}
use Rattle.f77_ast.specs.Lists.{Part, is_label, has_label, from_label, go_on, in_order, with_jumps, list_plan}
use Rattle.f77_ast.specs.Loops.{iterations_from}
use Rattle.f77_ast.specs.Calls.{forget_all, after_call}
use Rattle.f77_meaning.specs.Occurrences.{Occurrence}
use Rattle.laws_programs.proofs.Effects.Access.{Writing, Allowed, EndsIn, Passing}
use Rattle.laws_programs.proofs.Effects.Fine.{Fine, Doing, fine_first, fine_then}
use Rattle.fx_lists.proofs.Every.{Anything}

abbrev pub AllFine : List Part → Passing → (Occurrence → Type 0) → Allowed → Type 0
AllFine [] L C A = Unit {0}
AllFine (q ∷ qs) L C A = Fine q.does L C A × AllFine qs L C A

pub given_does : (A : Allowed) (t : Tag) (o : Option ℤ) → Doing (given t o) A Anything
given_does A t None = tt
given_does A t (Some n) = tt

module _ (L : Passing) (C : Occurrence → Type 0) (A : Allowed) where
  from_label_fine : (l : ℕ) (qs : List Part) → AllFine qs L C A → AllFine (from_label l qs) L C A
  from_label_fine l [] h = tt
  from_label_fine l (q ∷ qs) h = go (is_label l q.label) (from_label_fine l qs h.1)
    where
      go : (b : Bool) → AllFine (from_label l qs) L C A → AllFine (if b then q ∷ qs else from_label l qs) L C A
      go true ih = h
      go false ih = ih

  go_on_fine : (jump : ℕ → Plan) (all : List Part) (rest : Plan) → ((l : ℕ) → Fine (jump l) L C A) → Fine rest L C A → (f : Flow) → EndsIn A f → Fine (go_on jump all rest f) L C A
  go_on_fine jump all rest j h Normal e = h
  go_on_fine jump all rest j h (Jump l) e = go (has_label l all)
    where
      go : (b : Bool) → Fine (if b then jump l else Ends (Jump l)) L C A
      go true = j l
      go false = tt
  go_on_fine jump all rest j h Returned e = tt
  go_on_fine jump all rest j h Stopped e = e

  in_order_fine : (jump : ℕ → Plan) (all qs : List Part) → ((l : ℕ) → Fine (jump l) L C A) → AllFine qs L C A → Fine (in_order jump all qs) L C A
  in_order_fine jump all [] j h = tt
  in_order_fine jump all (q ∷ qs) j h =
      fine_then L C q.does (go_on jump all (in_order jump all qs)) A h.0 (go_on_fine jump all (in_order jump all qs) j (in_order_fine jump all qs j h.1))

  pub with_jumps_fine : (n : ℕ) (all qs : List Part) → AllFine all L C A → AllFine qs L C A → Fine (with_jumps n all qs) L C A
  with_jumps_fine zero all qs whole h = in_order_fine (λ l. Breaks OutOfTurns) all qs (λ l. tt) h
  with_jumps_fine (suc n) all qs whole h =
      in_order_fine (λ l. with_jumps n all (from_label l all)) all qs (λ l. with_jumps_fine n all (from_label l all) whole (from_label_fine l all whole)) h

  pub list_fine : (turns : ℕ) (qs : List Part) → AllFine qs L C A → Fine (list_plan turns qs) L C A
  list_fine turns qs h = with_jumps_fine turns qs qs h h

  -- ---- loops

  on_normal_fine : (t : Plan) → Fine t L C A → (f : Flow) → EndsIn A f → Fine (on_normal f t) L C A
  on_normal_fine t h Normal e = h
  on_normal_fine t h (Jump l) e = tt
  on_normal_fine t h Returned e = tt
  on_normal_fine t h Stopped e = e

  pub turns_fine : (k : ℕ) (n step : ℤ) (u : ℕ) (body : Plan) → A (Writing u) → Fine body L C A → Fine (iterations_from k n step u body) L C A
  turns_fine zero n step u body w h = tt
  turns_fine (suc k) n step u body w h =
      fine_then L C body (λ f. on_normal f (first (given Int (kept (n +ℤ step))) (λ c. Set u c (iterations_from k c.number step u body)))) A h
      (on_normal_fine (first (given Int (kept (n +ℤ step))) (λ c. Set u c (iterations_from k c.number step u body)))
      (fine_first L C (given Int (kept (n +ℤ step))) (λ c. Set u c (iterations_from k c.number step u body)) A Anything (given_does A Int (kept (n +ℤ step)))
      (λ c o. (w, turns_fine k c.number step u body w h))))

  -- ---- ends of calls

  pub forget_fine : (us : List ℕ) (t : Plan) → Fine t L C A → Fine (forget_all us t) L C A
  forget_fine [] t h = h
  forget_fine (u ∷ us) t h = forget_fine us t h

  pub after_call_fine : (us : List ℕ) (f : Flow) → EndsIn A f → Fine (after_call us f) L C A
  after_call_fine us Normal e = forget_fine us (Ends Normal) tt
  after_call_fine us (Jump l) e = tt
  after_call_fine us Returned e = forget_fine us (Ends Normal) tt
  after_call_fine us Stopped e = e
