-- The executions in lists of statements, with GO TO, and in the iterations of a DO.
use Rattle.std.proofs.Common.{ℕ, zero, suc, List, [], ◌∷◌, Option, Some, None, Bool, true, false, ℤ, ◌+ℤ◌}
use Rattle.std.specs.Prelude.{if◌then◌else◌}
use Rattle.f77_ast.specs.Store.{Content, content, Int, Store, put}
use Rattle.f77_ast.specs.Steps.{OutOfTurns}
use Rattle.f77_ast.specs.Numbers.{kept}
use Rattle.f77_ast.specs.Values.{given}
use Rattle.f77_ast.specs.Plans.{Flow, Normal, Jump, Returned, Stopped, Plan, Ends, Breaks, Set as SetPlan, first, on_normal}
use Rattle.f77_ast.specs.Executions.{run_of, AtEndOf}
use Rattle.f77_ast.specs.Lists.{Part, is_label, has_label, from_label, go_on, in_order, with_jumps}
use Rattle.f77_ast.specs.Loops.{iterations_from}
use Rattle.laws_analyses.proofs.Statements.Ends.{more}
use Rattle.laws_marks.specs.ConflictExecutions.{Execution, AtEachExecution}
use Rattle.laws_marks.proofs.ConflictCuts.{NoSets, no_sets_then}
use Rattle.laws_marks.proofs.ConflictEach.{plan_then}

-- I: what holds at each store of the module that runs
module _ (I : Store → Type 0) where
  -- where control stays in the module
  abbrev pub Stays : Flow → Store → Type 0
  Stays Normal z = I z
  Stays (Jump l) z = I z
  Stays Returned z = I z
  Stays Stopped z = Unit {0}

  -- after a normal end the variable may take any number
  abbrev pub Again : ℕ → Flow → Store → Type 0
  Again u Normal z = (n : ℤ) → I (put z u (content Int n))
  Again u (Jump l) z = Unit {0}
  Again u Returned z = Unit {0}
  Again u Stopped z = Unit {0}

module _ (C : Execution → Type 0) (I : Store → Type 0) where
  abbrev pub PartIs : Part → Type 0
  PartIs q = (z : Store) → I z → (i : List Content) → AtEachExecution C q.does z i × AtEndOf (run_of q.does z i) (λ f y j. Stays I f y)

  abbrev pub PartsAre : List Part → Type 0
  PartsAre [] = Unit {0}
  PartsAre (q ∷ qs) = PartIs q × PartsAre qs

  from_parts : (l : ℕ) (qs : List Part) → PartsAre qs → PartsAre (from_label l qs)
  from_parts l [] h = tt
  from_parts l (q ∷ qs) h = go (is_label l q.label) (from_parts l qs h.1)
    where
      go : (b : Bool) → PartsAre (from_label l qs) → PartsAre (if b then q ∷ qs else from_label l qs)
      go true ih = h
      go false ih = ih

  order_reached : (jump : ℕ → Plan) → ((l : ℕ) (z : Store) (i : List Content) → I z → AtEachExecution C (jump l) z i) → (all qs : List Part) → PartsAre qs → (z : Store) → I z → (i : List Content) → AtEachExecution C (in_order jump all qs) z i
  order_reached jump f all [] h z iz i = tt
  order_reached jump f all (q ∷ qs) h z iz i =
      let r = h.0 z iz i in
      plan_then C q.does (go_on jump all (in_order jump all qs)) z i r.0
      (more (run_of q.does z i) (λ g y j. Stays I g y) (λ g y j. AtEachExecution C (go_on jump all (in_order jump all qs) g) y j) (λ g y j o. next g y j o (λ v iv l. order_reached jump f all qs h.1 v iv l)) r.1)
    where
      next : (g : Flow) (y : Store) (j : List Content) → Stays I g y → ((v : Store) → I v → (l : List Content) → AtEachExecution C (in_order jump all qs) v l) → AtEachExecution C (go_on jump all (in_order jump all qs) g) y j
      next Normal y j o ih = ih y o j
      next (Jump l) y j o ih = go (has_label l all)
        where
          go : (b : Bool) → AtEachExecution C (if b then jump l else Ends (Jump l)) y j
          go true = f l y j o
          go false = tt
      next Returned y j o ih = tt
      next Stopped y j o ih = tt

  pub jumps_reached : (n : ℕ) (all : List Part) → PartsAre all → (qs : List Part) → PartsAre qs → (z : Store) → I z → (i : List Content) → AtEachExecution C (with_jumps n all qs) z i
  jumps_reached zero all h qs g z iz i = order_reached (λ l. Breaks OutOfTurns) (λ l y j iy. tt) all qs g z iz i
  jumps_reached (suc n) all h qs g z iz i = order_reached (λ l. with_jumps n all (from_label l all)) (λ l y j iy. jumps_reached n all h (from_label l all) (from_parts l all h) y iy j) all qs g z iz i

  -- ---- iterations

  module _ (step : ℤ) (u : ℕ) (body : Plan) (inner : (y : Store) → I y → (i : List Content) → AtEachExecution C body y i) (ends : (y : Store) → I y → (i : List Content) → AtEndOf (run_of body y i) (λ f z j. Again I u f z)) where
    pub iterations_reached : (j : ℕ) (m : ℤ) (y : Store) → I y → (i : List Content) → AtEachExecution C (iterations_from j m step u body) y i
    iterations_reached zero m y iy i = tt
    iterations_reached (suc j) m y iy i =
        plan_then C body on y i (inner y iy i) (more (run_of body y i) (λ g z l. Again I u g z) (λ g z l. AtEachExecution C (on g) z l) (λ g z l a. next g z l a (λ n v iv l'. iterations_reached j n v iv l')) (ends y iy i))
      where
        on : Flow → Plan
        on f = on_normal f (first (given Int (kept (m +ℤ step))) (λ c. SetPlan u c (iterations_from j c.number step u body)))

        next : (g : Flow) (z : Store) (l : List Content) → Again I u g z → ((n : ℤ) (v : Store) → I v → (l' : List Content) → AtEachExecution C (iterations_from j n step u body) v l') → AtEachExecution C (on_normal g (first (given Int (kept (m +ℤ step))) (λ c. SetPlan u c (iterations_from j c.number step u body)))) z l
        next (Jump k) z l a ih = tt
        next Returned z l a ih = tt
        next Stopped z l a ih = tt
        next Normal z l a ih = go (kept (m +ℤ step))
          where
            go : (o : Option ℤ) → AtEachExecution C (first (given Int o) (λ c. SetPlan u c (iterations_from j c.number step u body))) z l
            go None = tt
            go (Some n) = ih n (put z u (content Int n)) (a n) l

-- ---- lists write only in parts

abbrev pub AllNoSets : List Part → Type 0
AllNoSets [] = Unit {0}
AllNoSets (q ∷ qs) = NoSets q.does × AllNoSets qs

from_no_sets : (l : ℕ) (qs : List Part) → AllNoSets qs → AllNoSets (from_label l qs)
from_no_sets l [] h = tt
from_no_sets l (q ∷ qs) h = go (is_label l q.label) (from_no_sets l qs h.1)
  where
    go : (b : Bool) → AllNoSets (from_label l qs) → AllNoSets (if b then q ∷ qs else from_label l qs)
    go true ih = h
    go false ih = ih

order_no_sets : (jump : ℕ → Plan) → ((l : ℕ) → NoSets (jump l)) → (all qs : List Part) → AllNoSets qs → NoSets (in_order jump all qs)
order_no_sets jump f all [] h = tt
order_no_sets jump f all (q ∷ qs) h = no_sets_then q.does (go_on jump all (in_order jump all qs)) h.0 (λ g. next g (order_no_sets jump f all qs h.1))
  where
    next : (g : Flow) → NoSets (in_order jump all qs) → NoSets (go_on jump all (in_order jump all qs) g)
    next Normal ih = ih
    next (Jump l) ih = go (has_label l all)
      where
        go : (b : Bool) → NoSets (if b then jump l else Ends (Jump l))
        go true = f l
        go false = tt
    next Returned ih = tt
    next Stopped ih = tt

pub jumps_no_sets : (n : ℕ) (all : List Part) → AllNoSets all → (qs : List Part) → AllNoSets qs → NoSets (with_jumps n all qs)
jumps_no_sets zero all h qs g = order_no_sets (λ l. Breaks OutOfTurns) (λ l. tt) all qs g
jumps_no_sets (suc n) all h qs g = order_no_sets (λ l. with_jumps n all (from_label l all)) (λ l. jumps_no_sets n all h (from_label l all) (from_no_sets l all h)) all qs g
