-- The turns of a DO: a rule for its plan.
use Rattle.std.proofs.Common.{◌≡◌, ℕ, zero, suc, List, [], ◌∷◌, ◌++◌, Option, Some, None, refl, sym, subst, ℤ, ◌+ℤ◌}
use Rattle.f77_ast.specs.Store.{content, Int, Store, put}
use Rattle.f77_ast.specs.Faults.{Arithmetic}
use Rattle.f77_ast.specs.Steps.{Faulty}
use Rattle.f77_ast.specs.Numbers.{kept}
use Rattle.f77_ast.specs.Runs.{Event, Wrote, Answer, Gave, Broke}
use Rattle.f77_ast.specs.Values.{given}
use Rattle.f77_ast.specs.Plans.{Flow, Normal, Jump, Returned, Stopped, Plan, Ends, Set as SetPlan, first, on_normal}
use Rattle.f77_ast.specs.Executions.{Claim}
use Rattle.f77_ast.specs.Loops.{iterations_from}
use Rattle.laws_analyses.proofs.Regions.Traces.{trace_assoc, trace_nil}
use Rattle.laws_analyses.proofs.Regions.Rules.{Post, Goes, goes_ends, goes_breaks, goes_set, goes_more, goes_then}

-- I j m es z: at the beginning of the turn that has j turns to go, with the number m of the index, after what was done so far
module _ (D : Claim) (step : ℤ) (u : ℕ) (body : Plan) (I : ℕ → ℤ → List Event → Store → Type 0) (Q : Post Flow) where
  abbrev pub Turn_ends : ℕ → ℤ → Answer Flow → Store → List Event → Type 0
  Turn_ends j m (Gave Normal) y es = Q (Broke (Faulty Arithmetic)) y es × ((n : ℤ) → kept (m +ℤ step) ≡ Some n → I j n (es ++ Wrote u (content Int n) ∷ []) (put y u (content Int n)))
  Turn_ends j m (Gave (Jump l)) y es = Q (Gave (Jump l)) y es
  Turn_ends j m (Gave Returned) y es = Q (Gave Returned) y es
  Turn_ends j m (Gave Stopped) y es = Q (Gave Stopped) y es
  Turn_ends j m (Broke b) y es = Q (Broke b) y es

  pub turns_go : ((j : ℕ) (m : ℤ) (z : Store) (es : List Event) → I (suc j) m es z → Goes D body z (λ a y fs. Turn_ends j m a y (es ++ fs))) → ((m : ℤ) (z : Store) (es : List Event) → I 0 m es z → Q (Gave Normal) z es) → (j : ℕ) (m : ℤ) (z : Store) (es : List Event) → I j m es z → Goes D (iterations_from j m step u body) z (λ a y fs. Q a y (es ++ fs))
  turns_go turn last zero m z es i = goes_ends D Normal z (λ a y fs. Q a y (es ++ fs)) (subst (λ ts. Q (Gave Normal) z ts) (sym (trace_nil es)) (last m z es i))
  turns_go turn last (suc j) m z es i =
      goes_then D body on z (λ a y fs. Turn_ends j m a y (es ++ fs)) (λ a y fs. Q a y (es ++ fs)) (turn j m z es i)
      (λ g y fs t. goes_more D (on g) y (λ a x gs. Q a x ((es ++ fs) ++ gs)) (λ a x gs. Q a x (es ++ (fs ++ gs))) (λ a x gs h. subst (λ ts. Q a x ts) (trace_assoc es fs gs) h) (next g y (es ++ fs) t (λ n v us h. turns_go turn last j n v us h)))
      (λ b y fs t. t)
    where
      on : Flow → Plan
      on f = on_normal f (first (given Int (kept (m +ℤ step))) (λ c. SetPlan u c (iterations_from j c.number step u body)))

      flows : (g : Flow) (y : Store) (ts : List Event) → Q (Gave g) y ts → Goes D (Ends g) y (λ a x gs. Q a x (ts ++ gs))
      flows g y ts h = goes_ends D g y (λ a x gs. Q a x (ts ++ gs)) (subst (λ us. Q (Gave g) y us) (sym (trace_nil ts)) h)

      next : (g : Flow) (y : Store) (ts : List Event) → Turn_ends j m (Gave g) y ts → ((n : ℤ) (z : Store) (us : List Event) → I j n us z → Goes D (iterations_from j n step u body) z (λ a x gs. Q a x (us ++ gs))) → Goes D (on_normal g (first (given Int (kept (m +ℤ step))) (λ c. SetPlan u c (iterations_from j c.number step u body)))) y (λ a x gs. Q a x (ts ++ gs))
      next (Jump l) y ts t ih = flows (Jump l) y ts t
      next Returned y ts t ih = flows Returned y ts t
      next Stopped y ts t ih = flows Stopped y ts t
      next Normal y ts t ih = go (kept (m +ℤ step)) refl
        where
          go : (o : Option ℤ) → kept (m +ℤ step) ≡ o → Goes D (first (given Int o) (λ c. SetPlan u c (iterations_from j c.number step u body))) y (λ a x gs. Q a x (ts ++ gs))
          go None e = goes_breaks D (Faulty Arithmetic) y (λ a x gs. Q a x (ts ++ gs)) (subst (λ us. Q (Broke (Faulty Arithmetic)) y us) (sym (trace_nil ts)) t.0)
          go (Some n) e =
              goes_set D u (content Int n) (iterations_from j n step u body) y (λ a x gs. Q a x (ts ++ gs))
              (goes_more D (iterations_from j n step u body) (put y u (content Int n)) (λ a x gs. Q a x ((ts ++ Wrote u (content Int n) ∷ []) ++ gs)) (λ a x gs. Q a x (ts ++ Wrote u (content Int n) ∷ gs)) (λ a x gs h. subst (λ us. Q a x us) (trace_assoc ts (Wrote u (content Int n) ∷ []) gs) h)
              (ih n (put y u (content Int n)) (ts ++ Wrote u (content Int n) ∷ []) (t.1 n e)))
