-- A claim that follows from another holds wherever that one holds.
use Rattle.std.proofs.Common.{List}
use Rattle.f77_ast.specs.Store.{Content, Store, put, undefined}
use Rattle.f77_ast.specs.Runs.{first_of, rest_of}
use Rattle.f77_ast.specs.Plans.{Flow, Plan, Ends, Breaks, Look, Set, Hold, Forget, Show, Take, Within}
use Rattle.f77_ast.specs.Executions.{run_of}
use Rattle.f77_meaning.specs.Occurrences.{Occurrence, Onward, Throughout, places_in, events_from, events_after}
use Rattle.laws_analyses.proofs.Statements.Ends.{more}

module _ (C D : Occurrence → Type 0) (follows : (x : Occurrence) → C x → D x) where
  pub throughout_more : (t : Plan) (s : Store) (i : List Content) (onward : Onward) → Throughout C t s i onward → Throughout D t s i onward
  throughout_more (Ends f) s i onward h = tt
  throughout_more (Breaks b) s i onward h = tt
  throughout_more (Look u k) s i onward h = throughout_more (k (s u)) s i onward h
  throughout_more (Set u c t) s i onward h = throughout_more t (put s u c) i onward h
  throughout_more (Hold u c t) s i onward h = throughout_more t (put s u c) i onward h
  throughout_more (Forget u t) s i onward h = throughout_more t (put s u (undefined (s u))) i onward h
  throughout_more (Show xs t) s i onward h = throughout_more t s i onward h
  throughout_more (Take k) s i onward h = throughout_more (k (first_of i)) s (rest_of i) onward h
  throughout_more (Within p at t k) s i onward h =
      let q = run_of t s i in
      let next : Onward = λ f z j. events_from (k f) onward z j in (
        follows (record { spot = p; places = places_in p.statement t s i at; start = s; ran = q; later = events_after q next }) h.0,
        throughout_more t s i next h.1,
        more q (λ f z j. Throughout C (k f) z j onward) (λ f z j. Throughout D (k f) z j onward) (λ f z j r. throughout_more (k f) z j onward r) h.2,
      )
