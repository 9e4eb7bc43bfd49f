-- WRITE regions of what is behind a statement name the subscripts of their variables alone.
use Rattle.std.proofs.Common.{◌≡◌, ℕ, Bool, List, [], ◌∷◌, ◌++◌, Option, Some, None, refl}
use Rattle.affine_systems.specs.declared.row.System.{System}
use Rattle.f77_ast.specs.Trees.{StmtTrees}
use Rattle.f77_ast.specs.declared.results.At.{At}
use Rattle.preconditions.specs.transformer_algebra.Laws.{In}
use Rattle.preconditions.specs.transformers.Lists.{value_at}
use Rattle.in_out_regions.specs.region_sets.declared.region.Region.{Region}
use Rattle.in_out_regions.specs.region_sets.Lists.{or_none, all_composed, in_order, accesses_at, list_regions, set_at}
use Rattle.in_out_regions.specs.array_regions.Statement.{at_list}
use Rattle.loop_marker.specs.out_regions.Lists.{writes}
use Rattle.laws_lines.proofs.RuleVars.{IsDone}
use Rattle.laws_lines.proofs.PhaseVars.{value_is}
use Rattle.laws_lines.proofs.StatementVars.{AllAt}
use Rattle.call_graph.specs.CallsIn.{list_calls}
use Rattle.laws_marks.specs.InFrames.{Frame, rank}
use Rattle.laws_marks.specs.InUnits.{IsNarrow, SetFits}
use Rattle.laws_marks.proofs.InNarrowed.{AreNarrowed, IsNarrowed, none_narrowed, both_narrowed, composed_narrowed, united_narrowed, list_narrowed}
use Rattle.laws_marks.proofs.InSets.{may_of, IsFit, narrow_of, list_ordered, set_fits, at_fits, CallsFit}
use Rattle.laws_marks.proofs.OutUsed.{of_writes}
use Rattle.fx_lists.proofs.Every.{Anything}

module _ (k : Frame) (done : (n : ℕ) → IsDone Anything (k.does n)) (body : StmtTrees) (calls : CallsFit (may_of k) k.m k.does k.calls done (list_calls body)) where
  abbrev acc : List (At (List Region))
  acc = at_list body k.m k.does k.calls

  abbrev Neat : List Region → Type 0
  Neat rs = AreNarrowed (may_of k) k.m.symbols rs

  fits : AllAt (IsFit (may_of k) k.m.symbols) (at_list body k.m k.does k.calls)
  fits = at_fits (may_of k) k.m k.does k.calls done body calls

  set_neat : (n : ℕ) → AreNarrowed (may_of k) k.m.symbols (set_at (at_list body k.m k.does k.calls) n)
  set_neat n = go (value_at (at_list body k.m k.does k.calls) n) refl
    where
      go : (o : Option (List Region)) → value_at (at_list body k.m k.does k.calls) n ≡ o → AreNarrowed (may_of k) k.m.symbols (or_none o)
      go None e = none_narrowed (may_of k) k.m.symbols
      go (Some rs) e = (value_is (IsFit (may_of k) k.m.symbols) (at_list body k.m k.does k.calls) n rs fits e).1

  writes_neat : (rs : List Region) → AreNarrowed (may_of k) k.m.symbols rs → AreNarrowed (may_of k) k.m.symbols (writes rs)
  writes_neat rs h w i = of_writes (IsNarrowed (may_of k) k.m.symbols) rs (λ r j e. h r j) w i

  rest_neat : (ns : List ℕ) → AreNarrowed (may_of k) k.m.symbols (in_order k.does (λ n. writes (set_at (at_list body k.m k.does k.calls) n)) ns)
  rest_neat [] = none_narrowed (may_of k) k.m.symbols
  rest_neat (n ∷ ns) =
      let rest = in_order k.does (λ n. writes (set_at (at_list body k.m k.does k.calls) n)) ns in
      let here = writes (set_at (at_list body k.m k.does k.calls) n) in
      united_narrowed (may_of k) k.m.symbols (here ++ all_composed (k.does n) rest) (both_narrowed (may_of k) k.m.symbols here (all_composed (k.does n) rest) (writes_neat (set_at (at_list body k.m k.does k.calls) n) (set_neat n)) (composed_narrowed (may_of k) k.m.symbols (k.does n) (done n) rest (rest_neat ns)))

  pub rest_narrow : (ns : List ℕ) (w : Region) → In w (in_order k.does (λ n. writes (set_at (at_list body k.m k.does k.calls) n)) ns) → (p : System) → In p w.pieces → IsNarrow (rank k.ks k.g k.m.symbols w.variable) p
  rest_narrow ns w i p j = narrow_of (rank k.ks k.g k.m.symbols w.variable) p ((rest_neat ns w i).1 p j)

  -- those of a list
  pub list_fits : (whole : Bool) (ss : StmtTrees) → SetFits k (list_regions k.does (accesses_at (at_list body k.m k.does k.calls)) whole ss)
  list_fits whole ss =
      set_fits k done (list_regions k.does (accesses_at (at_list body k.m k.does k.calls)) whole ss)
      (list_ordered k.does (accesses_at (at_list body k.m k.does k.calls)) whole ss, list_narrowed (may_of k) k.m.symbols k.does done (at_list body k.m k.does k.calls) (λ n rs e. (value_is (IsFit (may_of k) k.m.symbols) (at_list body k.m k.does k.calls) n rs fits e).1) whole ss)
