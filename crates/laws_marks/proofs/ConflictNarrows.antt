-- The regions of a body are of variables that may be named, on the subscripts that these have.
use Rattle.std.proofs.Common.{◌≡◌, ℕ, ◌||◌, Bool, true, false, List, [], ◌∷◌, refl, sym, subst}
use Rattle.affine_systems.specs.declared.row.Var.{Var}
use Rattle.affine_systems.specs.declared.row.Var.TheVariants.{Phi}
use Rattle.affine_systems.specs.declared.row.Term.{Term}
use Rattle.affine_systems.specs.declared.row.Row.{Row}
use Rattle.affine_systems.specs.declared.row.System.{System}
use Rattle.affine_systems.specs.Terms.{var_eq}
use Rattle.affine_systems.specs.Rows.{AllRows}
use Rattle.affine_systems.proofs.TermLaws.{var_eq-true}
use Rattle.f77_ast.specs.Trees.{StmtTrees}
use Rattle.preconditions.specs.transformer_algebra.Laws.{In}
use Rattle.in_out_regions.specs.region_sets.declared.region.Region.{Region}
use Rattle.in_out_regions.specs.region_sets.Naming.{in_terms, in_rows}
use Rattle.in_out_regions.specs.region_sets.Lists.{accesses_at, list_regions}
use Rattle.in_out_regions.specs.array_regions.Statement.{at_list}
use Rattle.call_graph.specs.CallsIn.{list_calls}
use Rattle.laws_lines.specs.Variables.{EachVar}
use Rattle.laws_lines.proofs.SystemVars.{neat_over}
use Rattle.laws_lines.proofs.RuleVars.{IsDone}
use Rattle.laws_lines.proofs.PhaseVars.{value_is}
use Rattle.laws_marks.specs.InFrames.{Frame, rank}
use Rattle.laws_marks.specs.InUnits.{IsNarrow}
use Rattle.laws_marks.proofs.InNarrow.{Upto, IsUpto}
use Rattle.laws_marks.proofs.InNarrowed.{list_narrowed}
use Rattle.laws_marks.proofs.InSets.{IsFit, CallsFit, at_fits, may_of, narrow_of}
use Rattle.fx_lists.proofs.Every.{Anything}

named_such : (such : Var → Type 0) (v : Var) (ts : List Term) → EachVar such ts → in_terms v ts ≡ true → such v
named_such such v [] h e = cc
named_such such v (t ∷ ts) h e = go (var_eq v t.var) refl e (λ k. named_such such v ts h.1 k)
  where
    go : (b : Bool) → var_eq v t.var ≡ b → (b || in_terms v ts) ≡ true → (in_terms v ts ≡ true → such v) → such v
    go true q k ih = subst such (sym (var_eq-true v t.var q)) h.0
    go false q k ih = ih k

rows_such : (such : Var → Type 0) (v : Var) (rs : List Row) → AllRows (λ r. EachVar such r.terms) rs → in_rows v rs ≡ true → such v
rows_such such v [] h e = cc
rows_such such v (r ∷ rs) h e = go (in_terms v r.terms) refl e (λ k. rows_such such v rs h.1 k)
  where
    go : (b : Bool) → in_terms v r.terms ≡ b → (b || in_rows v rs) ≡ true → (in_rows v rs ≡ true → such v) → such v
    go true q k ih = named_such such v r.terms h.0 q
    go false q k ih = ih k

-- READ as well as WRITE
pub record AreNarrow (k : Frame) (rs : List Region) : Type 0 where
  pub named : (r : Region) → In r rs → k.may_name r.variable ≡ true
  pub narrow : (r : Region) → In r rs → (s : System) → In s r.pieces → IsNarrow (rank k.ks k.g k.m.symbols r.variable) s

pub bodies_narrow : (k : Frame) (done : (n : ℕ) → IsDone Anything (k.does n)) (body : StmtTrees) → CallsFit (may_of k) k.m k.does k.calls done (list_calls body) → (ss : StmtTrees) → AreNarrow k (list_regions k.does (accesses_at (at_list body k.m k.does k.calls)) false ss)
bodies_narrow k done body f ss = record {
  named = λ r i. (all r i).0;
  narrow = λ r i s j. narrow_of (rank k.ks k.g k.m.symbols r.variable) s ((all r i).1 s j);
}
  where
    all : (r : Region) → In r (list_regions k.does (accesses_at (at_list body k.m k.does k.calls)) false ss) → (k.may_name r.variable ≡ true) × ((s : System) → In s r.pieces → IsUpto (rank k.ks k.g k.m.symbols r.variable) s)
    all = list_narrowed (may_of k) k.m.symbols k.does done (at_list body k.m k.does k.calls) (λ n rs e. (value_is (IsFit (may_of k) k.m.symbols) (at_list body k.m k.does k.calls) n rs (at_fits (may_of k) k.m k.does k.calls done body f) e).1) false ss
