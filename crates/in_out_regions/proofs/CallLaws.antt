-- IN of a CALL, by the name of the callee.
use Rattle.std.proofs.Common.{◌≡◌, ℕ, List, [], Some, None, ap, ◌∙◌}
use Rattle.f77_ast.specs.Trees.{ExprTrees}
use Rattle.f77_ast.specs.declared.variable.Unit.{Unit as BlockUnit}
use Rattle.f77_ast.specs.Summaries.{SummaryTree}
use Rattle.array_regions.specs.call_translation.Scopes.{ScopeTree}
use Rattle.array_regions.specs.region_sets.declared.region.Region.{Region}
use Rattle.array_regions.specs.Calls.{Callees}
use Rattle.array_regions.proofs.CallLaws.{summary-fits}
use Rattle.in_out_regions.specs.Calls.{summary_in, call_in}

module _ (m : ScopeTree) (changed : List ℕ) (untracked : List BlockUnit) (cs : Callees) (x : List ℕ) (es : ExprTrees) where
  pub no-summary : None ≡ cs x → [] ≡ call_in m changed untracked cs x es
  no-summary e = ap (summary_in m changed untracked x es) e

  pub with-summary : (s : SummaryTree (List Region)) (rs : List Region) → Some s ≡ cs x → rs ≡ summary_in m changed untracked x es (Some s) → rs ≡ call_in m changed untracked cs x es
  with-summary s rs e h = h ∙ ap (summary_in m changed untracked x es) e

pub ruleset summaries = (no-summary, with-summary, summary-fits)
