-- What callers see of IN regions, on units.
use Rattle.std.proofs.Common.{◌≡◌, ℕ, ℤ, Bool, true, false, List, ◌++◌, Some}
use Rattle.f77_ast.specs.declared.variable.Variable.{Variable}
use Rattle.preconditions.specs.transformer_algebra.Claims.{Scene}
use Rattle.preconditions.specs.call_translation.Scopes.{ScopeTree}
use Rattle.in_out_regions.specs.region_sets.declared.region.Access.{Access}
use Rattle.in_out_regions.specs.region_sets.declared.region.Access.TheVariants.{In as AtIn}
use Rattle.in_out_regions.specs.region_sets.declared.region.Region.{Region}
use Rattle.in_out_regions.specs.region_sets.Sets.{unite_all}
use Rattle.in_out_regions.specs.region_sets.Claims.{Places, AreByOrder, LiesInSet, IsSharp, IsSharpSet}
use Rattle.in_out_regions.proofs.RegionSets.SetLaws.{gathered_units, gathered_sharp}
use Rattle.in_out_regions.specs.array_regions.Entry.{symbols_reads, locals, for_callers, seen}
use Rattle.in_out_regions.specs.Kinds.{all_in}
use Rattle.in_out_regions.specs.Modules.{summary_of}
use Rattle.laws_analyses.proofs.Regions.Callers.{in_seen, of_seen, callers_lie, callers_sharp}
use Rattle.call_graph.specs.Visible.{is_visible_to_callers}

module _ (m : Scene) (at : Places) (by : AreByOrder at) (x : ℕ → ℤ) where
  -- a unit of a variable that callers see
  pub summary_lies : (s : ScopeTree) (rs : List Region) (u : ℕ) → ((v : Variable) (phi : ℕ → ℤ) → at v phi ≡ Some u → is_visible_to_callers s.symbols v ≡ true) → LiesInSet m at AtIn (all_in (symbols_reads s.symbols s) ++ rs) x u → LiesInSet m at AtIn (summary_of s rs) x u
  summary_lies s rs u out l =
      let all = unite_all (all_in (symbols_reads s.symbols s) ++ rs) in
      let g = gathered_units (all_in (symbols_reads s.symbols s) ++ rs) m at by AtIn x u l in
      gathered_units (seen s.symbols (locals s.symbols) all) m at by AtIn x u
      (record {
        region = for_callers (locals s.symbols) g.region;
        is_one = in_seen s.symbols (locals s.symbols) all g.region g.is_one (out g.region.variable g.lies.phi g.lies.there);
        kind = g.kind;
        lies = callers_lie m at by x (locals s.symbols) g.region u g.lies;
      })

  pub summary_sharp : (s : ScopeTree) (rs : List Region) (c : ℕ → Bool) → IsSharpSet m at (all_in (symbols_reads s.symbols s) ++ rs) x (λ a. c) → IsSharpSet m at (summary_of s rs) x (λ a. c)
  summary_sharp s rs c h =
      let all = unite_all (all_in (symbols_reads s.symbols s) ++ rs) in
      let g = gathered_sharp (all_in (symbols_reads s.symbols s) ++ rs) m at by x (λ a. c) h in
      gathered_sharp (seen s.symbols (locals s.symbols) all) m at by x (λ a. c)
      (of_seen (λ (r : Region). IsSharp m (at r.variable) r x c) s.symbols (locals s.symbols) all (λ r i. callers_sharp m at by x (locals s.symbols) r c (g r i)))
