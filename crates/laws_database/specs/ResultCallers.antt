-- What results need of the modules that call a module: their CALLs of it, with what is known there.
use Rattle.std.specs.Prelude.{ℕ, Bool, List, map, reverse, Option, option_map, bytes_eq}
use Rattle.std.specs.List.{list_any, filter}
use Rattle.affine_systems.specs.declared.row.System.{System}
use Rattle.f77_ast.specs.declared.variable.Unit.{Unit as BlockUnit}
use Rattle.f77_ast.specs.declared.results.Results.{Results}
use Rattle.f77_meaning.specs.Modules.{Known}
use Rattle.f77_meaning.specs.Linked.{callees}
use Rattle.call_graph.specs.declared.graph.Graph.{Graph}
use Rattle.preconditions.specs.call_translation.Sites.{SiteTree, HoldingSite}
use Rattle.preconditions.specs.transformer_algebra.declared.transformer.Transformer.{Transformer}
use Rattle.in_out_regions.specs.region_sets.declared.region.Region.{Region}
use Rattle.loop_marker.specs.module_phases.ScalarPhases.{sites_of}
use Rattle.loop_marker.specs.module_phases.declared.out_site.OutSite.{OutSite}
use Rattle.loop_marker.specs.module_phases.OutPhases.{sites_of as out_sites_of}
use Rattle.loop_marker.specs.Results.{ModuleResults}
use Rattle.loop_marker.specs.Phases.{phases_of, analysis_in}
use Rattle.call_graph.specs.CallsIn.{CallAt, list_calls}
use Rattle.session_texts.specs.pipsmake_meaning.ResultEntries.{results_for}

-- a CALL of a module names this one
abbrev pub calls : List ℕ → Known → Bool
calls x k = list_any (λ (c : CallAt). bytes_eq c.callee x) (list_calls k.read.body)

-- the modules that call the one of a name, each before those that it calls
abbrev pub callers : List ModuleResults → List ℕ → List ModuleResults
callers fs x = filter (λ f. calls x f.known) (reverse fs)

-- by the edges of a graph: a module calls the one of a name, and the modules that do, in that order
abbrev pub calls_by : Graph → List ℕ → List ℕ → Bool
calls_by g x y = list_any (λ z. bytes_eq z x) (callees g.edges y)

abbrev pub caller_names : Graph → List ℕ → List (List ℕ)
caller_names g x = filter (calls_by g x) (reverse g.order)

-- the CALLs of a name in these modules, with what holds before them, and with what may be read after them
abbrev pub holding_sites : List BlockUnit → List ModuleResults → List ℕ → List HoldingSite
holding_sites untracked fs x = sites_of untracked (map (λ f. analysis_in (phases_of f)) fs) x

abbrev pub later_sites : List BlockUnit → List ModuleResults → List ℕ → List (SiteTree OutSite)
later_sites untracked fs x = out_sites_of untracked (map phases_of fs) x

-- of a caller
pub record HoldingCaller : Type 0 where
  pub known : Known
  pub holds : Results System

pub record LaterCaller : Type 0 where
  pub known : Known
  pub own : Results Transformer
  pub outs : Results (List Region)

abbrev pub holding_caller : ModuleResults → HoldingCaller
holding_caller f = record { known = f.known; holds = f.preconditions }

abbrev pub later_caller : ModuleResults → LaterCaller
later_caller f = record { known = f.known; own = f.transformers; outs = f.outs }

-- of the module of a name
abbrev pub holding_at : List ModuleResults → List ℕ → Option HoldingCaller
holding_at fs y = option_map holding_caller (results_for fs y)

abbrev pub later_at : List ModuleResults → List ℕ → Option LaterCaller
later_at fs y = option_map later_caller (results_for fs y)
