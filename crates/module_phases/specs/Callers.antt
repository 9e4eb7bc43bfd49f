-- What a module sees of the modules that call it: their CALLs of it, with what is known at each.
use Rattle.std.specs.Prelude.{ℕ, List, [], ◌∷◌, ◌++◌}
use Rattle.affine_systems.specs.declared.row.System.{System}
use Rattle.f77_ast.specs.declared.variable.Unit.{Unit as BlockUnit}
use Rattle.f77_ast.specs.declared.results.At.{At}
use Rattle.f77_ast.specs.declared.results.Results.{Results}
use Rattle.f77_meaning.specs.Modules.{Known}
use Rattle.preconditions.specs.transformer_algebra.declared.transformer.Transformer.{Transformer}
use Rattle.preconditions.specs.call_translation.Sites.{HoldingSite, SiteTree}
use Rattle.preconditions.specs.transformers.Lists.{value_at}
use Rattle.preconditions.specs.Statement.{EachFits}
use Rattle.in_out_regions.specs.region_sets.declared.region.Region.{Region}
use Rattle.in_out_regions.specs.region_sets.Lists.{SetsFit, set_at}
use Rattle.in_out_regions.specs.call_equations.Sides.{changed_cells}
use Rattle.module_phases.specs.ScalarPhases.{scope_of}
use Rattle.module_phases.specs.ScalarPhases as scalars
use Rattle.module_phases.specs.ScalarViews.{known}
use Rattle.module_phases.specs.declared.out_site.OutSite.{OutSite}
use Rattle.module_phases.specs.OutPhases as outs
use Rattle.module_phases.specs.declared.callers.CallerHolds as holds_code
use Rattle.module_phases.specs.declared.callers.CallerOuts as outs_code

-- a calling module, with what holds where its statements begin
pub record CallerHolds : Type 0 where
  pub known : Known
  pub holds : List (At System)

abbrev pub holds_tree : holds_code.CallerHolds → CallerHolds
holds_tree c = record { known = known c.«module».now c.symbols.now; holds = c.holds.now }

abbrev pub holds_caller : List BlockUnit → CallerHolds → scalars.Caller
holds_caller untracked c = record { scope = scope_of untracked c.known; holds = value_at c.holds }

-- the CALLs of the module of a name, in the order of the callers and in that of their texts
abbrev pub sites_of : List BlockUnit → List CallerHolds → List ℕ → List HoldingSite
sites_of untracked [] x = []
sites_of untracked (c ∷ cs) x = scalars.list_sites c.known.read.body (holds_caller untracked c) x ++ sites_of untracked cs x

abbrev pub AllHold : List holds_code.CallerHolds → Type 0
AllHold [] = Unit {0}
AllHold (c ∷ cs) = EachFits c.holds.now × AllHold cs

-- a calling module, with the transformers and the OUT regions of its statements
pub record CallerOuts : Type 0 where
  pub known : Known
  pub own : Results Transformer
  pub outs : List (At (List Region))

abbrev pub outs_tree : outs_code.CallerOuts → CallerOuts
outs_tree c = record { known = known c.«module».now c.symbols.now; own = c.own.now; outs = c.outs.now }

abbrev pub outs_caller : List BlockUnit → CallerOuts → outs.Caller
outs_caller untracked c = record { scope = scope_of untracked c.known; changed = changed_cells c.own.at; outs = set_at c.outs }

abbrev pub out_sites_of : List BlockUnit → List CallerOuts → List ℕ → List (SiteTree OutSite)
out_sites_of untracked [] x = []
out_sites_of untracked (c ∷ cs) x = outs.list_sites c.known.read.body (outs_caller untracked c) x ++ out_sites_of untracked cs x

abbrev pub AllOuts : List outs_code.CallerOuts → Type 0
AllOuts [] = Unit {0}
AllOuts (c ∷ cs) = SetsFit c.outs.now × AllOuts cs
