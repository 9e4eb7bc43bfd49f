-- What the code holds, as plain data, and what calls ask of it.
use Rattle.std.specs.Prelude.{ℕ, List, All}
use Rattle.preconditions.specs.call_translation.Sites.{SiteTree, caller_tree}
use Rattle.in_out_regions.specs.region_sets.Sets.{SetFits}
use Rattle.module_phases.specs.RegionViews.{RegionsFit}
use Rattle.module_phases.specs.InViews.{ins_tree}
use Rattle.module_phases.specs.InViews as ins
use Rattle.module_phases.specs.declared.out_phases.ModuleOuts as code
use Rattle.module_phases.specs.declared.out_site.OutSite.{OutSite}
use Rattle.module_phases.specs.declared.out_walk.OutCaller.{OutCaller}
use Rattle.module_phases.specs.OutPhases as phases
use Rattle.in_out_regions.specs.region_sets.Lists.{set_at}
use Rattle.preconditions.specs.call_translation.NamedSites.{sites_for}
use Rattle.preconditions.specs.call_translation.declared.named_sites.NamedSites.{NamedSites}

abbrev pub outs_tree : code.ModuleOuts → phases.ModuleOuts
outs_tree f = record { known = ins_tree f.known; outs = f.outs }

-- their systems are such as calls take
abbrev pub ModuleFits : code.ModuleOuts → Type 0
ModuleFits f = ins.ModuleFits f.known × RegionsFit f.outs

-- ---- CALLs

abbrev pub AllSitesFit : List (SiteTree OutSite) → Type 0
AllSitesFit cs = All (λ (c : SiteTree OutSite). SetFits c.value.out) cs

abbrev pub SitesFit : NamedSites OutSite → Type 0
SitesFit ss = (x : List ℕ) → AllSitesFit (sites_for ss x)

abbrev pub caller_in : OutCaller → phases.Caller
caller_in c = record { scope = caller_tree c.scope.now.value; changed = c.changed.now; outs = set_at c.outs.now }
