-- What the code holds, as plain data, and what calls ask of it.
use Rattle.std.specs.Prelude.{◌≡◌, ℕ, List, map}
use Rattle.affine_systems.specs.declared.row.System.{System}
use Rattle.affine_systems.specs.Given.{Fits}
use Rattle.f77_ast.specs.declared.module.Module.{Module}
use Rattle.f77_ast.specs.PlainDecl.{module_tree, parsed_tree}
use Rattle.f77_ast.specs.declared.symbol.Symbol.{Symbol}
use Rattle.f77_ast.specs.Symbols.{symbol_tree}
use Rattle.f77_ast.specs.declared.results.Results.{Results}
use Rattle.call_graph.specs.declared.view.View.{View}
use Rattle.f77_meaning.specs.Modules.{Known, known_of}
use Rattle.preconditions.specs.transformer_algebra.declared.transformer.Transformer.{Transformer}
use Rattle.preconditions.specs.call_translation.Sites.{caller_tree, AllSitesFit}
use Rattle.preconditions.specs.transformers.Given.{ResultsFit}
use Rattle.preconditions.specs.transformers.Lists.{value_at}
use Rattle.preconditions.specs.Statement.{EachFits}
use Rattle.module_phases.specs.declared.program.Program.{Program}
use Rattle.module_phases.specs.declared.found.Found as code
use Rattle.module_phases.specs.declared.scalar_walk.Caller as walk
use Rattle.module_phases.specs.declared.holds.Analysis as all
use Rattle.module_phases.specs.ScalarPhases as phases
use Rattle.module_phases.specs.ScalarPhases.{module_names}
use Rattle.preconditions.specs.call_translation.NamedSites.{sites_for}
use Rattle.preconditions.specs.call_translation.declared.named_sites.NamedSites.{NamedSites}

-- ---- modules

abbrev pub known : Module → List Symbol → Known
known m ss = record { read = module_tree m; symbols = map symbol_tree ss }

abbrev pub known_in : View → Known
known_in v = known v.«module».now v.symbols.now

abbrev pub modules_in : Program → List Known
modules_in p = known_of (map parsed_tree p.modules.now) (map (map symbol_tree) p.tables.now)

-- its names are those of its modules
abbrev pub IsNamed : Program → Type 0
IsNamed p = p.names ≡ module_names (modules_in p)

-- ---- results

abbrev pub found_tree : code.Found → phases.Found
found_tree f = record { known = known f.«module».now f.symbols.now; own = f.own }

abbrev pub analysis_tree : all.Analysis → phases.Analysis
analysis_tree a = record { found = found_tree a.found; holds = a.holds }

-- their systems are such as calls take
abbrev pub OwnFits : Results Transformer → Type 0
OwnFits r = ResultsFit r.at × Fits r.summary.system

abbrev pub FoundFits : code.Found → Type 0
FoundFits f = OwnFits f.own

abbrev pub AnalysisFits : all.Analysis → Type 0
AnalysisFits a = FoundFits a.found × EachFits a.holds.at

-- ---- CALLs

abbrev pub SitesFit : NamedSites System → Type 0
SitesFit ss = (x : List ℕ) → AllSitesFit (sites_for ss x)

abbrev pub caller_in : walk.Caller → phases.Caller
caller_in c = record { scope = caller_tree c.scope.now.value; holds = value_at c.holds.now }
