-- What CALLs hand down, one after another.
use Rattle.std.proofs.Common.{◌≡◌, ℕ, suc, ◌<◌, Bool, List, [], ◌∷◌, ◌++◌, map, refl, sym, ap, subst, ◌∙◌, arith, append_assoc, append-nil}
use Rattle.f77_ast.specs.declared.symbol.Symbol.{Symbol}
use Rattle.f77_ast.specs.declared.variable.Unit.{Unit as BlockUnit}
use Rattle.f77_ast.specs.Symbols.{symbol_tree, value_in}
use Rattle.f77_ast.specs.Index.{names_of}
use Rattle.affine_forms.specs.Scalars.{cell_in}
use Rattle.preconditions.specs.call_translation.Scopes.{ScopeTree, scope_tree}
use Rattle.preconditions.specs.call_translation.declared.sites.Site.{Site}
use Rattle.preconditions.specs.call_translation.Sites.{SiteTree, site_tree}
use Rattle.in_out_regions.specs.region_sets.declared.region.Region.{Region}
use Rattle.in_out_regions.specs.region_sets.Sets.{SetFits}
use Rattle.in_out_regions.specs.call_equations.Sides.{entry_cells}
use Rattle.in_out_regions.specs.array_regions.Calls.{scope_with}
use Rattle.module_phases.specs.declared.out_site.OutSite.{OutSite}
use Rattle.module_phases.specs.OutPhases.{handed_by, handed_down}
use Rattle.module_phases.specs.OutViews.{AllSitesFit}
use Rattle.in_out_regions.proofs.ArrayRegions.CallLaws.{names-same, scope-same}

pub ruleset site_steps = (append_assoc, append-nil)

-- one CALL more
pub handed-step : (size : List ℕ → ℕ) (m : ScopeTree) (x : List ℕ) (all new : List Region) (rest more : List (Site OutSite)) (s : Site OutSite) → rest ≡ s ∷ more → new ≡ all ++ handed_by size m x (site_tree s) →
    new ++ handed_down size m x (map site_tree more) ≡ all ++ handed_down size m x (map site_tree rest)
handed-step size m x all new rest more s e h =
    ap (λ rs. rs ++ handed_down size m x (map site_tree more)) h
    ∙ (append_assoc all (handed_by size m x (site_tree s)) (handed_down size m x (map site_tree more)) ∙ sym (ap (λ (ls : List (Site OutSite)). all ++ handed_down size m x (map site_tree ls)) e))

-- systems that calls take, of the first and of the others
pub first-fits : (rest more : List (Site OutSite)) (s : Site OutSite) → rest ≡ s ∷ more → AllSitesFit (map site_tree rest) → SetFits s.value.out
first-fits rest more s e h = (subst (λ (ls : List (Site OutSite)). AllSitesFit (map site_tree ls)) e h) 0 (site_tree s) (omega arith)

pub others-fit : (rest more : List (Site OutSite)) (s : Site OutSite) → rest ≡ s ∷ more → AllSitesFit (map site_tree rest) → AllSitesFit (map site_tree more)
others-fit rest more s e h = λ k d l. (subst (λ (ls : List (Site OutSite)). AllSitesFit (map site_tree ls)) e h) (suc k) d (omega (arith, l))

-- to a callee whose cells are these
pub handed-same : (size : List ℕ → ℕ) (untracked : List BlockUnit) (ss : List Symbol) (flags : List Bool) (x : List ℕ) (cs ds : List (SiteTree OutSite)) (rs : List Region) → flags ≡ entry_cells untracked (map symbol_tree ss) → cs ≡ ds →
    rs ≡ handed_down size (scope_tree ss flags) x cs → rs ≡ handed_down size (scope_with (map symbol_tree ss) (entry_cells untracked (map symbol_tree ss))) x ds
handed-same size untracked ss flags x cs ds rs e f h =
    h ∙ (ap (handed_down size (scope_tree ss flags) x) f
    ∙ (ap (λ (m : ScopeTree). handed_down size m x ds) (scope-same ss flags)
    ∙ ap (λ (fs : List Bool). handed_down size (scope_with (map symbol_tree ss) fs) x ds) e))
