-- The two modules of a CALL.
use Rattle.std.proofs.Common.{◌≡◌, ℕ, Bool, List, [], ◌∷◌, ◌++◌, map, Option, Some, None, refl, ap, sym, ◌∙◌, subst, append-nil}
use Rattle.f77_ast.specs.Trees.{ExprTrees}
use Rattle.f77_ast.specs.declared.symbol.Symbol.{Symbol}
use Rattle.f77_ast.specs.declared.variable.Unit.{Unit as BlockUnit}
use Rattle.f77_ast.specs.Symbols.{symbol_tree, value_in}
use Rattle.f77_ast.specs.Index.{names_of}
use Rattle.f77_ast.specs.Summaries.{SummaryTree}
use Rattle.affine_forms.specs.Scalars.{cell_in}
use Rattle.transformers.specs.call_translation.Scopes.{ScopeTree, scope_tree}
use Rattle.region_translation.specs.region_sets.declared.region.Region.{Region}
use Rattle.region_translation.specs.region_sets.Sets.{SetFits}
use Rattle.region_translation.specs.call_equations.Sides.{SidesTree, entry_cells}
use Rattle.array_regions.specs.Calls.{Callees, SummaryFits, CalleesFit, scope_with, sides, all_in_caller, summary_in_caller}

pub names-same : (ss : List Symbol) → names_of ss ≡ map (λ s. s.name) (map symbol_tree ss)
names-same [] = refl
names-same (s ∷ ss) = ap (λ xs. s.name ∷ xs) (names-same ss)

-- a scope from the code's symbols
pub scope-same : (ss : List Symbol) (flags : List Bool) → scope_tree ss flags ≡ scope_with (map symbol_tree ss) flags
scope-same ss flags =
    let f : List (List ℕ) → ScopeTree = λ ns. record { symbols = map symbol_tree ss; tracked = flags; names = ns; scalars = record { value = value_in (map symbol_tree ss); cell = cell_in ns flags } } in
    ap f (names-same ss)

-- what a callee accesses is added, whose cells are these
callee-pushed : (m : ScopeTree) (changed : List ℕ) (untracked : List BlockUnit) (x : List ℕ) (es : ExprTrees) (ss : List Symbol) (flags : List Bool) (out new rs : List Region) →
    flags ≡ entry_cells untracked (map symbol_tree ss) →
    new ≡ out ++ all_in_caller (record { caller = m; changed = changed; name = x; actuals = es; callee = scope_tree ss flags }) rs →
    new ≡ out ++ all_in_caller (sides m changed untracked x es (map symbol_tree ss)) rs
callee-pushed m changed untracked x es ss flags out new rs f e =
    let at : ScopeTree → List Region = λ callee. out ++ all_in_caller (record { caller = m; changed = changed; name = x; actuals = es; callee = callee }) rs in
    e ∙ ap at (scope-same ss flags) ∙ ap (λ (fs : List Bool). at (scope_with (map symbol_tree ss) fs)) f

-- by a slice of its summary
pub callee-handed : (m : ScopeTree) (changed : List ℕ) (untracked : List BlockUnit) (x : List ℕ) (es : ExprTrees) (ss : List Symbol) (flags : List Bool) (out new given rs : List Region) →
    given ≡ rs → flags ≡ entry_cells untracked (map symbol_tree ss) →
    new ≡ out ++ all_in_caller (record { caller = m; changed = changed; name = x; actuals = es; callee = scope_tree ss flags }) given →
    new ≡ out ++ all_in_caller (sides m changed untracked x es (map symbol_tree ss)) rs
callee-handed m changed untracked x es ss flags out new given rs same f e =
    subst (λ zs. new ≡ out ++ all_in_caller (sides m changed untracked x es (map symbol_tree ss)) zs) same (callee-pushed m changed untracked x es ss flags out new given f e)

-- ---- by what is known of the callee

module _ (m : ScopeTree) (changed : List ℕ) (untracked : List BlockUnit) (x : List ℕ) (es : ExprTrees) (o : Option (SummaryTree (List Region))) (out : List Region) where
  abbrev all_of : Option (SummaryTree (List Region)) → List Region
  all_of p = out ++ summary_in_caller m changed untracked x es p

  pub no-summary : None ≡ o → out ≡ out ++ summary_in_caller m changed untracked x es o
  no-summary e = sym (append-nil out) ∙ ap all_of e

  pub with-summary : (s : SummaryTree (List Region)) (new : List Region) → Some s ≡ o → new ≡ out ++ all_in_caller (sides m changed untracked x es s.symbols) s.value → new ≡ out ++ summary_in_caller m changed untracked x es o
  with-summary s new e h = h ∙ ap all_of e

-- the summary of a callee may be handed on
pub summary-fits : (cs : Callees) (x : List ℕ) (s : SummaryTree (List Region)) → CalleesFit cs → Some s ≡ cs x → SetFits s.value
summary-fits cs x s h e = subst SummaryFits (sym e) (h x)

pub ruleset summaries = (no-summary, with-summary, summary-fits)
