-- The CALLs that name a module.
use Rattle.std.specs.Prelude.{List, All, map}
use Rattle.affine_systems.specs.declared.row.System.{System}
use Rattle.affine_systems.specs.Given.{Fits}
use Rattle.f77_ast.specs.Trees.{ExprTrees, WhatTree}
use Rattle.f77_ast.specs.Trees as tree
use Rattle.f77_ast.specs.Plain.{expr_trees}
use Rattle.call_translation.specs.declared.sites.CallerScope.{CallerScope}
use Rattle.call_translation.specs.declared.sites.Site.{Site}
use Rattle.call_translation.specs.declared.sites.CallSites.{CallSites}
use Rattle.call_translation.specs.Scopes.{ScopeTree, scope_tree}

-- a CALL: its module, its actuals, and what an analysis says of it
pub record SiteTree (T : Type 0) : Type 0 where
  pub caller : ScopeTree
  pub actuals : ExprTrees
  pub value : T

abbrev pub caller_tree : CallerScope → ScopeTree
caller_tree c = scope_tree c.symbols c.tracked

abbrev pub site_tree : {T : Type 0} → Site T → SiteTree T
site_tree s = record { caller = caller_tree s.caller.value; actuals = expr_trees s.actuals; value = s.value }

-- the CALLs that name a module
abbrev pub sites_in : {T : Type 0} → CallSites T → List (SiteTree T)
sites_in cs = map site_tree cs.list

-- in what follows, what holds where the CALL begins
abbrev pub HoldingSite : Type 0
HoldingSite = SiteTree System

-- what holds at each CALL is a system that calls take
abbrev pub AllSitesFit : List HoldingSite → Type 0
AllSitesFit cs = All (λ (c : HoldingSite). Fits c.value) cs

-- the actuals of a CALL; other statements have none
abbrev pub actuals_in : WhatTree → ExprTrees
actuals_in (tree.assign a b) = tree.no_exprs
actuals_in (tree.block_if arms other) = tree.no_exprs
actuals_in (tree.logical_if e s) = tree.no_exprs
actuals_in (tree.do_loop l) = tree.no_exprs
actuals_in (tree.call x es) = es
actuals_in (tree.goto l) = tree.no_exprs
actuals_in tree.continue = tree.no_exprs
actuals_in tree.return = tree.no_exprs
actuals_in (tree.stop text) = tree.no_exprs
actuals_in (tree.print es) = tree.no_exprs
actuals_in (tree.read es) = tree.no_exprs
