use Rattle.std.proofs.Common.{◌≡◌, ℕ, List, ◌++◌, [], Option, subst}
use Rattle.std.specs.Prelude.{IfOk, if◌then◌else◌, bytes_eq}
use Rattle.affine_systems.specs.declared.row.System.{System}
use Rattle.f77_ast.specs.PlainStmt.{what_tree}
use Rattle.preconditions.specs.call_translation.Sites.{actuals_in}
use Rattle.module_phases.specs.ScalarPhases.{site}
use Rattle.module_phases.specs.ScalarViews.{caller_in}
use Rattle.module_phases.proofs.SiteLaws.{value-fits}
use Rattle.module_phases.proofs.scalar_walk.add_call.Goals as goal
use Rattle.preconditions.specs.call_translation.NamedSites.{sites_for}

pub add_known-requires-clause-holds : goal.add_known-requires-clause-holds
add_known-requires-clause-holds c = value-fits c.args.caller.now.holds.now c.args.call.now.id c.in-Some.holds.now c.in-Some.ensures c.requires.holds

pub returns-in-Some-clause-added : goal.returns-in-Some-clause-added
returns-in-Some-clause-added c =
    subst (λ (o : Option System). IfOk c.add_known.result (λ _. (x : List ℕ) → sites_for c.add_known.new.sites x ≡ sites_for c.args.sites.now x ++ (if bytes_eq c.args.callee.now x then site (caller_in c.args.caller.now).scope (actuals_in (what_tree c.args.call.now.what)) o else []))) c.in-Some.ensures c.add_known.ensures.added
