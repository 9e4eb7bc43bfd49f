use Rattle.std.proofs.Common.{◌≡◌, ℕ, List, ◌++◌, ◌∷◌, [], sym, subst}
use Rattle.std.specs.Prelude.{if◌then◌else◌, bytes_eq}
use Rattle.std.proofs.lemmas.Result.{IfOk-weaker}
use Rattle.affine_systems.specs.Given.{Fits}
use Rattle.f77_ast.specs.PlainStmt.{what_tree}
use Rattle.preconditions.specs.call_translation.Sites.{HoldingSite, caller_tree, actuals_in}
use Rattle.preconditions.specs.call_translation.NamedSites.{sites_for}
use Rattle.preconditions.proofs.CallTranslation.NamedSiteLaws.{all_added}
use Rattle.module_phases.specs.ScalarViews.{SitesFit}
use Rattle.module_phases.proofs.scalar_walk.add_known.Goals as goal

pub returns-clause-fits : goal.returns-clause-fits
returns-clause-fits c =
    let s : HoldingSite = record { caller = caller_tree c.args.caller.now.scope.now.value; actuals = actuals_in (what_tree c.args.call.now.what); value = c.in_ok-value.value } in
    IfOk-weaker c.add.result (λ u. (x : List ℕ) → sites_for c.add.new.self x ≡ sites_for c.args.sites.now x ++ (if bytes_eq c.args.callee.now x then s ∷ [] else [])) (λ u. SitesFit c.add.new.self)
    (λ u n. all_added (λ (t : HoldingSite). Fits t.value) (sites_for c.args.sites.now) (sites_for c.add.new.self) c.args.callee.now s n c.requires.sites (subst Fits (sym c.in_ok-value.ensures) c.requires.holds))
    c.add.ensures
