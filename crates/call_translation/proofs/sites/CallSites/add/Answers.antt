use Rattle.std.proofs.Common.{◌≡◌, ◌++◌, ◌∷◌, [], subst}
use Rattle.std.specs.Prelude.{OnOk}
use Rattle.f77_ast.specs.PlainStmt.{what_tree}
use Rattle.call_translation.specs.Scopes.{ScopeTree}
use Rattle.call_translation.specs.Sites.{actuals_in, sites_in}
use Rattle.call_translation.proofs.sites.CallSites.add.Goals as goal

pub returns-clause-ok : goal.returns-clause-ok
returns-clause-ok g c =
    subst (λ (m : ScopeTree). OnOk c.add_from.result (sites_in c.add_from.new.self ≡ sites_in c.args.self.now ++ record { caller = m; actuals = actuals_in (what_tree c.args.call.now.what); value = c.args.value } ∷ [])) c.in_ok-scope.ensures c.add_from.ensures.ok
