use Rattle.std.proofs.Common.{◌≡◌, ℕ, List, ◌++◌, ◌∷◌, []}
use Rattle.std.specs.Prelude.{if◌then◌else◌, bytes_eq}
use Rattle.f77_ast.specs.PlainStmt.{what_tree}
use Rattle.call_translation.specs.Sites.{caller_tree, actuals_in, sites_in}
use Rattle.call_translation.specs.NamedSites.{sites_for}
use Rattle.call_translation.proofs.NamedSiteLaws.{added}
use Rattle.call_translation.proofs.named_sites.NamedSites.add.Goals as goal

pub returns : goal.returns
returns g c =
    added (sites_for c.args.self.now) (sites_for c.take-calls.new.self) (sites_for c.put.new.self) c.args.name.now (sites_in c.take-calls.result) (sites_in c.add_site.new.calls)
    (record { caller = caller_tree c.args.caller.now.value; actuals = actuals_in (what_tree c.args.call.now.what); value = c.args.value })
    c.take-calls.ensures.calls c.take-calls.ensures.others c.in_ok-add_site.ensures c.in_ok-put.ensures
