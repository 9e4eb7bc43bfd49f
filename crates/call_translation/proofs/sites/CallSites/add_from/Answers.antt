use Rattle.std.proofs.Common.{ap}
use Rattle.call_translation.specs.declared.sites.Site.{Site}
use Rattle.call_translation.specs.Sites.{caller_tree}
use Rattle.call_translation.proofs.SiteLaws.{site_added}
use Rattle.call_translation.proofs.sites.CallSites.add_from.Goals as goal

pub returns-clause-ok : goal.returns-clause-ok
returns-clause-ok g c =
    let site : Site g.row.T.Denot = record { caller = c.in_ok-caller.caller; actuals = c.in_ok-actuals.actuals; value = c.args.value } in
    site_added c.args.self.now.list c.push.new.self site _ _ c.in_ok-push.ensures.ok (ap caller_tree c.in_ok-caller.ensures.cases) c.in_ok-actuals.ensures
