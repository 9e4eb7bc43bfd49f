use Rattle.std.proofs.Common.{◌≡◌, ◌∙◌}
use Rattle.call_translation.proofs.NamedSiteLaws.{put}
use Rattle.call_translation.proofs.named_sites.NamedSites.put.Goals as goal

pub returns-in-Ok : goal.returns-in-Ok
returns-in-Ok g c = put c.args.self.now.by_name c.insert.new.self c.in_ok-key.key c.args.name.now c.args.calls c.in-Ok.ensures.updates (c.in_ok-key.ensures.items ∙ c.as_slice.ensures)
