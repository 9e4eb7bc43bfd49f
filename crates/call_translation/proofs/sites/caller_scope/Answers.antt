use Rattle.std.proofs.Common.{ap, ◌∙◌}
use Rattle.call_translation.specs.Sites.{caller_tree}
use Rattle.call_translation.proofs.SiteLaws.{scope_same}
use Rattle.call_translation.proofs.sites.caller_scope.Goals as goal

pub returns : goal.returns
returns c = ap caller_tree c.in_ok-new.ensures.ok ∙ scope_same _ _ _ _ c.in_ok-copy_symbols.ensures c.in_ok-tracked_of.ensures
