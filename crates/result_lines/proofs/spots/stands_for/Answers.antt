use Rattle.std.proofs.Common.{sym, ◌∙◌}
use Rattle.result_lines.proofs.SpotLaws.{begins_with}
use Rattle.result_lines.proofs.spots.stands_for.Goals as goal

pub returns-in-len1-up : goal.returns-in-len1-up
returns-in-len1-up c = c.begins_hidden.ensures ∙ rw (sym c.as_slice.ensures) (begins_with c.as_slice.result.now c.first-item.result c.in-len1-up.len_at_least c.first-item.is)
