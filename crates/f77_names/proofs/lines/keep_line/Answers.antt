use Rattle.std.proofs.Common.{sym, ◌∙◌}
use Rattle.f77_names.proofs.LinesLaws.{kept_known, kept_new}
use Rattle.f77_names.proofs.lines.keep_line.Goals as goal

pub returns-then-contains_key : goal.returns-then-contains_key
returns-then-contains_key g c = kept_known _ g.met.K.Eq.laws c.args.lines.now c.args.key c.args.line (sym c.contains_key.ensures ∙ c.if-contains_key.true)

pub returns : goal.returns
returns g c = kept_new _ g.met.K.Eq.laws c.args.lines.now c.insert.new.self c.args.key c.args.line (sym c.contains_key.ensures ∙ c.if-contains_key.false) c.in_ok-insert.ensures.updates.0
