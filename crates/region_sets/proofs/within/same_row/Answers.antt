use Rattle.std.proofs.Common.{sym, ◌∙◌}
use Rattle.region_sets.proofs.SameSystems.{row-true}
use Rattle.region_sets.proofs.within.same_row.Goals as goal

pub returns : goal.returns
returns c = λ e. row-true c.args.a.now c.args.b.now (sym c.eq.ensures ∙ e)
