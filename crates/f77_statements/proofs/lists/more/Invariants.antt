use Rattle.std.proofs.Common.{◌≡◌, length, map}
use Rattle.f77_exprs.specs.State.{state}
use Rattle.f77_exprs.specs.Grammar.{more_by}
use Rattle.f77_statements.proofs.lists.more.Given as goal

abbrev pub decreases-loop-turns : goal.decreases-loop-turns
decreases-loop-turns g l = l.turns

abbrev pub invariant-loop-turns : goal.invariant-loop-turns
invariant-loop-turns g l =
    more_by g.S.Separator.between g.R.Rule.rule l.turns (map g.R.Rule.tree l.found) (state l.at)
    ≡ more_by g.S.Separator.between g.R.Rule.rule (length l.fn.at.rest.now) (map g.R.Rule.tree l.fn.found) (state l.fn.at)
