use Rattle.std.proofs.Common.{◌∙◌, ap, arith}
use Rattle.region_sets.specs.Within.{gives_row}
use Rattle.region_sets.proofs.WithinSteps.{answers_rest}
use Rattle.region_sets.proofs.within.answer_of.Goals as goal

pub returns-then-same_row : goal.returns-then-same_row
returns-then-same_row c = λ rs h.
    (answers_rest rs c.loop-rest.rest.now c.one-item.result (omega (arith, c.in-len1-up.len_at_least)) c.one-item.is (c.loop-rest.invariant rs h)).0
    ∙ ap (gives_row rs) (c.same_row.ensures c.if-same_row.true)

pub loop-rest-preserved : goal.loop-rest-preserved
loop-rest-preserved c = λ rs h. (answers_rest rs c.loop-rest.rest.now c.one-item.result (omega (arith, c.in-len1-up.len_at_least)) c.one-item.is (c.loop-rest.invariant rs h)).1
