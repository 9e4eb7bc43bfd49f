use Rattle.std.proofs.Common.{◌+◌, ◌++◌, ◌||◌, [], Bool, drop, ap, ◌∙◌}
use Rattle.affine_systems.specs.declared.row.Row.{Row}
use Rattle.region_sets.proofs.PutSteps.{put-step, lost-step}
use Rattle.region_sets.proofs.putting.put_all.Goals as goal
use Rattle.region_sets.specs.Putting.{put_in, before_rows, is_lost, loses_row}

pub loop-row-preserved : goal.loop-row-preserved
loop-row-preserved c =
    let v = c.args.v in
    let by = c.args.by.now in
    let rows = c.args.rows.now in
    let i = c.loop-row.row-index in
    let r : Row = c.row-item.result in
    let out = c.loop-row.out.items in
    let value = c.in_ok-one.ensures.added ∙ ap (λ (x : Row). out ++ before_rows (put_in v by x) []) c.row-item.is in
    let gone = c.in_ok-one.ensures.lost ∙ ap (λ (x : Row). is_lost (put_in v by x)) c.row-item.is in
    record {
      same = put-step v by rows out c.push_put.new.out.items _ i r c.loop-row-test.true value c.loop-row.invariant.same;
      lost = ap (λ (b : Bool). b || loses_row v by (drop (i + 1) rows)) c.either-lost.ensures ∙ lost-step v by rows c.loop-row.lost c.in_ok-one.one _ i r c.loop-row-test.true gone c.loop-row.invariant.lost;
      ready = c.in_ok-one.ensures.ready;
    }
