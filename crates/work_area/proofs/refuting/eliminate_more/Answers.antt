use Rattle.std.proofs.Common.{◌∙◌, ap, suc}
use Rattle.std.specs.Prelude.{if◌then◌else◌}
use Rattle.hull_projection.specs.Refute.{with_few}
use Rattle.work_area.proofs.TableSteps.{ready_zero, keeps_both}
use Rattle.work_area.proofs.RefuteSteps.{counted}
use Rattle.work_area.proofs.refuting.eliminate_more.Goals as goal

pub drop_many-requires : goal.drop_many-requires
drop_many-requires c =
    let w = c.requires.sound.width in
    ready_zero w c.eliminate_rows-outcome.new.tables (c.eliminate_rows-outcome.ensures.ready.kept w c.requires.sound.ready)

pub returns-clause-left : goal.returns-clause-left
returns-clause-left c = record {
  pairs = c.pairs_after-pairs.ensures ∙ ap (λ b. if b then suc c.args.pairs else c.args.pairs) c.eliminate_rows-outcome.ensures.done.paired;
  items = c.drop_many.ensures.items ∙ ap (with_few c.pairs_after-pairs.result) c.eliminate_rows-outcome.ensures.done.items;
}

pub returns-clause-few : goal.returns-clause-few
returns-clause-few c = counted c.args.pairs c.pairs_after-pairs.result c.eliminate_rows-outcome.result.paired c.pairs_after-pairs.ensures

pub returns-clause-ready : goal.returns-clause-ready
returns-clause-ready c = keeps_both c.args.tables.now c.eliminate_rows-outcome.new.tables c.drop_many.new.tables c.eliminate_rows-outcome.ensures.ready c.drop_many.ensures.ready
