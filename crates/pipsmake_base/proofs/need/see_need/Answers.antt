use Rattle.std.proofs.Common.{sym, ◌∙◌}
use Rattle.pipsmake_db.specs.result_store.Rows.{memo_cells_of}
use Rattle.pipsmake_db.specs.result_store.Values.{value_tree}
use Rattle.pipsmake_base.proofs.Taking.{seen_already, seen_now}
use Rattle.pipsmake_base.proofs.need.see_need.Goals as goal

pub returns-then-there-clause-ok : goal.returns-then-there-clause-ok
returns-then-there-clause-ok c = seen_already c.args.modules.now.sources.now (memo_cells_of c.args.store.now) c.args.seen.now c.args.need.now (sym c.in_ok-there.ensures ∙ c.if-there.true)

pub returns-clause-ok : goal.returns-clause-ok
returns-clause-ok c =
    seen_now c.args.modules.now.sources.now (memo_cells_of c.args.store.now) (memo_cells_of c.see_value.new.store) c.args.seen.now c.see_value.new.seen c.args.need.now (value_tree c.in_ok-value.value)
    (sym c.in_ok-there.ensures ∙ c.if-there.false) c.in_ok-value.ensures.value c.in_ok-see_value.ensures
