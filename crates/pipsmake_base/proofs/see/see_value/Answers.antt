use Rattle.std.proofs.Common.{◌≡◌, arith}
use Rattle.pipsmake_db.specs.result_store.Rows.{memo_cells_of}
use Rattle.pipsmake_db.specs.result_store.Values.{value_tree}
use Rattle.pipsmake_base.proofs.Taking.{sees_first}
use Rattle.pipsmake_base.proofs.see.see_value.Goals as goal

pub returns : goal.returns
returns c =
    let zero : c.in_ok-stamp.stamp ≡ 0 = omega arith in
    sees_first (memo_cells_of c.args.store.now) (memo_cells_of c.see.new.self) c.args.seen.now c.push.new.self c.args.key.now c.in_ok-copy.copy (value_tree c.args.value) c.in_ok-stamp.stamp zero c.in_ok-stamp.ensures.ok
    c.in_ok-copy.ensures c.in_ok-push.ensures
