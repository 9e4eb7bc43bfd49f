use Rattle.std.proofs.Common.{◌≡◌, ◌++◌, length, map}
use Rattle.session_texts.specs.pipsmake_meaning.Making.{stamp_of}
use Rattle.session_texts.specs.pipsmake_meaning.Values.{result}
use Rattle.result_store.specs.Rows.{memo_cells_of}
use Rattle.result_store.specs.Values.{stamped_tree}
use Rattle.pipsmake_db.proofs.stamps.push_stamps.Given as goal

abbrev pub invariant-loop-rest : goal.invariant-loop-rest
invariant-loop-rest l =
    map stamped_tree l.stamps ++ map (λ n. stamp_of (memo_cells_of l.store) (result n.kind) n.name) l.rest
    ≡ map stamped_tree l.fn.stamps ++ map (λ n. stamp_of (memo_cells_of l.store) (result n.kind) n.name) l.fn.needs

abbrev pub decreases-loop-rest : goal.decreases-loop-rest
decreases-loop-rest l = length l.rest
