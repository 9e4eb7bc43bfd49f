use Rattle.std.proofs.Common.{length, map}
use Rattle.result_store.specs.Rows.{memo_cells_of}
use Rattle.session_texts.specs.Modules.{source_text}
use Rattle.pipsmake_db.proofs.TextLaws.{Sees}
use Rattle.pipsmake_db.proofs.texts.see_all.Given as goal

abbrev pub invariant-loop-rest : goal.invariant-loop-rest
invariant-loop-rest l = Sees (memo_cells_of l.fn.store) (map source_text l.fn.found) (memo_cells_of l.store) (map source_text l.rest) l.all

abbrev pub decreases-loop-rest : goal.decreases-loop-rest
decreases-loop-rest l = length l.rest
