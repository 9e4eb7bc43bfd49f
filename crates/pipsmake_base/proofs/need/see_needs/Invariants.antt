use Rattle.std.proofs.Common.{◌≡◌, length, map}
use Rattle.pipsmake_db.specs.result_store.Rows.{memo_cells_of}
use Rattle.pipsmake_db.specs.result_store.Values.{stamped_tree}
use Rattle.pipsmake_base.specs.Plain.{IsPlain, texts_behind}
use Rattle.pipsmake_base.proofs.Taking.{NeedsRest}
use Rattle.pipsmake_base.proofs.need.see_needs.Given as goal

abbrev pub invariant-loop-rest : goal.invariant-loop-rest
invariant-loop-rest l = record {
  in_some : IsPlain l.plain;
  texts : texts_behind l.plain ≡ l.modules.sources.now;
  needs : NeedsRest l.modules.sources.now (memo_cells_of l.fn.store) l.fn.seen l.fn.needs (memo_cells_of l.store) l.seen (map stamped_tree l.stamps) l.rest;
}

abbrev pub decreases-loop-rest : goal.decreases-loop-rest
decreases-loop-rest l = length l.rest
