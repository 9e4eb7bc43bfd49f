use Rattle.std.proofs.Common.{◌≡◌, map, Some, refl, ap, ◌∙◌}
use Rattle.session_texts.specs.pipsmake_meaning.Making.{stamps_now}
use Rattle.result_store.specs.Rows.{memo_cells_of}
use Rattle.result_store.specs.Values.{stamped_tree}
use Rattle.pipsmake_db.proofs.BringLaws.{stays_current}
use Rattle.pipsmake_db.proofs.bring.bring.Goals as goal

pub returns-then-is_made_from-clause-ok : goal.returns-then-is_made_from-clause-ok
returns-then-is_made_from-clause-ok c =
    let stamps : map stamped_tree c.as_slice.result.now ≡ stamps_now (memo_cells_of c.args.store.now) c.args.modules.now.sources.now c.args.key.now = ap (map stamped_tree) c.as_slice.ensures ∙ c.in_ok-stamps.ensures in
    stays_current (memo_cells_of c.args.store.now) c.args.modules.now.sources.now c.args.key.now c.args.made.now (c.if-is_made_from.ensures.0 refl ∙ ap Some stamps)
