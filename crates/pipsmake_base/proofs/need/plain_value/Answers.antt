use Rattle.std.proofs.Common.{sym, ap, ◌∙◌}
use Rattle.std.specs.Prelude.{option_map}
use Rattle.pipsmake_db.specs.result_store.Rows.{memo_cells_of}
use Rattle.pipsmake_db.specs.result_store.Values.{value_tree}
use Rattle.pipsmake_base.proofs.NeedLaws.{plain_rule}
use Rattle.pipsmake_base.proofs.need.plain_value.Goals as goal

pub returns-in-Some-clause-value : goal.returns-in-Some-clause-value
returns-in-Some-clause-value c =
    sym (plain_rule (memo_cells_of c.args.store.now) c.args.modules.now.sources.now c.args.key.now c.requires.plain) ∙ sym c.in_ok-made.ensures.value ∙ ap (option_map value_tree) c.in-Some.is
