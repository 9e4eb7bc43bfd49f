use Rattle.std.proofs.Common.{map, ◌∙◌, rules, arith}
use Rattle.std.specs.Prelude.{option_map}
use Rattle.pipsmake_meaning.specs.MemoCells.{IsNew}
use Rattle.result_store.specs.Values.{value_tree, kept_tree}
use Rattle.result_store.proofs.MemoCellLaws.{sees_new, none_found}
use Rattle.result_store.proofs.memo_cell.MemoCell.see.Goals as goal

pub returns-clause-ok : goal.returns-clause-ok
returns-clause-ok c =
    let new : IsNew (value_tree c.args.value) (map value_tree c.args.self.now.values) = first_of (search rules, search (rules, none_found), grind (arith, none_found)) in
    sees_new c.args.self.now.values c.push.new.self (option_map kept_tree c.args.self.now.kept) c.args.value c.in_ok-stamp.stamp c.in_ok-push.ensures.ok (c.in_ok-stamp.ensures ∙ c.len.ensures) new
