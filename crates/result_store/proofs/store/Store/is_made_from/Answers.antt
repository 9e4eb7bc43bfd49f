use Rattle.std.proofs.Common.{map, ap, ◌∙◌}
use Rattle.std.specs.Cmp.Lexicographic.{pointwise}
use Rattle.result_store.specs.Rows.{memo_cells_of}
use Rattle.result_store.specs.Stamps.{same_stamped}
use Rattle.result_store.specs.Values.{item_of, stamped_tree}
use Rattle.std.specs.Prelude.{option_map}
use Rattle.result_store.proofs.StampLaws.{made_from, made_from_none}
use Rattle.result_store.proofs.store.Store.is_made_from.Goals as goal

pub returns-in-None : goal.returns-in-None
returns-in-None c = made_from_none (option_map (λ k. k.needs) (memo_cells_of c.args.self.now (item_of c.args.item) c.args.name.now).kept) (map stamped_tree c.args.stamps.now) c.in-None.ensures

pub returns-in-Some : goal.returns-in-Some
returns-in-Some c =
    made_from (option_map (λ k. k.needs) (memo_cells_of c.args.self.now (item_of c.args.item) c.args.name.now).kept) (map stamped_tree c.in-Some.needs.now) (map stamped_tree c.args.stamps.now) c.same_stamps.result c.in-Some.ensures
    (c.same_stamps.ensures ∙ ap (λ ns. pointwise same_stamped (map stamped_tree ns) (map stamped_tree c.args.stamps.now)) c.as_slice.ensures)
