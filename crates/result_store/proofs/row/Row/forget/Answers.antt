use Rattle.std.proofs.Common.{◌≡◌, length, map, refl, ap, ◌∙◌, arith}
use Rattle.std.proofs.lemmas.List.{with_items_is}
use Rattle.pipsmake_meaning.specs.MemoCells.{forgotten}
use Rattle.result_store.specs.Rows.{row_tree, memo_cell_tree}
use Rattle.result_store.proofs.RowLaws.{forgets_all, forgotten_trees}
use Rattle.result_store.proofs.row.Row.forget.Goals as goal

pub returns : goal.returns
returns c =
    let len : length c.forget_all.new.memo_cells ≡ c.args.self.now.results.len = omega (arith, c.forget_all.auto.memo_cells, c.deref_mut.ensures.len) in
    forgets_all (row_tree c.args.self.now) _ refl refl
    (ap (map memo_cell_tree) (with_items_is c.args.self.now.results c.forget_all.new.memo_cells len) ∙ c.forget_all.ensures
    ∙ ap (map (λ s. forgotten (memo_cell_tree s))) c.deref_mut.ensures.value ∙ forgotten_trees c.args.self.now.results.items)
    c.requires
