use Rattle.std.proofs.Common.{map, set, ap, ◌∙◌}
use Rattle.f77_ast.specs.Symbols.{number_from}
use Rattle.pipsmake_meaning.specs.Making.{AllStay}
use Rattle.result_store.specs.Rows.{row_tree, names_of, memo_cells_of}
use Rattle.result_store.specs.Values.{item_of, value_tree}
use Rattle.result_store.proofs.Outcomes.{on_err}
use Rattle.result_store.proofs.StoreLaws.{row_fits, rows_after, row_changed, nothing_changed, seen_in}
use Rattle.result_store.proofs.store.Store.see.Goals as goal
use Rattle.fx_lists.proofs.Options.{if_ok}

pub see-requires-clause-row : goal.see-requires-clause-row
see-requires-clause-row c = row_fits c.self.inside.rows.items c.args.name.now c.in_ok-at.at c.index_mut-row.result.now (ap (λ rows. number_from 0 (names_of rows) c.args.name.now) c.self.view_is ∙ c.in_ok-at.ensures.place) c.index_mut-row.ensures.value c.self.inside.index c.self.invariant

pub invariant_of-self : goal.invariant_of-self
invariant_of-self c =
    rows_after c.self.inside.rows.items c.args.name.now c.in_ok-at.at c.index_mut-row.result.now (ap (λ rows. number_from 0 (names_of rows) c.args.name.now) c.self.view_is ∙ c.in_ok-at.ensures.place) c.index_mut-row.ensures.value
    c.self.inside.index c.see.new.self c.see.ensures.changes.name c.see.ensures.changes.fits c.self.invariant

pub returns-clause-ok : goal.returns-clause-ok
returns-clause-ok c =
    let changed = row_changed c.self.inside.rows.items c.args.name.now c.in_ok-at.at c.index_mut-row.result.now (ap (λ rows. number_from 0 (names_of rows) c.args.name.now) c.self.view_is ∙ c.in_ok-at.ensures.place) c.index_mut-row.ensures.value (item_of c.args.item) c.see.new.self c.see.ensures.changes in
    let stay : AllStay (memo_cells_of c.args.self.now) (memo_cells_of c.self.inside.rows.items) = λ i y. ap (λ rows. memo_cells_of rows i y) c.self.view_is ∙ c.in_ok-at.ensures.same i y in
    if_ok c.see.result (λ n. seen_in (memo_cells_of c.args.self.now) (map row_tree c.self.inside.rows.items) (map row_tree (set c.self.inside.rows.items c.in_ok-at.at c.see.new.self)) c.args.name.now (item_of c.args.item) (row_tree c.index_mut-row.result.now) (row_tree c.see.new.self) (value_tree c.args.value) n stay changed) c.see.ensures.ok

pub returns-clause-err : goal.returns-clause-err
returns-clause-err c =
    let stay : AllStay (memo_cells_of c.args.self.now) (memo_cells_of c.self.inside.rows.items) = λ i y. ap (λ rows. memo_cells_of rows i y) c.self.view_is ∙ c.in_ok-at.ensures.same i y in
    on_err c.see.result (λ e i y. nothing_changed c.self.inside.rows.items c.args.name.now c.in_ok-at.at c.index_mut-row.result.now (ap (λ rows. number_from 0 (names_of rows) c.args.name.now) c.self.view_is ∙ c.in_ok-at.ensures.place) c.index_mut-row.ensures.value c.see.new.self e i y ∙ stay i y) c.see.ensures.err
