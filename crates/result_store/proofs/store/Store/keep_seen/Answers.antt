use Rattle.std.proofs.Common.{map, set, sym, subst, ap, ◌∙◌}
use Rattle.f77_ast.specs.Symbols.{number_from}
use Rattle.result_store.specs.Rows.{row_tree, names_of, memo_cells_of}
use Rattle.result_store.specs.Seen.{KeepsSeen}
use Rattle.result_store.specs.Values.{item_of, stamped_tree}
use Rattle.result_store.proofs.StoreLaws.{row_fits, rows_after, row_changed, no_name_keeps, keeps_seen_in}
use Rattle.result_store.proofs.store.Store.keep_seen.Goals as goal

pub keep_seen-requires : goal.keep_seen-requires
keep_seen-requires c = row_fits c.self.inside.rows.items c.args.name.now c.in-Some.at c.index_mut-row.result.now (ap (λ rows. number_from 0 (names_of rows) c.args.name.now) c.self.view_is ∙ sym c.in-Some.ensures.place) c.index_mut-row.ensures.value c.self.inside.index c.self.invariant

pub invariant_of-self : goal.invariant_of-self
invariant_of-self c =
    rows_after c.self.inside.rows.items c.args.name.now c.in-Some.at c.index_mut-row.result.now (ap (λ rows. number_from 0 (names_of rows) c.args.name.now) c.self.view_is ∙ sym c.in-Some.ensures.place) c.index_mut-row.ensures.value
    c.self.inside.index c.keep_seen.new.self c.keep_seen.ensures.changes.name c.keep_seen.ensures.changes.fits c.self.invariant

pub returns-in-None : goal.returns-in-None
returns-in-None c = no_name_keeps c.args.self.now c.args.name.now (item_of c.args.item) c.args.stamp (map stamped_tree c.args.needs) (sym c.in-None.ensures.place)

pub returns-in-Some : goal.returns-in-Some
returns-in-Some c =
    let changed = row_changed c.self.inside.rows.items c.args.name.now c.in-Some.at c.index_mut-row.result.now (ap (λ rows. number_from 0 (names_of rows) c.args.name.now) c.self.view_is ∙ sym c.in-Some.ensures.place) c.index_mut-row.ensures.value (item_of c.args.item) c.keep_seen.new.self c.keep_seen.ensures.changes in
    subst (λ rows. KeepsSeen (memo_cells_of rows) (memo_cells_of (set c.self.inside.rows.items c.in-Some.at c.keep_seen.new.self)) (item_of c.args.item) c.args.name.now c.args.stamp (map stamped_tree c.args.needs)) c.self.view_is
    (keeps_seen_in (map row_tree c.self.inside.rows.items) (map row_tree (set c.self.inside.rows.items c.in-Some.at c.keep_seen.new.self)) c.args.name.now (item_of c.args.item) (row_tree c.index_mut-row.result.now) (row_tree c.keep_seen.new.self) c.args.stamp (map stamped_tree c.args.needs) changed c.keep_seen.ensures.kept)
