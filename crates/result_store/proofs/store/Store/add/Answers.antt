use Rattle.std.proofs.Common.{◌≡◌, length, Some, None, subst, ap, ◌∙◌, rules, arith}
use Rattle.f77_ast.specs.Symbols.{number_from}
use Rattle.result_store.specs.Rows.{row_tree, names_of, memo_cells_of}
use Rattle.result_store.specs.RowChanges.{IsEmptyRow}
use Rattle.result_store.proofs.StoreLaws.{place_of_more, same_with_more}
use Rattle.result_store.proofs.store.Store.add.Goals as goal

pub returns-clause-place : goal.returns-clause-place
returns-clause-place c =
    let empty = subst (λ y. IsEmptyRow y (row_tree c.in_ok-row.row)) c.in_ok-clone.ensures.cases c.in_ok-row.ensures in
    let none : number_from 0 (names_of c.self.inside.rows.items) c.args.name.now ≡ None = ap (λ rows. number_from 0 (names_of rows) c.args.name.now) c.self.view_is ∙ c.requires in
    let size : length c.self.inside.rows.items ≡ c.len-at.result = first_of (omega arith, search rules, grind arith) in
    ap (λ rows. number_from 0 (names_of rows) c.args.name.now) c.in_ok-push.ensures.list ∙ place_of_more c.self.inside.rows.items c.args.name.now c.in_ok-row.row empty none ∙ ap Some size

pub returns-clause-same : goal.returns-clause-same
returns-clause-same c =
    let empty = subst (λ y. IsEmptyRow y (row_tree c.in_ok-row.row)) c.in_ok-clone.ensures.cases c.in_ok-row.ensures in
    λ item y. ap (λ rows. memo_cells_of rows item y) c.in_ok-push.ensures.list ∙ same_with_more c.self.inside.rows.items c.args.name.now c.in_ok-row.row empty item y ∙ ap (λ rows. memo_cells_of rows item y) c.self.view_is
