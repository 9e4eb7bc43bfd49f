use Rattle.std.proofs.Common.{get_or, sym, ap, ◌∙◌}
use Rattle.f77_ast.specs.Symbols.{number_from}
use Rattle.result_store.specs.Rows.{names_of}
use Rattle.result_store.proofs.StoreLaws.{no_row, row_found, row_fits}
use Rattle.result_store.proofs.store.Store.row.Goals as goal

pub returns-in-None-clause-row : goal.returns-in-None-clause-row
returns-in-None-clause-row c = sym (no_row 0 c.args.self.now c.args.name.now (sym c.in-None.ensures.place))

pub returns-in-Some-clause-row : goal.returns-in-Some-clause-row
returns-in-Some-clause-row c =
    let r = c.index.result.now in
    row_found c.args.self.now c.args.name.now c.in-Some.at r (sym c.in-Some.ensures.place) (c.index.ensures ∙ ap (λ rows. get_or rows c.in-Some.at r) c.self.view_is)

pub returns-in-Some-clause-fits : goal.returns-in-Some-clause-fits
returns-in-Some-clause-fits c =
    let at = ap (λ rows. number_from 0 (names_of rows) c.args.name.now) c.self.view_is ∙ sym c.in-Some.ensures.place in
    row_fits c.self.inside.rows.items c.args.name.now c.in-Some.at c.index.result.now at c.index.ensures c.self.inside.index c.self.invariant
