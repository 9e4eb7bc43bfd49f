use Rattle.std.proofs.Common.{set, ap, subst, sym, ◌∙◌}
use Rattle.f77_ast.specs.Symbols.{number_from}
use Rattle.pipsmake_meaning.specs.MemoCells.{Forgets}
use Rattle.result_store.specs.Rows.{names_of, memo_cells_of}
use Rattle.result_store.proofs.StoreLaws.{row_fits, rows_after, row_forgotten, no_name_forgets}
use Rattle.result_store.proofs.store.Store.forget.Goals as goal

pub forget-requires : goal.forget-requires
forget-requires c = row_fits c.self.inside.rows.items c.args.name.now c.in-Some.at c.index_mut-row.result.now (ap (λ rows. number_from 0 (names_of rows) c.args.name.now) c.self.view_is ∙ sym c.in-Some.ensures.place) c.index_mut-row.ensures.value c.self.inside.index c.self.invariant

pub invariant_of-self : goal.invariant_of-self
invariant_of-self c =
    rows_after c.self.inside.rows.items c.args.name.now c.in-Some.at c.index_mut-row.result.now (ap (λ rows. number_from 0 (names_of rows) c.args.name.now) c.self.view_is ∙ sym c.in-Some.ensures.place) c.index_mut-row.ensures.value
    c.self.inside.index c.forget.new.self c.forget.ensures.name c.forget.ensures.fits c.self.invariant

pub returns-in-None : goal.returns-in-None
returns-in-None c = no_name_forgets c.args.self.now c.args.name.now (sym c.in-None.ensures.place)

pub returns-in-Some : goal.returns-in-Some
returns-in-Some c =
    subst (λ rows. Forgets (memo_cells_of rows) (memo_cells_of (set c.self.inside.rows.items c.in-Some.at c.forget.new.self)) c.args.name.now) c.self.view_is
    (row_forgotten c.self.inside.rows.items c.args.name.now c.in-Some.at c.index_mut-row.result.now (ap (λ rows. number_from 0 (names_of rows) c.args.name.now) c.self.view_is ∙ sym c.in-Some.ensures.place) c.index_mut-row.ensures.value c.forget.new.self c.forget.ensures)
