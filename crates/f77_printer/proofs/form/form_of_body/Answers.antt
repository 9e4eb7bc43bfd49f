use Rattle.std.proofs.Common.{sym, ◌∙◌}
use Rattle.f77_printer.proofs.FormLemmas.{one_statement, three_statements, other_statements}
use Rattle.f77_printer.proofs.form.form_of_body.Goals as goal

pub returns-then-list-eq1 : goal.returns-then-list-eq1
returns-then-list-eq1 c = rw (sym c.as_slice-list.ensures) (c.form_of_one.ensures ∙ one_statement c.as_slice-list.result.now c.index-list-0.result c.if-list-eq1.true c.index-list-0.is)

pub returns-then-list-ne3 : goal.returns-then-list-ne3
returns-then-list-ne3 c = rw (sym c.as_slice-list.ensures) (other_statements c.as_slice-list.result.now c.if-list-eq1.false c.if-list-ne3.true)

pub returns : goal.returns
returns c = rw (sym c.as_slice-list.ensures) (c.form_of_three.ensures ∙ three_statements c.as_slice-list.result.now c.index-list-0-2.result c.index-list-1.result c.index-list-2.result c.if-list-ne3.false c.index-list-0-2.is c.index-list-1.is c.index-list-2.is)
