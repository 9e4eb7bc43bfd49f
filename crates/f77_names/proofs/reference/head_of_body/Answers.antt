use Rattle.std.proofs.Common.{sym}
use Rattle.f77_names.proofs.ReferenceLaws.{three_statements, not_three}
use Rattle.f77_names.proofs.reference.head_of_body.Goals as goal

pub returns-then-list-ne3 : goal.returns-then-list-ne3
returns-then-list-ne3 c = rw (sym c.as_slice-list.ensures) (not_three c.as_slice-list.result.now c.if-list-ne3.true)

pub returns : goal.returns
returns c = rw (sym c.as_slice-list.ensures) (three_statements c.as_slice-list.result.now c.index-list-0.result c.index-list-1.result c.index-list-2.result _ c.if-list-ne3.false c.index-list-0.is c.index-list-1.is c.index-list-2.is c.head_of_three.ensures)
