use Rattle.std.proofs.Common.{List, sym, subst}
use Rattle.std.specs.Prelude.{IfSome}
use Rattle.f77_ast.specs.declared.stmt.Stmt.{Stmt}
use Rattle.transformers.specs.WhileParts.{IsOnly}
use Rattle.transformers.proofs.WhileSteps.{other_lists, only_within}
use Rattle.transformers.proofs.whiles.while_in.Goals as goal

pub returns-then-list-ne1-clause-defined : goal.returns-then-list-ne1-clause-defined
returns-then-list-ne1-clause-defined c = rw (sym c.as_slice-list.ensures) (other_lists c.as_slice-list.result.now c.if-list-ne1.true)

pub returns-clause-within : goal.returns-clause-within
returns-clause-within c =
    subst (λ (ss : List Stmt). IfSome c.while_at.result (λ w. IsOnly w ss)) c.as_slice-list.ensures
    (only_within c.while_at.result c.as_slice-list.result.now c.index-list-0.result c.if-list-ne1.false c.index-list-0.is c.while_at.ensures.within)
