use Rattle.std.proofs.Common.{◌≡◌, ◌∙◌, ap, sym, subst, Ok, Err, map}
use Rattle.f77_statements.specs.declared.refusal.Cause.TheVariants.{Syntax}
use Rattle.f77_parser.specs.Gives.{Gives}
use Rattle.f77_parser.specs.Statements.{statement_tree, refusal_at}
use Rattle.f77_parser.specs.References.{empty_call_fault}
use Rattle.f77_parser.specs.Modules.{unless_called, statements_in}
use Rattle.f77_parser.proofs.ReadLaws.{read_whole, refused_all}
use Rattle.f77_parser.proofs.read.statements_in.Goals as goal

pub returns-in-None : goal.returns-in-None
returns-in-None c =
    let ss = map statement_tree c.in-Ok.statements in
    let found = c.in_ok-empty_call_fault-in-Ok.ensures ∙ ap (λ xs. empty_call_fault (map statement_tree xs)) c.as_slice.ensures in
    read_whole c.args.lines.now ss _ c.in-Ok.ensures found ∙ ap (λ o. unless_called o (Ok ss)) c.in-None.is

pub returns-in-Ok : goal.returns-in-Ok
returns-in-Ok c =
    let ss = map statement_tree c.in-Ok.statements in
    let found = c.in_ok-empty_call_fault-in-Ok.ensures ∙ ap (λ xs. empty_call_fault (map statement_tree xs)) c.as_slice.ensures in
    let read : statements_in c.args.lines.now ≡ Err (refusal_at c.in-Some.line Syntax) =
    read_whole c.args.lines.now ss _ c.in-Ok.ensures found ∙ ap (λ o. unless_called o (Ok ss)) c.in-Some.is in
    subst (λ x. Gives (map statement_tree) (Err c.refusal_at.result) x) (sym read) (refused_all c.refusal_at.result (refusal_at c.in-Some.line Syntax) c.refusal_at.ensures)
