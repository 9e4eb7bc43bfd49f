use Rattle.std.proofs.Common.{◌≡◌, map, sym, subst}
use Rattle.std.proofs.lemmas.Result.{IfOk-weaker}
use Rattle.f77_ast.specs.PlainDecl.{module_tree}
use Rattle.f77_ast.specs.PlainStmt.{stmt_trees}
use Rattle.f77_ast.specs.Symbols.{symbol_tree}
use Rattle.f77_ast.specs.declared.marks.Private.{Private}
use Rattle.dependence_test.specs.Finding.{loop_in}
use Rattle.privatizer.specs.Uses.{known_uses}
use Rattle.privatizer.specs.Private.{private_at}
use Rattle.privatizer.specs.Claims.{IfPrivate}
use Rattle.privatizer.proofs.PrivateLaws.{answer_sound}
use Rattle.privatizer.proofs.answer.may_be_private.Goals as goal

pub returns-clause-sound : goal.returns-clause-sound
returns-clause-sound c =
    let a = c.args.a.now in
    let t = module_tree a.view.now.«module».now in
    let ss = map symbol_tree a.view.now.symbols.now in
    let v = c.args.variable.now in
    let uses = known_uses a c.args.at in
    let o = loop_in c.args.at (stmt_trees a.view.now.«module».now.body) in
    let P = λ (p : Private). IfPrivate p uses o v in
    IfOk-weaker c.answer_at.result (λ (p : Private). p ≡ private_at t ss v uses o) P (λ p e. subst P (sym e) (answer_sound t ss v uses o)) c.answer_at.ensures
