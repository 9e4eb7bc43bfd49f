use Rattle.std.proofs.Common.{◌≡◌, false, map, sym, subst}
use Rattle.std.proofs.lemmas.Result.{IfOk-weaker}
use Rattle.hull_projection.specs.Refute.{refuted}
use Rattle.f77_ast.specs.PlainStmt.{stmt_trees}
use Rattle.f77_ast.specs.Symbols.{symbol_tree}
use Rattle.dependence_test.specs.Finding.{loop_in}
use Rattle.dependence_test.specs.Given.{known_body}
use Rattle.dependence_test.specs.declared.answer.Conflict.{Conflict}
use Rattle.dependence_test.specs.Conflicts.{conflict_in}
use Rattle.dependence_test.specs.Claims.{DoNotMeetIn, IfNoConflict, IfKept}
use Rattle.dependence_test.proofs.ConflictLaws.{loop_sound, loop_open}
use Rattle.dependence_test.proofs.conflicts.conflict.Goals as goal

pub returns-clause-not_refuted : goal.returns-clause-not_refuted
returns-clause-not_refuted c =
    let a = c.args.a.now in
    let ss = map symbol_tree a.view.now.symbols.now in
    let v = c.args.v.now in
    let k = c.args.kinds in
    let o = loop_in c.args.at (stmt_trees a.view.now.«module».now.body) in
    let P = λ (w : Conflict). IfKept w (λ s. refuted s.rows ≡ false) in
    IfOk-weaker c.answer_at.result (λ (w : Conflict). w ≡ conflict_in ss v k (known_body a) o) P (λ w e. subst P (sym e) (loop_open ss v k (known_body a) o)) c.answer_at.ensures.defined

pub returns-clause-sound : goal.returns-clause-sound
returns-clause-sound c =
    let a = c.args.a.now in
    let ss = map symbol_tree a.view.now.symbols.now in
    let v = c.args.v.now in
    let k = c.args.kinds in
    let o = loop_in c.args.at (stmt_trees a.view.now.«module».now.body) in
    let P = λ (w : Conflict). IfNoConflict w (DoNotMeetIn ss v k (known_body a) o) in
    IfOk-weaker c.answer_at.result (λ (w : Conflict). w ≡ conflict_in ss v k (known_body a) o) P (λ w e. subst P (sym e) (loop_sound ss v k (known_body a) o)) c.answer_at.ensures.defined
