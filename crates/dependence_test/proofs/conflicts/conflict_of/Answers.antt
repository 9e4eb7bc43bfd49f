use Rattle.std.proofs.Common.{◌≡◌, false, map, sym, subst}
use Rattle.std.proofs.lemmas.Result.{IfOk-weaker}
use Rattle.hull_projection.specs.Refute.{refuted}
use Rattle.f77_ast.specs.Symbols.{symbol_tree}
use Rattle.dependence_test.specs.declared.answer.Conflict.{Conflict}
use Rattle.dependence_test.specs.Conflicts.{kept_system, conflict_of}
use Rattle.dependence_test.specs.Claims.{DoNotMeet, IfNoConflict, IfKept}
use Rattle.dependence_test.proofs.ConflictLaws.{answer_sound, answer_open}
use Rattle.dependence_test.proofs.conflicts.conflict_of.Goals as goal

pub returns-clause-not_refuted : goal.returns-clause-not_refuted
returns-clause-not_refuted c =
    let ss = map symbol_tree c.args.symbols.now in
    let b = c.args.b.now in
    let v = c.args.v.now in
    let k = c.args.kinds in
    let P = λ (w : Conflict). IfKept w (λ s. refuted s.rows ≡ false) in
    IfOk-weaker c.answer_of.result (λ (w : Conflict). w ≡ conflict_of (kept_system ss b v k)) P (λ w e. subst P (sym e) (answer_open ss b v k)) c.answer_of.ensures.defined

pub returns-clause-sound : goal.returns-clause-sound
returns-clause-sound c =
    let ss = map symbol_tree c.args.symbols.now in
    let b = c.args.b.now in
    let v = c.args.v.now in
    let k = c.args.kinds in
    let P = λ (w : Conflict). IfNoConflict w (DoNotMeet ss b v k) in
    IfOk-weaker c.answer_of.result (λ (w : Conflict). w ≡ conflict_of (kept_system ss b v k)) P (λ w e. subst P (sym e) (answer_sound ss b v k)) c.answer_of.ensures.defined
