use Rattle.pips_top.specs.Run.{Stored}
use Rattle.pips_top.proofs.OverBase.{script_reply}
use Rattle.pips_top.proofs.over.reply_to_script_over.Goals as goal

pub returns-in-Ok-answer_script-clause-answer : goal.returns-in-Ok-answer_script-clause-answer
returns-in-Ok-answer_script-clause-answer g c =
    let old : Stored = record { files = g.F.Store.files c.args.files.now; counts = g.F.Store.counts c.args.files.now } in
    let mid : Stored = record { files = g.F.Store.files c.opened.new.files; counts = g.F.Store.counts c.opened.new.files } in
    let new : Stored = record { files = g.F.Store.files c.keep_and_write.new.files; counts = g.F.Store.counts c.keep_and_write.new.files } in
    let found = c.in-Ok.ensures.answer in
    script_reply old mid new c.in-Ok.ensures.files c.in-Ok.ensures.counts c.keep_and_write.ensures.counts c.args.opening.now c.in-Ok.found.1 c.answer_script.new.db found.1 c.args.show c.args.input.now
    c.sessions_begin_current.ensures.loaded c.answers_stay_current.ensures c.bases_are_modules.ensures.modules c.answered_is_sound.ensures c.in-Ok.found.0 c.in-Ok-answer_script.text found.0 c.in-Ok-answer_script.ensures
    c.keep_and_write.result c.keep_and_write.ensures.answer
