use Rattle.std.proofs.Common.{subst}
use Rattle.pips_top.specs.Replies.{PrintsOver, PrintsWhole}
use Rattle.pips_top.specs.Run.{Stored}
use Rattle.pips_top.proofs.OverBase.{program_reply, refused_reply}
use Rattle.pips_top.proofs.over.reply_to_program_over.Goals as goal

pub returns-in-Ok-Writes-clause-answer : goal.returns-in-Ok-Writes-clause-answer
returns-in-Ok-Writes-clause-answer g c =
    let old : Stored = record { files = g.F.Store.files c.args.files.now; counts = g.F.Store.counts c.args.files.now } in
    let mid : Stored = record { files = g.F.Store.files c.opened.new.files; counts = g.F.Store.counts c.opened.new.files } in
    let new : Stored = record { files = g.F.Store.files c.keep_and_write.new.files; counts = g.F.Store.counts c.keep_and_write.new.files } in
    let found = c.in-Ok.ensures.answer in
    let printed : PrintsOver c.args.wanted c.in-Ok.found.0 c.in-Ok-Writes.text c.in-Ok.found.1 c.print_over.new.db =
    subst (λ m. PrintsWhole c.args.wanted c.in-Ok.found.0 c.in-Ok.found.1 c.print_over.new.db m) c.in-Ok-Writes.field-0-is c.in-Ok-Writes.ensures in
    program_reply old mid new c.in-Ok.ensures.files c.in-Ok.ensures.counts c.keep_and_write.ensures.counts c.args.opening.now c.in-Ok.found.1 c.print_over.new.db found.1 c.args.wanted c.args.input.now c.written_is_sound.ensures
    c.in-Ok.found.0 c.in-Ok-Writes.text found.0 printed c.keep_and_write.result c.keep_and_write.ensures.answer

pub returns-in-Ok-Refuses-clause-answer : goal.returns-in-Ok-Refuses-clause-answer
returns-in-Ok-Refuses-clause-answer g c =
    let old : Stored = record { files = g.F.Store.files c.args.files.now; counts = g.F.Store.counts c.args.files.now } in
    let mid : Stored = record { files = g.F.Store.files c.opened.new.files; counts = g.F.Store.counts c.opened.new.files } in
    let found = c.in-Ok.ensures.answer in
    let refused = subst (λ m. PrintsWhole c.args.wanted c.in-Ok.found.0 c.in-Ok.found.1 c.print_over.new.db m) c.in-Ok-Refuses.field-0-is c.in-Ok-Refuses.ensures in
    refused_reply old mid c.in-Ok.ensures.files c.args.opening.now c.in-Ok.found.1 found.1 c.args.wanted c.args.input.now c.in-Ok.found.0 found.0 c.in-Ok-Refuses.line c.in-Ok-Refuses.code c.in-Ok-Refuses.keyword refused
    c.refusal_line.result c.refusal_line.ensures c.stopping.result c.stopping.ensures
