use Rattle.std.proofs.Common.{Option, Some, Ok, subst}
use Rattle.pips_top.specs.Jobs.{job_in, JobBy}
use Rattle.pips_top.specs.Run.{Stored}
use Rattle.pips_top.specs.declared.job.Job.{Job}
use Rattle.pips_top.specs.declared.job.Job.TheVariants.{AnswerOver, WriteOver}
use Rattle.pips_top.proofs.OverBase.{replies_by, counts_stay}
use Rattle.pips_top.proofs.reply.reply_to.Goals as goal

pub returns-in-Ok-Some-WriteOver-clause-answer : goal.returns-in-Ok-Some-WriteOver-clause-answer
returns-in-Ok-Some-WriteOver-clause-answer g c =
    let old : Stored = record { files = g.F.Store.files c.args.files.now; counts = g.F.Store.counts c.args.files.now } in
    let new : Stored = record { files = g.F.Store.files c.reply_to_program_over.new.files; counts = g.F.Store.counts c.reply_to_program_over.new.files } in
    let it = c.in-Ok-Some-WriteOver in
    let by : JobBy c.args.words.now (Ok (Some (WriteOver it.wanted it.name it.opening))) =
    subst (λ (j : Job). JobBy c.args.words.now (Ok (Some j))) it.field-0-0-is (subst (λ (o : Option Job). JobBy c.args.words.now (Ok o)) it.field-0-is it.ensures) in
    replies_by c.args.words.now (WriteOver it.wanted it.name it.opening) old new by.0 by.1 c.reply_to_program_over.result c.reply_to_program_over.ensures.answer

pub returns-in-Ok-Some-AnswerOver-clause-answer : goal.returns-in-Ok-Some-AnswerOver-clause-answer
returns-in-Ok-Some-AnswerOver-clause-answer g c =
    let old : Stored = record { files = g.F.Store.files c.args.files.now; counts = g.F.Store.counts c.args.files.now } in
    let new : Stored = record { files = g.F.Store.files c.reply_to_script_over.new.files; counts = g.F.Store.counts c.reply_to_script_over.new.files } in
    let it = c.in-Ok-Some-AnswerOver in
    let by : JobBy c.args.words.now (Ok (Some (AnswerOver it.show it.name it.opening))) =
    subst (λ (j : Job). JobBy c.args.words.now (Ok (Some j))) it.field-0-0-is (subst (λ (o : Option Job). JobBy c.args.words.now (Ok o)) it.field-0-is it.ensures) in
    replies_by c.args.words.now (AnswerOver it.show it.name it.opening) old new by.0 by.1 c.reply_to_script_over.result c.reply_to_script_over.ensures.answer

pub returns-in-Ok-None-clause-counts : goal.returns-in-Ok-None-clause-counts
returns-in-Ok-None-clause-counts g c = counts_stay (job_in c.args.words.now) (record { files = g.F.Store.files c.args.files.now; counts = g.F.Store.counts c.args.files.now })

pub returns-in-Err-clause-counts : goal.returns-in-Err-clause-counts
returns-in-Err-clause-counts g c = counts_stay (job_in c.args.words.now) (record { files = g.F.Store.files c.args.files.now; counts = g.F.Store.counts c.args.files.now })
