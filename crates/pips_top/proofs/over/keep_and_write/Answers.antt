use Rattle.std.proofs.Common.{refl}
use Rattle.pips_top.specs.Run.{Stored}
use Rattle.pips_top.proofs.OverBase.{left_by, kept_with}
use Rattle.pips_top.proofs.over.keep_and_write.Goals as goal

pub returns-in-None-clause-answer : goal.returns-in-None-clause-answer
returns-in-None-clause-answer g c =
    let saved = c.in-Ok.ensures in
    (refl, (c.in-Ok.left, left_by c.args.db.now c.in-Ok.left saved.base saved.saved saved.keys saved.grammar, c.in-None.ensures.answer))

pub returns-in-Some-clause-answer : goal.returns-in-Some-clause-answer
returns-in-Some-clause-answer g c =
    let old : Stored = record { files = g.F.Store.files c.args.files.now; counts = g.F.Store.counts c.args.files.now } in
    let new : Stored = record { files = g.F.Store.files c.keep_base.new.files; counts = g.F.Store.counts c.keep_base.new.files } in
    let saved = c.in-Ok.ensures in
    kept_with old new c.args.opening.now.name c.args.db.now c.args.text c.in-Ok.left (left_by c.args.db.now c.in-Ok.left saved.base saved.saved saved.keys saved.grammar) c.in-Some.reply c.in-Some.ensures.answer
