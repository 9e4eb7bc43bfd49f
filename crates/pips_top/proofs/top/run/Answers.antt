use Rattle.std.proofs.Common.{rules, ℕ, List, [], codes, inl, refl}
use Rattle.pips_top.specs.Laws.{ReadSoundly, AnsweredSoundly}
use Rattle.pips_top.specs.Run.{CausedBy, Outside, StopsBy}
use Rattle.pips_top.specs.declared.status.Status.TheVariants.{Done, WriteFault}
use Rattle.pips_top.proofs.Soundness.{Laws, Sent, CutOff, caused_done, caused_fault, defined_from, output_refused}
use Rattle.pips_top.proofs.Stopping.{stop_caused, stop_defined, stop_refused, stop_complete}
use Rattle.pips_top.proofs.top.run.Goals as goal

laws : ReadSoundly → AnsweredSoundly → Laws
laws sound answered = record { sound = sound; answered = answered }

pub returns-in-All : goal.returns-in-All
returns-in-All g c =
    let old : Outside = record {
      store = record { files = g.F.Store.files c.args.files.now; counts = g.F.Store.counts c.args.files.now };
      out = g.O.Sink.taken c.args.out.now;
      out_faults = g.O.Sink.faults c.args.out.now;
      err = g.E.Sink.taken c.args.err.now;
      err_faults = g.E.Sink.faults c.args.err.now;
    } in
    let new : Outside = record {
      store = record { files = g.F.Store.files c.reply_to.new.files; counts = g.F.Store.counts c.reply_to.new.files };
      out = g.O.Sink.taken c.send.new.sink;
      out_faults = g.O.Sink.faults c.send.new.sink;
      err = g.E.Sink.taken c.args.err.now;
      err_faults = g.E.Sink.faults c.args.err.now;
    } in
    let sent : Sent c.args.words.now old new = search rules in
    let cause : CausedBy c.args.words.now old new Done [] = caused_done (laws c.written_is_sound.ensures c.answered_is_sound.ensures) c.args.words.now old new sent in
    record {
      line = [];
      cause = cause;
      err = search rules;
      counts = search rules;
      out_faults = search rules;
      err_faults = search rules;
      defined = λ held is settled accepted. defined_from c.args.words.now old new [] cause held is;
      refused = output_refused c.args.words.now old.store new.store cause.0 Done cause.1;
      complete = λ held is accepted done none. inl refl;
    }

pub returns-in-Writing : goal.returns-in-Writing
returns-in-Writing g c =
    let old : Outside = record {
      store = record { files = g.F.Store.files c.args.files.now; counts = g.F.Store.counts c.args.files.now };
      out = g.O.Sink.taken c.args.out.now;
      out_faults = g.O.Sink.faults c.args.out.now;
      err = g.E.Sink.taken c.args.err.now;
      err_faults = g.E.Sink.faults c.args.err.now;
    } in
    let new : Outside = record {
      store = record { files = g.F.Store.files c.reply_to.new.files; counts = g.F.Store.counts c.reply_to.new.files };
      out = g.O.Sink.taken c.send.new.sink;
      out_faults = g.O.Sink.faults c.send.new.sink;
      err = g.E.Sink.taken c.tell.new.err;
      err_faults = g.E.Sink.faults c.tell.new.err;
    } in
    let line : List ℕ = codes "pips: cannot write\n" in
    let cut : CutOff c.args.words.now old new = search rules in
    let cause : CausedBy c.args.words.now old new WriteFault line = caused_fault (laws c.written_is_sound.ensures c.answered_is_sound.ensures) c.args.words.now old new cut in
    record {
      line = line;
      cause = cause;
      err = search rules;
      counts = search rules;
      out_faults = search rules;
      err_faults = search rules;
      defined = λ held is settled accepted. cc;
      refused = output_refused c.args.words.now old.store new.store cause.0 WriteFault cause.1;
      complete = λ held is accepted done none. elim (none.out cut.2) [ ];
    }

pub returns-in-Stopping : goal.returns-in-Stopping
returns-in-Stopping g c =
    let old : Outside = record {
      store = record { files = g.F.Store.files c.args.files.now; counts = g.F.Store.counts c.args.files.now };
      out = g.O.Sink.taken c.args.out.now;
      out_faults = g.O.Sink.faults c.args.out.now;
      err = g.E.Sink.taken c.args.err.now;
      err_faults = g.E.Sink.faults c.args.err.now;
    } in
    let new : Outside = record {
      store = record { files = g.F.Store.files c.reply_to.new.files; counts = g.F.Store.counts c.reply_to.new.files };
      out = g.O.Sink.taken c.args.out.now;
      out_faults = g.O.Sink.faults c.args.out.now;
      err = g.E.Sink.taken c.tell-in-Stopping.new.err;
      err_faults = g.E.Sink.faults c.tell-in-Stopping.new.err;
    } in
    let words = c.args.words.now in
    let status = c.in-Stopping.status in
    let line = c.in-Stopping.line in
    let stops : StopsBy words old.store new.store status line = c.in-Stopping.ensures.answer in
    let cause : CausedBy words old new status line = stop_caused words old new status line stops refl in
    record {
      line = line;
      cause = cause;
      err = search rules;
      counts = search rules;
      out_faults = search rules;
      err_faults = search rules;
      defined = stop_defined words old new status line stops refl;
      refused = stop_refused words old new status line stops;
      complete = stop_complete words old new status line stops refl;
    }
