use Rattle.std.proofs.Common.{◌≡◌, ◌++◌, ◌∙◌, ap}
use Rattle.session_texts.specs.Answers.{source_line}
use Rattle.pipsmake_db.proofs.CommandLemmas.{on_ok_both, source_read, refused_source}
use Rattle.pipsmake_db.proofs.command.answer_source.Goals as goal
use Rattle.fx_lists.proofs.Options.{on_ok}

pub returns-in-Ok : goal.returns-in-Ok
returns-in-Ok c =
    let same = ap (λ names. c.args.out.now ++ source_line names) c.as_slice.ensures in
    on_ok c.write_source.result (λ (w : c.write_source.new.out ≡ c.args.out.now ++ source_line c.as_slice.result.now). source_read c.args.text.now c.args.db.now c.replace.new.self c.args.out.now c.write_source.new.out c.in-Ok.names c.in-Ok.ensures.ok (w ∙ same)) c.write_source.ensures

pub returns-in-Err : goal.returns-in-Err
returns-in-Err c =
    on_ok_both c.write_refusal.result (refused_source c.args.text.now c.args.db.now c.replace.new.self c.args.out.now c.write_refusal.new.out c.in-Err.refusal c.in-Err.ensures.refused c.in-Err.ensures.left)
    c.write_refusal.ensures.line c.write_refusal.ensures.said
