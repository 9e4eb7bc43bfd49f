use Rattle.std.proofs.Common.{◌≡◌, ◌++◌, ◌∙◌, ap}
use Rattle.session_texts.specs.Answers.{text_with_count}
use Rattle.pipsmake_db.proofs.CommandLemmas.{on_ok_both, joined, all_printed, refused_print}
use Rattle.pipsmake_db.proofs.command.answer_print.Goals as goal
use Rattle.fx_lists.proofs.Options.{on_ok}

pub returns-in_ok-append-in-Ok : goal.returns-in_ok-append-in-Ok
returns-in_ok-append-in-Ok c =
    let prints = c.in_ok-prints-in-Ok.prints in
    let made = c.in_ok-append-in-Ok.ensures.ok ∙ ap (λ t. c.args.out.now ++ t) c.as_slice.ensures in
    on_ok c.write_text.result
    (λ (w : c.write_text.new.out ≡ c.append.new.self ++ text_with_count prints.text).
    all_printed c.args.show c.args.db.now c.link.new.self c.print_all.new.db c.args.out.now c.write_text.new.out prints c.in-Ok.ensures.ok c.in-Ok.ensures.same c.in_ok-prints-in-Ok.ensures
    (joined c.args.out.now c.append.new.self c.write_text.new.out prints.made (text_with_count prints.text) made w))
    c.write_text.ensures

pub returns-in-Err : goal.returns-in-Err
returns-in-Err c =
    on_ok_both c.write_refusal.result
    (refused_print c.args.show c.args.db.now c.link.new.self c.args.out.now c.write_refusal.new.out c.in-Err.refusal c.in-Err.ensures.refused c.in-Err.ensures.same)
    c.write_refusal.ensures.line c.write_refusal.ensures.said
