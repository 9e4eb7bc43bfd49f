use Rattle.std.proofs.Common.{◌≡◌, ◌++◌, ◌∙◌, ap}
use Rattle.session_texts.specs.Answers.{made_lines}
use Rattle.pipsmake_db.proofs.CommandLemmas.{on_ok_both, joined, result_shown, refused_show}
use Rattle.pipsmake_db.proofs.command.answer_show.Goals as goal
use Rattle.fx_lists.proofs.Options.{on_ok}

pub returns-in_ok-write_made-in-Ok : goal.returns-in_ok-write_made-in-Ok
returns-in_ok-write_made-in-Ok c =
    let made = c.in_ok-write_made-in-Ok.ensures ∙ ap (λ ks. c.args.out.now ++ made_lines ks) c.as_slice.ensures in
    let text = ap (λ t. c.write_made.new.out ++ t) c.as_slice-in-Ok.ensures in
    on_ok c.append.result
    (λ (w : c.append.new.self ≡ c.write_made.new.out ++ c.as_slice-in-Ok.result.now).
    result_shown c.args.show c.args.kind.now c.args.name.now c.args.db.now c.value.new.self c.args.out.now c.append.new.self c.in-Ok.shown c.in-Ok.ensures.ok
    (joined c.args.out.now c.write_made.new.out c.append.new.self (made_lines c.in-Ok.shown.made) c.in-Ok.shown.text made (w ∙ text)))
    c.append.ensures.ok

pub returns-in-Err : goal.returns-in-Err
returns-in-Err c =
    on_ok_both c.write_refusal.result
    (refused_show c.args.show c.args.kind.now c.args.name.now c.args.db.now c.value.new.self c.args.out.now c.write_refusal.new.out c.in-Err.refusal c.in-Err.ensures.refused c.in-Err.ensures.left)
    c.write_refusal.ensures.line c.write_refusal.ensures.said
