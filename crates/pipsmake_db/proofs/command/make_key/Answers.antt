use Rattle.std.proofs.Common.{◌≡◌, ◌++◌, ◌∙◌, ap}
use Rattle.session_texts.specs.Answers.{made_lines, ok_line}
use Rattle.pipsmake_db.proofs.CommandLemmas.{on_ok_both, joined, result_made, refused_make}
use Rattle.pipsmake_db.proofs.command.make_key.Goals as goal
use Rattle.fx_lists.proofs.Options.{on_ok}

pub returns-in_ok-write_made-in-Ok : goal.returns-in_ok-write_made-in-Ok
returns-in_ok-write_made-in-Ok c =
    let made = c.in_ok-write_made-in-Ok.ensures ∙ ap (λ ks. c.args.out.now ++ made_lines ks) c.as_slice.ensures in
    on_ok c.write_ok.result
    (λ (w : c.write_ok.new.out ≡ c.write_made.new.out ++ ok_line c.args.key.now).
    result_made c.args.kind.now c.args.key.now.name c.args.key.now.kind c.args.db.now c.make.new.self c.args.out.now c.write_ok.new.out c.in-Ok.made c.requires c.in-Ok.ensures.ok
    (joined c.args.out.now c.write_made.new.out c.write_ok.new.out (made_lines c.in-Ok.made) (ok_line c.args.key.now) made w))
    c.write_ok.ensures

pub returns-in-Err : goal.returns-in-Err
returns-in-Err c =
    on_ok_both c.write_refusal.result
    (refused_make c.args.kind.now c.args.key.now.name c.args.db.now c.make.new.self c.args.out.now c.write_refusal.new.out c.in-Err.refusal c.in-Err.ensures.refused c.in-Err.ensures.left)
    c.write_refusal.ensures.line c.write_refusal.ensures.said
