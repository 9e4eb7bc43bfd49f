use Rattle.std.proofs.Common.{ℕ, List, sym, subst}
use Rattle.std.specs.Prelude.{OnOk}
use Rattle.result_lines.specs.declared.show.Show.{Show}
use Rattle.session_texts.specs.declared.command.Command.TheVariants.{Make}
use Rattle.pipsmake_db.specs.AnswerSteps.{Answers}
use Rattle.pipsmake_db.proofs.CommandLemmas.{unknown_kind}
use Rattle.pipsmake_db.proofs.command.answer_make.Goals as goal
use Rattle.fx_lists.proofs.Options.{on_ok}

pub returns-in-None : goal.returns-in-None
returns-in-None c = on_ok c.write_refused.result (unknown_kind c.args.kind.now c.args.name.now c.args.db.now c.args.out.now c.write_refused.new.out (sym c.in-None.ensures)) c.write_refused.ensures

pub returns-in_ok-clone-in-Some : goal.returns-in_ok-clone-in-Some
returns-in_ok-clone-in-Some c =
    subst (λ (x : List ℕ). OnOk c.make_key.result ((show : Show) → Answers show (Make c.args.kind.now x) c.args.db.now c.make_key.new.db c.args.out.now c.make_key.new.out)) c.in_ok-clone-in-Some.ensures.cases c.make_key.ensures
