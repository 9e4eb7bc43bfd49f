use Rattle.std.proofs.Common.{sym, subst}
use Rattle.result_lines.specs.declared.show.Show.{Show}
use Rattle.session_texts.specs.declared.command.Command.{Command}
use Rattle.session_texts.specs.declared.command.Command.TheVariants.{Source, Drop, Make}
use Rattle.pipsmake_db.specs.AnswerSteps.{Answers}
use Rattle.pipsmake_db.proofs.command.answer_command.Goals as goal
use Rattle.fx_lists.proofs.Options.{on_ok}

pub returns-in-Source : goal.returns-in-Source
returns-in-Source c =
    on_ok c.answer_source.result (λ (h : (show : Show) → Answers show (Source c.in-Source.text) c.args.db.now c.answer_source.new.db c.args.out.now c.answer_source.new.out).
    subst (λ (k : Command). Answers c.args.show k c.args.db.now c.answer_source.new.db c.args.out.now c.answer_source.new.out) (sym c.in-Source.is) (h c.args.show)) c.answer_source.ensures

pub returns-in-Drop : goal.returns-in-Drop
returns-in-Drop c =
    on_ok c.answer_drop.result (λ (h : (show : Show) → Answers show (Drop c.in-Drop.name) c.args.db.now c.answer_drop.new.db c.args.out.now c.answer_drop.new.out).
    subst (λ (k : Command). Answers c.args.show k c.args.db.now c.answer_drop.new.db c.args.out.now c.answer_drop.new.out) (sym c.in-Drop.is) (h c.args.show)) c.answer_drop.ensures

pub returns-in-Make : goal.returns-in-Make
returns-in-Make c =
    on_ok c.answer_make.result (λ (h : (show : Show) → Answers show (Make c.in-Make.kind c.in-Make.name) c.args.db.now c.answer_make.new.db c.args.out.now c.answer_make.new.out).
    subst (λ (k : Command). Answers c.args.show k c.args.db.now c.answer_make.new.db c.args.out.now c.answer_make.new.out) (sym c.in-Make.is) (h c.args.show)) c.answer_make.ensures
