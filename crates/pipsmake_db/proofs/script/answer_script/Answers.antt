use Rattle.std.proofs.Common.{sym, ap, ◌∙◌, subst, length, List}
use Rattle.session_texts.specs.declared.command.Command.{Command}
use Rattle.session_texts.specs.Commands.{AreWithin, commands_of}
use Rattle.pipsmake_db.specs.State.{texts_of}
use Rattle.pipsmake_db.specs.AnswerTexts.{texts_at_end}
use Rattle.pipsmake_db.specs.Outlines.{outline_of}
use Rattle.pipsmake_db.proofs.ScriptLemmas.{SoFar, SoFarAnyway, first_within, rest_within, none_yet, none_anyway, one_more, more_anyway, no_more, no_more_anyway, texts_step}
use Rattle.pipsmake_db.proofs.script.answer_script.Goals as goal
use Rattle.call_equations.proofs.PositionSteps.{first-rest as first_rest}
use Rattle.fx_lists.proofs.Lists.{none_left}

pub loop-rest-init : goal.loop-rest-init
loop-rest-init c =
    let same = c.as_slice-rest.ensures ∙ c.in_ok-commands.ensures.defined in
    record {
      short = subst (AreWithin (length c.args.script.now)) (sym c.as_slice-rest.ensures) c.in_ok-commands.ensures.short;
      texts = ap (texts_at_end (texts_of c.args.db.now)) same;
      anyway = none_anyway (commands_of c.args.script.now) c.as_slice-rest.result.now c.new-out.result c.args.db.now same c.new-out.ensures;
      so_far = λ s at. none_yet c.args.show s (commands_of c.args.script.now) c.as_slice-rest.result.now c.new-out.result c.args.db.now same c.new-out.ensures at;
    }

pub answer_command-requires : goal.answer_command-requires
answer_command-requires c =
    let parts = first_rest c.loop-rest.rest.now c.command-item.result _ c.in-len1-up.len_at_least c.command-item.is in
    first_within (length c.args.script.now) 16777216 c.command-item.result _ c.requires (subst (AreWithin (length c.args.script.now)) parts c.loop-rest.invariant.short)

pub loop-rest-preserved : goal.loop-rest-preserved
loop-rest-preserved c =
    let parts = first_rest c.loop-rest.rest.now c.command-item.result _ c.in-len1-up.len_at_least c.command-item.is in
    record {
      short = rest_within (length c.args.script.now) c.command-item.result _ (subst (AreWithin (length c.args.script.now)) parts c.loop-rest.invariant.short);
      texts = texts_step (texts_of c.loop-rest.db) (texts_of c.answer_command.new.db) c.command-item.result c.loop-rest.rest.now _ parts c.in_ok-answer_command.ensures.texts ∙ c.loop-rest.invariant.texts;
      anyway = more_anyway (outline_of c.args.db.now) (commands_of c.args.script.now) c.command-item.result _ c.loop-rest.out c.answer_command.new.out c.loop-rest.db c.answer_command.new.db
          (subst (λ (r : List Command). SoFarAnyway (outline_of c.args.db.now) (commands_of c.args.script.now) r c.loop-rest.out c.loop-rest.db) parts c.loop-rest.invariant.anyway) c.in_ok-answer_command.ensures.anyway;
      so_far = λ s at. one_more c.args.show s (commands_of c.args.script.now) c.command-item.result _ c.loop-rest.out c.answer_command.new.out c.loop-rest.db c.answer_command.new.db
          (subst (λ (r : List Command). SoFar c.args.show s (commands_of c.args.script.now) r c.loop-rest.out c.loop-rest.db) parts (c.loop-rest.invariant.so_far s at)) c.in_ok-answer_command.ensures;
    }

pub returns : goal.returns
returns c = record {
  texts = sym (ap (texts_at_end (texts_of c.loop-rest.db)) (none_left c.loop-rest.rest.now c.in_default.len_below)) ∙ c.loop-rest.invariant.texts;
  anyway = no_more_anyway (outline_of c.args.db.now) c.args.script.now c.loop-rest.out c.loop-rest.db
      (subst (λ (r : List Command). SoFarAnyway (outline_of c.args.db.now) (commands_of c.args.script.now) r c.loop-rest.out c.loop-rest.db) (none_left c.loop-rest.rest.now c.in_default.len_below) c.loop-rest.invariant.anyway);
  from = λ s at. no_more c.args.show s c.args.script.now c.loop-rest.out c.loop-rest.db
      (subst (λ (r : List Command). SoFar c.args.show s (commands_of c.args.script.now) r c.loop-rest.out c.loop-rest.db) (none_left c.loop-rest.rest.now c.in_default.len_below) (c.loop-rest.invariant.so_far s at));
}
