use Rattle.std.proofs.Common.{◌≡◌, codes}
use Rattle.clap.specs.Words.{app_of, with_rule}
use Rattle.command_words.specs.Command.{pips_app, bare_app, valued_rule, flag_rule, input_rule}
use Rattle.command_words.proofs.Adding.{with_rule-next}
use Rattle.command_words.proofs.command.command.Goals as goal

pub returns : goal.returns
returns c =
    let one = with_rule-next _ _ _ _ (valued_rule (codes "show")) c.bare.ensures c.valued.ensures.rule c.in_ok-command.ensures in
    let two = with_rule-next _ _ _ _ (valued_rule (codes "base")) one c.valued-2.ensures.rule c.in_ok-command-2.ensures in
    let three = with_rule-next _ _ _ _ (flag_rule (codes "verify")) two c.flag.ensures.rule c.in_ok-command-3.ensures in
    let four = with_rule-next _ _ _ _ (flag_rule (codes "session")) three c.flag-2.ensures.rule c.in_ok-command-4.ensures in
    let five = with_rule-next _ _ _ _ (valued_rule (codes "generate")) four c.valued-3.ensures.rule c.in_ok-command-5.ensures in
    let six = with_rule-next _ _ _ _ (flag_rule (codes "reductions")) five c.flag-3.ensures.rule c.in_ok-command-6.ensures in
    let seven = with_rule-next _ _ _ _ (flag_rule (codes "bounds")) six c.flag-4.ensures.rule c.in_ok-command-7.ensures in
    with_rule-next _ _ _ _ input_rule seven c.input.ensures.rule c.in_ok-command-8.ensures
