use Rattle.std.proofs.Common.{◌≡◌, arith, rules}
use Rattle.std.proofs.lemmas.Grind.{common_steps}
use Rattle.session_texts.specs.Commands.{commands_of}
use Rattle.session_texts.proofs.ScriptLemmas.{are_within}
use Rattle.session_texts.proofs.script.commands.Goals as goal

pub returns-clause-short : goal.returns-clause-short
returns-clause-short c =
    let all : c.loop-line.commands ≡ commands_of c.args.script.now = first_of (search rules, grind (arith, common_steps)) in
    are_within c.args.script.now c.loop-line.commands all
