use Rattle.std.proofs.Common.{sym, ◌∙◌}
use Rattle.session_texts.proofs.ScriptLemmas.{found_taken}
use Rattle.session_texts.proofs.script.command_at.Goals as goal

pub returns-in-Some-clause-found : goal.returns-in-Some-clause-found
returns-in-Some-clause-found c =
    found_taken c.args.line.now c.args.lines.now c.take_source.new.lines c.in-Heading.count c.in_ok-text-in-Heading.field-0 c.in-Some.text (sym c.in_ok-said_by.ensures ∙ c.in-Heading.is) c.in-Some.is
    c.in_ok-text-in-Heading.ensures.taken c.in_ok-text-in-Heading.ensures.enough
