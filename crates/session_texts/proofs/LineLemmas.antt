-- A text is its first line and the lines after it.
use Rattle.fixed_form.proofs.TextLineLemmas.{text_lines-first}

pub ruleset line_steps = (text_lines-first)
