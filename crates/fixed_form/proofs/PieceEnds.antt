-- The lines where modules end are small.
use Rattle.std.proofs.Common.{ℕ, ◌<◌, ◌^◌, List, [], ◌∷◌, All, Bool, true, false, if◌then◌else◌}
use Rattle.std.proofs.lemmas.List.Elements.{All-nil, All-cons, All-head, All-tail}
use Rattle.fixed_form.specs.declared.line.Line.{Line}
use Rattle.fixed_form.specs.Laws.{AreSmall}
use Rattle.fixed_form.specs.Reading.{is_end}
use Rattle.fixed_form.specs.Pieces.{end_lines}

abbrev IsLine : ℕ → Type 0
IsLine line = line < 2 ^ 28

abbrev IsSmall : Line → Type 0
IsSmall s = (s.first < 2 ^ 28) × (s.last < 2 ^ 28)

small-by : (here : Bool) (line : ℕ) (lines : List ℕ) → IsLine line → All IsLine lines → All IsLine (if here then line ∷ lines else lines)
small-by true line lines h hs = All-cons IsLine line lines h hs
small-by false line lines h hs = hs

pub small_ends : (ss : List Line) → AreSmall ss → All (λ line. line < 2 ^ 28) (end_lines ss)
small_ends [] h = All-nil IsLine
small_ends (s ∷ ss) h = small-by (is_end s) s.last (end_lines ss) (All-head IsSmall s ss h).1 (small_ends ss (All-tail IsSmall s ss h))

pub ruleset end_steps = (small_ends)
