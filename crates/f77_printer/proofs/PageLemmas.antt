-- Lines and comments on a page.
use Rattle.std.proofs.Common.{◌≡◌, ℕ, ◌+◌, ◌<◌, List, ◌++◌, length, get_or, drop, ap, append_assoc, append-nil}
use Rattle.std.specs.Prelude.{codes}
use Rattle.f77_printer.specs.PageText.{lines_text}
use Rattle.fx_lists.proofs.Lists.{at_place as next_part}

pub lines_text-drop : (ls : List (List ℕ)) (i : ℕ) (l : List ℕ) → i < length ls → l ≡ get_or ls i l
    → lines_text (drop i ls) ≡ (l ++ codes "\n") ++ lines_text (drop (i + 1) ls)
lines_text-drop ls i l h e = ap lines_text (next_part ls i l h e)

pub ruleset lines_steps = (lines_text-drop, append_assoc, append-nil)
