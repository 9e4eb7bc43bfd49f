-- Blocks that are looked up one after another.
use Rattle.std.proofs.Common.{◌≡◌, ℕ, ◌+◌, ◌<◌, List, length, drop, get_or, Option, Some, add-one}
use Rattle.std.specs.Prelude.{bytes_eq, if◌then◌else◌}
use Rattle.std.proofs.Math.Seq.{drop-cons}
use Rattle.f77_ast.specs.Symbols.{number_from}

pub number_from-drop : (ys : List (List ℕ)) (x : List ℕ) (i : ℕ) (d : List ℕ) → i < length ys → number_from i (drop i ys) x ≡ (if bytes_eq x (get_or ys i d) then Some i else number_from (i + 1) (drop (i + 1) ys) x)
number_from-drop ys x i d h = rw (add-one, drop-cons ys i d)

pub ruleset place_steps = (number_from-drop)
