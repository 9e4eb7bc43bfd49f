-- Characters as bytes.
use Rattle.std.proofs.Common.{◌≡◌, ℕ, ◌+◌, ◌<◌, ◌≤◌, Bool, true, false, ◌&&◌, List, [], ◌∷◌, ◌++◌, length, drop, take, get_or, nat_lt, refl, sym, ap, ◌∙◌}
use Rattle.base_json.specs.Shapes.{is_latin}
use Rattle.base_json.proofs.Lists.{drop_step}

pub latin_step : (cs : List ℕ) (i : ℕ) → i < length cs → is_latin (drop i cs) ≡ (nat_lt (get_or cs i 0) 256 && is_latin (drop (i + 1) cs))
latin_step cs i l = ap is_latin (drop_step cs i 0 l)

pub ruleset latin_steps = (latin_step)
