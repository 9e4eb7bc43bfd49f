-- How deep the parentheses of a statement stand in one another.
use Rattle.std.specs.Prelude.{ℕ, ◌+◌, ◌-◌, Bool, true, false, not, ◌&&◌, nat_eq, nat_lt, nat_le, List, [], ◌∷◌, if◌then◌else◌}
use Rattle.f77_structure.specs.declared.depth.Depth.{Depth}

-- a parenthesis opens, and 64 are open
abbrev pub passes : ℕ → Depth → Bool
passes c d = (nat_eq c 40 && not d.quoted) && nat_le 64 d.opened

-- behind a character: an apostrophe, and outside constants a parenthesis, changes something
abbrev pub after : ℕ → Depth → Depth
after c d =
    if nat_eq c 39 then record d { quoted = not d.quoted }
    else if d.quoted then d
    else if nat_eq c 40 then record d { opened = d.opened + 1 }
    else if nat_eq c 41 && nat_lt 0 d.opened then record d { opened = d.opened - 1 }
    else d

abbrev pub is_deep_from : Depth → List ℕ → Bool
is_deep_from d [] = false
is_deep_from d (c ∷ cs) = if passes c d then true else is_deep_from (after c d) cs

-- more than 64 parentheses stand in one another
abbrev pub is_deep : List ℕ → Bool
is_deep body = is_deep_from (record { opened = 0; quoted = false }) body
