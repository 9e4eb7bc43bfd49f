-- Module texts that change.
use Rattle.std.specs.Prelude.{ℕ, List, [], ◌∷◌, filter, not, bytes_eq, if◌then◌else◌}
use Rattle.pipsmake_meaning.specs.Texts.{ModuleText}

-- a text in the place of the one of its name, or as the last
abbrev pub put : ModuleText → List ModuleText → List ModuleText
put u [] = u ∷ []
put u (t ∷ ts) = if bytes_eq t.name u.name then u ∷ ts else t ∷ put u ts

-- texts one after another
abbrev pub replaced : List ModuleText → List ModuleText → List ModuleText
replaced ts [] = ts
replaced ts (u ∷ us) = replaced (put u ts) us

-- all texts but those of this name
abbrev pub without : List ℕ → List ModuleText → List ModuleText
without x ts = filter (λ t. not (bytes_eq t.name x)) ts
