-- Names of which none comes twice.
use Rattle.std.specs.Prelude.{ℕ, Bool, true, ◌&&◌, List, [], ◌∷◌, ◌++◌, is_none}
use Rattle.f77_ast.specs.Symbols.{number_from}

-- none of some keys is among those before it, the first of which are given
abbrev pub are_new : List (List ℕ) → List (List ℕ) → Bool
are_new before [] = true
are_new before (k ∷ ks) = is_none (number_from 1 before k) && are_new (before ++ k ∷ []) ks
