-- What a module says of its names, and which of its statements are a DO WHILE, as the program holds it.
use Rattle.std.specs.Prelude.{ℕ, List, []}
use Rattle.f77_parser.specs.declared.known.Known.{Known}
use Rattle.f77_parser.specs.Elaborated.{Meant, meant_by}

abbrev pub meant : Known → Meant
meant k = meant_by k.bounded k.integers k.logicals k.kinds k.whiles

-- by the names with bounds alone, in a module without a DO WHILE
abbrev pub meant_without : List (List ℕ) → Meant
meant_without bounded = meant_by bounded [] [] [] []
