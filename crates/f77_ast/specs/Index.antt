-- Names in a list, and the index in which they are looked up.
use Rattle.std.specs.Prelude.{◌≡◌, ℕ, List, map, length, Option, bytes_eq}
use Rattle.std.specs.HashMap.{get_by}
use Rattle.f77_ast.specs.declared.symbol.Symbol.{Symbol}
use Rattle.f77_ast.specs.declared.name_index.NameIndex.{NameIndex}
use Rattle.f77_ast.specs.Symbols.{number_from}

abbrev pub names_of : List Symbol → List (List ℕ)
names_of ss = map (λ s. s.name) ss

-- the number that the index has for a name
abbrev pub number_in : NameIndex → List ℕ → Option ℕ
number_in i x = get_by (λ k. bytes_eq x k.items) i.numbers

-- the index counts these names, and has for each the number of its first, from 1
pub record Indexes (i : NameIndex) (names : List (List ℕ)) : Type 0 where
  pub count : i.count ≡ length names
  pub numbers : (x : List ℕ) → number_in i x ≡ number_from 1 names x
