-- The modules of a base, and what the results of each may name.
use Rattle.std.specs.Prelude.{ℕ, ◌&&◌, if◌then◌else◌, nat_le, nat_lt, bytes_eq, List, [], ◌∷◌, length, map, slice_get, Option, Some, None, option_map, option_and_then, Result, Ok, Err}
use Rattle.f77_ast.specs.DeclTrees.{ParsedTree}
use Rattle.f77_parser.specs.Gives.{Refused}
use Rattle.f77_ast.specs.Symbols.{number_from}
use Rattle.f77_ast.specs.Index.{names_of as own_names}
use Rattle.f77_meaning.specs.Modules.{symbol_names}
use Rattle.session_texts.specs.pipsmake_meaning.Texts.{ReadModule, module_read}
use Rattle.base_json.specs.Shapes.{when}
use Rattle.base_json.specs.Distinct.{are_new}
use Rattle.base_values.specs.Modules.{ModuleNames, module_names}
use Rattle.base_text.specs.declared.base.BaseModule.{BaseModule}
use Rattle.base_text.specs.declared.known.Known.{Known}
use Rattle.base_text.specs.declared.modules.Table.{Table}

-- ---- one module

-- what results name of a module that was read
abbrev pub names_read : ReadModule → ModuleNames
names_read r = module_names (symbol_names r.table) r.module_is.module_read.body

-- of a module of this name, whose symbols have numbers below 2^32
abbrev pub names_if : List ℕ → ReadModule → Option ModuleNames
names_if x r = when (bytes_eq r.module_is.module_read.name x && nat_lt (length r.table) 4294967296) (names_read r)

-- the text, of at most 16,777,216 bytes, is the one module of the name
abbrev pub names_of : BaseModule → Option ModuleNames
names_of m = if nat_le (length m.text) 16777216 then option_and_then (names_if m.name) (module_read m.text) else None

-- ---- all modules

abbrev pub module_names_in : List BaseModule → List (List ℕ)
module_names_in ms = map (λ m. m.name) ms

abbrev pub names_each : List BaseModule → Option (List ModuleNames)
names_each [] = Some []
names_each (m ∷ ms) = option_and_then (λ n. option_map (λ ns. n ∷ ns) (names_each ms)) (names_of m)

-- the names of modules, and what the results of each may name
pub record KnownNames : Type 0 where
  pub names : List (List ℕ)
  pub found : List ModuleNames

abbrev pub known : List BaseModule → List ModuleNames → KnownNames
known ms ns = record { names = module_names_in ms; found = ns }

-- no name comes twice
abbrev pub known_in : List BaseModule → Option KnownNames
known_in ms = if are_new [] (module_names_in ms) then option_map (known ms) (names_each ms) else None

-- of the module with a name
abbrev pub names_at : KnownNames → List ℕ → Option ModuleNames
names_at k x = option_and_then (slice_get k.found) (number_from 0 k.names x)

-- ---- in code: cited by private functions alone

-- the one module that was read
abbrev pub tree_in : Result (List ParsedTree) Refused → Option ParsedTree
tree_in (Ok []) = None
tree_in (Ok (p ∷ [])) = Some p
tree_in (Ok (p ∷ q ∷ ps)) = None
tree_in (Err r) = None

abbrev pub table_names : Table → ModuleNames
table_names t = record { names = own_names t.symbols; statements = t.numbers.statements; loops = t.numbers.loops }

abbrev pub known_names : Known → KnownNames
known_names k = record { names = k.names; found = map table_names k.tables }
