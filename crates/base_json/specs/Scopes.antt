-- What a module names, and its variables and numbers out of JSON data.
use Rattle.std.specs.Prelude.{ℕ, ◌+◌, ◌-◌, ◌==◌, Bool, true, false, ◌&&◌, ◌||◌, if◌then◌else◌, nat_eq, nat_lt, nat_le, List, [], ◌∷◌, length, take, drop, slice_index, slice_range, position, Option, Some, None, option_map, option_and_then}
use Rattle.std.specs.List.{list_all, list_any}
use Rattle.std.specs.HashSet.{contains_by}
use Rattle.serde_json.specs.Data.{Data}
use Rattle.f77_ast.specs.Symbols.{number_from}
use Rattle.f77_ast.specs.Index.{names_of}
use Rattle.f77_ast.specs.declared.variable.Variable.{Variable}
use Rattle.f77_ast.specs.declared.variable.Variable.TheVariants.{Own, Block, Saved}
use Rattle.std.specs.Char.{is_ascii_digit, is_ascii_uppercase}
use Rattle.base_json.specs.Shapes.{number_below, text_of, when}
use Rattle.base_json.specs.declared.scope.Scope.{Scope}

-- the names of the symbols, the cells whose exits may be named, and whether a subscript may be
pub record ScopeTree : Type 0 where
  pub names : List (List ℕ)
  pub may_exit : ℕ → Bool
  pub phi : Bool

-- a number of a statement, a symbol and the like
abbrev pub number_of : Data → Option ℕ
number_of d = number_below 4294967296 d

abbrev pub is_symbol : List (List ℕ) → ℕ → Bool
is_symbol names n = nat_lt 0 n && nat_le n (length names)

abbrev pub cell_of : ScopeTree → Data → Option ℕ
cell_of s d = option_and_then (λ n. when (is_symbol s.names n) n) (number_of d)

abbrev pub exit_of : ScopeTree → Data → Option ℕ
exit_of s d = option_and_then (λ n. when (s.may_exit n) n) (number_of d)

-- letters, digits and `_`
abbrev pub in_name : ℕ → Bool
in_name c = is_ascii_uppercase c || (is_ascii_digit c || nat_eq c 95)

-- a letter, and what may follow it
abbrev pub is_name : List ℕ → Bool
is_name [] = false
is_name (c ∷ cs) = is_ascii_uppercase c && list_all in_name cs

-- a name of at most 31 characters
abbrev pub is_short_name : List ℕ → Bool
is_short_name x = is_name x && nat_le (length x) 31

-- a block by its name, the blank one with the empty name
abbrev pub is_block : List ℕ → Bool
is_block [] = true
is_block (c ∷ cs) = is_short_name (c ∷ cs)

abbrev pub block_named : List ℕ → Option Variable
block_named x = when (is_block x) (Block x)

-- a text that begins with a slash: the block between that and a slash at its end
abbrev pub block_in : List ℕ → Option Variable
block_in x = if nat_le 2 (length x) && (slice_index x (length x - 1) == 47) then block_named (slice_range x 1 (length x - 1)) else None

abbrev pub saved_named : List ℕ → List ℕ → Option Variable
saved_named m x = when (is_short_name m && is_short_name x) (Saved m x)

-- a saved local, by where the colon is
abbrev pub saved_at : List ℕ → Option ℕ → Option Variable
saved_at x None = None
saved_at x (Some i) = saved_named (take i x) (drop (i + 1) x)

-- a block as `/B/`, a saved local of another module as `S:X`
abbrev pub foreign_variable : List ℕ → Option Variable
foreign_variable x = if nat_lt 0 (length x) && (slice_index x 0 == 47) then block_in x else saved_at x (position (λ c. c == 58) x)

abbrev pub own_or : List ℕ → Option ℕ → Option Variable
own_or x (Some n) = Some (Own n)
own_or x None = foreign_variable x

-- a symbol by its name, else a block or a saved local
abbrev pub variable_named : List (List ℕ) → List ℕ → Option Variable
variable_named names x = own_or x (number_from 1 names x)

abbrev pub variable_of : ScopeTree → Data → Option Variable
variable_of s d = option_and_then (variable_named s.names) (text_of d)

-- neither exits nor subscripts
abbrev pub cells_alone : List (List ℕ) → ScopeTree
cells_alone names = record { names = names; may_exit = λ n. false; phi = false }

-- systems there may name the exits of these cells
abbrev pub with_exits : List ℕ → ScopeTree → ScopeTree
with_exits cells s = record s { may_exit = λ n. list_any (nat_eq n) cells }

-- systems there may name subscripts
abbrev pub with_phi : ScopeTree → ScopeTree
with_phi s = record s { phi = true }

abbrev pub scope_tree : Scope → ScopeTree
scope_tree s = record {
  names = names_of s.symbols.now;
  may_exit = λ n. contains_by (nat_eq n) s.exits.now;
  phi = s.phi;
}
