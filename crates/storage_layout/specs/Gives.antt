-- What the calls return, beside what the definition gives.
use Rattle.std.specs.Prelude.{◌≡◌, ℕ, List, map, Result, Ok, Err}
use Rattle.f77_ast.specs.declared.symbol.Symbol.{Symbol}
use Rattle.f77_ast.specs.Symbols.{SymbolTree, symbol_tree}
use Rattle.fx_lists.specs.declared.refusal.Refusal.{Refusal}
use Rattle.fx_lists.specs.Refusals.{number_of}
use Rattle.storage_layout.specs.declared.refusal.LayoutRefusal.{LayoutRefusal}
use Rattle.storage_layout.specs.declared.refusal.LayoutRefusal.TheVariants.{At, Memory}

-- a refusal at this line with this number
abbrev pub IsRefusal : Result (List SymbolTree) Refusal → ℕ → ℕ → Type 0
IsRefusal (Ok ss) line code = ⊥
IsRefusal (Err r) line code = (r.line ≡ line) × (number_of r.code ≡ code)

-- the table or the refusal of the definition, unless memory ran out
abbrev pub Gives : Result (List Symbol) LayoutRefusal → Result (List SymbolTree) Refusal → Type 0
Gives (Ok ss) table = table ≡ Ok (map symbol_tree ss)
Gives (Err (At line code)) table = IsRefusal table line code
Gives (Err Memory) table = Unit {0}
