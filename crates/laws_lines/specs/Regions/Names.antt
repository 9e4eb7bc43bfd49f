-- Names of which something holds: that they are words, or of printable ASCII.
use Rattle.std.specs.Prelude.{ℕ, List}
use Rattle.std.specs.List.{AllByRecursion}
use Rattle.f77_ast.specs.declared.symbol.Place.{Place}
use Rattle.f77_ast.specs.declared.symbol.Place.TheVariants.{Local, Dummy, Block, Constant}
use Rattle.f77_ast.specs.Symbols.{SymbolTree}
use Rattle.f77_meaning.specs.Modules.{Known}

-- the block of a symbol
abbrev pub PlaceNamed : (List ℕ → Type 0) → Place → Type 0
PlaceNamed Name (Local g o) = Unit {0}
PlaceNamed Name (Dummy n) = Unit {0}
PlaceNamed Name (Block b o) = Name b
PlaceNamed Name (Constant v) = Unit {0}

abbrev pub SymbolNamed : (List ℕ → Type 0) → SymbolTree → Type 0
SymbolNamed Name s = Name s.name × PlaceNamed Name s.place

-- a module, its symbols and their blocks
abbrev pub IsNamed : (List ℕ → Type 0) → Known → Type 0
IsNamed Name k = Name k.read.name × AllByRecursion (SymbolNamed Name) k.symbols

-- so it is of each module
abbrev pub AreNamed : (List ℕ → Type 0) → List Known → Type 0
AreNamed Name ks = AllByRecursion (IsNamed Name) ks
