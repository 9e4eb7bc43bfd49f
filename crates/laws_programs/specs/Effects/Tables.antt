-- What reading makes sure of in modules and their tables.
use Rattle.std.specs.Prelude.{◌≡◌, ℕ, zero, suc, Bool, true, false, not, ◌&&◌, nat_eq, List, [], ◌∷◌, length, Option, Some, None}
use Rattle.std.specs.List.{list_any}
use Rattle.f77_ast.specs.Trees.{ExprTree, ExprTrees}
use Rattle.f77_ast.specs.Trees as tree
use Rattle.f77_ast.specs.declared.symbol.Place.{Place}
use Rattle.f77_ast.specs.declared.symbol.Place.TheVariants as place
use Rattle.f77_ast.specs.Symbols.{BoundTree, SymbolTree}
use Rattle.f77_meaning.specs.Modules.{Known}
use Rattle.laws_programs.specs.Effects.Trees.{StandsBare, ListFits}

-- ---- dummies

abbrev pub is_dummy : Place → Bool
is_dummy (place.Local g o) = false
is_dummy (place.Dummy m) = true
is_dummy (place.Block b o) = false
is_dummy (place.Constant v) = false

abbrev pub HasNoDummy : List SymbolTree → Type 0
HasNoDummy [] = Unit {0}
HasNoDummy (s ∷ ss) = (is_dummy s.place ≡ false) × HasNoDummy ss

-- so many symbols are the dummies from this number on, and no others are dummies
abbrev pub DummiesLead : ℕ → ℕ → List SymbolTree → Type 0
DummiesLead zero n ss = HasNoDummy ss
DummiesLead (suc c) n [] = ⊥
DummiesLead (suc c) n (s ∷ ss) = (s.place ≡ place.Dummy n) × DummiesLead c (suc n) ss

-- ---- bounds

-- constants and scalars (ANSI X3.9-1978 §5.1.1.1)
abbrev pub IsBound : ExprTree → List SymbolTree → Type 0
IsBound (tree.int n) ss = Unit {0}
IsBound (tree.log b) ss = Unit {0}
IsBound (tree.name x) ss = StandsBare x ss
IsBound (tree.element x es) ss = ⊥
IsBound (tree.paren e) ss = IsBound e ss
IsBound (tree.unary o e) ss = IsBound e ss
IsBound (tree.binary o a b) ss = IsBound a ss × IsBound b ss
IsBound (tree.chars x) ss = Unit {0}

abbrev pub IsHigh : Option ExprTree → List SymbolTree → Type 0
IsHigh None ss = Unit {0}
IsHigh (Some e) ss = IsBound e ss

abbrev pub AreBounds : List BoundTree → List SymbolTree → Type 0
AreBounds [] ss = Unit {0}
AreBounds (b ∷ bs) ss = IsBound b.low ss × IsHigh b.high ss × AreBounds bs ss

-- the bounds of each of these symbols
abbrev pub AllBounds : List SymbolTree → List SymbolTree → Type 0
AllBounds [] ss = Unit {0}
AllBounds (s ∷ rest) ss = AreBounds s.bounds ss × AllBounds rest ss

-- ---- modules

-- no `:` and no `/`, which are written between names
abbrev pub is_plain : List ℕ → Bool
is_plain x = not (list_any (λ c. nat_eq c 58) x) && not (list_any (λ c. nat_eq c 47) x)

abbrev pub anything : List ℕ → ExprTrees → Type 0
anything x es = Unit {0}

-- a module with its table, as reading gives them
pub record IsRead (k : Known) : Type 0 where
  pub name : is_plain k.read.name ≡ true
  pub dummies : DummiesLead (length k.read.dummies) 1 k.symbols
  pub main : k.read.main ≡ true → k.read.dummies ≡ []
  pub bounds : AllBounds k.symbols k.symbols
  pub body : ListFits k.read.body k.symbols anything
