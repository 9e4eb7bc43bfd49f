-- What the table of a module that is not refused says of dummy arguments and constants.
use Rattle.std.specs.Prelude.{◌≡◌, ℤ, ℕ, zero, suc, List, [], ◌∷◌, length, None, Ok, slice_get, Some}
use Rattle.f77_ast.specs.DeclTrees.{ParsedTree}
use Rattle.f77_ast.specs.declared.symbol.Place.TheVariants.{Dummy, Constant}
use Rattle.f77_ast.specs.Symbols.{SymbolTree, number_from}
use Rattle.tracked_cells.specs.Equivalences.{equivalenced_names}
use Rattle.storage_layout.specs.Symbols.{symbols_of}
use Rattle.laws_programs.specs.SymbolTables.Shapes.{symbol_named}

-- no symbol is a dummy
abbrev pub NoDummies : List SymbolTree → Type 0
NoDummies [] = Unit {0}
NoDummies (s ∷ ss) = ((k : ℕ) → s.place ≡ Dummy k → ⊥) × NoDummies ss

-- so many dummies, numbered from m on, and then none
abbrev pub DummiesFirst : ℕ → ℕ → List SymbolTree → Type 0
DummiesFirst m zero ss = NoDummies ss
DummiesFirst m (suc n) [] = ⊥
DummiesFirst m (suc n) (s ∷ ss) = (s.place ≡ Dummy m) × DummiesFirst (suc m) n ss

-- the dummies of a module are its first symbols, in the order of its SUBROUTINE statement (ANSI X3.9-1978 §15.6.1)
abbrev pub DummiesComeFirst : Type 0
DummiesComeFirst = (p : ParsedTree) (ss : List SymbolTree) → symbols_of p ≡ Ok ss → DummiesFirst 1 (length p.module_read.dummies) ss

-- and stand in no EQUIVALENCE (§8.2.3)
abbrev pub DummiesStandAlone : Type 0
DummiesStandAlone = (p : ParsedTree) (ss : List SymbolTree) → symbols_of p ≡ Ok ss → (i k : ℕ) (s : SymbolTree) → slice_get ss i ≡ Some s → s.place ≡ Dummy k → number_from 0 (equivalenced_names p.module_read) s.name ≡ None

-- what a name stands for is no constant with bounds (§8.6)
abbrev pub ConstantsAreScalars : Type 0
ConstantsAreScalars = (p : ParsedTree) (ss : List SymbolTree) → symbols_of p ≡ Ok ss → (x : List ℕ) (s : SymbolTree) (k : ℤ) → symbol_named ss x ≡ Some s → s.place ≡ Constant k → s.bounds ≡ []
