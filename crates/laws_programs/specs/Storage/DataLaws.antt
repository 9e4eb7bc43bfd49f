-- What the tables of modules that are not refused say of DATA (ANSI X3.9-1978 §9).
use Rattle.std.specs.Prelude.{◌≡◌, ℕ, ℤ, true, List, Some, Ok}
use Rattle.f77_ast.specs.DeclTrees.{ParsedTree}
use Rattle.f77_ast.specs.declared.decl.Scalar.TheVariants.{Int}
use Rattle.f77_ast.specs.Numbers.{in_range}
use Rattle.f77_ast.specs.declared.symbol.Place.TheVariants.{Constant}
use Rattle.f77_ast.specs.Symbols.{SymbolTree}
use Rattle.laws_programs.specs.SymbolTables.Shapes.{symbol_named}
use Rattle.laws_programs.specs.Storage.Programs.{IsModule}
use Rattle.laws_programs.specs.Storage.Initial.{DataLies}
use Rattle.laws_programs.specs.Storage.Calls.{AreLaidOut}

-- INTEGER constants have 32 bits, as reading makes them
abbrev pub ConstantsFit : List SymbolTree → Type 0
ConstantsFit ss = (x : List ℕ) (s : SymbolTree) (k : ℤ) → symbol_named ss x ≡ Some s → s.place ≡ Constant k → s.scalar ≡ Int → in_range k ≡ true

abbrev pub AllConstantsFit : List ParsedTree → List (List SymbolTree) → Type 0
AllConstantsFit ps sss = (i : ℕ) (p : ParsedTree) (ss : List SymbolTree) → IsModule ps sss i p ss → ConstantsFit ss

-- then DATA gives values to units of locals alone, and to none past their ends
abbrev pub DataStaysInLocals : Type 0
DataStaysInLocals = (ps : List ParsedTree) (sss : List (List SymbolTree)) → AreLaidOut ps sss → AllConstantsFit ps sss → DataLies ps sss
