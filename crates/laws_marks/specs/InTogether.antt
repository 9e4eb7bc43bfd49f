-- Which locals of a module keep their values together (ANSI X3.9-1978 §8.9, §15.8.4): those of a storage group are saved, or none is.
use Rattle.std.specs.Prelude.{◌≡◌, ℕ, List, Some, Ok}
use Rattle.f77_ast.specs.DeclTrees.{ParsedTree}
use Rattle.f77_ast.specs.declared.symbol.Place.TheVariants.{Local}
use Rattle.f77_ast.specs.Symbols.{SymbolTree}
use Rattle.f77_ast.specs.Shared.{symbol_at}
use Rattle.storage_layout.specs.Symbols.{symbols_of}

abbrev pub LocalsAreSavedTogether : Type 0
LocalsAreSavedTogether = (p : ParsedTree) (ss : List SymbolTree) → symbols_of p ≡ Ok ss → (m n h o q : ℕ) (s t : SymbolTree) → symbol_at ss m ≡ Some s → symbol_at ss n ≡ Some t → s.place ≡ Local h o → t.place ≡ Local h q → s.saved ≡ t.saved
