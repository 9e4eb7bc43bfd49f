-- What is kept of the modules of a session: names, texts, trees and tables of symbols in one order.
use Rattle.std.specs.Prelude.{◌≡◌, ℕ, List, map}
use Rattle.f77_ast.specs.declared.places.Parsed.{Parsed}
use Rattle.f77_ast.specs.PlainDecl.{parsed_tree}
use Rattle.f77_ast.specs.declared.symbol.Symbol.{Symbol}
use Rattle.f77_ast.specs.Symbols.{symbol_tree}
use Rattle.pipsmake_meaning.specs.Texts.{ModuleText, AreModules, names_in, trees_in, tables_in}
use Rattle.session_texts.specs.Modules.{NamesDiffer}

pub record AreKept (ts : List ModuleText) (names : List (List ℕ)) (trees : List Parsed) (tables : List (List Symbol)) : Type 0 where
  pub names_are : names ≡ names_in ts
  pub trees_are : map parsed_tree trees ≡ trees_in ts
  pub tables_are : map (map symbol_tree) tables ≡ tables_in ts
  pub modules : AreModules ts
  pub distinct : NamesDiffer ts
