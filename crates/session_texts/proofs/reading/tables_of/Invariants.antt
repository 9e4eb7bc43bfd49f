use Rattle.std.proofs.Common.{◌≡◌, drop, length, map}
use Rattle.f77_ast.specs.PlainDecl.{parsed_tree}
use Rattle.f77_ast.specs.Symbols.{symbol_tree}
use Rattle.session_texts.proofs.SymbolLaws.{remaining}
use Rattle.session_texts.proofs.reading.tables_of.Given as goal
use Rattle.session_texts.specs.Sources.{tables_of}

abbrev pub invariant-loop-parsed : goal.invariant-loop-parsed
invariant-loop-parsed l = record {
  one_each : length l.tables ≡ l.parsed-index;
  same : remaining (map (map symbol_tree) l.tables) (map parsed_tree (drop l.parsed-index l.parsed-items)) ≡ tables_of (map parsed_tree l.parsed-items);
}
