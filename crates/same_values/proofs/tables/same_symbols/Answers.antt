use Rattle.std.proofs.Common.{◌≡◌, Bool, true, sym, subst, map, rules}
use Rattle.f77_ast.specs.Symbols.{symbol_tree}
use Rattle.std.specs.Cmp.Lexicographic.{pointwise}
use Rattle.same_values.specs.SymbolTests.{symbol_test}
use Rattle.same_values.proofs.SymbolLaws.{symbols_decide}
use Rattle.same_values.proofs.tables.same_symbols.Goals as goal

pub returns : goal.returns
returns c =
    let a = map symbol_tree c.args.a.now in
    let b = map symbol_tree c.args.b.now in
    let same : c.symbols_test.result ≡ pointwise symbol_test a b = search rules in
    subst (λ (r : Bool). (r ≡ true → a ≡ b) × (a ≡ b → r ≡ true)) (sym same) (symbols_decide a b)
