-- The names of the symbols of a module.
use Rattle.std.proofs.Common.{List, ap, arith, refl, ◌≡◌, suc, ◌<◌, ◌^◌, [], ◌∷◌, length, map}
use Rattle.f77_ast.specs.Symbols.{SymbolTree, symbol_tree}
use Rattle.f77_meaning.specs.Modules.{symbol_names}
use Rattle.f77_ast.specs.declared.symbol.Symbol.{Symbol}
use Rattle.f77_ast.specs.Index.{names_of}

pub few_names : (ss : List SymbolTree) → length ss < 2 ^ 32 → length (symbol_names ss) < 2 ^ 32
few_names ss h = omega (arith, count ss)
  where
    count : (ts : List SymbolTree) → length (symbol_names ts) ≡ length ts
    count [] = refl
    count (t ∷ ts) = ap suc (count ts)

pub names-same : (ss : List Symbol) → names_of ss ≡ symbol_names (map symbol_tree ss)
names-same [] = refl
names-same (s ∷ ss) = ap (λ xs. s.name ∷ xs) (names-same ss)
