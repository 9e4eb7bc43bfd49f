use Rattle.std.proofs.Common.{◌≡◌, ◌++◌, length, map}
use Rattle.f77_ast.specs.Symbols.{symbol_tree}
use Rattle.call_equations.specs.Sides.{sides_tree}
use Rattle.region_translation.specs.Links.{AllLinksFit, dummy_links}
use Rattle.region_translation.proofs.links.push_dummies.Given as goal

abbrev pub invariant-loop-rest : goal.invariant-loop-rest
invariant-loop-rest l = record {
  same : l.out.items ++ dummy_links (sides_tree l.sides) l.v l.rank l.number (map symbol_tree l.rest) ≡ l.fn.out.items ++ dummy_links (sides_tree l.sides) l.v l.rank 0 (sides_tree l.sides).callee.symbols;
  fits : AllLinksFit l.out.items;
}

abbrev pub decreases-loop-rest : goal.decreases-loop-rest
decreases-loop-rest l = length l.rest
