use Rattle.std.proofs.Common.{◌≡◌, ◌++◌, map, drop}
use Rattle.f77_ast.specs.Index.{names_of}
use Rattle.base_values.specs.Read.{region_key}
use Rattle.base_values.proofs.regions.region_keys.Given as goal

abbrev pub invariant-loop-r : goal.invariant-loop-r
invariant-loop-r l = l.keys ++ map (region_key (names_of l.symbols)) (drop l.r-index l.regions) ≡ map (region_key (names_of l.symbols)) l.fn.regions
