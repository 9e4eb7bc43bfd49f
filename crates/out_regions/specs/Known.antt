-- What is known in a module: its scope, the transformer of the statement of each number, READ and WRITE at each statement, and IN.
use Rattle.std.specs.Prelude.{List}
use Rattle.f77_ast.specs.declared.results.At.{At}
use Rattle.in_out_regions.specs.call_translation.Scopes.{ScopeTree}
use Rattle.in_out_regions.specs.region_sets.declared.region.Region.{Region}
use Rattle.in_out_regions.specs.array_regions.Loops.{Found}

pub record KnownTree : Type 0 where
  pub scope : ScopeTree
  pub does : Found
  pub accesses : List (At (List Region))
  pub ins : List (At (List Region))
