-- What is known around a statement: the scope of its module, the transformer of the statement of each number, READ and WRITE at each statement, and what a
-- CALL first reads.
use Rattle.std.specs.Prelude.{List}
use Rattle.f77_ast.specs.declared.results.At.{At}
use Rattle.array_regions.specs.call_translation.Scopes.{ScopeTree}
use Rattle.array_regions.specs.region_sets.declared.region.Region.{Region}
use Rattle.array_regions.specs.Loops.{Found}
use Rattle.array_regions.specs.Calls.{Called}

pub record KnownTree : Type 0 where
  pub scope : ScopeTree
  pub does : Found
  pub accesses : List (At (List Region))
  pub called : Called
