-- The modules of a program that is read, as its runs and the analyses of tracked cells see them.
use Rattle.std.specs.Prelude.{Bool, List, is_some}
use Rattle.std.specs.List.{list_any}
use Rattle.affine_systems.specs.declared.row.System.{System}
use Rattle.f77_ast.specs.declared.variable.Unit.{Unit as BlockUnit}
use Rattle.tracked_cells.specs.Tracked.{tracked_of}
use Rattle.call_graph.specs.declared.graph.Graph.{Graph}
use Rattle.f77_meaning.specs.Areas.{block, unit_at}
use Rattle.f77_meaning.specs.Modules.{Known}
use Rattle.f77_meaning.specs.Linked.{numbering, routine}
use Rattle.preconditions.specs.call_translation.Scopes.{ScopeTree}
use Rattle.preconditions.specs.call_translation.Common.{tracked_at}
use Rattle.preconditions.specs.transformers.Given.{Callees}
use Rattle.laws_analyses.specs.Statements.Results.{found_in, pre_in}
use Rattle.laws_analyses.specs.Statements.Laws.{scope_of, is_scalar}
use Rattle.laws_programs.specs.Storage.Owners.{owns, owns_below}
use Rattle.laws_analyses.specs.Calls.Parts.{Blocks, Part}

-- what statements of a module are looked at with
abbrev pub scope_in : Graph → Known → ScopeTree
scope_in g k = scope_of k.symbols (tracked_of k.read k.symbols g.untracked)

-- some module has a tracked cell at a unit of a block
abbrev pub tracks : List Known → Graph → BlockUnit → Bool
tracks ks g u = list_any (λ k. is_some (tracked_at (scope_in g k) u.block u.offset)) ks

abbrev pub blocks_in : List Known → Graph → Blocks
blocks_in ks g = record { place = λ u. unit_at (numbering ks g) (block u.block) u.offset; track = tracks ks g }

-- a module that is entered where a system holds, with its results
abbrev pub part_of : List Known → Graph → Callees → System → Known → Part
part_of ks g cs entry k = record {
  routine = routine ks g k;
  scope = scope_in g k;
  scalar = is_scalar k.symbols;
  entry = entry;
  found = record { pre = pre_in k.read.body (scope_in g k) cs entry; transformer = found_in k.read.body (scope_in g k) cs };
  owns = owns ks g k.read.name;
  below = owns_below ks g k.read.name;
}
