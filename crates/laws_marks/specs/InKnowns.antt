-- What the IN regions of a module that runs are made from.
use Rattle.std.specs.Prelude.{List}
use Rattle.f77_ast.specs.declared.results.At.{At}
use Rattle.in_out_regions.specs.region_sets.declared.region.Region.{Region}
use Rattle.in_out_regions.specs.array_regions.Calls.{Called}
use Rattle.in_out_regions.specs.Known.{KnownTree}
use Rattle.laws_marks.specs.InFrames.{Frame}

-- its scope and transformers, READ and WRITE at its statements, and what CALLs read first
abbrev pub known_in : Frame → List (At (List Region)) → Called → KnownTree
known_in k acc called = record { scope = k.m; does = k.does; accesses = acc; called = called }
