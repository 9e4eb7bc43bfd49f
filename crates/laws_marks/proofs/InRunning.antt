-- A module with the places of its variables, and the variables that its regions may name.
use Rattle.std.specs.Prelude.{ℕ, Bool, List}
use Rattle.f77_ast.specs.Places.{Place, Places}
use Rattle.f77_ast.specs.Calls.{Meaning}
use Rattle.f77_ast.specs.declared.variable.Variable.{Variable}
use Rattle.call_graph.specs.declared.graph.Graph.{Graph}
use Rattle.f77_meaning.specs.Modules.{Known}
use Rattle.preconditions.specs.transformers.Given.{Callees}
use Rattle.in_out_regions.specs.array_regions.Calls.{Called}
use Rattle.laws_analyses.specs.Calls.Parts.{Blocks, Part, Sane}
use Rattle.laws_analyses.specs.Regions.Programs.{Regular}
use Rattle.laws_analyses.proofs.Regions.Bounds.{setting}
use Rattle.laws_marks.specs.InFrames.{Frame}
use Rattle.laws_marks.specs.InLaid.{Laid}

module _ (ks : List Known) (g : Graph) (calls : Called) (b : Blocks) (cs : Callees) (k : Part) (sane : Sane b k) (regular : Regular k) (turns : ℕ) (callee : List ℕ → Meaning) (ps : List Place) (may_name : Variable → Bool) (laid : Laid ks g k may_name) where
  abbrev pub frame : Places → Frame
  frame at = record { base = setting ks g calls b cs k sane regular turns callee ps at; may_name = may_name; own = laid.own; told = laid.told; low = k.below }
