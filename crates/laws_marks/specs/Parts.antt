-- The reduction variables of a DO at its executions.
use Rattle.std.specs.Prelude.{◌≡◌, ℕ, List, []}
use Rattle.f77_ast.specs.Trees.{LoopTree}
use Rattle.f77_ast.specs.Places.{Variable, Places}
use Rattle.f77_ast.specs.declared.variable.Variable.TheVariants.{Own}
use Rattle.call_graph.specs.declared.graph.Graph.{Graph}
use Rattle.f77_meaning.specs.Modules.{Known, names, fixed, dummies_from}
use Rattle.f77_meaning.specs.Linked.{numbering}
use Rattle.preconditions.specs.transformer_algebra.Laws.{In}
use Rattle.loop_marker.specs.Jumps.{body_of}
use Rattle.result_lines.specs.declared.reduction.Part.{Part}
use Rattle.result_lines.specs.declared.reduction.Reduction.{Reduction}
use Rattle.reductions.specs.Standings.{standing_in}
use Rattle.reductions.specs.declared.standing.Standing.TheVariants.{Accumulated}
use Rattle.laws_interleavings.specs.Typed.{IsNoDummy}
use Rattle.laws_marks.specs.ConflictClaims.{IsSole}
use Rattle.laws_marks.specs.Dead.{index_name}
use Rattle.laws_marks.specs.Units.{IsPassing}
use Rattle.laws_marks.specs.Verdicts.{AreOnce}

-- a scalar, a local that is not saved, which no other variable overlaps by the tables; it is no dummy, and lies at its own place; and the body accumulates in it by its operator
pub record PartStands (ks : List Known) (g : Graph) (k : Known) (l : LoopTree) (at : Places) (p : Part) : Type 0 where
  pub local : IsPassing k.symbols p.cell
  pub scalar : local.symbol.bounds ≡ []
  pub sole : IsSole k.symbols (Own p.cell)
  pub no_dummy : IsNoDummy (dummies_from 1 k.symbols) p.cell
  pub placed : at p.cell ≡ fixed (numbering ks g) k p.cell
  pub stands : standing_in k.symbols local.symbol (body_of l) ≡ Accumulated p.op

-- of a DO of which this is said: no two are of one variable, and none is the variable of the DO or one of which iterations have copies
pub record PartsStand (ks : List Known) (g : Graph) (k : Known) (l : LoopTree) (r : Reduction) (at : Places) : Type 0 where
  pub each : (p : Part) → In p r.parts → PartStands ks g k l at p
  pub once : AreOnce r.parts
  pub apart : (p : Part) → In p r.parts → In p.cell r.private → ⊥
  pub no_index : (p : Part) → In p r.parts → (v : ℕ) → names k.symbols (index_name l) ≡ Variable v → p.cell ≡ v → ⊥
