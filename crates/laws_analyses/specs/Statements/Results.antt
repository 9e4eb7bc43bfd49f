-- What the preconditions and transformers of a module claim of its executions.
use Rattle.std.specs.Prelude.{◌≡◌, ℕ, zero, suc, ℤ, Bool, List, Option, Some, None}
use Rattle.affine_systems.specs.declared.row.Var.TheVariants.{Cell, Exit}
use Rattle.affine_systems.specs.declared.row.System.{System}
use Rattle.affine_systems.specs.Points.{Point, HoldsAll}
use Rattle.f77_ast.specs.Trees.{StmtTrees}
use Rattle.f77_ast.specs.Symbols.{SymbolTree}
use Rattle.f77_ast.specs.declared.results.At.{At}
use Rattle.f77_meaning.specs.Occurrences.{Occurrence}
use Rattle.f77_meaning.specs.Claims.{Numbers, PreconditionHolds, TransformerHolds}
use Rattle.affine_forms.specs.Conditions.{no_rows}
use Rattle.affine_forms.specs.Scalars.{is_cell}
use Rattle.preconditions.specs.transformer_algebra.declared.transformer.Transformer.{Transformer}
use Rattle.preconditions.specs.transformer_algebra.Cells.{has}
use Rattle.preconditions.specs.call_translation.Scopes.{ScopeTree}
use Rattle.preconditions.specs.transformers.Given.{Callees}
use Rattle.preconditions.specs.transformers.Lists.{value_at, transformer_at}
use Rattle.preconditions.specs.transformers.Modules.{transformers_of}
use Rattle.preconditions.specs.Statement.{PreconditionList}
use Rattle.preconditions.specs.Modules.{preconditions_of}

-- a system holds of these numbers of cells, whatever its other variables are
abbrev pub SystemHolds : System → Numbers → Type 0
SystemHolds s n = (p : Point) → ((c : ℕ) → p (Cell c) ≡ n c) → HoldsAll p s.rows

-- of the numbers before, and those after
abbrev pub Relates : System → Numbers → Numbers → Type 0
Relates s m n = (p : Point) → ((c : ℕ) → p (Cell c) ≡ m c) → ((c : ℕ) → p (Exit c) ≡ n c) → HoldsAll p s.rows

abbrev pub or_no_rows : Option System → System
or_no_rows None = no_rows
or_no_rows (Some s) = s

-- the results of the body of a module that is entered where a system holds, by the numbers of its statements
abbrev pub found_in : StmtTrees → ScopeTree → Callees → PreconditionList
found_in body m cs n = transformer_at (transformers_of body m cs).at n

abbrev pub pre_in : StmtTrees → ScopeTree → Callees → System → ℕ → System
pre_in body m cs entry n = or_no_rows (value_at (preconditions_of body m (found_in body m cs) entry).at n)

-- at each arrival of a statement its precondition holds, and its transformer holds of the arrival and the normal end; the precondition of the
-- entry, which has the number 0, holds where the module is entered
abbrev pub ScalarsHold : StmtTrees → ScopeTree → Callees → System → ℕ → Occurrence → Type 0
ScalarsHold body m cs entry zero x = PreconditionHolds (is_cell m.tracked) (SystemHolds entry) x
ScalarsHold body m cs entry (suc k) x =
    PreconditionHolds (is_cell m.tracked) (SystemHolds (pre_in body m cs entry (suc k))) x
    × (let t = found_in body m cs (suc k) in TransformerHolds m.symbols (is_cell m.tracked) (has t.cells) (Relates t.system) x)
