-- Whether two iterations of a DO may access one unit, by pairs of regions of its body.
use Rattle.std.specs.Prelude.{Bool, List, [], ◌∷◌, Option, Some, None, if◌then◌else◌}
use Rattle.affine_systems.specs.declared.row.System.{System}
use Rattle.hull_projection.specs.Refute.{refuted}
use Rattle.f77_ast.specs.Trees.{LoopTree}
use Rattle.f77_ast.specs.Symbols.{SymbolTree}
use Rattle.f77_ast.specs.declared.variable.Variable.{Variable}
use Rattle.f77_ast.specs.declared.marks.Kinds.{Kinds}
use Rattle.region_sets.specs.declared.region.Region.{Region}
use Rattle.dependence_test.specs.declared.body.LoopBody.{LoopBody}
use Rattle.dependence_test.specs.declared.answer.Conflict.{Conflict}
use Rattle.dependence_test.specs.declared.answer.Conflict.TheVariants as answer
use Rattle.dependence_test.specs.Kinds.{is_pair}
use Rattle.dependence_test.specs.Pairs.{pair_system}
use Rattle.f77_ast.specs.Variables.{same_variable}

-- the first, where it is there
abbrev pub or_else : Option System → Option System → Option System
or_else None o = o
or_else (Some s) o = Some s

abbrev pub unless_refuted : System → Option System
unless_refuted s = if refuted s.rows then None else Some s

-- a system of the earlier iteration with each of the later
abbrev pub kept_piece : LoopBody → Bool → System → List System → Option System
kept_piece b alike s [] = None
kept_piece b alike s (r ∷ rs) = or_else (unless_refuted (pair_system b alike s r)) (kept_piece b alike s rs)

abbrev pub kept_pieces : LoopBody → Bool → List System → List System → Option System
kept_pieces b alike [] rs = None
kept_pieces b alike (s ∷ ss) rs = or_else (kept_piece b alike s rs) (kept_pieces b alike ss rs)

abbrev pub kept_pair : LoopBody → Region → Region → Option System
kept_pair b x y = kept_pieces b (same_variable x.variable y.variable) x.pieces y.pieces

abbrev pub kept_if_pair : List SymbolTree → LoopBody → Variable → Kinds → Region → Region → Option System
kept_if_pair ss b v k x y = if is_pair ss v k x y then kept_pair b x y else None

-- a region of the earlier iteration with each of the later
abbrev pub kept_beside : List SymbolTree → LoopBody → Variable → Kinds → Region → List Region → Option System
kept_beside ss b v k x [] = None
kept_beside ss b v k x (y ∷ ys) = or_else (kept_if_pair ss b v k x y) (kept_beside ss b v k x ys)

abbrev pub kept_among : List SymbolTree → LoopBody → Variable → Kinds → List Region → List Region → Option System
kept_among ss b v k [] ys = None
kept_among ss b v k (x ∷ xs) ys = or_else (kept_beside ss b v k x ys) (kept_among ss b v k xs ys)

-- the first system that is not refuted, of the pairs in their order
abbrev pub kept_system : List SymbolTree → LoopBody → Variable → Kinds → Option System
kept_system ss b v k = kept_among ss b v k b.regions b.regions

abbrev pub conflict_of : Option System → Conflict
conflict_of None = answer.None
conflict_of (Some s) = answer.Kept s

-- of a DO, where it is there
abbrev pub conflict_in : List SymbolTree → Variable → Kinds → (LoopTree → LoopBody) → Option LoopTree → Conflict
conflict_in ss v k body None = answer.None
conflict_in ss v k body (Some l) = conflict_of (kept_system ss (body l) v k)
