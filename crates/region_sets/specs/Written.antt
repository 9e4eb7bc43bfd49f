-- How regions are written, with the names of the symbols, from 1.
use Rattle.std.specs.Prelude.{Bool, true, false, List, ◌++◌, map, codes}
use Rattle.affine_systems.specs.declared.row.System.{System}
use Rattle.affine_systems.specs.Rows.{system}
use Rattle.system_text.specs.SystemText.{Bytes, joined, name_at, system_text, weak_text}
use Rattle.f77_ast.specs.declared.variable.Variable.{Variable}
use Rattle.f77_ast.specs.declared.variable.Variable.TheVariants.{Own, Block, Saved}
use Rattle.f77_ast.specs.Variables.{variable_text}
use Rattle.region_sets.specs.declared.region.Access.{Access}
use Rattle.region_sets.specs.declared.region.Access.TheVariants.{Read, Write, In, Out}
use Rattle.region_sets.specs.declared.region.Region.{Region}
use Rattle.region_sets.specs.Regions.{any_weak}

abbrev pub access_text : Access → Bytes
access_text Read = codes "READ "
access_text Write = codes "WRITE "
access_text In = codes "IN "
access_text Out = codes "OUT "

-- a name, a block as `/B/`, a saved local of another module as `S:X`
abbrev pub name_text : List Bytes → Variable → Bytes
name_text names (Own n) = name_at names n
name_text names (Block b) = variable_text (Block b)
name_text names (Saved s x) = variable_text (Saved s x)

-- between braces; that a row was lost stands at the end of the line
abbrev pub piece_text : List Bytes → System → Bytes
piece_text names s = system_text names (system s.rows false)

abbrev pub pieces_text : List Bytes → List System → Bytes
pieces_text names ss = joined (codes " + ") (map (piece_text names) ss)

abbrev pub exact_text : Bool → Bytes
exact_text true = codes " EXACT"
exact_text false = codes " MAY"

abbrev pub region_text : List Bytes → Region → Bytes
region_text names r =
    access_text r.kind ++ (name_text names r.variable ++ (codes " " ++ (pieces_text names r.pieces ++ (exact_text r.exact ++ weak_text (any_weak r.pieces)))))
