-- Rows and systems as JSON data.
use Rattle.std.specs.Prelude.{ℕ, Bool, true, false, List, [], ◌∷◌, map, codes}
use Rattle.serde_json.specs.Data.{Data, boolean, string, object, no_members, member}
use Rattle.affine_systems.specs.declared.row.Var.{Var}
use Rattle.affine_systems.specs.declared.row.Var.TheVariants.{Cell, Exit, Phi, Aux}
use Rattle.affine_systems.specs.declared.row.Term.{Term}
use Rattle.affine_systems.specs.declared.row.Row.{Row}
use Rattle.affine_systems.specs.declared.row.System.{System}
use Rattle.affine_systems.specs.Terms.{number as number_of}
use Rattle.base_json.specs.Written.{list_data, number_data, whole_data}

abbrev pub letter : Var → List ℕ
letter (Cell n) = codes "c"
letter (Exit n) = codes "x"
letter (Phi n) = codes "p"
letter (Aux n) = codes "a"

abbrev pub term_data : Term → Data
term_data t = list_data (string (letter t.var) ∷ number_data (number_of t.var) ∷ whole_data t.factor ∷ [])

abbrev pub flag_data : Bool → Data
flag_data true = number_data 1
flag_data false = number_data 0

abbrev pub row_data : Row → Data
row_data r = list_data (flag_data r.equal ∷ whole_data r.bound ∷ list_data (map term_data r.terms) ∷ [])

abbrev pub system_data : System → Data
system_data s = object (member (codes "rows") (list_data (map row_data s.rows)) (member (codes "weak") (boolean s.weak) no_members))
