-- Names as the grammar gives them have no `:`.
use Rattle.std.proofs.Common.{◌≡◌, ℕ, Bool, true, false, List, [], ◌∷◌, refl, sym, ap, ◌∙◌}
use Rattle.std.specs.Prelude.{nat_eq, if◌then◌else◌}
use Rattle.std.specs.List.{list_any}
use Rattle.std.proofs.lemmas.Bool.{or_from, eqb-true}
use Rattle.f77_exprs.specs.Lexical.{in_name, skip_name}
use Rattle.laws_programs.specs.roundtrip_programs.Statements.Formed.{IsName}
use Rattle.laws_analyses.specs.Regions.Settings.{has_colon}
use Rattle.laws_programs.proofs.Names.{is_other, has_none}

abbrev pub IsTold : List ℕ → Type 0
IsTold x = has_colon x ≡ false

pub name_told : (x : List ℕ) → IsName x → IsTold x
name_told x n = has_none 58 refl x n.whole
