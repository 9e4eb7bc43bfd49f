-- Lines that say what holds, and names that they can hold.
use Rattle.std.specs.Prelude.{◌≡◌, ℕ, List, [], ◌∷◌, true}
use Rattle.std.specs.List.{list_all}
use Rattle.affine_systems.specs.declared.row.System.{System}
use Rattle.system_text.specs.SystemText.{precondition_line, transformer_line}
use Rattle.fixed_form.specs.Cards.{is_dropped}
use Rattle.roundtrip_programs.specs.Cards.Good.{IsComment, is_printable}

-- of printable ASCII alone
abbrev pub IsShown : List ℕ → Type 0
IsShown text = list_all is_printable text ≡ true

abbrev pub AreShown : List (List ℕ) → Type 0
AreShown [] = Unit {0}
AreShown (text ∷ texts) = record { first : IsShown text; others : AreShown texts }

-- a comment line that reading drops
pub record IsClaimLine (line : List ℕ) : Type 0 where
  pub comment : IsComment line
  pub dropped : is_dropped line ≡ true

-- what holds, and what a statement changes, is written in such lines, whatever it is, where the names are of printable ASCII
abbrev pub LinesArePassedOver : Type 0
LinesArePassedOver = (names : List (List ℕ)) (cells : List ℕ) (s : System) → AreShown names → IsClaimLine (precondition_line names s) × IsClaimLine (transformer_line names cells s)
