-- What is written of a system is read as that system.
use Rattle.std.specs.Prelude.{◌≡◌, ℕ, List, Some}
use Rattle.affine_systems.specs.declared.row.System.{System}
use Rattle.affine_systems.specs.Given.{Fits}
use Rattle.system_text.specs.SystemText.{system_text, precondition_line, transformer_line}
use Rattle.system_text.specs.Reading.{Bytes, read_system, read_precondition_line, read_transformer_line}
use Rattle.system_text.specs.Printed.{AreNames, AreNumbers, IsOfNames, IsOrdered}

abbrev pub SystemsReadBack : Type 0
SystemsReadBack = (names : List Bytes) (s : System) → AreNames names → IsOrdered s → IsOfNames names s → read_system names (system_text names s) ≡ Some s

abbrev pub PreconditionLinesReadBack : Type 0
PreconditionLinesReadBack = (names : List Bytes) (s : System) → AreNames names → IsOrdered s → IsOfNames names s → read_precondition_line names (precondition_line names s) ≡ Some s

abbrev pub TransformerLinesReadBack : Type 0
TransformerLinesReadBack =
    (names : List Bytes) (cells : List ℕ) (s : System) → AreNames names → AreNumbers names cells → IsOrdered s → IsOfNames names s
    → read_transformer_line names (transformer_line names cells s) ≡ Some (cells, s)

-- each system that a call of affine_systems gives
abbrev pub FittingSystemsAreOrdered : Type 0
FittingSystemsAreOrdered = (s : System) → Fits s → IsOrdered s
