-- What the lines of a module are read as.
use Rattle.std.specs.Prelude.{◌≡◌, ◌⊎◌, ℕ, List, All, Some}
use Rattle.affine_systems.specs.declared.row.System.{System}
use Rattle.f77_printer.specs.declared.added.Added.{Added}
use Rattle.f77_meaning.specs.Modules.{symbol_names}
use Rattle.preconditions.specs.transformer_algebra.declared.transformer.Transformer.{Transformer}
use Rattle.preconditions.specs.transformers.Lists.{value_at}
use Rattle.system_text.specs.Reading.{read_precondition_line, read_transformer_line}
use Rattle.loop_marker.specs.module_phases.ScalarPhases.{Analysis}

-- what was found to hold where the statement of a number begins, or, by the number 0, where the module is entered
abbrev pub HoldsThere : Analysis → ℕ → System → Type 0
HoldsThere a n s = (value_at a.holds.at n ≡ Some s) ⊎ ((n ≡ 0) × (s ≡ a.holds.summary))

-- what the statement of a number was found to do, or, by the number 0, the module
abbrev pub DoesThere : Analysis → ℕ → Transformer → Type 0
DoesThere a n t = (value_at a.found.own.at n ≡ Some t) ⊎ ((n ≡ 0) × (t ≡ a.found.own.summary))

abbrev pub IsPreconditionLine : Analysis → List (List ℕ) → Added → Type 0
IsPreconditionLine a names x = (s : System) × (read_precondition_line names x.line ≡ Some s) × HoldsThere a x.before s

abbrev pub IsTransformerLine : Analysis → List (List ℕ) → Added → Type 0
IsTransformerLine a names x = (t : Transformer) × (read_transformer_line names x.line ≡ Some (t.cells, t.system)) × DoesThere a x.before t

-- a line is read as just what was found, with its flag for lost rows
abbrev pub MeansResult : Analysis → List (List ℕ) → Added → Type 0
MeansResult a names x = IsPreconditionLine a names x ⊎ IsTransformerLine a names x

-- and so is each of some lines, by the names of the symbols of the module
abbrev pub EachMeans : Analysis → List Added → Type 0
EachMeans a lines = All (MeansResult a (symbol_names a.found.known.symbols)) lines
