-- Open blocks, and the lists of statements of a module.
use Rattle.std.specs.Prelude.{ℕ, Bool, true, false, not, ◌&&◌, ◌||◌, nat_le, Option, Some, None}
use Rattle.f77_structure.specs.declared.open.Open.{Open}
use Rattle.f77_structure.specs.declared.open.End.{End}
use Rattle.f77_structure.specs.declared.open.End.TheVariants as ends
use Rattle.f77_structure.specs.declared.open.Span.{Span}
pub use Rattle.f77_structure.specs.Kinds.{is_label, ends_at, is_if, is_unlabelled, is_plain_do, fits}

-- a DO whose last statement may not be one, unless that is told already
unfoldable pub can_spoil : ℕ → Open → Bool
can_spoil l o = ends_at l o.kind && not o.spoiled

-- a block IF, or a DO without a label, is open, this being the innermost open block
abbrev pub within_if : Option Open → Bool
within_if None = false
within_if (Some o) = is_if o.kind || o.in_if

abbrev pub within_do : Option Open → Bool
within_do None = false
within_do (Some o) = is_plain_do o.kind || o.in_do

abbrev pub is_until : ℕ → End → Bool
is_until place ends.Open = true
is_until place (ends.At until) = nat_le place until

-- a list, with the blocks in it, reaches from the statement that opened it to the one that closed it
unfoldable pub contains : Span → ℕ → Bool
contains s place = nat_le s.from place && is_until place s.end
