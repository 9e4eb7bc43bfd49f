-- Kinds of blocks, and what ends them.
use Rattle.std.specs.Prelude.{ℕ, Bool, true, false, nat_eq, Option, Some, None}
use Rattle.f77_structure.specs.declared.open.Kind.{Kind}
use Rattle.f77_structure.specs.declared.open.Kind.TheVariants.{Do, If, Else}
use Rattle.f77_structure.specs.declared.open.Sought.{Sought}
use Rattle.f77_structure.specs.declared.open.Sought.TheVariants.{BlockIf, PlainDo, Neither}

abbrev pub is_label : ℕ → Option ℕ → Bool
is_label l None = false
is_label l (Some m) = nat_eq m l

-- a DO that a statement with this label ends
abbrev pub ends_at : ℕ → Kind → Bool
ends_at l (Do t) = is_label l t
ends_at l If = false
ends_at l Else = false

abbrev pub is_if : Kind → Bool
is_if (Do t) = false
is_if If = true
is_if Else = true

-- a block IF behind its ELSE
abbrev pub is_else : Kind → Bool
is_else (Do t) = false
is_else If = false
is_else Else = true

abbrev pub is_unlabelled : Option ℕ → Bool
is_unlabelled None = true
is_unlabelled (Some l) = false

abbrev pub is_plain_do : Kind → Bool
is_plain_do (Do t) = is_unlabelled t
is_plain_do If = false
is_plain_do Else = false

-- ELSE, ELSE IF and END IF go with a block IF, and END DO with a DO without a label
abbrev pub fits : Sought → Kind → Bool
fits BlockIf k = is_if k
fits PlainDo k = is_plain_do k
fits Neither k = false
