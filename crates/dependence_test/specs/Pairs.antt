-- The system of a pair of regions: it has a point wherever two iterations may access one unit.
use Rattle.std.specs.Prelude.{ℕ, ◌+◌, length, Bool, true, false}
use Rattle.affine_systems.specs.declared.row.Var.TheVariants.{Aux}
use Rattle.affine_systems.specs.declared.row.System.{System}
use Rattle.affine_systems.specs.Calls.{meet}
use Rattle.preconditions.specs.transformer_algebra.Renaming.{push_rows}
use Rattle.dependence_test.specs.declared.body.LoopBody.{LoopBody}
use Rattle.dependence_test.specs.declared.pairs.Apart.{Apart}
use Rattle.dependence_test.specs.Variables.{at_iteration, index_at, named_subscripts, with_own_subscripts}
use Rattle.dependence_test.specs.Order.{order_rows}

abbrev pub apart : System → ℕ → Apart
apart s n = record { system = s; next = n }

-- the least number above those of the cells of both
abbrev pub after_cells : LoopBody → ℕ
after_cells b = length b.cells + length b.cells

abbrev pub earlier : LoopBody → System → System
earlier b s = at_iteration 0 b s

abbrev pub later : LoopBody → System → System
later b s = at_iteration (length b.cells) b s

-- subscripts are shared where both regions are of one variable
abbrev pub own_subscripts : Bool → ℕ → System → Apart
own_subscripts true n s = apart s n
own_subscripts false n s = apart (with_own_subscripts n s) (n + length (named_subscripts s))

abbrev pub later_apart : LoopBody → Bool → System → Apart
later_apart b alike s = own_subscripts alike (after_cells b) (later b s)

abbrev pub with_later : LoopBody → System → Apart → System
with_later b s w = push_rows (meet (earlier b s) w.system) (order_rows b.step (index_at 0 b) (index_at (length b.cells) b) (Aux w.next))

-- a system of the earlier iteration and one of the later
abbrev pub pair_system : LoopBody → Bool → System → System → System
pair_system b alike s r = with_later b s (later_apart b alike r)
