-- The faults that end a run: where the standard leaves its meaning open, or forbids it.
use Rattle.std.specs.Prelude.{ℕ}

pub data Fault : Type 0 where
  -- a result that INTEGER of 32 bits does not have, a zero divisor, a zero step of a DO
  Arithmetic : Fault
  -- a read of a unit that is undefined, or whose value has another type
  Unset : Fault
  -- a subscript out of bounds, or an array dummy that is larger than what its actual offers
  Bounds : Fault
  -- input that is absent, or of another type
  Input : Fault
  -- a write of an active DO variable, or of the unit of an expression that is an actual argument
  Locked : Fault
  -- a write of a unit that two names of one active call reach (ANSI X3.9-1978 §15.9.3.6)
  Shared : Fault

abbrev pub fault_number : Fault → ℕ
fault_number Arithmetic = 1
fault_number Unset = 2
fault_number Bounds = 3
fault_number Input = 4
fault_number Locked = 5
fault_number Shared = 6
