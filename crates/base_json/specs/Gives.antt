-- What reading functions return, beside what the definitions give.
use Rattle.std.specs.Prelude.{◌≡◌, Option, Some, None, Result, Ok, Err}
use Rattle.base_json.specs.declared.decode_error.DecodeError.{DecodeError}
use Rattle.base_json.specs.declared.decode_error.DecodeError.TheVariants.{Shape, Memory}

-- what is read, or that it is none, unless memory ran out
abbrev pub Gives : {A : Type 0} → Result A DecodeError → Option A → Type 0
Gives (Ok a) read = read ≡ Some a
Gives (Err Shape) read = read ≡ None
Gives (Err Memory) read = Unit {0}
