-- What reading functions return, beside what the definitions give.
use Rattle.std.specs.Prelude.{◌≡◌, ℕ, Option, Some, None, Result, Ok, Err}
use Rattle.base_json.specs.declared.decode_error.DecodeError.{DecodeError}
use Rattle.base_json.specs.declared.decode_error.DecodeError.TheVariants as decode_error
use Rattle.base_text.specs.declared.base.Base.{Base}
use Rattle.base_text.specs.declared.refusal.BaseRefusal.{BaseRefusal}
use Rattle.base_text.specs.declared.refusal.BaseRefusal.TheVariants.{NotJson, WrongVersion, WrongShape, NumberTooBig, Memory}

-- what is read, seen as plain data, or that it is none, unless memory ran out
abbrev pub GivesAs : {A B : Type 0} → (A → B) → Result A DecodeError → Option B → Type 0
GivesAs f (Ok a) read = read ≡ Some (f a)
GivesAs f (Err decode_error.Shape) read = read ≡ None
GivesAs f (Err decode_error.Memory) read = Unit {0}

-- the base, or why there is none, unless memory ran out
abbrev pub GivesBase : Result Base BaseRefusal → Result Base BaseRefusal → Type 0
GivesBase (Ok b) read = read ≡ Ok b
GivesBase (Err NotJson) read = read ≡ Err NotJson
GivesBase (Err WrongVersion) read = read ≡ Err WrongVersion
GivesBase (Err WrongShape) read = read ≡ Err WrongShape
GivesBase (Err NumberTooBig) read = read ≡ Err NumberTooBig
GivesBase (Err Memory) read = Unit {0}

abbrev pub refusal_of : DecodeError → BaseRefusal
refusal_of decode_error.Shape = WrongShape
refusal_of decode_error.Memory = Memory

-- the number of a refusal
abbrev pub number_of : BaseRefusal → Option ℕ
number_of NotJson = Some 60
number_of WrongVersion = Some 62
number_of WrongShape = Some 61
number_of NumberTooBig = Some 63
number_of Memory = None
