-- What storage units hold (ANSI X3.9-1978 §17.1): stores give each unit, by its number, its contents.
use Rattle.std.specs.Prelude.{ℕ, Bool, true, false, if◌then◌else◌, nat_eq, ℤ, pos}

-- the type of the value that is there, or none
pub data Tag : Type 0 where
  Int : Tag
  Log : Tag
  Undefined : Tag

abbrev pub same_tag : Tag → Tag → Bool
same_tag Int Int = true
same_tag Int Log = false
same_tag Int Undefined = false
same_tag Log Int = false
same_tag Log Log = true
same_tag Log Undefined = false
same_tag Undefined Int = false
same_tag Undefined Log = false
same_tag Undefined Undefined = true

-- an undefined unit keeps the number of its last value; of a LOGICAL value the number is 1 where it is true, and 0 where it is false
pub record Content : Type 0 where
  pub tag : Tag
  pub number : ℤ

abbrev pub content : Tag → ℤ → Content
content t n = record { tag = t; number = n }

abbrev pub truth : Bool → ℤ
truth true = pos 1
truth false = pos 0

-- a unit becomes undefined (§17.3)
abbrev pub undefined : Content → Content
undefined c = content Undefined c.number

abbrev pub Store : Type 0
Store = ℕ → Content

-- a function with one value given anew
abbrev pub put : {A : Type 0} → (ℕ → A) → ℕ → A → ℕ → A
put f k a x = if nat_eq x k then a else f x

-- no unit has a value
abbrev pub empty_store : Store
empty_store u = content Undefined (pos 0)
