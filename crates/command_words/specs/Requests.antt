-- What accepted words request, by the program's own rules.
use Rattle.std.specs.Prelude.{◌≡◌, ℕ, ◌+◌, ◌*◌, ◌-◌, ◌&&◌, ◌||◌, ◌==◌, Bool, true, false, not, nat_le, List, [], ◌∷◌, Option, Some, None, is_some, option_map, option_and_then, Result, Ok, Err, if◌then◌else◌, codes}
use Rattle.std.specs.declared.alloc.AllocError.{AllocError}
use Rattle.std.specs.Str.{bytes_eq}
use Rattle.command_words.specs.Options.{Accepts, options_of}
use Rattle.command_words.specs.declared.options.Options.{Options}
use Rattle.command_words.specs.declared.request.Show.{Show}
use Rattle.command_words.specs.declared.request.Show.TheVariants.{All, Bare, Why}
use Rattle.command_words.specs.declared.request.Task.{Task}
use Rattle.command_words.specs.declared.request.Task.TheVariants.{Write, Session, Generate}
use Rattle.command_words.specs.declared.request.Request.{Request}

abbrev pub show_named : List ℕ → Option Show
show_named word =
    if bytes_eq word (codes "all") then Some All
    else if bytes_eq word (codes "bare") then Some Bare
    else if bytes_eq word (codes "why") then Some Why
    else None

-- all, unless --show says otherwise
abbrev pub shown : Option (List ℕ) → Option Show
shown None = Some All
shown (Some word) = show_named word

-- a number and one digit more
abbrev pub with_digit : ℕ → ℕ → Option ℕ
with_digit n byte = if nat_le 48 byte && nat_le byte 57 then Some (10 * n + (byte - 48)) else None

-- what one to three digits write
abbrev pub number_named : List ℕ → Option ℕ
number_named [] = None
number_named (a ∷ []) = with_digit 0 a
number_named (a ∷ b ∷ []) = option_and_then (λ n. with_digit n b) (with_digit 0 a)
number_named (a ∷ b ∷ c ∷ []) = option_and_then (λ n. with_digit n c) (option_and_then (λ n. with_digit n b) (with_digit 0 a))
number_named (a ∷ b ∷ c ∷ d ∷ rest) = None

abbrev pub at_most_200 : Option ℕ → Option ℕ
at_most_200 None = None
at_most_200 (Some n) = if nat_le n 200 then Some n else None

abbrev pub begins_with_zero : List ℕ → Bool
begins_with_zero [] = false
begins_with_zero (a ∷ rest) = a == 48

-- 1 to 200, without a leading zero
abbrev pub count_named : List ℕ → Option ℕ
count_named word = if begins_with_zero word then None else at_most_200 (number_named word)

-- --generate stands beside --show alone, and without INPUT
abbrev pub is_alone : Options → Bool
is_alone o = not (is_some o.input) && not o.session && not (is_some o.base) && not o.verify && not o.reductions && not o.bounds

-- --reductions and --bounds are for programs, not for scripts
abbrev pub session_task : Options → Option Task
session_task o = if o.reductions || o.bounds then None else Some Session

abbrev pub task_for : Options → Option (List ℕ) → Option Task
task_for o None = if o.session then session_task o else Some Write
task_for o (Some word) = if is_alone o then option_map Generate (count_named word) else None

abbrev pub task_of : Options → Option Task
task_of o = task_for o o.generate

-- neither the empty name nor `-`
abbrev pub may_be_base : Option (List ℕ) → Bool
may_be_base None = true
may_be_base (Some []) = false
may_be_base (Some (a ∷ [])) = not (a == 45)
may_be_base (Some (a ∷ b ∷ rest)) = true

-- --verify stands with --base alone
abbrev pub can_verify : Options → Bool
can_verify o = not o.verify || is_some o.base

abbrev pub input_name : Option (List ℕ) → List ℕ
input_name None = codes "-"
input_name (Some name) = name

abbrev pub request_with : Options → Option Show → Option Task → Option Request
request_with o None task = None
request_with o (Some show) None = None
request_with o (Some show) (Some task) = Some (record { task = task; show = show; base = o.base; verify = o.verify; reductions = o.reductions; bounds = o.bounds; input = input_name o.input })

abbrev pub request_in : Options → Option Request
request_in o = if may_be_base o.base && can_verify o then request_with o (shown o.show) (task_of o) else None

-- the words are accepted and request this, or they are not accepted or their options break a rule; or memory ran out
abbrev pub RequestedBy : List (List ℕ) → Result (Option Request) AllocError → Type 0
RequestedBy words (Ok (Some r)) = Accepts words × (request_in (options_of words) ≡ Some r)
RequestedBy words (Ok None) = Accepts words → request_in (options_of words) ≡ None
RequestedBy words (Err e) = Unit {0}
