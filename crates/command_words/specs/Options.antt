-- The options among words.
use Rattle.std.specs.Prelude.{◌≡◌, ℕ, Bool, false, List, [], Option, Some, None, codes}
use Rattle.std.specs.Str.{bytes_eq}
use Rattle.clap.specs.Words.{Row, fault_of, matches_of, first_of}
use Rattle.command_words.specs.Command.{pips_app}
use Rattle.command_words.specs.Texts.{AreTexts}
use Rattle.command_words.specs.declared.options.Options.{Options}
use Rattle.command_words.specs.declared.options.Read.{Read}
use Rattle.command_words.specs.declared.options.Read.TheVariants.{Options as Gives, Refused, Memory}

-- whether the value is `true`, as a flag that was given has it
abbrev pub is_true : Option (List ℕ) → Bool
is_true None = false
is_true (Some text) = bytes_eq text (codes "true")

abbrev pub options_in : List Row → Options
options_in rows = record {
  show = first_of (codes "show") rows;
  base = first_of (codes "base") rows;
  verify = is_true (first_of (codes "verify") rows);
  session = is_true (first_of (codes "session") rows);
  generate = first_of (codes "generate") rows;
  reductions = is_true (first_of (codes "reductions") rows);
  bounds = is_true (first_of (codes "bounds") rows);
  input = first_of (codes "input") rows;
}

-- the words are text, and the command has no fault at them
unfoldable pub Accepts : List (List ℕ) → Type 0
Accepts words = AreTexts words × (fault_of pips_app words ≡ [])

-- the options among accepted words
unfoldable pub options_of : List (List ℕ) → Options
options_of words = options_in (matches_of pips_app words)

-- the words are read, refused exactly where they are not accepted, or memory ran out
abbrev pub WordsGive : List (List ℕ) → Read → Type 0
WordsGive words (Gives options) = Accepts words × (options ≡ options_of words)
WordsGive words Refused = Accepts words → ⊥
WordsGive words Memory = Unit {0}

-- text words: refused exactly where the command has a fault
abbrev pub TextsGive : List (List ℕ) → Read → Type 0
TextsGive words (Gives options) = (fault_of pips_app words ≡ []) × (options ≡ options_in (matches_of pips_app words))
TextsGive words Refused = fault_of pips_app words ≡ [] → ⊥
TextsGive words Memory = Unit {0}
