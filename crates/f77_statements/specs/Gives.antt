-- What a function of this crate returns, beside what the grammar gives.
use Rattle.std.specs.Prelude.{◌≡◌, Option, Result, Ok, Err}
use Rattle.f77_exprs.specs.declared.at.Cursor.{Cursor}
use Rattle.f77_exprs.specs.declared.parse_error.ParseError.{ParseError}
use Rattle.f77_exprs.specs.State.{State, state}
use Rattle.f77_exprs.specs.State.{Gives as Reads}
use Rattle.f77_statements.specs.declared.phrase.Phrase.{Phrase}
use Rattle.f77_statements.specs.declared.refusal.Cause.{Cause}
use Rattle.f77_statements.specs.declared.refusal.Refusal.{Refusal}
use Rattle.f77_statements.specs.declared.refusal.Refusal.TheVariants.{Because, Memory}
use Rattle.f77_statements.specs.Phrases.{PhraseTree, phrase_tree}
use Rattle.f77_statements.specs.Causes.{verdict}

-- the tree or the cause, unless memory ran out
abbrev pub Gives : Result Phrase Refusal → Result PhraseTree Cause → Type 0
Gives (Ok p) read = read ≡ Ok (phrase_tree p)
Gives (Err (Because c)) read = read ≡ Err c
Gives (Err Memory) read = Unit {0}

-- what the verdict on a reading gives
abbrev pub ForRead : Result (Phrase × Cursor) ParseError → Result Phrase Refusal → Type 0
ForRead found result =
    (read : Option (PhraseTree × State)) → Reads (λ x. (phrase_tree x.0, state x.1)) found read → Gives result (verdict read)
