-- What a session answers to a script.
use Rattle.std.specs.Prelude.{◌≡◌, ℕ, List, [], ◌∷◌, ◌++◌}
use Rattle.session_texts.specs.declared.command.Command.{Command}
use Rattle.session_texts.specs.Commands.{commands_of}
use Rattle.result_lines.specs.declared.show.Show.{Show}
use Rattle.pipsmake_db.specs.State.{State}
use Rattle.pipsmake_db.specs.Answers.{AnswersTo}

-- the answers to commands, one after another
abbrev pub AnswersAll : Show → State → List Command → List ℕ → State → Type 0
AnswersAll show s [] out t = (out ≡ []) × (t ≡ s)
AnswersAll show s (c ∷ cs) out t = (lines : List ℕ) × (more : List ℕ) × (next : State) × AnswersTo show s c lines next × AnswersAll show next cs more t × (out ≡ lines ++ more)

-- those to the commands of a script
abbrev pub AnswersScript : Show → State → List ℕ → List ℕ → State → Type 0
AnswersScript show s script out t = AnswersAll show s (commands_of script) out t
