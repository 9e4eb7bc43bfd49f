-- The answer to the small session, by computation.
use Rattle.std.proofs.Common.{◌≡◌, List, [], ◌∷◌, Ok, refl, sym, ap, subst}
use Rattle.std.specs.Prelude.{codes}
use Rattle.std.specs.Fmt.{digits}
use Rattle.fixed_form.specs.Faults.{first_fault}
use Rattle.fixed_form.specs.Reading.{rest_from, reading}
use Rattle.fixed_form.specs.Pieces.{pieces_of}
use Rattle.f77_parser.specs.References.{empty_call_fault}
use Rattle.f77_parser.specs.Modules.{parse_of}
use Rattle.session_texts.specs.declared.command.Command.{Command}
use Rattle.session_texts.specs.declared.command.Command.TheVariants as command
use Rattle.session_texts.specs.Answers.{source_line}
use Rattle.session_texts.specs.Commands.{commands_of}
use Rattle.result_lines.specs.declared.show.Show.{Show}
use Rattle.session_texts.specs.Sources.{source_modules}
use Rattle.pipsmake_db.specs.State.{first_state}
use Rattle.pipsmake_db.specs.Refusals.{refused_text, text_refusal}
use Rattle.pipsmake_db.specs.Answers.{SourceAnswer}
use Rattle.pipsmake_db.specs.Scripts.{AnswersAll}
use Rattle.pipsmake_db.specs.SmallSession.{small_script, small_answer, SmallSession}
use Rattle.pipsmake_db.proofs.CommandLemmas.{accepted_so}

abbrev small_commands : List Command
small_commands = command.Source [] ∷ command.Drop (codes "Q") ∷ command.Bad ∷ command.Make (codes "MARK") (codes "P") ∷ command.Show (codes "PARSED") (codes "*") ∷ command.Print ∷ command.Short ∷ []

commands_are : commands_of small_script ≡ small_commands
unfolding commands_of
commands_are = refl

nothing_is_read : source_modules [] ≡ Ok []
unfolding source_modules reading rest_from first_fault empty_call_fault parse_of pieces_of
nothing_is_read = refl

small_answers : (show : Show) → AnswersAll show first_state small_commands small_answer first_state
unfolding digits
small_answers show = (
  codes "source\n",
  codes "refused 71 NoSuchName\nrefused 80 BadCommand\nrefused 70 NoSuchKind\nrefused 71 NoSuchName\nrefused 50 NoMain\nrefused 81 ShortSource\n",
  first_state,
  accepted_so (text_refusal []) first_state (SourceAnswer first_state []) (source_line []) first_state (ap refused_text nothing_is_read) ([], nothing_is_read, refl, refl),
  (
    codes "refused 71 NoSuchName\n",
    codes "refused 80 BadCommand\nrefused 70 NoSuchKind\nrefused 71 NoSuchName\nrefused 50 NoMain\nrefused 81 ShortSource\n",
    first_state,
    (refl, refl),
    (
      codes "refused 80 BadCommand\n",
      codes "refused 70 NoSuchKind\nrefused 71 NoSuchName\nrefused 50 NoMain\nrefused 81 ShortSource\n",
      first_state,
      (refl, refl),
      (
        codes "refused 70 NoSuchKind\n",
        codes "refused 71 NoSuchName\nrefused 50 NoMain\nrefused 81 ShortSource\n",
        first_state,
        (refl, refl),
        (
          codes "refused 71 NoSuchName\n",
          codes "refused 50 NoMain\nrefused 81 ShortSource\n",
          first_state,
          (refl, refl),
          (
            codes "refused 50 NoMain\n",
            codes "refused 81 ShortSource\n",
            first_state,
            (refl, refl),
            (
              codes "refused 81 ShortSource\n",
              [],
              first_state,
              (refl, refl),
              (refl, refl),
              refl,
            ),
            refl,
          ),
          refl,
        ),
        refl,
      ),
      refl,
    ),
    refl,
  ),
  refl,
)

pub small_session : SmallSession
small_session = λ show. subst (λ (cs : List Command). AnswersAll show first_state cs small_answer first_state) (sym commands_are) (small_answers show)
