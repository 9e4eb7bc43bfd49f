-- What is written of a program that was read, and what a session prints, is sound.
use Rattle.std.proofs.Common.{◌≡◌, ℕ, Bool, true, false, List, ◌++◌, Option, Some, None, Ok, ap, sym, ◌∙◌, subst}
use Rattle.pipsmake_base.specs.session_texts.declared.command.Command.{Command}
use Rattle.pipsmake_base.specs.session_texts.Answers.{made_lines, text_with_count}
use Rattle.laws_programs.specs.roundtrip_programs.Pieces.Joined.{joined_texts}
use Rattle.pipsmake_base.specs.pipsmake_meaning.Texts.{tables_in}
use Rattle.pipsmake_base.specs.laws_database.ProgramTexts.{texts_of, joined_modules}
use Rattle.pipsmake_base.specs.result_lines.declared.show.Show.{Show}
use Rattle.pipsmake_base.specs.pipsmake_db.declared.refusal.DbRefusal.{DbRefusal}
use Rattle.pipsmake_base.specs.pipsmake_db.AnswerLaws as database
use Rattle.pipsmake_base.specs.pipsmake_db.AnswerLaws.{EachPrintIsTheProgram}
use Rattle.pipsmake_base.specs.pipsmake_db.Refusals.{link_refusal}
use Rattle.pipsmake_base.specs.pipsmake_db.Scripts.{AnswersAll}
use Rattle.pipsmake_base.specs.pipsmake_db.State.{State}
use Rattle.pips_top.specs.Bounded.{BoundsHold, BoundsWanted}
use Rattle.pips_top.specs.Laws.{ReadClaimsHold, ReadBoundsHold, ReadAllSaid, ReadLinesMean, ReadWrittenBack, ReadClaimsBack, ReadMarkedBack, ReadRunsInterleaved, ReadSoundly, AnsweredSoundly}
use Rattle.pips_top.specs.Program.{ProgramTree}
use Rattle.pips_top.specs.Reading.{reading}
use Rattle.pips_top.specs.Shown.{alone}
use Rattle.pips_top.specs.Sound.{PrintBy}
use Rattle.pips_top.proofs.Alone.{written_alone}
use Rattle.pips_top.proofs.ReadBack.{reading_is}

wanted_by : (bounds : Bool) (p : ProgramTree) → BoundsHold p → BoundsWanted bounds p
wanted_by false p h = tt
wanted_by true p h = h

pub soundly_from : ReadClaimsHold → ReadBoundsHold → ReadAllSaid → ReadLinesMean → ReadWrittenBack → ReadClaimsBack → ReadMarkedBack → ReadRunsInterleaved → ReadSoundly
soundly_from holds on_bounds all lines back claimed marked interleaved show bytes p e = record {
  claims = holds bytes p e;
  bounds = wanted_by show.bounds p (on_bounds bytes p e);
  whole = all bytes p e;
  lines = lines show bytes p e;
  back = back show bytes p e;
  claimed = claimed show bytes p e;
  marked = marked show bytes p e;
  interleaved = interleaved show bytes p e (marked show bytes p e);
}

printed_from : ReadSoundly → (show : Show) (s : State) (r : Option DbRefusal) (lines : List ℕ) → database.PrintBy show s r lines → PrintBy show s.texts r lines
printed_from law show s None lines p =
    let bytes : List ℕ = joined_texts (texts_of s.texts) in
    let program : ProgramTree = record { modules = joined_modules s.texts; tables = tables_in s.texts; graph = p.graph } in
    let e : reading bytes ≡ Ok program = reading_is bytes (joined_modules s.texts) (tables_in s.texts) p.graph p.program in
    let text : List ℕ → List ℕ = λ t. made_lines p.now ++ text_with_count t in
    record { program = program; as_program = e; sound = law (alone show) bytes program e; now = p.now; is = p.written ∙ ap text (sym (written_alone show program)) }
printed_from law show s (Some r) lines e = e

pub answered_from : EachPrintIsTheProgram → ReadSoundly → AnsweredSoundly
answered_from prints law show s script out end modules answers before after e =
    let P : List Command → Type 0 = λ commands. AnswersAll show s commands out end in
    let a = prints show s end before after out (subst P e answers) modules in
    record {
      earlier = a.earlier;
      lines = a.lines;
      later = a.later;
      is = a.is;
      here = a.here;
      next = a.next;
      end = end;
      until = a.until;
      from = a.from;
      printed = printed_from law show a.here (link_refusal a.here.texts) a.lines a.printed;
    }
