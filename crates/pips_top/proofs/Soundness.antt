-- What is written is the text of a program that was read and is sound, or the counts of a sample, and what the definitions answer.
use Rattle.std.proofs.Common.{◌≡◌, ℕ, ◌≤◌, ◌⊎◌, inr, List, [], length, take, codes, ap, sym, ◌∙◌, refl, subst, Option, Some, None, IsSomeAnd, Result, Ok, Err}
use Rattle.fx_base.specs.Counts.{Rose}
use Rattle.std.specs.Prelude.{IfSome}
use Rattle.fx_base.specs.Files.{Files, bytes_of, OthersStay}
use Rattle.fx_base.specs.Sink.{appended}
use Rattle.fx_base.specs.declared.store.Role.TheVariants.{Base as BaseRole}
use Rattle.fx_base.specs.declared.store.Fetched.TheVariants as fetched
use Rattle.f77_parser.specs.Gives.{Refused}
use Rattle.pips_top.specs.declared.wanted.Wanted.{Wanted}
use Rattle.pips_top.specs.Sample.{sample_program}
use Rattle.pipsmake_base.specs.pipsmake_db.State.{first_state}
use Rattle.pipsmake_base.specs.base_text.declared.base.Base.{Base}
use Rattle.pipsmake_base.specs.base_text.Written.{kept as kept_text}
use Rattle.pips_top.specs.Answer.{EndsAs, EndsFor, EndsJob, EndsMade, EndsAnswered, EndsAnsweredOver, EndsWrittenOver, EndsOver, LeavesFiles, got_as, opened_as}
use Rattle.pips_top.specs.Based.{base_limit, WritesOver}
use Rattle.pips_top.specs.Counts.{counts_text}
use Rattle.pips_top.specs.Jobs.{job_in, HasJob, AreRefused}
use Rattle.pips_top.specs.Laws.{ReadSoundly, AnsweredSoundly}
use Rattle.pips_top.specs.Made.{made, made_of, counted, counted_of}
use Rattle.pips_top.specs.Program.{ProgramTree}
use Rattle.pips_top.specs.Reading.{reading}
use Rattle.pips_top.specs.Replies.{Makes}
use Rattle.pips_top.specs.Run.{Stored, Outside, FetchesInput, Writes as WritesProgram, Answers, Counts, OutputOf, Outputs, CausedBy}
use Rattle.pips_top.specs.Written.{written}
use Rattle.pips_top.specs.declared.job.Job.{Job}
use Rattle.pips_top.specs.declared.job.Job.TheVariants as jobs
use Rattle.pips_top.specs.declared.make.Made.{Made}
use Rattle.pips_top.specs.declared.make.Made.TheVariants.{Writes}
use Rattle.pips_top.specs.declared.status.Status.{Status}
use Rattle.pips_top.specs.declared.status.Status.TheVariants.{Done, Usage, WriteFault, Memory}
use Rattle.pips_top.proofs.Endings.{told, got_within, ends_got, opened_from, ends_opened, ends_kept, ends_made}

-- a text that is to be written is that of a program that was read
made_from : (show : Wanted) (r : Result ProgramTree Refused) (text : List ℕ) → made_of show r ≡ Writes text
    → (p : ProgramTree) × (r ≡ Ok p) × (text ≡ written show p)
made_from show (Ok p) text e = (p, refl, cc)
made_from show (Err r) text e = cc

-- or of its counts
counted_from : (r : Result ProgramTree Refused) (text : List ℕ) → counted_of r ≡ Writes text → (p : ProgramTree) × (r ≡ Ok p) × (text ≡ counts_text p)
counted_from (Ok p) text e = (p, refl, cc)
counted_from (Err r) text e = cc

-- ---- what was read, and what is true of it

pub record Laws : Type 0 where
  pub sound : ReadSoundly
  pub answered : AnsweredSoundly

output_of : Laws → (old new : Stored) (text : List ℕ) (job : Job) → Makes old new text job → OutputOf old new text job
output_of law old new text (jobs.Write show input) (bytes, got, is, same) =
    let f = made_from show (reading bytes) text is in
    let w : WritesProgram show input old new text = record { bytes = bytes; got = got; program = f.0; as_program = f.1; sound = law.sound show bytes f.0 f.1; is = f.2 } in
    (w, same)
output_of law old new text (jobs.Answer show input) (script, got, first, same) =
    let w : Answers show input old new text = record {
      script = script;
      got = got;
      end = first.end;
      answers = first.answers;
      prints = law.answered show first_state script text first.end tt first.answers;
    } in
    (w, same)
output_of law old new text (jobs.Count parts) (is, same) =
    let f = counted_from (reading (sample_program parts)) text is in
    let w : Counts parts text = record { program = f.0; as_program = f.1; is = f.2 } in
    (w, same)
output_of law old new text (jobs.WriteOver show input opening) k = k
output_of law old new text (jobs.AnswerOver show input opening) k = k

output_for : Laws → (old new : Stored) (text : List ℕ) (o : Option Job) → IsSomeAnd o (Makes old new text) → IsSomeAnd o (OutputOf old new text)
output_for law old new text None d = elim d [ ]
output_for law old new text (Some job) d = output_of law old new text job d

output_from : Laws → (words : List (List ℕ)) (old new : Stored) (text : List ℕ) → HasJob words (Makes old new text) → Outputs words old new text
output_from law words old new text (a, d) = (a, output_for law old new text (job_in words) d)

-- the whole text was sent, or a part of it
abbrev pub Sent : List (List ℕ) → Outside → Outside → Type 0
Sent words old new = (text : List ℕ) × HasJob words (Makes old.store new.store text) × (new.out ≡ appended old.out text)

abbrev pub CutOff : List (List ℕ) → Outside → Outside → Type 0
CutOff words old new =
    (text : List ℕ) × HasJob words (Makes old.store new.store text) × Rose old.out_faults new.out_faults × ((n : ℕ) × (n ≤ length text) × (new.out ≡ appended old.out (take n text)))

pub caused_done : Laws → (words : List (List ℕ)) (old new : Outside) → Sent words old new → CausedBy words old new Done []
caused_done law words old new (text, makes, out) = (text, output_from law words old.store new.store text makes, out, refl)

pub caused_fault : Laws → (words : List (List ℕ)) (old new : Outside) → CutOff words old new → CausedBy words old new WriteFault (codes "pips: cannot write\n")
caused_fault law words old new (text, makes, rose, (n, within, out)) = (text, output_from law words old.store new.store text makes, rose, (n, within, out), refl)

-- ---- what the definitions answer

-- a run that is done ends as defined, and leaves such files
abbrev Ends : Job → Files → List ℕ → Option Files → Type 0
Ends job held text files = (kept : Option (List ℕ)) × EndsJob job held Done text kept × LeavesFiles job held files kept

pub held_input : (held : Files) (old new : Stored) (input bytes : List ℕ) → old.files ≡ Some held → FetchesInput old new (fetched.Got bytes) input → got_as (bytes_of held input) ≡ Ok bytes
held_input held old new input bytes is got = got_within (bytes_of held input) bytes got.0 (told old.files held (λ f. bytes_of f input ≡ Some bytes) is got.1)

kept_files : (files new : Option Files) (held : Files) (name bytes : List ℕ) → files ≡ Some held → OthersStay files new name → IfSome new (λ h. bytes_of h name ≡ Some bytes)
    → OthersStay (Some held) new name × IsSomeAnd new (λ h. bytes_of h name ≡ Some bytes)
kept_files files None held name bytes e others h = absurd (subst (λ f. OthersStay f None name) e others)
kept_files files (Some own) held name bytes e others h = (subst (λ f. OthersStay f (Some own) name) e others, h)

ends_written : (show : Wanted) (b : Base) (bytes : List ℕ) (m : Made) (defined text : List ℕ) (left : Base) (kept : List ℕ) → m ≡ Writes defined → WritesOver show b bytes text left
    → kept_text left base_limit ≡ Some kept → EndsWrittenOver show b bytes m Done text (Some kept)
ends_written show b bytes m defined text left kept e w k =
    subst (λ n. EndsWrittenOver show b bytes n Done text (Some kept)) (sym e) (text, left, w, ends_kept (kept_text left base_limit) kept text k)

done_job : (job : Job) (held : Files) (old new : Stored) (text : List ℕ) → old.files ≡ Some held → OutputOf old new text job → Ends job held text new.files
done_job (jobs.Write show input) held old new text is (w, same) =
    let done : EndsMade (made show w.bytes) Done text None = ends_made (made show w.bytes) text (ap (made_of show) w.as_program ∙ ap Writes (sym w.is)) in
    (None, ends_got (got_as (bytes_of held input)) (Ok w.bytes) (λ bytes. EndsMade (made show bytes)) Done text None (held_input held old new input w.bytes is w.got) done, same ∙ is)
done_job (jobs.Answer show input) held old new text is (w, same) =
    let done : EndsAnswered show w.script Done text None = (refl, (w.end, w.answers), refl) in
    (None, ends_got (got_as (bytes_of held input)) (Ok w.script) (EndsAnswered show) Done text None (held_input held old new input w.script is w.got) done, same ∙ is)
done_job (jobs.Count parts) held old new text is (w, same) = (None, ends_made (counted parts) text (ap counted_of w.as_program ∙ ap Writes (sym w.is)), same ∙ is)
done_job (jobs.WriteOver show input opening) held old new text is k =
    let w = k.works in
    let defined = ap (made_of show) w.leaves.as_program in
    let done : EndsWrittenOver show w.opened w.bytes (made show w.bytes) Done text (Some k.bytes) =
    ends_written show w.opened w.bytes (made show w.bytes) (written show w.leaves.program) text k.left k.bytes defined w.leaves k.is in
    let over : EndsOver opening held (λ b. EndsWrittenOver show b w.bytes (made show w.bytes)) Done text (Some k.bytes) =
    ends_opened opening.verify (opened_as (bytes_of held opening.name)) (Ok w.opened) (λ b. EndsWrittenOver show b w.bytes (made show w.bytes)) Done text (Some k.bytes)
    (opened_from old.files held (old.counts BaseRole) (new.counts BaseRole) opening.name w.opened is w.opens.0) (inr (w.opens.1, done)) in (
      Some k.bytes,
      ends_got (got_as (bytes_of held input)) (Ok w.bytes) (λ bytes. EndsOver opening held (λ b. EndsWrittenOver show b bytes (made show bytes))) Done text (Some k.bytes)
          (held_input held old new input w.bytes is w.got) over,
      kept_files old.files new.files held opening.name k.bytes is k.kept.0 k.kept.1,
    )
done_job (jobs.AnswerOver show input opening) held old new text is k =
    let w = k.works in
    let done : EndsAnsweredOver show w.opened w.bytes Done text (Some k.bytes) = (text, k.left, w.leaves, ends_kept (kept_text k.left base_limit) k.bytes text k.is) in
    let over : EndsOver opening held (λ b. EndsAnsweredOver show b w.bytes) Done text (Some k.bytes) =
    ends_opened opening.verify (opened_as (bytes_of held opening.name)) (Ok w.opened) (λ b. EndsAnsweredOver show b w.bytes) Done text (Some k.bytes)
    (opened_from old.files held (old.counts BaseRole) (new.counts BaseRole) opening.name w.opened is w.opens.0) (inr (w.opens.1, done)) in (
      Some k.bytes,
      ends_got (got_as (bytes_of held input)) (Ok w.bytes) (λ bytes. EndsOver opening held (λ b. EndsAnsweredOver show b bytes)) Done text (Some k.bytes)
          (held_input held old new input w.bytes is w.got) over,
      kept_files old.files new.files held opening.name k.bytes is k.kept.0 k.kept.1,
    )

ends_for : (o : Option Job) (held : Files) (old new : Stored) (text : List ℕ) (before after : Option (List ℕ)) → old.files ≡ Some held → IsSomeAnd o (OutputOf old new text) → after ≡ appended before text
    → EndsFor o held Done before after new.files
ends_for None held old new text before after is d out = elim d [ ]
ends_for (Some job) held old new text before after is d out = let e = done_job job held old new text is d in (text, e.0, e.1, out, e.2)

-- a run that has written the whole text ends as the definitions say
pub defined_from : (words : List (List ℕ)) (old new : Outside) (line : List ℕ) → CausedBy words old new Done line → (held : Files) → old.store.files ≡ Some held
    → EndsAs words held Done old.out new.out new.store.files
defined_from words old new line (text, outputs, out, told) held is = ends_for (job_in words) held old.store new.store text old.out new.out is outputs.1 out

-- ---- words that are refused

none_such : (o : Option Job) (P : Job → Type 0) → o ≡ None → IsSomeAnd o P → ⊥
none_such None P e h = h
none_such (Some job) P e h = cc

pub not_refused : (words : List (List ℕ)) (P : Job → Type 0) → AreRefused words → HasJob words P → ⊥
not_refused words P refused (a, h) = none_such (job_in words) P (refused a) h

pub output_refused : (words : List (List ℕ)) (old new : Stored) (text : List ℕ) (s : Status) → Outputs words old new text → AreRefused words → (s ≡ Usage) ⊎ (s ≡ Memory)
output_refused words old new text s outputs refused = absurd (not_refused words (OutputOf old new text) refused outputs)
