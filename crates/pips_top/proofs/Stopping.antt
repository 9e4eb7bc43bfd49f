-- A status that comes before writing: its cause, and what the definitions answer.
use Rattle.std.proofs.Common.{◌≡◌, ℕ, ◌≤◌, ◌<◌, ◌⊎◌, inl, inr, List, [], ◌∷◌, length, codes, ap, sym, ◌∙◌, refl, subst, true, Option, Some, None, IsSomeAnd, Result, Ok, Err, map, Bool, false, arith}
use Rattle.std.proofs.lemmas.Grind.{common_steps}
use Rattle.fx_base.specs.Counts.{Rose}
use Rattle.fx_base.specs.Files.{Files, bytes_of}
use Rattle.fx_base.specs.declared.store.Role.TheVariants.{Input, Base as BaseRole}
use Rattle.fx_base.specs.declared.store.Fetched.TheVariants as fetched
use Rattle.command_words.specs.Options.{Accepts}
use Rattle.pipsmake_base.specs.base_text.declared.base.Base.{Base}
use Rattle.pipsmake_base.specs.base_text.declared.base.StoredResult.{StoredResult}
use Rattle.pipsmake_base.specs.base_text.declared.base.BaseModule.{BaseModule}
use Rattle.pipsmake_base.specs.base_text.Written.{base_text, kept as kept_text}
use Rattle.pipsmake_base.specs.base_values.Naming.{Each}
use Rattle.pipsmake_base.specs.pipsmake_meaning.Texts.{ModuleText}
use Rattle.pipsmake_base.specs.session_texts.Commands.{commands_of}
use Rattle.pipsmake_base.specs.session_texts.Sources.{source_modules}
use Rattle.pipsmake_base.specs.pipsmake_db.AnswerTexts.{texts_at_end}
use Rattle.pipsmake_base.specs.Saving.{module_of}
use Rattle.pipsmake_base.specs.pipsmake_rules.declared.key.Key.{Key}
use Rattle.pipsmake_base.specs.Saved.{texts_in, IsDefinedAt, FirstStale, IsSaved}
use Rattle.pips_top.specs.Answer.{Ending, EndsGot, EndsOpened, EndsAs, EndsFor, EndsJob, EndsMade, EndsAnswered, EndsAnsweredOver, EndsWrittenOver, EndsOver, EndsKept, AreAccepted, IsAccepted, got_as, opened_as}
use Rattle.pips_top.specs.Based.{base_limit, IsVerified}
use Rattle.pips_top.specs.Counts.{counts_text}
use Rattle.pips_top.specs.Status.{naming}
use Rattle.pips_top.specs.Written.{written}
use Rattle.pips_top.specs.Jobs.{job_in, opening_in, AreRefused}
use Rattle.pips_top.specs.Made.{made, made_of, counted, counted_of, input_limit}
use Rattle.pips_top.specs.Run.{Stored, Outside, FetchesBase, NoFault, IsRefused, LacksInput, LacksBase, LacksRoom, IsBadBase, IsStale, IsNotKept, HasSomeInput, Untouched, StopsFor, StopsBy, CausedBy, is_settled}
use Rattle.pips_top.specs.declared.job.Job.{Job}
use Rattle.pips_top.specs.declared.job.Job.TheVariants as jobs
use Rattle.pips_top.specs.declared.job.Opening.{Opening}
use Rattle.pips_top.specs.declared.make.Made.{Made}
use Rattle.pips_top.specs.declared.make.Made.TheVariants.{Writes}
use Rattle.pips_top.specs.declared.status.Status.{Status}
use Rattle.pips_top.specs.declared.status.Status.TheVariants.{Done, Refused, Usage, NoInput, TooLong, ReadFault, WriteFault, BadBase, StaleBase, BaseFault, Memory}
use Rattle.pips_top.proofs.Endings.{told, got_absent, got_long, ends_got, opened_from, opened_long, opened_bad, ends_opened, ends_unkept, ends_refused}
use Rattle.pips_top.proofs.Soundness.{held_input, not_refused}
use Rattle.fx_base.proofs.SinkLemmas.{appended-nothing}

-- no job ends so
never : (P : Job → Type 0) → ((job : Job) → P job → ⊥) → (o : Option Job) → IsSomeAnd o P → ⊥
never P h None d = d
never P h (Some job) d = h job d

pub stop_caused : (words : List (List ℕ)) (old new : Outside) (s : Status) (line : List ℕ) → StopsBy words old.store new.store s line → new.out ≡ old.out → CausedBy words old new s line
stop_caused words old new Done line stops out = absurd (never (StopsFor old.store new.store Done line) (λ job h. h) (job_in words) stops.1)
stop_caused words old new (Refused at code) line stops out = (stops, out)
stop_caused words old new Usage line stops out = (stops, out)
stop_caused words old new NoInput line stops out = (stops, out)
stop_caused words old new TooLong line stops out = (stops, out)
stop_caused words old new ReadFault line stops out = (stops, out)
stop_caused words old new WriteFault line stops out = absurd (never (StopsFor old.store new.store WriteFault line) (λ job h. h) (job_in words) stops.1)
stop_caused words old new (BadBase code) line stops out = (stops, out)
stop_caused words old new StaleBase line stops out = (stops, out)
stop_caused words old new BaseFault line stops out = (stops, out)
stop_caused words old new Memory line stops out = (stops, out)

-- ---- what the definitions answer, by the cause

absent_job : (job : Job) (held : Files) (old new : Stored) (start line : List ℕ) → old.files ≡ Some held → LacksInput old new fetched.Absent start line job → EndsJob job held NoInput [] None
absent_job (jobs.Write show input) held old new start line is (got, told_line) =
    ends_got (got_as (bytes_of held input)) (Err NoInput) (λ bytes. EndsMade (made show bytes)) NoInput [] None (got_absent (bytes_of held input) (told old.files held (λ f. bytes_of f input ≡ None) is got.1)) (refl, refl, refl)
absent_job (jobs.Answer show input) held old new start line is (got, told_line) =
    ends_got (got_as (bytes_of held input)) (Err NoInput) (EndsAnswered show) NoInput [] None (got_absent (bytes_of held input) (told old.files held (λ f. bytes_of f input ≡ None) is got.1)) (refl, refl, refl)
absent_job (jobs.WriteOver show input opening) held old new start line is (got, told_line) =
    ends_got (got_as (bytes_of held input)) (Err NoInput) (λ bytes. EndsOver opening held (λ b. EndsWrittenOver show b bytes (made show bytes))) NoInput [] None (got_absent (bytes_of held input) (told old.files held (λ f. bytes_of f input ≡ None) is got.1)) (refl, refl, refl)
absent_job (jobs.AnswerOver show input opening) held old new start line is (got, told_line) =
    ends_got (got_as (bytes_of held input)) (Err NoInput) (λ bytes. EndsOver opening held (λ b. EndsAnsweredOver show b bytes)) NoInput [] None (got_absent (bytes_of held input) (told old.files held (λ f. bytes_of f input ≡ None) is got.1)) (refl, refl, refl)
absent_job (jobs.Count parts) held old new start line is d = elim d [ ]

long_job : (job : Job) (held : Files) (old new : Stored) (start line : List ℕ) → old.files ≡ Some held → LacksInput old new fetched.TooLong start line job → EndsJob job held TooLong [] None
long_job (jobs.Write show input) held old new start line is (got, told_line) =
    ends_got (got_as (bytes_of held input)) (Err TooLong) (λ bytes. EndsMade (made show bytes)) TooLong [] None (got_long (bytes_of held input) (told old.files held (λ f. IsSomeAnd (bytes_of f input) (λ text. input_limit < length text)) is got.1)) (refl, refl, refl)
long_job (jobs.Answer show input) held old new start line is (got, told_line) =
    ends_got (got_as (bytes_of held input)) (Err TooLong) (EndsAnswered show) TooLong [] None (got_long (bytes_of held input) (told old.files held (λ f. IsSomeAnd (bytes_of f input) (λ text. input_limit < length text)) is got.1)) (refl, refl, refl)
long_job (jobs.WriteOver show input opening) held old new start line is (got, told_line) =
    ends_got (got_as (bytes_of held input)) (Err TooLong) (λ bytes. EndsOver opening held (λ b. EndsWrittenOver show b bytes (made show bytes))) TooLong [] None (got_long (bytes_of held input) (told old.files held (λ f. IsSomeAnd (bytes_of f input) (λ text. input_limit < length text)) is got.1)) (refl, refl, refl)
long_job (jobs.AnswerOver show input opening) held old new start line is (got, told_line) =
    ends_got (got_as (bytes_of held input)) (Err TooLong) (λ bytes. EndsOver opening held (λ b. EndsAnsweredOver show b bytes)) TooLong [] None (got_long (bytes_of held input) (told old.files held (λ f. IsSomeAnd (bytes_of f input) (λ text. input_limit < length text)) is got.1)) (refl, refl, refl)
long_job (jobs.Count parts) held old new start line is d = elim d [ ]

long_base_job : (job : Job) (held : Files) (old new : Stored) (start line : List ℕ) → old.files ≡ Some held → (i : HasSomeInput old new job) → LacksBase old new fetched.TooLong start line job → EndsJob job held TooLong [] None
long_base_job (jobs.Write show input) held old new start line is i d = elim d [ ]
long_base_job (jobs.Answer show input) held old new start line is i d = elim d [ ]
long_base_job (jobs.Count parts) held old new start line is i d = elim d [ ]
long_base_job (jobs.WriteOver show input opening) held old new start line is i f =
    let over : EndsOver opening held (λ b. EndsWrittenOver show b i.0 (made show i.0)) TooLong [] None =
    ends_opened opening.verify (opened_as (bytes_of held opening.name)) (Err TooLong) (λ b. EndsWrittenOver show b i.0 (made show i.0)) TooLong [] None (opened_long (bytes_of held opening.name) (told old.files held (λ f. IsSomeAnd (bytes_of f opening.name) (λ text. base_limit < length text)) is f.0.1)) (refl, refl, refl) in
    ends_got (got_as (bytes_of held input)) (Ok i.0) (λ bytes. EndsOver opening held (λ b. EndsWrittenOver show b bytes (made show bytes))) TooLong [] None (held_input held old new input i.0 is i.1) over
long_base_job (jobs.AnswerOver show input opening) held old new start line is i f =
    let over : EndsOver opening held (λ b. EndsAnsweredOver show b i.0) TooLong [] None =
    ends_opened opening.verify (opened_as (bytes_of held opening.name)) (Err TooLong) (λ b. EndsAnsweredOver show b i.0) TooLong [] None (opened_long (bytes_of held opening.name) (told old.files held (λ f. IsSomeAnd (bytes_of f opening.name) (λ text. base_limit < length text)) is f.0.1)) (refl, refl, refl) in
    ends_got (got_as (bytes_of held input)) (Ok i.0) (λ bytes. EndsOver opening held (λ b. EndsAnsweredOver show b bytes)) TooLong [] None (held_input held old new input i.0 is i.1) over

bad_base_job : (job : Job) (held : Files) (old new : Stored) (code : ℕ) (line : List ℕ) → old.files ≡ Some held → (i : HasSomeInput old new job) → IsBadBase old new code line job → EndsJob job held (BadBase code) [] None
bad_base_job (jobs.Write show input) held old new code line is i d = elim d [ ]
bad_base_job (jobs.Answer show input) held old new code line is i d = elim d [ ]
bad_base_job (jobs.Count parts) held old new code line is i d = elim d [ ]
bad_base_job (jobs.WriteOver show input opening) held old new code line is i f =
    let over : EndsOver opening held (λ b. EndsWrittenOver show b i.0 (made show i.0)) (BadBase code) [] None =
    ends_opened opening.verify (opened_as (bytes_of held opening.name)) (Err (BadBase code)) (λ b. EndsWrittenOver show b i.0 (made show i.0)) (BadBase code) [] None (opened_bad (bytes_of held opening.name) f.0 f.1 code f.2.0 (told old.files held (λ h. bytes_of h opening.name ≡ Some f.0) is f.2.1) f.3 f.4) (refl, refl, refl) in
    ends_got (got_as (bytes_of held input)) (Ok i.0) (λ bytes. EndsOver opening held (λ b. EndsWrittenOver show b bytes (made show bytes))) (BadBase code) [] None (held_input held old new input i.0 is i.1) over
bad_base_job (jobs.AnswerOver show input opening) held old new code line is i f =
    let over : EndsOver opening held (λ b. EndsAnsweredOver show b i.0) (BadBase code) [] None =
    ends_opened opening.verify (opened_as (bytes_of held opening.name)) (Err (BadBase code)) (λ b. EndsAnsweredOver show b i.0) (BadBase code) [] None (opened_bad (bytes_of held opening.name) f.0 f.1 code f.2.0 (told old.files held (λ h. bytes_of h opening.name ≡ Some f.0) is f.2.1) f.3 f.4) (refl, refl, refl) in
    ends_got (got_as (bytes_of held input)) (Ok i.0) (λ bytes. EndsOver opening held (λ b. EndsAnsweredOver show b bytes)) (BadBase code) [] None (held_input held old new input i.0 is i.1) over

-- a first stale result is one that is not what is defined
not_saved : (ts : List ModuleText) (rs : List StoredResult) (k : Key) → FirstStale ts rs (Some k) → Each (IsDefinedAt ts) rs → ⊥
not_saved ts [] k e each = cc
not_saved ts (r ∷ rs) k (inl (d, later)) each = not_saved ts rs k later each.1
not_saved ts (r ∷ rs) k (inr (other, e)) each = other each.0

stale_job : (job : Job) (held : Files) (old new : Stored) (line : List ℕ) → old.files ≡ Some held → (i : HasSomeInput old new job) → IsStale old new line job → EndsJob job held StaleBase [] None
stale_job (jobs.Write show input) held old new line is i d = elim d [ ]
stale_job (jobs.Answer show input) held old new line is i d = elim d [ ]
stale_job (jobs.Count parts) held old new line is i d = elim d [ ]
stale_job (jobs.WriteOver show input opening) held old new line is i f =
    let over : EndsOver opening held (λ b. EndsWrittenOver show b i.0 (made show i.0)) StaleBase [] None =
    ends_opened opening.verify (opened_as (bytes_of held opening.name)) (Ok f.0) (λ b. EndsWrittenOver show b i.0 (made show i.0)) StaleBase [] None
    (opened_from old.files held (old.counts BaseRole) (new.counts BaseRole) opening.name f.0 is f.2) (inl (f.3, not_saved (texts_in f.0) f.0.results f.1 f.4, (refl, refl, refl))) in
    ends_got (got_as (bytes_of held input)) (Ok i.0) (λ bytes. EndsOver opening held (λ b. EndsWrittenOver show b bytes (made show bytes))) StaleBase [] None (held_input held old new input i.0 is i.1) over
stale_job (jobs.AnswerOver show input opening) held old new line is i f =
    let over : EndsOver opening held (λ b. EndsAnsweredOver show b i.0) StaleBase [] None =
    ends_opened opening.verify (opened_as (bytes_of held opening.name)) (Ok f.0) (λ b. EndsAnsweredOver show b i.0) StaleBase [] None
    (opened_from old.files held (old.counts BaseRole) (new.counts BaseRole) opening.name f.0 is f.2) (inl (f.3, not_saved (texts_in f.0) f.0.results f.1 f.4, (refl, refl, refl))) in
    ends_got (got_as (bytes_of held input)) (Ok i.0) (λ bytes. EndsOver opening held (λ b. EndsAnsweredOver show b bytes)) StaleBase [] None (held_input held old new input i.0 is i.1) over

refused_job : (job : Job) (held : Files) (old new : Stored) (at code : ℕ) (line : List ℕ) → old.files ≡ Some held → IsRefused old new at code line job → EndsJob job held (Refused at code) [] None
refused_job (jobs.Write show input) held old new at code line is (bytes, keyword, got, e, told_line) =
    ends_got (got_as (bytes_of held input)) (Ok bytes) (λ bytes. EndsMade (made show bytes)) (Refused at code) [] None (held_input held old new input bytes is got) (ends_refused (made show bytes) at code keyword e)
refused_job (jobs.Answer show input) held old new at code line is d = elim d [ ]
refused_job (jobs.Count parts) held old new at code line is (keyword, e, told_line) = ends_refused (counted parts) at code keyword e
refused_job (jobs.WriteOver show input opening) held old new at code line is (bytes, keyword, b, got, opens, e, told_line) =
    let refused : EndsWrittenOver show b bytes (made show bytes) (Refused at code) [] None = subst (λ m. EndsWrittenOver show b bytes m (Refused at code) [] None) (sym e) (refl, refl, refl) in
    let over : EndsOver opening held (λ b. EndsWrittenOver show b bytes (made show bytes)) (Refused at code) [] None =
    ends_opened opening.verify (opened_as (bytes_of held opening.name)) (Ok b) (λ b. EndsWrittenOver show b bytes (made show bytes)) (Refused at code) [] None
    (opened_from old.files held (old.counts BaseRole) (new.counts BaseRole) opening.name b is opens.0) (inr (opens.1, refused)) in
    ends_got (got_as (bytes_of held input)) (Ok bytes) (λ bytes. EndsOver opening held (λ b. EndsWrittenOver show b bytes (made show bytes))) (Refused at code) [] None (held_input held old new input bytes is got) over
refused_job (jobs.AnswerOver show input opening) held old new at code line is d = elim d [ ]

-- the base that is left is too long
room_job : (job : Job) (held : Files) (old new : Stored) (line : List ℕ) → old.files ≡ Some held → LacksRoom old new line job → EndsJob job held TooLong [] None
room_job (jobs.Write show input) held old new line is (text, left, w, d) = elim d [ ]
room_job (jobs.Answer show input) held old new line is (text, left, w, d) = elim d [ ]
room_job (jobs.Count parts) held old new line is (text, left, w, d) = elim d [ ]
room_job (jobs.WriteOver show input opening) held old new line is (text, left, w, (none, told_line)) =
    let e = ap (made_of show) w.leaves.as_program in
    let done : EndsWrittenOver show w.opened w.bytes (made show w.bytes) TooLong [] None =
    subst (λ m. EndsWrittenOver show w.opened w.bytes m TooLong [] None) (sym e) (text, left, w.leaves, ends_unkept (kept_text left base_limit) text none) in
    let over : EndsOver opening held (λ b. EndsWrittenOver show b w.bytes (made show w.bytes)) TooLong [] None =
    ends_opened opening.verify (opened_as (bytes_of held opening.name)) (Ok w.opened) (λ b. EndsWrittenOver show b w.bytes (made show w.bytes)) TooLong [] None
    (opened_from old.files held (old.counts BaseRole) (new.counts BaseRole) opening.name w.opened is w.opens.0) (inr (w.opens.1, done)) in
    ends_got (got_as (bytes_of held input)) (Ok w.bytes) (λ bytes. EndsOver opening held (λ b. EndsWrittenOver show b bytes (made show bytes))) TooLong [] None (held_input held old new input w.bytes is w.got) over
room_job (jobs.AnswerOver show input opening) held old new line is (text, left, w, (none, told_line)) =
    let done : EndsAnsweredOver show w.opened w.bytes TooLong [] None = (text, left, w.leaves, ends_unkept (kept_text left base_limit) text none) in
    let over : EndsOver opening held (λ b. EndsAnsweredOver show b w.bytes) TooLong [] None =
    ends_opened opening.verify (opened_as (bytes_of held opening.name)) (Ok w.opened) (λ b. EndsAnsweredOver show b w.bytes) TooLong [] None
    (opened_from old.files held (old.counts BaseRole) (new.counts BaseRole) opening.name w.opened is w.opens.0) (inr (w.opens.1, done)) in
    ends_got (got_as (bytes_of held input)) (Ok w.bytes) (λ bytes. EndsOver opening held (λ b. EndsAnsweredOver show b bytes)) TooLong [] None (held_input held old new input w.bytes is w.got) over

too_long_job : (job : Job) (held : Files) (old new : Stored) (line : List ℕ) → old.files ≡ Some held
    → (LacksInput old new fetched.TooLong (codes "pips: too long ") line job ⊎ ((HasSomeInput old new job × LacksBase old new fetched.TooLong (codes "pips: too long ") line job) ⊎ LacksRoom old new line job))
    → EndsJob job held TooLong [] None
too_long_job job held old new line is (inl h) = long_job job held old new (codes "pips: too long ") line is h
too_long_job job held old new line is (inr (inl (i, h))) = long_base_job job held old new (codes "pips: too long ") line is i h
too_long_job job held old new line is (inr (inr h)) = room_job job held old new line is h

abbrev EndsSo : Job → Files → Status → Stored → Stored → Type 0
EndsSo job held s old new = EndsJob job held s [] None × Untouched old new

of_jobs : (P : Job → Type 0) (held : Files) (s : Status) (old new : Stored) (before after : Option (List ℕ)) → old.files ≡ Some held → after ≡ before → ((job : Job) → P job → EndsSo job held s old new) → (o : Option Job)
    → IsSomeAnd o P → EndsFor o held s before after new.files
of_jobs P held s old new before after is out h None d = elim d [ ]
of_jobs P held s old new before after is out h (Some job) d = ([], None, (h job d).0, out ∙ sym (appended-nothing before), (h job d).1 ∙ is)

usage_for : (o : Option Job) (held : Files) (before after : Option (List ℕ)) (files : Option Files) → o ≡ None → after ≡ before → files ≡ Some held → EndsFor o held Usage before after files
usage_for None held before after files e out same = (refl, out, same)
usage_for (Some job) held before after files e out same = cc

pub stop_defined : (words : List (List ℕ)) (old new : Outside) (s : Status) (line : List ℕ) → StopsBy words old.store new.store s line → new.out ≡ old.out
    → (held : Files) → old.store.files ≡ Some held → is_settled s ≡ true → Accepts words → EndsAs words held s old.out new.out new.store.files
stop_defined words old new Done line stops out held is sure a = absurd (never (StopsFor old.store new.store Done line) (λ job h. h) (job_in words) stops.1)
stop_defined words old new (Refused at code) line stops out held is sure a =
    of_jobs (StopsFor old.store new.store (Refused at code) line) held (Refused at code) old.store new.store old.out new.out is out (λ job h. (refused_job job held old.store new.store at code line is h.0, h.1)) (job_in words) stops.1
stop_defined words old new Usage line stops out held is sure a = usage_for (job_in words) held old.out new.out new.store.files (stops.0 a) out (stops.2 ∙ is)
stop_defined words old new NoInput line stops out held is sure a =
    of_jobs (StopsFor old.store new.store NoInput line) held NoInput old.store new.store old.out new.out is out (λ job h. (absent_job job held old.store new.store (codes "pips: no input ") line is h.0, h.1)) (job_in words) stops.1
stop_defined words old new TooLong line stops out held is sure a =
    of_jobs (StopsFor old.store new.store TooLong line) held TooLong old.store new.store old.out new.out is out (λ job h. (too_long_job job held old.store new.store line is h.0, h.1)) (job_in words) stops.1
stop_defined words old new ReadFault line stops out held is sure a = cc
stop_defined words old new WriteFault line stops out held is sure a = cc
stop_defined words old new (BadBase code) line stops out held is sure a =
    of_jobs (StopsFor old.store new.store (BadBase code) line) held (BadBase code) old.store new.store old.out new.out is out (λ job h. (bad_base_job job held old.store new.store code line is h.0 h.1, h.2)) (job_in words) stops.1
stop_defined words old new StaleBase line stops out held is sure a =
    of_jobs (StopsFor old.store new.store StaleBase line) held StaleBase old.store new.store old.out new.out is out (λ job h. (stale_job job held old.store new.store line is h.0 h.1, h.2)) (job_in words) stops.1
stop_defined words old new BaseFault line stops out held is sure a = cc
stop_defined words old new Memory line stops out held is sure a = cc

pub stop_refused : (words : List (List ℕ)) (old new : Outside) (s : Status) (line : List ℕ) → StopsBy words old.store new.store s line → AreRefused words → (s ≡ Usage) ⊎ (s ≡ Memory)
stop_refused words old new Done line stops refused = absurd (not_refused words (StopsFor old.store new.store Done line) refused stops)
stop_refused words old new (Refused at code) line stops refused = absurd (not_refused words (StopsFor old.store new.store (Refused at code) line) refused stops)
stop_refused words old new NoInput line stops refused = absurd (not_refused words (StopsFor old.store new.store NoInput line) refused stops)
stop_refused words old new TooLong line stops refused = absurd (not_refused words (StopsFor old.store new.store TooLong line) refused stops)
stop_refused words old new ReadFault line stops refused = absurd (not_refused words (StopsFor old.store new.store ReadFault line) refused stops)
stop_refused words old new WriteFault line stops refused = absurd (not_refused words (StopsFor old.store new.store WriteFault line) refused stops)
stop_refused words old new (BadBase code) line stops refused = absurd (not_refused words (StopsFor old.store new.store (BadBase code) line) refused stops)
stop_refused words old new StaleBase line stops refused = absurd (not_refused words (StopsFor old.store new.store StaleBase line) refused stops)
stop_refused words old new BaseFault line stops refused = absurd (not_refused words (StopsFor old.store new.store BaseFault line) refused stops)
stop_refused words old new Usage line stops refused = inl refl
stop_refused words old new Memory line stops refused = inr refl

-- ---- what is accepted is done

ends_at : (r : Result (List ℕ) Status) (bytes : List ℕ) (Ends : List ℕ → Ending) (s : Status) (out : List ℕ) (kept : Option (List ℕ)) → r ≡ Ok bytes → EndsGot r Ends s out kept → Ends bytes s out kept
ends_at r bytes Ends s out kept e h = subst (λ q. EndsGot q Ends s out kept) e h

made_done : (m : Made) (text : List ℕ) (s : Status) (out : List ℕ) (kept : Option (List ℕ)) → m ≡ Writes text → EndsMade m s out kept → s ≡ Done
made_done m text s out kept e h = let d : EndsMade (Writes text) s out kept = subst (λ n. EndsMade n s out kept) e h in d.0

-- a base that fits without results is kept, whole or so
kept_some : (left : Base) (ms : List BaseModule) → left.modules ≡ ms → length (base_text (record { modules = ms; results = [] })) ≤ base_limit → kept_text left base_limit ≡ None → ⊥
kept_some left ms e fit none = grind (arith, common_steps)

kept_done : (o : Option (List ℕ)) (text : List ℕ) (s : Status) (out : List ℕ) (kept : Option (List ℕ)) → (o ≡ None → ⊥) → EndsKept o text s out kept → s ≡ Done
kept_done None text s out kept some h = absurd (some refl)
kept_done (Some bytes) text s out kept some h = h.0

verified_so : (verify : Bool) (b : Base) → IsVerified verify b → verify ≡ true → IsSaved b
verified_so true b v e = v
verified_so false b v e = cc

opened_or : (verify : Bool) (b : Base) (Ends : Base → Ending) (s : Status) (out : List ℕ) (kept : Option (List ℕ)) → IsVerified verify b → EndsOpened verify (Ok b) Ends s out kept → Ends b s out kept
opened_or verify b Ends s out kept v (inl (wanted, stale, silent)) = absurd (stale (verified_so verify b v wanted))
opened_or verify b Ends s out kept v (inr (w, h)) = h

opened_at : (verify : Bool) (r : Result Base Status) (b : Base) (Ends : Base → Ending) (s : Status) (out : List ℕ) (kept : Option (List ℕ)) → r ≡ Ok b → IsVerified verify b → EndsOpened verify r Ends s out kept → Ends b s out kept
opened_at verify r b Ends s out kept e v h = opened_or verify b Ends s out kept v (subst (λ q. EndsOpened verify q Ends s out kept) e h)

one_source : (bytes : List ℕ) (ts us : List ModuleText) → source_modules bytes ≡ Ok ts → source_modules bytes ≡ Ok us → ts ≡ us
one_source bytes ts us e f = let both : Ok ts ≡ Ok us = sym e ∙ f in cc

accepted_done : (job : Job) (held : Files) (s : Status) (out : List ℕ) (kept : Option (List ℕ)) → IsAccepted held job → EndsJob job held s out kept → s ≡ Done
accepted_done (jobs.Write show input) held s out kept (bytes, got, (program, e)) h =
    made_done (made show bytes) (written show program) s out kept (ap (made_of show) e) (ends_at (got_as (bytes_of held input)) bytes (λ bytes. EndsMade (made show bytes)) s out kept got h)
accepted_done (jobs.Answer show input) held s out kept (script, got, all) h = (ends_at (got_as (bytes_of held input)) script (EndsAnswered show) s out kept got h).0
accepted_done (jobs.Count parts) held s out kept (program, e) h = made_done (counted parts) (counts_text program) s out kept (ap counted_of e) h
accepted_done (jobs.WriteOver show input opening) held s out kept (bytes, got, accepted) h =
    let program = accepted.0 in
    let o = accepted.1 in
    let e : made show bytes ≡ Writes (written show program.0) = ap (made_of show) program.1 in
    let over = ends_at (got_as (bytes_of held input)) bytes (λ bytes. EndsOver opening held (λ b. EndsWrittenOver show b bytes (made show bytes))) s out kept got h in
    let works = opened_at opening.verify (opened_as (bytes_of held opening.name)) o.0 (λ b. EndsWrittenOver show b bytes (made show bytes)) s out kept o.1 o.2 over in
    let w : EndsWrittenOver show o.0 bytes (Writes (written show program.0)) s out kept = subst (λ m. EndsWrittenOver show o.0 bytes m s out kept) e works in
    let same = one_source bytes w.2.sources o.3.0 w.2.split o.3.1 in
    kept_done (kept_text w.1 base_limit) w.0 s out kept (kept_some w.1 (map module_of o.3.0) (w.2.modules ∙ ap (map module_of) same) o.3.2) w.3
accepted_done (jobs.AnswerOver show input opening) held s out kept (script, got, o) h =
    let over = ends_at (got_as (bytes_of held input)) script (λ bytes. EndsOver opening held (λ b. EndsAnsweredOver show b bytes)) s out kept got h in
    let w = opened_at opening.verify (opened_as (bytes_of held opening.name)) o.0 (λ b. EndsAnsweredOver show b script) s out kept o.1 o.2 over in
    kept_done (kept_text w.1 base_limit) w.0 s out kept (kept_some w.1 (map module_of (texts_at_end (texts_in o.0) (commands_of script))) w.2.texts o.3) w.3

accepted_for : (o : Option Job) (held : Files) (s : Status) (before after : Option (List ℕ)) (files : Option Files) → IsSomeAnd o (IsAccepted held) → EndsFor o held s before after files → s ≡ Done
accepted_for None held s before after files d h = elim d [ ]
accepted_for (Some job) held s before after files d (out, kept, ends, gained, left) = accepted_done job held s out kept d ends

-- ---- faults

failed_input : (job : Job) (old new : Stored) (start line : List ℕ) → LacksInput old new fetched.Failed start line job → Rose (old.counts Input).faults (new.counts Input).faults
failed_input (jobs.Write show input) old new start line (got, told_line) = got
failed_input (jobs.Answer show input) old new start line (got, told_line) = got
failed_input (jobs.WriteOver show input opening) old new start line (got, told_line) = got
failed_input (jobs.AnswerOver show input opening) old new start line (got, told_line) = got
failed_input (jobs.Count parts) old new start line d = elim d [ ]

failed_inputs : (o : Option Job) (old new : Stored) (start line : List ℕ) → IsSomeAnd o (λ job. LacksInput old new fetched.Failed start line job × Untouched old new) → Rose (old.counts Input).faults (new.counts Input).faults
failed_inputs None old new start line d = elim d [ ]
failed_inputs (Some job) old new start line d = failed_input job old new start line d.0

failed_base : (o : Option Opening) (old new : Stored) (start line : List ℕ) → IsSomeAnd o (λ (p : Opening). FetchesBase old new fetched.Failed p.name × (line ≡ naming start p.name)) → Rose (old.counts BaseRole).faults (new.counts BaseRole).faults
failed_base None old new start line d = elim d [ ]
failed_base (Some p) old new start line d = d.0

not_kept : (job : Job) (old new : Stored) (line : List ℕ) → IsNotKept old new line job → Rose (old.counts BaseRole).faults (new.counts BaseRole).faults
not_kept (jobs.Write show input) old new line (text, left, w, d) = elim d [ ]
not_kept (jobs.Answer show input) old new line (text, left, w, d) = elim d [ ]
not_kept (jobs.Count parts) old new line (text, left, w, d) = elim d [ ]
not_kept (jobs.WriteOver show input opening) old new line (text, left, w, (bytes, is, kept, told_line)) = kept.0
not_kept (jobs.AnswerOver show input opening) old new line (text, left, w, (bytes, is, kept, told_line)) = kept.0

failed_bases : (o : Option Job) (old new : Stored) (line : List ℕ) → IsSomeAnd o (StopsFor old new BaseFault line) → Rose (old.counts BaseRole).faults (new.counts BaseRole).faults
failed_bases None old new line d = elim d [ ]
failed_bases (Some job) old new line (inl (i, d, same)) = failed_base (opening_in job) old new (codes "pips: cannot use base ") line d
failed_bases (Some job) old new line (inr d) = not_kept job old new line d

sure_done : (words : List (List ℕ)) (old new : Outside) (s : Status) (line : List ℕ) (held : Files) → old.store.files ≡ Some held → StopsBy words old.store new.store s line → new.out ≡ old.out → is_settled s ≡ true
    → Accepts words → AreAccepted words held → s ≡ Done
sure_done words old new s line held is stops out sure a accepted =
    accepted_for (job_in words) held s old.out new.out new.store.files accepted (stop_defined words old new s line stops out held is sure a)

pub stop_complete : (words : List (List ℕ)) (old new : Outside) (s : Status) (line : List ℕ) → StopsBy words old.store new.store s line → new.out ≡ old.out
    → (held : Files) → old.store.files ≡ Some held → Accepts words → AreAccepted words held → NoFault old new → (s ≡ Done) ⊎ (s ≡ Memory)
stop_complete words old new (Refused at code) line stops out held is a accepted none = inl (sure_done words old new (Refused at code) line held is stops out refl a accepted)
stop_complete words old new Usage line stops out held is a accepted none = inl (sure_done words old new Usage line held is stops out refl a accepted)
stop_complete words old new NoInput line stops out held is a accepted none = inl (sure_done words old new NoInput line held is stops out refl a accepted)
stop_complete words old new TooLong line stops out held is a accepted none = inl (sure_done words old new TooLong line held is stops out refl a accepted)
stop_complete words old new (BadBase code) line stops out held is a accepted none = inl (sure_done words old new (BadBase code) line held is stops out refl a accepted)
stop_complete words old new StaleBase line stops out held is a accepted none = inl (sure_done words old new StaleBase line held is stops out refl a accepted)
stop_complete words old new Done line stops out held is a accepted none = inl refl
stop_complete words old new ReadFault line stops out held is a accepted none =
    absurd (none.input (failed_inputs (job_in words) old.store new.store (codes "pips: cannot read ") line stops.1))
stop_complete words old new WriteFault line stops out held is a accepted none = absurd (never (StopsFor old.store new.store WriteFault line) (λ job h. h) (job_in words) stops.1)
stop_complete words old new BaseFault line stops out held is a accepted none = absurd (none.base (failed_bases (job_in words) old.store new.store line stops.1))
stop_complete words old new Memory line stops out held is a accepted none = inr refl
