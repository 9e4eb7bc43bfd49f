-- What the words and the held files come to, where nothing fails outside.
use Rattle.std.specs.Prelude.{◌≡◌, ◌≤◌, ◌⊎◌, ℕ, Bool, true, List, [], length, map, nat_lt, Option, Some, None, unwrap_or, IsSomeAnd, Result, Ok, Err, if◌then◌else◌}
use Rattle.fx_base.specs.Files.{Files, bytes_of, OthersStay}
use Rattle.fx_base.specs.Sink.{appended}
use Rattle.pipsmake_base.specs.result_lines.declared.show.Show.{Show}
use Rattle.pips_top.specs.Sample.{sample_program}
use Rattle.pipsmake_base.specs.session_texts.Commands.{commands_of}
use Rattle.pipsmake_base.specs.base_text.declared.base.Base.{Base}
use Rattle.pipsmake_base.specs.base_text.declared.refusal.BaseRefusal.{BaseRefusal}
use Rattle.pipsmake_base.specs.base_text.Gives.{number_of}
use Rattle.pipsmake_base.specs.base_text.Read.{base_of}
use Rattle.pipsmake_base.specs.base_text.Written.{base_text, kept as kept_text}
use Rattle.pipsmake_base.specs.pipsmake_meaning.Texts.{ModuleText}
use Rattle.pipsmake_base.specs.session_texts.Sources.{source_modules}
use Rattle.pipsmake_base.specs.pipsmake_db.AnswerTexts.{texts_at_end}
use Rattle.pipsmake_base.specs.pipsmake_db.State.{State, first_state}
use Rattle.pipsmake_base.specs.pipsmake_db.Scripts.{AnswersScript}
use Rattle.pipsmake_base.specs.Bases.{empty_base}
use Rattle.pipsmake_base.specs.Saved.{texts_in, IsSaved}
use Rattle.pipsmake_base.specs.Saving.{module_of}
use Rattle.pips_top.specs.Based.{base_limit, IsVerified, AnswersOver, WritesOver}
use Rattle.pips_top.specs.Jobs.{job_in, opening_in}
use Rattle.pips_top.specs.Made.{made, counted, input_limit}
use Rattle.pips_top.specs.Program.{ProgramTree}
use Rattle.pips_top.specs.Reading.{reading}
use Rattle.pips_top.specs.declared.job.Job.{Job}
use Rattle.pips_top.specs.declared.job.Job.TheVariants as jobs
use Rattle.pips_top.specs.declared.job.Opening.{Opening}
use Rattle.pips_top.specs.declared.make.Made.{Made}
use Rattle.pips_top.specs.declared.make.Made.TheVariants.{Writes, Refuses}
use Rattle.pips_top.specs.declared.status.Status.{Status}
use Rattle.pips_top.specs.declared.wanted.Wanted.{Wanted}
use Rattle.pips_top.specs.declared.status.Status.TheVariants.{Done, Refused, Usage, NoInput, TooLong, BadBase, StaleBase}

-- how a run ends: its status, the bytes on out, and the text that is kept under the name of its base, where one is
abbrev pub Ending : Type 1
Ending = Status → List ℕ → Option (List ℕ) → Type 0

-- with nothing on out and nothing kept
abbrev pub EndsSilent : Status → Ending
EndsSilent s status out kept = (status ≡ s) × (out ≡ []) × (kept ≡ None)

-- ---- without a base

-- with what is made of the input: its text, or its refusal
abbrev pub EndsMade : Made → Ending
EndsMade (Writes text) status out kept = (status ≡ Done) × (out ≡ text) × (kept ≡ None)
EndsMade (Refuses line code keyword) status out kept = EndsSilent (Refused line code) status out kept

-- with what a session without texts answers to the script
abbrev pub EndsAnswered : Show → List ℕ → Ending
EndsAnswered show script status out kept = (status ≡ Done) × ((end : State) × AnswersScript show first_state script out end) × (kept ≡ None)

-- ---- over a base

-- the base that is left is kept within the limit, whole or without its results, or is too long
abbrev pub EndsKept : Option (List ℕ) → List ℕ → Ending
EndsKept None text status out kept = EndsSilent TooLong status out kept
EndsKept (Some bytes) text status out kept = (status ≡ Done) × (out ≡ text) × (kept ≡ Some bytes)

-- with the answers of a session that goes on from a base
abbrev pub EndsAnsweredOver : Show → Base → List ℕ → Ending
EndsAnsweredOver show b script status out kept = (text : List ℕ) × (left : Base) × AnswersOver show b script text left × EndsKept (kept_text left base_limit) text status out kept

-- with the refusal of the input, or its program written
abbrev pub EndsWrittenOver : Wanted → Base → List ℕ → Made → Ending
EndsWrittenOver show b bytes (Refuses line code keyword) status out kept = EndsSilent (Refused line code) status out kept
EndsWrittenOver show b bytes (Writes defined) status out kept =
    (text : List ℕ) × (left : Base) × WritesOver show b bytes text left × EndsKept (kept_text left base_limit) text status out kept

-- a base that was read, or the status for a file that is none
abbrev pub read_or : Result Base BaseRefusal → Result Base Status
read_or (Ok b) = Ok b
read_or (Err refusal) = Err (BadBase (unwrap_or (number_of refusal) 0))

-- what the file of a base is opened as, or the status with which a run then ends
abbrev pub opened_as : Option (List ℕ) → Result Base Status
opened_as None = Ok empty_base
opened_as (Some bytes) = if nat_lt base_limit (length bytes) then Err TooLong else read_or (base_of bytes)

-- a base that is to be verified is stale where it holds a result that is not what is defined for its texts
abbrev pub EndsOpened : Bool → Result Base Status → (Base → Ending) → Ending
EndsOpened verify (Err s) Ends status out kept = EndsSilent s status out kept
EndsOpened verify (Ok b) Ends status out kept = ((verify ≡ true) × (IsSaved b → ⊥) × EndsSilent StaleBase status out kept) ⊎ (IsVerified verify b × Ends b status out kept)

-- over the base that the held files give
abbrev pub EndsOver : Opening → Files → (Base → Ending) → Ending
EndsOver opening held Ends status out kept = EndsOpened opening.verify (opened_as (bytes_of held opening.name)) Ends status out kept

-- ---- of a job

-- the bytes of an INPUT, or the status with which a run then ends
abbrev pub got_as : Option (List ℕ) → Result (List ℕ) Status
got_as None = Err NoInput
got_as (Some bytes) = if nat_lt input_limit (length bytes) then Err TooLong else Ok bytes

-- over an INPUT that is got, or with that status
abbrev pub EndsGot : Result (List ℕ) Status → (List ℕ → Ending) → Ending
EndsGot (Err s) Ends status out kept = EndsSilent s status out kept
EndsGot (Ok bytes) Ends status out kept = Ends bytes status out kept

-- over the INPUT that the held files give
abbrev pub EndsHeld : Files → List ℕ → (List ℕ → Ending) → Ending
EndsHeld held input Ends status out kept = EndsGot (got_as (bytes_of held input)) Ends status out kept

-- how each job ends
abbrev pub EndsJob : Job → Files → Ending
EndsJob (jobs.Write show input) held status out kept = EndsHeld held input (λ bytes. EndsMade (made show bytes)) status out kept
EndsJob (jobs.Answer show input) held status out kept = EndsHeld held input (EndsAnswered show) status out kept
EndsJob (jobs.Count parts) held status out kept = EndsMade (counted parts) status out kept
EndsJob (jobs.WriteOver show input opening) held status out kept =
    EndsHeld held input (λ bytes. EndsOver opening held (λ b. EndsWrittenOver show b bytes (made show bytes))) status out kept
EndsJob (jobs.AnswerOver show input opening) held status out kept = EndsHeld held input (λ bytes. EndsOver opening held (λ b. EndsAnsweredOver show b bytes)) status out kept

-- ---- of words

-- the files afterwards: those of before, or with this text under the name of the base
abbrev pub LeavesFiles : Job → Files → Option Files → Option (List ℕ) → Type 0
LeavesFiles job held new None = new ≡ Some held
LeavesFiles job held new (Some bytes) =
    IsSomeAnd (opening_in job) (λ (o : Opening). OthersStay (Some held) new o.name × IsSomeAnd new (λ files. bytes_of files o.name ≡ Some bytes))

-- a run of a job ends with this status, and what it wrote on out and left of files
abbrev pub EndsFor : Option Job → Files → Status → Option (List ℕ) → Option (List ℕ) → Option Files → Type 0
EndsFor None held status old new files = (status ≡ Usage) × (new ≡ old) × (files ≡ Some held)
EndsFor (Some job) held status old new files = (out : List ℕ) × (kept : Option (List ℕ)) × EndsJob job held status out kept × (new ≡ appended old out) × LeavesFiles job held files kept

-- of accepted words
abbrev pub EndsAs : List (List ℕ) → Files → Status → Option (List ℕ) → Option (List ℕ) → Option Files → Type 0
EndsAs words held status old new files = EndsFor (job_in words) held status old new files

-- ---- what is accepted

-- the bytes are read as a program
abbrev pub IsProgram : List ℕ → Type 0
IsProgram bytes = (program : ProgramTree) × (reading bytes ≡ Ok program)

-- the base of these texts alone, without results, is within the limit
abbrev pub FitAlone : List ModuleText → Type 0
FitAlone ts = length (base_text (record { modules = map module_of ts; results = [] })) ≤ base_limit

-- an INPUT is held within its limit
abbrev pub IsHeld : Files → List ℕ → (List ℕ → Type 0) → Type 0
IsHeld held input P = (bytes : List ℕ) × (got_as (bytes_of held input) ≡ Ok bytes) × P bytes

-- a base is opened, and is not stale where it is to be verified
abbrev pub IsOpened : Files → Opening → (Base → Type 0) → Type 0
IsOpened held opening P = (b : Base) × (opened_as (bytes_of held opening.name) ≡ Ok b) × IsVerified opening.verify b × P b

-- the input of a job is held and accepted, its base is opened, and what is left fits
abbrev pub IsAccepted : Files → Job → Type 0
IsAccepted held (jobs.Write show input) = IsHeld held input IsProgram
IsAccepted held (jobs.Answer show input) = IsHeld held input (λ script. Unit {0})
IsAccepted held (jobs.Count parts) = IsProgram (sample_program parts)
IsAccepted held (jobs.WriteOver show input opening) =
    IsHeld held input (λ bytes. IsProgram bytes × IsOpened held opening (λ b. (sources : List ModuleText) × (source_modules bytes ≡ Ok sources) × FitAlone sources))
IsAccepted held (jobs.AnswerOver show input opening) =
    IsHeld held input (λ script. IsOpened held opening (λ b. FitAlone (texts_at_end (texts_in b) (commands_of script))))

-- so for the job that the words request
abbrev pub AreAccepted : List (List ℕ) → Files → Type 0
AreAccepted words held = IsSomeAnd (job_in words) (IsAccepted held)
