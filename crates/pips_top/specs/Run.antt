-- What a run answers, by its words and by what it finds outside, and what it leaves there.
use Rattle.std.specs.Prelude.{◌≡◌, ℕ, ◌≤◌, ◌⊎◌, List, [], length, take, codes, Option, Some, None, Ok, Err, IsSomeAnd, Bool, true, false}
use Rattle.fx_base.specs.Counts.{Rose}
use Rattle.fx_base.specs.Files.{Files}
use Rattle.fx_base.specs.Sink.{appended}
use Rattle.fx_base.specs.Store.{FetchedBy, KeptBy, OnlyCounts, NoneFalls}
use Rattle.fx_base.specs.declared.tally.Tally.{Tally}
use Rattle.fx_base.specs.declared.store.Role.{Role}
use Rattle.fx_base.specs.declared.store.Role.TheVariants.{Input, Base}
use Rattle.fx_base.specs.declared.store.Fetched.{Fetched}
use Rattle.fx_base.specs.declared.store.Fetched.TheVariants as fetched
use Rattle.fx_base.specs.declared.store.Kept.TheVariants as kept
use Rattle.command_words.specs.Options.{Accepts}
use Rattle.pipsmake_base.specs.result_lines.declared.show.Show.{Show}
use Rattle.pips_top.specs.Sample.{sample_program}
use Rattle.pipsmake_base.specs.pipsmake_rules.declared.key.Key.{Key}
use Rattle.pipsmake_base.specs.base_text.declared.base.Base.{Base as BaseFile}
use Rattle.pipsmake_base.specs.base_text.declared.refusal.BaseRefusal.{BaseRefusal}
use Rattle.pipsmake_base.specs.base_text.Gives.{number_of}
use Rattle.pipsmake_base.specs.base_text.Read.{base_of}
use Rattle.pipsmake_base.specs.base_text.Written.{kept_base, kept as kept_text}
use Rattle.pipsmake_base.specs.pipsmake_db.State.{State, first_state}
use Rattle.pipsmake_base.specs.pipsmake_db.Scripts.{AnswersScript}
use Rattle.pipsmake_base.specs.Saved.{texts_in, IsSaved, FirstStale}
use Rattle.pips_top.specs.Jobs.{job_in, input_in, opening_in, HasJob, AreRefused}
use Rattle.pips_top.specs.Made.{made, counted, input_limit}
use Rattle.pips_top.specs.Program.{ProgramTree}
use Rattle.pips_top.specs.Reading.{reading}
use Rattle.pips_top.specs.Sound.{IsSound, PrintsSoundly}
use Rattle.pips_top.specs.Based.{base_limit, OpensBy, IsVerified, ReadsSaved, AnswersOver, WritesOver}
use Rattle.pips_top.specs.Counts.{counts_text}
use Rattle.pips_top.specs.Written.{written}
use Rattle.pips_top.specs.Status.{naming, base_line, refusal_line, stale_line, usage_line}
use Rattle.pips_top.specs.Answer.{EndsAs, AreAccepted}
use Rattle.pips_top.specs.declared.job.Job.{Job}
use Rattle.pips_top.specs.declared.job.Job.TheVariants.{Write, Answer, Count, WriteOver, AnswerOver}
use Rattle.pips_top.specs.declared.job.Opening.{Opening}
use Rattle.pips_top.specs.declared.make.Made.TheVariants.{Refuses}
use Rattle.pips_top.specs.declared.status.Status.{Status}
use Rattle.pips_top.specs.declared.wanted.Wanted.{Wanted}
use Rattle.pips_top.specs.declared.status.Status.TheVariants.{Done, Refused, Usage, NoInput, TooLong, ReadFault, WriteFault, BadBase, StaleBase, BaseFault, Memory}

-- a store at one moment: the held files, where they are told, and the counts
pub record Stored : Type 0 where
  pub files : Option Files
  pub counts : Role → Tally

-- the outside at one moment: the store, the bytes taken, where they are told, and the faults of the sinks
pub record Outside : Type 0 where
  pub store : Stored
  pub out : Option (List ℕ)
  pub out_faults : ℕ
  pub err : Option (List ℕ)
  pub err_faults : ℕ

-- ---- what was fetched

-- a fetch of an input answered so, within the limit of inputs
abbrev pub FetchesInput : Stored → Stored → Fetched → List ℕ → Type 0
FetchesInput old new answer name = FetchedBy old.files (old.counts Input) (new.counts Input) name input_limit answer

-- a fetch of a base answered so, within the limit of bases
abbrev pub FetchesBase : Stored → Stored → Fetched → List ℕ → Type 0
FetchesBase old new answer name = FetchedBy old.files (old.counts Base) (new.counts Base) name base_limit answer

-- the input of a job was got
abbrev pub HasInput : Stored → Stored → Job → List ℕ → Type 0
HasInput old new job bytes = IsSomeAnd (input_in job) (FetchesInput old new (fetched.Got bytes))

-- whatever its bytes are
abbrev pub HasSomeInput : Stored → Stored → Job → Type 0
HasSomeInput old new job = (bytes : List ℕ) × HasInput old new job bytes

-- the file of a base was read as this one, or there is none
abbrev pub Opens : Stored → Stored → BaseFile → Opening → Type 0
Opens old new b opening = OpensBy old.files (old.counts Base) (new.counts Base) opening.name b

-- the base of a job was opened, and holds only results of its own texts where it is to be verified
abbrev pub HasBase : Stored → Stored → Job → BaseFile → Type 0
HasBase old new job b = IsSomeAnd (opening_in job) (λ (o : Opening). Opens old new b o × IsVerified o.verify b)

-- ---- a status with which a job ends before it writes, with its line on err

-- the input is not got, with this answer
abbrev pub LacksInput : Stored → Stored → Fetched → List ℕ → List ℕ → Job → Type 0
LacksInput old new answer start text job = IsSomeAnd (input_in job) (λ name. FetchesInput old new answer name × (text ≡ naming start name))

-- the base is not got, with this answer
abbrev pub LacksBase : Stored → Stored → Fetched → List ℕ → List ℕ → Job → Type 0
LacksBase old new answer start text job = IsSomeAnd (opening_in job) (λ (o : Opening). FetchesBase old new answer o.name × (text ≡ naming start o.name))

-- the file is no base
abbrev pub IsBadBase : Stored → Stored → ℕ → List ℕ → Job → Type 0
IsBadBase old new code text job =
    IsSomeAnd (opening_in job) (λ (o : Opening). (bytes : List ℕ) × (refusal : BaseRefusal) × FetchesBase old new (fetched.Got bytes) o.name × (base_of bytes ≡ Err refusal)
    × (number_of refusal ≡ Some code) × (text ≡ base_line o.name refusal))

-- it was to be verified, and this is its first result that is not what is defined for its texts
abbrev pub IsStale : Stored → Stored → List ℕ → Job → Type 0
IsStale old new text job =
    IsSomeAnd (opening_in job) (λ (o : Opening). (b : BaseFile) × (k : Key) × Opens old new b o × (o.verify ≡ true) × FirstStale (texts_in b) b.results (Some k) × (text ≡ stale_line k))

-- the bytes of the input, or the sample, are refused; a script is not
abbrev pub IsRefused : Stored → Stored → ℕ → ℕ → List ℕ → Job → Type 0
IsRefused old new at code text (Write show input) =
    (bytes : List ℕ) × (keyword : List ℕ) × FetchesInput old new (fetched.Got bytes) input × (made show bytes ≡ Refuses at code keyword) × (text ≡ refusal_line at code keyword)
IsRefused old new at code text (Answer show input) = ⊥
IsRefused old new at code text (Count parts) = (keyword : List ℕ) × (counted parts ≡ Refuses at code keyword) × (text ≡ refusal_line at code keyword)
IsRefused old new at code text (WriteOver show input opening) =
    (bytes : List ℕ) × (keyword : List ℕ) × (b : BaseFile) × FetchesInput old new (fetched.Got bytes) input × HasBase old new (WriteOver show input opening) b
    × (made show bytes ≡ Refuses at code keyword) × (text ≡ refusal_line at code keyword)
IsRefused old new at code text (AnswerOver show input opening) = ⊥

-- what is written and the base that is left come from the input and the base that was opened
abbrev pub LeavesOver : BaseFile → List ℕ → List ℕ → BaseFile → Job → Type 0
LeavesOver b bytes text left (Write show input) = ⊥
LeavesOver b bytes text left (Answer show input) = ⊥
LeavesOver b bytes text left (Count parts) = ⊥
LeavesOver b bytes text left (WriteOver show input opening) = WritesOver show b bytes text left
LeavesOver b bytes text left (AnswerOver show input opening) = AnswersOver show b bytes text left

-- the input was got and the base opened, and this is written and left over them
pub record WorksOver (old new : Stored) (job : Job) (text : List ℕ) (left : BaseFile) : Type 0 where
  pub bytes : List ℕ
  pub got : HasInput old new job bytes
  pub opened : BaseFile
  pub opens : HasBase old new job opened
  pub leaves : LeavesOver opened bytes text left job

-- the base that is left is too long, also without its results
abbrev pub LacksRoom : Stored → Stored → List ℕ → Job → Type 0
LacksRoom old new line job =
    (text : List ℕ) × (left : BaseFile) × WorksOver old new job text left × IsSomeAnd (opening_in job) (λ (o : Opening). (kept_text left base_limit ≡ None) × (line ≡ naming (codes "pips: too long ") o.name))

-- it cannot be kept, and no file has changed
abbrev pub IsNotKept : Stored → Stored → List ℕ → Job → Type 0
IsNotKept old new line job =
    (text : List ℕ) × (left : BaseFile) × WorksOver old new job text left × IsSomeAnd (opening_in job) (λ (o : Opening). (bytes : List ℕ) × (kept_text left base_limit ≡ Some bytes)
    × KeptBy old.files new.files (old.counts Base) (new.counts Base) o.name bytes kept.Failed × (line ≡ naming (codes "pips: cannot use base ") o.name))

-- no file has changed
abbrev pub Untouched : Stored → Stored → Type 0
Untouched old new = new.files ≡ old.files

-- the job ends with this status before it writes, and with this line; no file has changed, also where the base cannot be kept
abbrev pub StopsFor : Stored → Stored → Status → List ℕ → Job → Type 0
StopsFor old new Done line job = ⊥
StopsFor old new (Refused at code) line job = IsRefused old new at code line job × Untouched old new
StopsFor old new Usage line job = ⊥
StopsFor old new NoInput line job = LacksInput old new fetched.Absent (codes "pips: no input ") line job × Untouched old new
StopsFor old new TooLong line job =
    (LacksInput old new fetched.TooLong (codes "pips: too long ") line job
    ⊎ ((HasSomeInput old new job × LacksBase old new fetched.TooLong (codes "pips: too long ") line job) ⊎ LacksRoom old new line job)) × Untouched old new
StopsFor old new ReadFault line job = LacksInput old new fetched.Failed (codes "pips: cannot read ") line job × Untouched old new
StopsFor old new WriteFault line job = ⊥
StopsFor old new (BadBase code) line job = HasSomeInput old new job × IsBadBase old new code line job × Untouched old new
StopsFor old new StaleBase line job = HasSomeInput old new job × IsStale old new line job × Untouched old new
StopsFor old new BaseFault line job =
    (HasSomeInput old new job × LacksBase old new fetched.Failed (codes "pips: cannot use base ") line job × Untouched old new) ⊎ IsNotKept old new line job
StopsFor old new Memory line job = ⊥

-- and so a run: by its words, for want of memory, or in the job that the words request
abbrev pub StopsBy : List (List ℕ) → Stored → Stored → Status → List ℕ → Type 0
StopsBy words old new Usage line = AreRefused words × (line ≡ usage_line) × Untouched old new
StopsBy words old new Memory line = (line ≡ codes "pips: out of memory\n") × Untouched old new
StopsBy words old new status line = HasJob words (StopsFor old new status line)

-- ---- what a run writes

-- the whole text was appended, or its first n bytes where the count rose
abbrev pub Gains : Option (List ℕ) → Option (List ℕ) → ℕ → ℕ → List ℕ → Type 0
Gains old new before after text = (new ≡ appended old text) ⊎ ((n : ℕ) × (n ≤ length text) × (new ≡ appended old (take n text)) × Rose before after)

-- the bytes of the input were read as a program, and its text, which is sound, is written
pub record Writes (show : Wanted) (input : List ℕ) (old new : Stored) (text : List ℕ) : Type 0 where
  pub bytes : List ℕ
  pub got : FetchesInput old new (fetched.Got bytes) input
  pub program : ProgramTree
  pub as_program : reading bytes ≡ Ok program
  pub sound : IsSound show program
  pub is : text ≡ written show program

-- the bytes of the input are a script, and this text answers it, from a session without texts: each program that it prints is sound
pub record Answers (show : Show) (input : List ℕ) (old new : Stored) (text : List ℕ) : Type 0 where
  pub script : List ℕ
  pub got : FetchesInput old new (fetched.Got script) input
  pub end : State
  pub answers : AnswersScript show first_state script text end
  pub prints : PrintsSoundly show first_state script text

-- the sample was read as a program, and its counts are written
pub record Counts (parts : ℕ) (text : List ℕ) : Type 0 where
  pub program : ProgramTree
  pub as_program : reading (sample_program parts) ≡ Ok program
  pub is : text ≡ counts_text program

-- this is written over a base, and the base that is left is kept under its name: whole, or without its results where it is too long
pub record Keeps (old new : Stored) (job : Job) (opening : Opening) (text : List ℕ) : Type 0 where
  pub left : BaseFile
  pub works : WorksOver old new job text left
  pub bytes : List ℕ
  pub is : kept_text left base_limit ≡ Some bytes
  pub kept : KeptBy old.files new.files (old.counts Base) (new.counts Base) opening.name bytes kept.Done
  -- whatever base was opened, this is what the next run reads
  pub reads : base_of bytes ≡ Ok (kept_base left base_limit)
  -- if the base that was opened holds only results of its own texts, then so does the one that the next run opens
  pub again : IsSaved works.opened → ReadsSaved bytes

-- what a job writes, and what becomes of files
abbrev pub OutputOf : Stored → Stored → List ℕ → Job → Type 0
OutputOf old new text (Write show input) = Writes show input old new text × Untouched old new
OutputOf old new text (Answer show input) = Answers show input old new text × Untouched old new
OutputOf old new text (Count parts) = Counts parts text × Untouched old new
OutputOf old new text (WriteOver show input opening) = Keeps old new (WriteOver show input opening) opening text
OutputOf old new text (AnswerOver show input opening) = Keeps old new (AnswerOver show input opening) opening text

-- what the job that the words request writes
abbrev pub Outputs : List (List ℕ) → Stored → Stored → List ℕ → Type 0
Outputs words old new text = HasJob words (OutputOf old new text)

-- ---- a run

-- each status with its cause and its line on err, and what out gained: the whole text, or its first n bytes, or nothing
abbrev pub CausedBy : List (List ℕ) → Outside → Outside → Status → List ℕ → Type 0
CausedBy words old new Done line = (text : List ℕ) × Outputs words old.store new.store text × (new.out ≡ appended old.out text) × (line ≡ [])
CausedBy words old new WriteFault line =
    (text : List ℕ) × Outputs words old.store new.store text × Rose old.out_faults new.out_faults × ((n : ℕ) × (n ≤ length text) × (new.out ≡ appended old.out (take n text)))
    × (line ≡ codes "pips: cannot write\n")
CausedBy words old new status line = StopsBy words old.store new.store status line × (new.out ≡ old.out)

-- no fault was counted
pub record NoFault (old new : Outside) : Type 0 where
  pub input : Rose (old.store.counts Input).faults (new.store.counts Input).faults → ⊥
  pub base : Rose (old.store.counts Base).faults (new.store.counts Base).faults → ⊥
  pub out : Rose old.out_faults new.out_faults → ⊥

-- whether the status comes by the words and the files alone
abbrev pub is_settled : Status → Bool
is_settled ReadFault = false
is_settled BaseFault = false
is_settled WriteFault = false
is_settled Memory = false
is_settled status = true

-- no count falls, and without a base none but the input's changes
abbrev pub CountsFor : Option Opening → Stored → Stored → Type 0
CountsFor None old new = OnlyCounts old.counts new.counts Input
CountsFor (Some opening) old new = (r : Role) → NoneFalls (old.counts r) (new.counts r)

-- so for the job that the words request
abbrev pub CountsBy : Option Job → Stored → Stored → Type 0
CountsBy None old new = OnlyCounts old.counts new.counts Input
CountsBy (Some job) old new = CountsFor (opening_in job) old new

-- a run, from the outside as it began to the outside as it ended
pub record Runs (words : List (List ℕ)) (old new : Outside) (status : Status) : Type 0 where
  -- the line on err, and why the status came, with what was read where a text was written, and what became of files
  pub line : List ℕ
  pub cause : CausedBy words old new status line
  pub err : Gains old.err new.err old.err_faults new.err_faults line
  pub counts : CountsBy (job_in words) old.store new.store
  pub out_faults : old.out_faults ≤ new.out_faults
  pub err_faults : old.err_faults ≤ new.err_faults
  -- over files that are told, accepted words come to just what is defined, but for want of memory and faults
  pub defined : (held : Files) → old.store.files ≡ Some held → is_settled status ≡ true → Accepts words → EndsAs words held status old.out new.out new.store.files
  -- other words are refused
  pub refused : AreRefused words → (status ≡ Usage) ⊎ (status ≡ Memory)
  -- an accepted input is written, a script is answered, and a sample is counted
  pub complete : (held : Files) → old.store.files ≡ Some held → Accepts words → AreAccepted words held → NoFault old new → (status ≡ Done) ⊎ (status ≡ Memory)
