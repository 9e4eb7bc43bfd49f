-- What is replied before anything is written.
use Rattle.std.specs.Prelude.{◌≡◌, ◌⊎◌, ℕ, ◌+◌, ◌-◌, Bool, true, List, [], map, codes, Option, Some, None, Result, Ok, Err}
use Rattle.std.specs.declared.alloc.AllocError.{AllocError}
use Rattle.fx_base.specs.Store.{KeptBy}
use Rattle.fx_base.specs.declared.store.Fetched.TheVariants as fetched
use Rattle.fx_base.specs.declared.store.Kept.TheVariants as kept
use Rattle.fx_base.specs.declared.store.Role.TheVariants.{Base as BaseRole}
use Rattle.pipsmake_base.specs.result_lines.declared.show.Show.{Show}
use Rattle.pipsmake_base.specs.base_text.declared.base.Base.{Base}
use Rattle.pipsmake_base.specs.base_text.declared.refusal.BaseRefusal.{BaseRefusal}
use Rattle.pipsmake_base.specs.base_text.Gives.{number_of}
use Rattle.pipsmake_base.specs.base_text.Read.{base_of}
use Rattle.pipsmake_base.specs.base_text.Written.{kept_base, kept as kept_text}
use Rattle.pipsmake_base.specs.pipsmake_rules.declared.key.Key.{Key}
use Rattle.pipsmake_base.specs.pipsmake_db.declared.db.Db.{Db}
use Rattle.pipsmake_base.specs.pipsmake_db.declared.refusal.DbRefusal.{DbRefusal}
use Rattle.pipsmake_base.specs.pipsmake_db.declared.refusal.DbRefusal.TheVariants as db
use Rattle.pipsmake_base.specs.laws_database.Stands.{Valuation}
use Rattle.pipsmake_base.specs.pipsmake_db.Calls.{Rests}
use Rattle.pipsmake_base.specs.pipsmake_db.State.{State, first_state, IsIn, texts_of}
use Rattle.pipsmake_base.specs.pipsmake_db.Scripts.{AnswersScript}
use Rattle.pipsmake_base.specs.Current.{FreshIsCurrent}
use Rattle.pipsmake_base.specs.base_text.Grammar.{IsBase}
use Rattle.pipsmake_base.specs.Saved.{texts_in, keys_in, loaded_state, IsSaved, FirstStale}
use Rattle.pipsmake_base.specs.Whole.{values_in, IsCompleteBase}
use Rattle.pipsmake_base.specs.pipsmake_meaning.Texts.{ModuleText, names_in, SameTexts}
use Rattle.pipsmake_base.specs.session_texts.Sources.{source_modules}
use Rattle.pipsmake_base.specs.Saving.{module_of, stored_keys}
use Rattle.pips_top.specs.Based.{base_limit, IsVerified, IsBaseOf, all_keys}
use Rattle.pips_top.specs.Jobs.{HasJob}
use Rattle.pips_top.specs.Kept.{texts_wanted}
use Rattle.pips_top.specs.Made.{made, counted}
use Rattle.pips_top.specs.Program.{ProgramTree}
use Rattle.pips_top.specs.Reading.{reading}
use Rattle.pips_top.specs.Run.{Stored, FetchesInput, FetchesBase, Opens, StopsFor, StopsBy, Keeps, Untouched}
use Rattle.pips_top.specs.Status.{naming, base_line, refusal_line, stale_line}
use Rattle.pips_top.specs.Written.{written}
use Rattle.pips_top.specs.declared.job.Job.{Job}
use Rattle.pips_top.specs.declared.job.Job.TheVariants.{Write, Answer, Count, WriteOver, AnswerOver}
use Rattle.pips_top.specs.declared.job.Opening.{Opening}
use Rattle.pips_top.specs.declared.make.Made.{Made}
use Rattle.pips_top.specs.declared.make.Made.TheVariants.{Writes, Refuses}
use Rattle.pips_top.specs.declared.reply.Reply.{Reply}
use Rattle.pips_top.specs.declared.reply.Reply.TheVariants.{Writing, Stopping, NoMemory}
use Rattle.pips_top.specs.declared.status.Status.{Status}
use Rattle.pips_top.specs.declared.wanted.Wanted.{Wanted}
use Rattle.pips_top.specs.declared.status.Status.TheVariants.{Refused, NoInput, TooLong, ReadFault, BadBase, StaleBase, BaseFault}

-- a session without texts answers a script so
pub record AnswersFirst (show : Show) (script text : List ℕ) : Type 0 where
  pub end : State
  pub answers : AnswersScript show first_state script text end

-- what a job makes, and what has then become of files
abbrev pub Makes : Stored → Stored → List ℕ → Job → Type 0
Makes old new text (Write show input) = (bytes : List ℕ) × FetchesInput old new (fetched.Got bytes) input × (made show bytes ≡ Writes text) × Untouched old new
Makes old new text (Answer show input) = (script : List ℕ) × FetchesInput old new (fetched.Got script) input × AnswersFirst show script text × Untouched old new
Makes old new text (Count parts) = (counted parts ≡ Writes text) × Untouched old new
Makes old new text (WriteOver show input opening) = Keeps old new (WriteOver show input opening) opening text
Makes old new text (AnswerOver show input opening) = Keeps old new (AnswerOver show input opening) opening text

-- of a job: what is to be written, or the status with its line
abbrev pub RepliesFor : Job → Stored → Stored → Reply → Type 0
RepliesFor job old new (Writing text) = Makes old new text job
RepliesFor job old new (Stopping status line) = StopsFor old new status line job
RepliesFor job old new NoMemory = Untouched old new

-- of words
abbrev pub RepliesBy : List (List ℕ) → Stored → Stored → Reply → Type 0
RepliesBy words old new (Writing text) = HasJob words (Makes old new text)
RepliesBy words old new (Stopping status line) = StopsBy words old new status line
RepliesBy words old new NoMemory = Untouched old new

-- the status with its line where there was memory for it
abbrev pub StopsOr : Status → Result (List ℕ) AllocError → Reply → Type 0
StopsOr status (Ok line) reply = reply ≡ Stopping status line
StopsOr status (Err error) reply = reply ≡ NoMemory

-- what was made is to be written, or its refusal with its line
abbrev pub RepliesWith : Made → Reply → Type 0
RepliesWith m (Writing text) = m ≡ Writes text
RepliesWith m (Stopping status line) = (at : ℕ) × (code : ℕ) × (keyword : List ℕ) × (m ≡ Refuses at code keyword) × (status ≡ Refused at code) × (line ≡ refusal_line at code keyword)
RepliesWith m NoMemory = Unit {0}

-- ---- over a base

-- the status that comes where an input is not got, with its line
abbrev pub LacksFor : Stored → Stored → List ℕ → Status → List ℕ → Type 0
LacksFor old new name NoInput line = FetchesInput old new fetched.Absent name × (line ≡ naming (codes "pips: no input ") name)
LacksFor old new name TooLong line = FetchesInput old new fetched.TooLong name × (line ≡ naming (codes "pips: too long ") name)
LacksFor old new name ReadFault line = FetchesInput old new fetched.Failed name × (line ≡ naming (codes "pips: cannot read ") name)
LacksFor old new name status line = ⊥

-- an input, or what is replied where it is not got
abbrev pub GotOr : Stored → Stored → List ℕ → Result (List ℕ) Reply → Type 0
GotOr old new name (Ok text) = FetchesInput old new (fetched.Got text) name
GotOr old new name (Err (Writing text)) = ⊥
GotOr old new name (Err (Stopping status line)) = LacksFor old new name status line
GotOr old new name (Err NoMemory) = Unit {0}

-- the status that comes where a base is not opened, with its line
abbrev pub UnopenedFor : Stored → Stored → Opening → Status → List ℕ → Type 0
UnopenedFor old new o TooLong line = FetchesBase old new fetched.TooLong o.name × (line ≡ naming (codes "pips: too long ") o.name)
UnopenedFor old new o BaseFault line = FetchesBase old new fetched.Failed o.name × (line ≡ naming (codes "pips: cannot use base ") o.name)
UnopenedFor old new o (BadBase code) line =
    (bytes : List ℕ) × (refusal : BaseRefusal) × FetchesBase old new (fetched.Got bytes) o.name × (base_of bytes ≡ Err refusal) × (number_of refusal ≡ Some code) × (line ≡ base_line o.name refusal)
UnopenedFor old new o status line = ⊥

-- what is replied where the file of a name is no base
abbrev pub BadBaseOr : List ℕ → BaseRefusal → Reply → Type 0
BadBaseOr name refusal (Writing text) = ⊥
BadBaseOr name refusal (Stopping status line) = (code : ℕ) × (number_of refusal ≡ Some code) × (status ≡ BadBase code) × (line ≡ base_line name refusal)
BadBaseOr name refusal NoMemory = Unit {0}

-- a base, or what is replied where it is not got or is none
abbrev pub OpenedOr : Stored → Stored → Opening → Result Base Reply → Type 0
OpenedOr old new o (Ok b) = Opens old new b o
OpenedOr old new o (Err (Writing text)) = ⊥
OpenedOr old new o (Err (Stopping status line)) = UnopenedFor old new o status line
OpenedOr old new o (Err NoMemory) = Unit {0}

-- the base, where it is not to be verified or holds only results of its own texts; else what is replied
abbrev pub VerifiedOr : Base → Bool → Result Base Reply → Type 0
VerifiedOr b verify (Ok found) = (found ≡ b) × (verify ≡ true → IsSaved b)
VerifiedOr b verify (Err (Writing text)) = ⊥
VerifiedOr b verify (Err (Stopping status line)) = (k : Key) × (verify ≡ true) × FirstStale (texts_in b) b.results (Some k) × (status ≡ StaleBase) × (line ≡ stale_line k)
VerifiedOr b verify (Err NoMemory) = Unit {0}

-- the status that comes where a base is stale, with its line
abbrev pub StaleFor : Stored → Stored → Opening → Status → List ℕ → Type 0
StaleFor old new o status line =
    (b : Base) × (k : Key) × Opens old new b o × (o.verify ≡ true) × FirstStale (texts_in b) b.results (Some k) × (status ≡ StaleBase) × (line ≡ stale_line k)

-- a base that is opened and, where that is requested, verified; or what is replied where it is not
abbrev pub BaseOr : Stored → Stored → Opening → Result Base Reply → Type 0
BaseOr old new o (Ok b) = Opens old new b o × IsVerified o.verify b
BaseOr old new o (Err (Writing text)) = ⊥
BaseOr old new o (Err (Stopping status line)) = UnopenedFor old new o status line ⊎ StaleFor old new o status line
BaseOr old new o (Err NoMemory) = Unit {0}

-- a database that goes on from a base
pub record GoesOnFrom (old new : Stored) (o : Opening) (d : Db) : Type 0 where
  pub opened : Base
  pub opens : Opens old new opened o
  pub verified : IsVerified o.verify opened
  pub grammar : IsBase opened
  pub texts : texts_of d ≡ texts_in opened
  pub fresh : d.fresh ≡ keys_in opened
  pub rests : IsCompleteBase opened → Rests d (values_in opened)
  pub stands : IsSaved opened → IsIn d (loaded_state opened)

-- the bytes of an INPUT and a database that goes on from a base; or what is replied where one is not got
abbrev pub FoundOr : Stored → Stored → List ℕ → Opening → Result (List ℕ × Db) Reply → Type 0
FoundOr old new input o (Ok (text, d)) = FetchesInput old new (fetched.Got text) input × GoesOnFrom old new o d
FoundOr old new input o (Err (Writing text)) = ⊥
FoundOr old new input o (Err (Stopping status line)) =
    LacksFor old new input status line ⊎ (((text : List ℕ) × FetchesInput old new (fetched.Got text) input) × (UnopenedFor old new o status line ⊎ StaleFor old new o status line))
FoundOr old new input o (Err NoMemory) = Unit {0}

-- ---- what is kept

-- a base is kept under a name, whole or without its results, and is read again where it is in the grammar
pub record KeepsAs (old new : Stored) (name : List ℕ) (left : Base) : Type 0 where
  pub bytes : List ℕ
  pub is : kept_text left base_limit ≡ Some bytes
  pub kept : KeptBy old.files new.files (old.counts BaseRole) (new.counts BaseRole) name bytes kept.Done
  pub reads : IsBase left → base_of bytes ≡ Ok (kept_base left base_limit)

-- the status that comes where it is too long or cannot be kept, with its line
abbrev pub NotKeptFor : Stored → Stored → List ℕ → Base → Status → List ℕ → Type 0
NotKeptFor old new name left TooLong line = (kept_text left base_limit ≡ None) × (line ≡ naming (codes "pips: too long ") name) × Untouched old new
NotKeptFor old new name left BaseFault line =
    (bytes : List ℕ) × (kept_text left base_limit ≡ Some bytes) × KeptBy old.files new.files (old.counts BaseRole) (new.counts BaseRole) name bytes kept.Failed
    × (line ≡ naming (codes "pips: cannot use base ") name)
NotKeptFor old new name left status line = ⊥

-- a base is kept; or what is replied where it is not
abbrev pub KeptOr : Stored → Stored → List ℕ → Base → Option Reply → Type 0
KeptOr old new name left None = KeepsAs old new name left
KeptOr old new name left (Some (Writing text)) = ⊥
KeptOr old new name left (Some (Stopping status line)) = NotKeptFor old new name left status line
KeptOr old new name left (Some NoMemory) = Untouched old new

-- what a database leaves: its texts, in the grammar, and from each of its states in which fresh results are up to date the base of that state
pub record IsLeftBy (d : Db) (left : Base) : Type 0 where
  pub modules : left.modules ≡ map module_of (texts_of d)
  pub keys : keys_in left ≡ stored_keys d.fresh (names_in (texts_of d))
  pub of_state : (s : State) → IsIn d s → FreshIsCurrent s → IsBaseOf s left
  pub grammar : IsBase left

-- it is kept, and then the text is to be written; or what is replied where it is not
abbrev pub KeptWith : Stored → Stored → List ℕ → Db → List ℕ → Reply → Type 0
KeptWith old new name d text (Writing written) = (written ≡ text) × ((left : Base) × IsLeftBy d left × KeepsAs old new name left)
KeptWith old new name d text (Stopping status line) = (left : Base) × IsLeftBy d left × NotKeptFor old new name left status line
KeptWith old new name d text NoMemory = Untouched old new

-- ---- a program over a database

-- a state of the database leads to one of the new one, in which each fresh result is up to date and all stored ones are fresh, with the text of the program
pub record PrintsFrom (show : Wanted) (program : ProgramTree) (text : List ℕ) (e : Db) : Type 0 where
  pub next : State
  pub is_in : IsIn e next
  pub current : FreshIsCurrent next
  pub is : text ≡ written show program

-- the program of a text takes the place of the texts of a database, and is printed from each state of that; where the texts are the same, with the stored results on which it rests
pub record PrintsOver (show : Wanted) (bytes text : List ℕ) (d e : Db) : Type 0 where
  pub program : ProgramTree
  pub as_program : reading bytes ≡ Ok program
  pub sources : List ModuleText
  pub split : source_modules bytes ≡ Ok sources
  pub texts : texts_of e ≡ sources
  pub all : stored_keys e.fresh (names_in (texts_of e)) ≡ all_keys (names_in (texts_of e))
  pub rests : (stored : Valuation) → Rests d stored → SameTexts (texts_of d) sources → texts_wanted sources stored show (names_in sources) ≡ Some text
  pub from : (s : State) → IsIn d s → PrintsFrom show program text e

-- or it is refused, as a whole
abbrev pub PrintsWhole : Wanted → List ℕ → Db → Db → Made → Type 0
PrintsWhole show bytes d e (Refuses line code keyword) = made show bytes ≡ Refuses line code keyword
PrintsWhole show bytes d e (Writes text) = PrintsOver show bytes text d e

-- the refusal of a database as one of a source text: what is wrong with links is at a line of the source
abbrev pub RefusedBy : DbRefusal → Made → Type 0
RefusedBy (db.Source line code keyword) m = m ≡ Refuses line code keyword
RefusedBy (db.Link x line first code) m = m ≡ Refuses (first - 1 + line) code []
RefusedBy refusal m = ⊥
