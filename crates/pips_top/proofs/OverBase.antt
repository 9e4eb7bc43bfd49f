-- What is replied over a base, by what was found before the work and kept after it.
use Rattle.std.proofs.Common.{◌≡◌, ℕ, ◌+◌, ◌≤◌, inl, inr, min, List, length, refl, sym, ap, ◌∙◌, subst, Bool, true, false, Option, Some, None, IsSomeAnd, Result, Ok, Err, arith}
use Rattle.std.specs.Prelude.{if◌then◌else◌, nat_le, map, IfOk}
use Rattle.std.specs.declared.alloc.AllocError.{AllocError}
use Rattle.fx_base.specs.Counts.{Rose, last_count}
use Rattle.fx_base.specs.Files.{Files, OthersStay}
use Rattle.fx_base.specs.Store.{NoneFalls, OnlyBaseFaults}
use Rattle.fx_base.specs.declared.store.Role.{Role}
use Rattle.fx_base.specs.declared.store.Role.TheVariants.{Base as BaseRole}
use Rattle.fx_base.specs.declared.store.Fetched.TheVariants as fetched
use Rattle.command_words.specs.Options.{Accepts}
use Rattle.pipsmake_base.specs.base_text.declared.base.Base.{Base}
use Rattle.pipsmake_base.specs.base_text.Grammar.{IsBase}
use Rattle.pipsmake_base.specs.base_text.Written.{base_text, without_results, kept_base}
use Rattle.pipsmake_base.specs.pipsmake_meaning.Texts.{ModuleText, names_in, SameTexts}
use Rattle.pipsmake_base.specs.result_lines.declared.show.Show.{Show}
use Rattle.pips_top.specs.declared.wanted.Wanted.{Wanted}
use Rattle.pipsmake_base.specs.session_texts.Commands.{commands_of}
use Rattle.pipsmake_base.specs.pipsmake_db.declared.db.Db.{Db}
use Rattle.pipsmake_base.specs.pipsmake_db.AnswerSteps.{AnswersWhole, AnswersWholeFrom}
use Rattle.pipsmake_base.specs.pipsmake_db.AnswerTexts.{texts_at_end}
use Rattle.pipsmake_base.specs.pipsmake_db.Outlines.{Outline, outline_of, OutlinesScript}
use Rattle.pipsmake_base.specs.pipsmake_db.State.{State, texts_of, IsIn}
use Rattle.pipsmake_base.specs.Bases.{BasesAreModules}
use Rattle.pipsmake_base.specs.Current.{FreshIsCurrent, LoadedIsCurrent, AnswersStayCurrent}
use Rattle.pipsmake_base.specs.Saved.{keys_in, loaded_state, IsSaved}
use Rattle.pipsmake_base.specs.Saving.{module_of, stored_keys, saved_base}
use Rattle.pipsmake_base.specs.Whole.{values_in}
use Rattle.pips_top.specs.Based.{base_limit, IsVerified, IsBaseOf, GoesOn, outline_in, AnswersOver, WritesOver, all_keys}
use Rattle.pips_top.specs.Jobs.{job_in, input_in, opening_in}
use Rattle.pips_top.specs.Laws.{ReadSoundly, AnsweredSoundly}
use Rattle.pips_top.specs.Made.{made}
use Rattle.pips_top.specs.Replies.{LacksFor, UnopenedFor, StaleFor, GoesOnFrom, FoundOr, KeepsAs, NotKeptFor, KeptOr, IsLeftBy, KeptWith, PrintsFrom, PrintsOver, Makes, RepliesFor, RepliesBy, StopsOr}
use Rattle.pips_top.specs.Run.{Stored, FetchesInput, Opens, HasSomeInput, StopsFor, WorksOver, Keeps, CountsFor, CountsBy}
use Rattle.pips_top.specs.Status.{refusal_line}
use Rattle.pips_top.specs.declared.job.Job.{Job}
use Rattle.pips_top.specs.declared.job.Job.TheVariants as jobs
use Rattle.pips_top.specs.declared.job.Opening.{Opening}
use Rattle.pips_top.specs.declared.make.Made.TheVariants.{Refuses}
use Rattle.pips_top.specs.declared.reply.Reply.{Reply}
use Rattle.pips_top.specs.declared.reply.Reply.TheVariants.{Writing, Stopping, NoMemory}
use Rattle.pips_top.specs.declared.status.Status.{Status}
use Rattle.pips_top.specs.declared.status.Status.TheVariants.{Done, Refused, Usage, NoInput, TooLong, ReadFault, WriteFault, BadBase, StaleBase, BaseFault, Memory}

-- ---- before and after

at_some : {A : Type 0} (o : Option A) (a : A) (P : A → Type 0) → o ≡ Some a → P a → IsSomeAnd o P
at_some o a P e h = subst (λ q. IsSomeAnd q P) (sym e) h

earlier : (a b c limit : ℕ) → a ≤ b → min (b + 1) limit ≤ c → min (a + 1) limit ≤ c
earlier a b c limit le h = omega arith

-- a count that rose later has risen
rose_before : (a b c : ℕ) → a ≤ b → Rose b c → Rose a c
rose_before a b c le h = earlier a b c last_count le h

opens_later : (old mid new : Stored) (b : Base) (o : Opening) → OnlyBaseFaults mid.counts new.counts → Opens old mid b o → Opens old new b o
opens_later old mid new b o k (inl (got, is)) = inl ((subst (λ n. Rose (old.counts BaseRole).misses n) (sym k.misses) got.0, got.1), is)
opens_later old mid new b o k (inr h) = inr h

-- a base that is kept whole or without results holds only results of its own texts where the whole does
kept_saved : (b : Base) (n : ℕ) → IsSaved b → IsSaved (kept_base b n)
kept_saved b n saved = go (nat_le (length (base_text b)) n)
  where
    go : (t : Bool) → IsSaved (if t then b else without_results b)
    go true = saved
    go false = tt

-- ---- what was found

-- a job over a base, with the name of its input
pub record IsOver (job : Job) (input : List ℕ) (o : Opening) : Type 0 where
  pub input_is : input_in job ≡ Some input
  pub opening_is : opening_in job ≡ Some o

pub writes_over : (show : Wanted) (input : List ℕ) (o : Opening) → IsOver (jobs.WriteOver show input o) input o
writes_over show input o = record { input_is = refl; opening_is = refl }

pub answers_over : (show : Show) (input : List ℕ) (o : Opening) → IsOver (jobs.AnswerOver show input o) input o
answers_over show input o = record { input_is = refl; opening_is = refl }

module _ (job : Job) (input : List ℕ) (o : Opening) (is : IsOver job input o) (old mid : Stored) (same : mid.files ≡ old.files) where
  no_input : (status : Status) (line : List ℕ) → LacksFor old mid input status line → StopsFor old mid status line job
  no_input NoInput line h = (at_some (input_in job) input _ is.input_is h, same)
  no_input TooLong line h = (inl (at_some (input_in job) input _ is.input_is h), same)
  no_input ReadFault line h = (at_some (input_in job) input _ is.input_is h, same)
  no_input Done line h = absurd h
  no_input (Refused at code) line h = absurd h
  no_input Usage line h = absurd h
  no_input WriteFault line h = absurd h
  no_input (BadBase code) line h = absurd h
  no_input StaleBase line h = absurd h
  no_input BaseFault line h = absurd h
  no_input Memory line h = absurd h

  some_input : (text : List ℕ) → FetchesInput old mid (fetched.Got text) input → HasSomeInput old mid job
  some_input text got = (text, at_some (input_in job) input _ is.input_is got)

  no_base : HasSomeInput old mid job → (status : Status) (line : List ℕ) → UnopenedFor old mid o status line → StopsFor old mid status line job
  no_base i TooLong line h = (inr (inl (i, at_some (opening_in job) o _ is.opening_is h)), same)
  no_base i BaseFault line h = inl (i, at_some (opening_in job) o _ is.opening_is h, same)
  no_base i (BadBase code) line h = (i, at_some (opening_in job) o _ is.opening_is h, same)
  no_base i Done line h = absurd h
  no_base i (Refused at code) line h = absurd h
  no_base i Usage line h = absurd h
  no_base i NoInput line h = absurd h
  no_base i ReadFault line h = absurd h
  no_base i WriteFault line h = absurd h
  no_base i StaleBase line h = absurd h
  no_base i Memory line h = absurd h

  stale : HasSomeInput old mid job → (status : Status) (line : List ℕ) → StaleFor old mid o status line → StopsFor old mid status line job
  stale i status line (b, k, opens, verify, first, e, told_line) =
      subst (λ s. StopsFor old mid s line job) (sym e) (i, at_some (opening_in job) o _ is.opening_is (b, k, opens, verify, first, told_line), same)

  pub unfound : (reply : Reply) → FoundOr old mid input o (Err reply) → RepliesFor job old mid reply
  unfound (Writing text) h = absurd h
  unfound (Stopping status line) (inl h) = no_input status line h
  unfound (Stopping status line) (inr ((text, got), inl h)) = no_base (some_input text got) status line h
  unfound (Stopping status line) (inr ((text, got), inr h)) = stale (some_input text got) status line h
  unfound NoMemory h = same

-- ---- what is kept

-- a base that is saved of a database is left by it
pub left_by : (d : Db) (left : Base) → left ≡ saved_base d → ((s : State) → IsIn d s → FreshIsCurrent s → IsSaved left) → keys_in left ≡ stored_keys d.fresh (names_in (texts_of d))
    → IsBase left → IsLeftBy d left
left_by d left e saved keys grammar = record {
  modules = ap (λ (b : Base). b.modules) e;
  keys = keys;
  of_state = λ s is current. record {
    modules = ap (λ (b : Base). b.modules) e ∙ ap (map module_of) is.texts;
    keys = keys ∙ (λ i. stored_keys (is.fresh i) (names_in (is.texts i)));
    saved = saved s is current;
  };
  grammar = grammar;
}

pub kept_with : (old new : Stored) (name : List ℕ) (d : Db) (text : List ℕ) (left : Base) → IsLeftBy d left → (reply : Reply) → KeptOr old new name left (Some reply) → KeptWith old new name d text reply
kept_with old new name d text left by (Writing written) h = absurd h
kept_with old new name d text left by (Stopping status line) h = (left, by, h)
kept_with old new name d text left by NoMemory h = h

module _ (job : Job) (input : List ℕ) (o : Opening) (is : IsOver job input o) (old mid new : Stored) (same : mid.files ≡ old.files) (rises : (r : Role) → NoneFalls (old.counts r) (mid.counts r)) where
  keeps : (text : List ℕ) (left : Base) (w : WorksOver old new job text left) → IsBase left → (IsSaved w.opened → IsSaved left) → KeepsAs mid new o.name left → Keeps old new job o text
  keeps text left w grammar good k = record {
    left = left;
    works = w;
    bytes = k.bytes;
    is = k.is;
    kept = (subst (λ (f : Option Files). OthersStay f new.files o.name) same k.kept.0, k.kept.1);
    reads = k.reads grammar;
    again = λ saved. record { found = kept_base left base_limit; is = k.reads grammar; saved = kept_saved left base_limit (good saved) };
  }

  not_kept : (text : List ℕ) (left : Base) → WorksOver old new job text left → (status : Status) (line : List ℕ) → NotKeptFor mid new o.name left status line → StopsFor old new status line job
  not_kept text left w TooLong line (none, told_line, untouched) = (inr (inr (text, left, w, at_some (opening_in job) o _ is.opening_is (none, told_line))), untouched ∙ same)
  not_kept text left w BaseFault line (bytes, kept, (rose, untouched), told_line) =
      inr (
        text,
        left,
        w,
        at_some (opening_in job) o _ is.opening_is (
          bytes,
          kept,
          (
            rose_before (old.counts BaseRole).faults (mid.counts BaseRole).faults (new.counts BaseRole).faults (rises BaseRole).faults rose,
            untouched ∙ same,
          ),
          told_line,
        ),
      )
  not_kept text left w Done line h = absurd h
  not_kept text left w (Refused at code) line h = absurd h
  not_kept text left w Usage line h = absurd h
  not_kept text left w NoInput line h = absurd h
  not_kept text left w ReadFault line h = absurd h
  not_kept text left w WriteFault line h = absurd h
  not_kept text left w (BadBase code) line h = absurd h
  not_kept text left w StaleBase line h = absurd h
  not_kept text left w Memory line h = absurd h

-- ---- the work

module _ (old mid new : Stored) (o : Opening) (d e : Db) (left : Base) (only : OnlyBaseFaults mid.counts new.counts) (from : GoesOnFrom old mid o d) (by : IsLeftBy e left) where
  pub opens : Opens old new from.opened o × IsVerified o.verify from.opened
  opens = (opens_later old mid new from.opened o only from.opens, from.verified)

  -- a script
  module _ (show : Show) (input : List ℕ) (loaded : LoadedIsCurrent) (stays : AnswersStayCurrent) (modules : BasesAreModules) (sound : AnsweredSoundly) (script text : List ℕ) (got : FetchesInput old mid (fetched.Got script) input) (a : AnswersWhole show script d e text) where
    abbrev script_end : IsSaved from.opened → AnswersWholeFrom show script (loaded_state from.opened) text e
    script_end saved = a.from (loaded_state from.opened) (from.stands saved)

    script_current : (saved : IsSaved from.opened) → FreshIsCurrent (script_end saved).next
    script_current saved = stays show (loaded_state from.opened) (script_end saved).next script text (script_end saved).answers (loaded from.opened)

    script_goes_on : IsSaved from.opened → GoesOn show from.opened script text left
    script_goes_on saved = let f = script_end saved in record {
      end = f.next;
      answers = f.answers;
      prints = sound show (loaded_state from.opened) script text f.next (modules from.opened from.grammar) f.answers;
      leaves = by.of_state f.next f.is_in (script_current saved);
    }

    pub script_good : IsSaved from.opened → IsSaved left
    script_good saved = let f = script_end saved in (by.of_state f.next f.is_in (script_current saved)).saved

    pub script_leaves : AnswersOver show from.opened script text left
    script_leaves = record {
      texts = by.modules ∙ ap (map module_of) (a.texts ∙ ap (λ ts. texts_at_end ts (commands_of script)) from.texts);
      outline = outline_of e;
      outlines = (let same : outline_of d ≡ outline_in from.opened = (λ i. record { texts = from.texts i; fresh = from.fresh i }) in subst (λ (o : Outline). OutlinesScript o script text (outline_of e)) same a.anyway);
      ends = by.modules;
      keys = by.keys;
      goes_on = script_goes_on;
    }

    abbrev pub script_works : WorksOver old new (jobs.AnswerOver show input o) text left
    script_works = record { bytes = script; got = got; opened = from.opened; opens = opens; leaves = script_leaves }

  -- a program
  module _ (show : Wanted) (input : List ℕ) (sound : ReadSoundly) (bytes text : List ℕ) (got : FetchesInput old mid (fetched.Got bytes) input) (p : PrintsOver show bytes text d e) where
    abbrev program_end : IsSaved from.opened → PrintsFrom show p.program text e
    program_end saved = p.from (loaded_state from.opened) (from.stands saved)

    program_base : (saved : IsSaved from.opened) → IsBaseOf (program_end saved).next left
    program_base saved = let f = program_end saved in by.of_state f.next f.is_in f.current

    pub program_good : IsSaved from.opened → IsSaved left
    program_good saved = (program_base saved).saved

    pub program_leaves : WritesOver show from.opened bytes text left
    program_leaves = record {
      program = p.program;
      as_program = p.as_program;
      sound = sound show bytes p.program p.as_program;
      sources = p.sources;
      split = p.split;
      modules = by.modules ∙ ap (map module_of) p.texts;
      is = λ saved. (program_end saved).is;
      shows = λ complete same. p.rests (values_in from.opened) (from.rests complete) (subst (λ (ts : List ModuleText). SameTexts ts p.sources) (sym from.texts) same);
      keys = by.keys ∙ p.all ∙ ap (λ ts. all_keys (names_in ts)) p.texts;
      saved = λ saved. (program_base saved).saved;
    }

    abbrev pub program_works : WorksOver old new (jobs.WriteOver show input o) text left
    program_works = record { bytes = bytes; got = got; opened = from.opened; opens = opens; leaves = program_leaves }

-- ---- the replies

module _ (old mid new : Stored) (same : mid.files ≡ old.files) (rises : (r : Role) → NoneFalls (old.counts r) (mid.counts r)) (only : OnlyBaseFaults mid.counts new.counts) (o : Opening) (d e : Db) (from : GoesOnFrom old mid o d) where
  pub script_reply : (show : Show) (input : List ℕ) → LoadedIsCurrent → AnswersStayCurrent → BasesAreModules → AnsweredSoundly → (script text : List ℕ) → FetchesInput old mid (fetched.Got script) input → AnswersWhole show script d e text → (reply : Reply)
      → KeptWith mid new o.name e text reply → RepliesFor (jobs.AnswerOver show input o) old new reply
  script_reply show input loaded stays modules sound script text got a (Writing written) (is, (left, by, k)) =
      let w = script_works old mid new o d e left only from by show input loaded stays modules sound script text got a in
      let good = script_good old mid new o d e left only from by show input loaded stays modules sound script text got a in
      subst (λ t. Keeps old new (jobs.AnswerOver show input o) o t) (sym is) (keeps (jobs.AnswerOver show input o) input o (answers_over show input o) old mid new same rises text left w by.grammar good k)
  script_reply show input loaded stays modules sound script text got a (Stopping status line) (left, by, h) =
      let w = script_works old mid new o d e left only from by show input loaded stays modules sound script text got a in
      not_kept (jobs.AnswerOver show input o) input o (answers_over show input o) old mid new same rises text left w status line h
  script_reply show input loaded stays modules sound script text got a NoMemory h = h ∙ same

  pub program_reply : (show : Wanted) (input : List ℕ) → ReadSoundly → (bytes text : List ℕ) → FetchesInput old mid (fetched.Got bytes) input → PrintsOver show bytes text d e → (reply : Reply) → KeptWith mid new o.name e text reply
      → RepliesFor (jobs.WriteOver show input o) old new reply
  program_reply show input sound bytes text got p (Writing written) (is, (left, by, k)) =
      let w = program_works old mid new o d e left only from by show input sound bytes text got p in
      let good = program_good old mid new o d e left only from by show input sound bytes text got p in
      subst (λ t. Keeps old new (jobs.WriteOver show input o) o t) (sym is) (keeps (jobs.WriteOver show input o) input o (writes_over show input o) old mid new same rises text left w by.grammar good k)
  program_reply show input sound bytes text got p (Stopping status line) (left, by, h) =
      let w = program_works old mid new o d e left only from by show input sound bytes text got p in
      not_kept (jobs.WriteOver show input o) input o (writes_over show input o) old mid new same rises text left w status line h
  program_reply show input sound bytes text got p NoMemory h = h ∙ same

-- a program that is refused
pub refused_reply : (old mid : Stored) (same : mid.files ≡ old.files) (o : Opening) (d : Db) (from : GoesOnFrom old mid o d) (show : Wanted) (input bytes : List ℕ) → FetchesInput old mid (fetched.Got bytes) input
    → (at code : ℕ) (keyword : List ℕ) → made show bytes ≡ Refuses at code keyword → (line : Result (List ℕ) AllocError) → IfOk line (λ l. l ≡ refusal_line at code keyword) → (reply : Reply) → StopsOr (Refused at code) line reply
    → RepliesFor (jobs.WriteOver show input o) old mid reply
refused_reply old mid same o d from show input bytes got at code keyword e (Ok line) is reply h =
    subst (λ r. RepliesFor (jobs.WriteOver show input o) old mid r) (sym h) ((bytes, keyword, from.opened, got, (from.opens, from.verified), e, is), same)
refused_reply old mid same o d from show input bytes got at code keyword e (Err error) is reply h = subst (λ r. RepliesFor (jobs.WriteOver show input o) old mid r) (sym h) same

-- ---- of words

pub replies_by : (words : List (List ℕ)) (job : Job) (old new : Stored) → Accepts words → job_in words ≡ Some job → (reply : Reply) → RepliesFor job old new reply → RepliesBy words old new reply
replies_by words job old new a e (Writing text) h = (a, at_some (job_in words) job (Makes old new text) e h)
replies_by words job old new a e (Stopping Done line) h = absurd h
replies_by words job old new a e (Stopping (Refused at code) line) h = (a, at_some (job_in words) job (StopsFor old new (Refused at code) line) e h)
replies_by words job old new a e (Stopping Usage line) h = absurd h
replies_by words job old new a e (Stopping NoInput line) h = (a, at_some (job_in words) job (StopsFor old new NoInput line) e h)
replies_by words job old new a e (Stopping TooLong line) h = (a, at_some (job_in words) job (StopsFor old new TooLong line) e h)
replies_by words job old new a e (Stopping ReadFault line) h = (a, at_some (job_in words) job (StopsFor old new ReadFault line) e h)
replies_by words job old new a e (Stopping WriteFault line) h = absurd h
replies_by words job old new a e (Stopping (BadBase code) line) h = (a, at_some (job_in words) job (StopsFor old new (BadBase code) line) e h)
replies_by words job old new a e (Stopping StaleBase line) h = (a, at_some (job_in words) job (StopsFor old new StaleBase line) e h)
replies_by words job old new a e (Stopping BaseFault line) h = (a, at_some (job_in words) job (StopsFor old new BaseFault line) e h)
replies_by words job old new a e (Stopping Memory line) h = absurd h
replies_by words job old new a e NoMemory h = h

none_rises : (s : Stored) (r : Role) → NoneFalls (s.counts r) (s.counts r)
none_rises s r = record { faults = omega arith; misses = omega arith; overlong = omega arith }

-- no count changes where nothing is fetched or kept
pub counts_stay : (o : Option Job) (s : Stored) → CountsBy o s s
counts_stay None s = record { rises = none_rises s; others = λ r other. refl }
counts_stay (Some job) s = go (opening_in job)
  where
    go : (p : Option Opening) → CountsFor p s s
    go None = record { rises = none_rises s; others = λ r other. refl }
    go (Some p) = none_rises s
