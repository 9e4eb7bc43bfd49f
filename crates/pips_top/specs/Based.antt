-- A base that is opened before the work and kept after it, and the work over it.
use Rattle.std.specs.Prelude.{◌≡◌, ◌⊎◌, ℕ, Bool, true, false, List, [], ◌∷◌, ◌++◌, map, Option, Some, Ok}
use Rattle.fx_base.specs.Files.{Files}
use Rattle.fx_base.specs.Store.{FetchedBy}
use Rattle.fx_base.specs.declared.tally.Tally.{Tally}
use Rattle.fx_base.specs.declared.store.Fetched.TheVariants as fetched
use Rattle.pipsmake_base.specs.pipsmake_rules.declared.key.Key.{Key}
use Rattle.pipsmake_base.specs.session_texts.Commands.{commands_of}
use Rattle.pipsmake_base.specs.result_lines.declared.show.Show.{Show}
use Rattle.pipsmake_base.specs.base_text.declared.base.Base.{Base}
use Rattle.pipsmake_base.specs.base_text.Read.{base_of}
use Rattle.pipsmake_base.specs.pipsmake_meaning.Texts.{ModuleText, names_in, SameTexts}
use Rattle.pipsmake_base.specs.session_texts.Sources.{source_modules}
use Rattle.pipsmake_base.specs.pipsmake_db.AnswerTexts.{texts_at_end}
use Rattle.pipsmake_base.specs.pipsmake_db.Calls.{key}
use Rattle.pipsmake_base.specs.pipsmake_db.Outlines.{Outline, OutlinesScript}
use Rattle.pipsmake_base.specs.pipsmake_db.Scripts.{AnswersScript}
use Rattle.pipsmake_base.specs.pipsmake_db.State.{State}
use Rattle.pipsmake_base.specs.Bases.{empty_base}
use Rattle.pipsmake_base.specs.Saved.{texts_in, keys_in, loaded_state, IsSaved}
use Rattle.pipsmake_base.specs.Saving.{module_of, stored_kinds, stored_keys}
use Rattle.pipsmake_base.specs.Whole.{values_in, IsCompleteBase}
use Rattle.pips_top.specs.Program.{ProgramTree}
use Rattle.pips_top.specs.Reading.{reading}
use Rattle.pips_top.specs.Kept.{texts_wanted}
use Rattle.pips_top.specs.Sound.{IsSound, PrintsSoundly}
use Rattle.pips_top.specs.Written.{written}
use Rattle.pips_top.specs.declared.wanted.Wanted.{Wanted}

-- the most bytes of a base
abbrev pub base_limit : ℕ
base_limit = 16777216

-- ---- before the work

-- the file of a name was fetched and read as this base, or there is none and the base is empty
abbrev pub OpensBy : Option Files → Tally → Tally → List ℕ → Base → Type 0
OpensBy files old new name b =
    (FetchedBy files old new name base_limit fetched.Absent × (b ≡ empty_base))
    ⊎ ((bytes : List ℕ) × FetchedBy files old new name base_limit (fetched.Got bytes) × (base_of bytes ≡ Ok b))

-- where its results are to be verified, each is what is defined for the texts of the base
abbrev pub IsVerified : Bool → Base → Type 0
IsVerified false b = Unit {0}
IsVerified true b = IsSaved b

-- ---- after it

-- the base of a session in a state: its texts, and just its fresh stored results, each as it is defined for these texts
pub record IsBaseOf (s : State) (b : Base) : Type 0 where
  pub modules : b.modules ≡ map module_of s.texts
  pub keys : keys_in b ≡ stored_keys s.fresh (names_in s.texts)
  pub saved : IsSaved b

-- these bytes are read as a base that holds only results of its own texts
pub record ReadsSaved (bytes : List ℕ) : Type 0 where
  pub found : Base
  pub is : base_of bytes ≡ Ok found
  pub saved : IsSaved found

-- ---- the work

-- a session that goes on from a base answers its script so, and leaves this base
pub record GoesOn (show : Show) (b : Base) (script text : List ℕ) (left : Base) : Type 0 where
  pub end : State
  pub answers : AnswersScript show (loaded_state b) script text end
  pub prints : PrintsSoundly show (loaded_state b) script text
  pub leaves : IsBaseOf end left

-- the texts of a base; its results are fresh
abbrev pub outline_in : Base → Outline
outline_in b = record { texts = texts_in b; fresh = keys_in b }

-- it does where the base holds only results of its own texts; whatever the base holds, the texts that it leaves are those of the commands, and the results are those that were asked for, with what they need, since a text changed last
pub record AnswersOver (show : Show) (b : Base) (script text : List ℕ) (left : Base) : Type 0 where
  pub texts : left.modules ≡ map module_of (texts_at_end (texts_in b) (commands_of script))
  -- so are the lines of refusals; another line differs from a session's at most in which results were made and in the text that is shown
  pub outline : Outline
  pub outlines : OutlinesScript (outline_in b) script text outline
  pub ends : left.modules ≡ map module_of outline.texts
  pub keys : keys_in left ≡ stored_keys outline.fresh (names_in outline.texts)
  pub goes_on : IsSaved b → GoesOn show b script text left

-- all stored results of these modules are fresh
abbrev pub all_keys : List (List ℕ) → List Key
all_keys [] = []
all_keys (x ∷ xs) = map (λ k. key k x) stored_kinds ++ all_keys xs

-- the program of the input is written over a base, which has its modules afterwards, with a result of each stored kind; where the base held only results of its own texts, the text is that of the program;
-- where it holds results of the texts of the input, whatever these results are, they are written
pub record WritesOver (show : Wanted) (b : Base) (bytes text : List ℕ) (left : Base) : Type 0 where
  pub program : ProgramTree
  pub as_program : reading bytes ≡ Ok program
  pub sound : IsSound show program
  pub sources : List ModuleText
  pub split : source_modules bytes ≡ Ok sources
  pub modules : left.modules ≡ map module_of sources
  pub is : IsSaved b → text ≡ written show program
  pub shows : IsCompleteBase b → SameTexts (texts_in b) sources → texts_wanted sources (values_in b) show (names_in sources) ≡ Some text
  pub keys : keys_in left ≡ all_keys (names_in sources)
  pub saved : IsSaved b → IsSaved left
