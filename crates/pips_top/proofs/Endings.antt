-- How a run ends, by what it found outside.
use Rattle.std.proofs.Common.{◌≡◌, ℕ, ◌≤◌, ◌<◌, inl, inr, Bool, List, [], length, sym, ap, ◌∙◌, refl, subst, Option, Some, None, IsSomeAnd, Result, Ok, Err, arith}
use Rattle.std.specs.Prelude.{IfSome}
use Rattle.std.proofs.lemmas.Grind.{common_steps}
use Rattle.fx_base.specs.Files.{Files, bytes_of}
use Rattle.pipsmake_base.specs.base_text.declared.base.Base.{Base}
use Rattle.pipsmake_base.specs.base_text.declared.refusal.BaseRefusal.{BaseRefusal}
use Rattle.pipsmake_base.specs.base_text.Gives.{number_of}
use Rattle.pipsmake_base.specs.base_text.Read.{base_of}
use Rattle.pipsmake_base.specs.Bases.{empty_base}
use Rattle.pips_top.specs.Answer.{Ending, EndsGot, EndsKept, EndsOpened, EndsMade, got_as, opened_as, read_or}
use Rattle.pips_top.specs.Based.{base_limit, OpensBy}
use Rattle.pips_top.specs.Made.{input_limit}
use Rattle.pips_top.specs.declared.make.Made.{Made}
use Rattle.pips_top.specs.declared.make.Made.TheVariants.{Writes, Refuses}
use Rattle.pips_top.specs.declared.status.Status.{Status}
use Rattle.pips_top.specs.declared.status.Status.TheVariants.{Done, Refused, NoInput, TooLong, BadBase}
use Rattle.fx_base.specs.declared.tally.Tally.{Tally}

-- what is so of files that are told
pub told : (files : Option Files) (held : Files) (P : Files → Type 0) → files ≡ Some held → IfSome files P → P held
told None held P e h = cc
told (Some own) held P e h = let same : own ≡ held = cc in subst P same h

-- ---- an INPUT

pub got_within : (o : Option (List ℕ)) (bytes : List ℕ) → length bytes ≤ input_limit → o ≡ Some bytes → got_as o ≡ Ok bytes
got_within None bytes within found = cc
got_within (Some own) bytes within found = grind (arith, common_steps)

pub got_absent : (o : Option (List ℕ)) → o ≡ None → got_as o ≡ Err NoInput
got_absent None e = refl
got_absent (Some own) e = cc

pub got_long : (o : Option (List ℕ)) → IsSomeAnd o (λ text. input_limit < length text) → got_as o ≡ Err TooLong
got_long None d = elim d [ ]
got_long (Some own) d = grind (arith, common_steps)

pub ends_got : (r q : Result (List ℕ) Status) (Ends : List ℕ → Ending) (s : Status) (out : List ℕ) (kept : Option (List ℕ)) → r ≡ q → EndsGot q Ends s out kept → EndsGot r Ends s out kept
ends_got r q Ends s out kept e h = subst (λ t. EndsGot t Ends s out kept) (sym e) h

-- ---- a base

opened_absent : (o : Option (List ℕ)) → o ≡ None → opened_as o ≡ Ok empty_base
opened_absent None e = refl
opened_absent (Some own) e = cc

opened_within : (o : Option (List ℕ)) (bytes : List ℕ) → length bytes ≤ base_limit → o ≡ Some bytes → opened_as o ≡ read_or (base_of bytes)
opened_within None bytes within found = cc
opened_within (Some own) bytes within found = grind (arith, common_steps)

pub opened_long : (o : Option (List ℕ)) → IsSomeAnd o (λ text. base_limit < length text) → opened_as o ≡ Err TooLong
opened_long None d = elim d [ ]
opened_long (Some own) d = grind (arith, common_steps)

pub opened_from : (files : Option Files) (held : Files) (old new : Tally) (name : List ℕ) (b : Base) → files ≡ Some held → OpensBy files old new name b → opened_as (bytes_of held name) ≡ Ok b
opened_from files held old new name b e (inl (got, is)) =
    opened_absent (bytes_of held name) (told files held (λ f. bytes_of f name ≡ None) e got.1) ∙ ap Ok (sym is)
opened_from files held old new name b e (inr (bytes, got, is)) =
    opened_within (bytes_of held name) bytes got.0 (told files held (λ f. bytes_of f name ≡ Some bytes) e got.1) ∙ ap read_or is

-- a file that is no base
bad_code : (refusal : BaseRefusal) (code : ℕ) → number_of refusal ≡ Some code → read_or (Err refusal) ≡ Err (BadBase code)
bad_code refusal code e = grind (arith, common_steps)

pub opened_bad : (o : Option (List ℕ)) (bytes : List ℕ) (refusal : BaseRefusal) (code : ℕ) → length bytes ≤ base_limit → o ≡ Some bytes → base_of bytes ≡ Err refusal → number_of refusal ≡ Some code
    → opened_as o ≡ Err (BadBase code)
opened_bad o bytes refusal code within found e n = opened_within o bytes within found ∙ ap read_or e ∙ bad_code refusal code n

pub ends_opened : (verify : Bool) (r q : Result Base Status) (Ends : Base → Ending) (s : Status) (out : List ℕ) (kept : Option (List ℕ)) → r ≡ q → EndsOpened verify q Ends s out kept → EndsOpened verify r Ends s out kept
ends_opened verify r q Ends s out kept e h = subst (λ t. EndsOpened verify t Ends s out kept) (sym e) h

-- ---- what is kept

pub ends_kept : (o : Option (List ℕ)) (bytes text : List ℕ) → o ≡ Some bytes → EndsKept o text Done text (Some bytes)
ends_kept o bytes text e = subst (λ p. EndsKept p text Done text (Some bytes)) (sym e) (refl, refl, refl)

pub ends_unkept : (o : Option (List ℕ)) (text : List ℕ) → o ≡ None → EndsKept o text TooLong [] None
ends_unkept o text e = subst (λ p. EndsKept p text TooLong [] None) (sym e) (refl, refl, refl)

-- ---- what is made

pub ends_made : (m : Made) (text : List ℕ) → m ≡ Writes text → EndsMade m Done text None
ends_made m text e = subst (λ n. EndsMade n Done text None) (sym e) (refl, refl, refl)

pub ends_refused : (m : Made) (at code : ℕ) (keyword : List ℕ) → m ≡ Refuses at code keyword → EndsMade m (Refused at code) [] None
ends_refused m at code keyword e = subst (λ n. EndsMade n (Refused at code) [] None) (sym e) (refl, refl, refl)
