-- From the reading of a whole statement to what it is read as, and back.
use Rattle.std.proofs.Common.{◌≡◌, ℕ, List, [], ◌∷◌, refl, ap, ◌∙◌, Option, Some, None, Bool, true, false, if◌then◌else◌}
use Rattle.std.specs.Prelude.{Result, Ok, Err}
use Rattle.f77_exprs.specs.declared.at.Notes.{Notes}
use Rattle.f77_exprs.specs.State.{State}
use Rattle.f77_forms.specs.declared.form.FormId.{FormId}
use Rattle.f77_statements.specs.declared.refusal.Cause.{Cause}
use Rattle.f77_statements.specs.declared.refusal.Cause.TheVariants.{RealConstant, NumberTooBig, NameTooLong}
use Rattle.f77_statements.specs.Causes.{finished, verdict}
use Rattle.f77_statements.specs.Phrases.{PhraseTree}
use Rattle.f77_statements.specs.Statements.{form_at, phrase_by, phrase_in, phrase_of}
use Rattle.f77_printer.specs.Layout.{stripped}
use Rattle.roundtrip_programs.specs.Statements.Follows.{standing, IsClean}
use Rattle.roundtrip_programs.proofs.Statements.Readings.{After}

-- nothing was met
abbrev pub clean : Notes
clean = record { real = false; big = false; long = false }

read_whole : (text : List ℕ) (form : FormId) (p : PhraseTree) → form_at text ≡ Ok form → ((k : Notes) → phrase_by form (standing text k) ≡ Some (p, standing [] k)) → phrase_of text ≡ Ok p
unfolding phrase_of
read_whole text form p f h = ap (λ (x : Result FormId Cause). phrase_in x text) f ∙ ap verdict (h clean)

-- the text is the compact one, which is read as the phrase
pub whole : (text body : List ℕ) (form : FormId) (p : PhraseTree) → stripped false text ≡ body → form_at body ≡ Ok form → ((k : Notes) → phrase_by form (standing body k) ≡ Some (p, standing [] k))
    → phrase_of (stripped false text) ≡ Ok p
whole text body form p s f h = ap phrase_of s ∙ read_whole body form p f h

noted_at : {A : Type 0} (a b c : Bool) (k : Notes) (x y : A) (P : A → Type 0) → k.real ≡ a → k.big ≡ b → k.long ≡ c → (IsClean k → P x)
    → (if a then Err RealConstant else if b then Err NumberTooBig else if c then Err NameTooLong else Ok x) ≡ Ok y → P y
noted_at true b c k x y P d e f h g = cc
noted_at false true c k x y P d e f h g = cc
noted_at false false true k x y P d e f h g = cc
noted_at false false false k x y P d e f h g = let j : x ≡ y = cc in rw (← j) (h (record { real = d; big = e; long = f }))

finished_at : {A : Type 0} (rest : List ℕ) (k : Notes) (x y : A) (P : A → Type 0) → (IsClean k → P x) → finished rest k x ≡ Ok y → P y
finished_at [] k x y P h g = noted_at k.real k.big k.long k x y P refl refl refl h g
finished_at (c ∷ cs) k x y P h g = cc

pub verdict_given : {A : Type 0} (o : Option (A × State)) (k : Notes) (P : A → Type 0) (y : A) → After o k P → verdict o ≡ Ok y → P y
verdict_given None k P y h g = cc
verdict_given (Some r) k P y h g = finished_at r.1.rest r.1.notes r.0 y P (λ c. (h c).1) g
