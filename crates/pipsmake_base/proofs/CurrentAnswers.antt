-- The commands of a script keep fresh results up to date.
use Rattle.std.proofs.Common.{ℕ, List, [], ◌∷◌, Option, Some, None, sym, subst}
use Rattle.pipsmake_db.specs.pipsmake_rules.declared.kind.Kind.{Kind}
use Rattle.pipsmake_db.specs.pipsmake_rules.Kinds.{kind_with}
use Rattle.pipsmake_db.specs.session_texts.declared.command.Command.{Command}
use Rattle.pipsmake_db.specs.session_texts.declared.command.Command.TheVariants as command
use Rattle.pipsmake_db.specs.session_texts.Commands.{commands_of}
use Rattle.pipsmake_db.specs.result_lines.declared.show.Show.{Show}
use Rattle.pipsmake_db.specs.pipsmake_meaning.Texts.{names_in}
use Rattle.pipsmake_db.specs.declared.refusal.DbRefusal.{DbRefusal}
use Rattle.pipsmake_db.specs.Answers.{UnlessRefused, SourceAnswer, DropAnswer, MakeAnswer, ShowAnswer, PrintAnswer, OfKind, AnswersTo}
use Rattle.pipsmake_db.specs.Calls.{key}
use Rattle.pipsmake_db.specs.Refusals.{text_refusal, name_refusal, link_refusal, make_refusal, value_refusal}
use Rattle.pipsmake_db.specs.Scripts.{AnswersAll}
use Rattle.pipsmake_db.specs.State.{State}
use Rattle.pipsmake_base.specs.Current.{FreshIsCurrent, AnswersStayCurrent}
use Rattle.pipsmake_base.proofs.Current.{makes_in, printing_stays_current}

unless_refused : (o : Option DbRefusal) (s t : State) (Answers : List ℕ → State → Type 0) (lines : List ℕ) → (Answers lines t → FreshIsCurrent t) → FreshIsCurrent s → UnlessRefused o s Answers lines t → FreshIsCurrent t
unless_refused None s t Answers lines g f h = g h
unless_refused (Some r) s t Answers lines g f h = subst FreshIsCurrent (sym h.1) f

of_kind : (o : Option Kind) (s t : State) (Answers : Kind → List ℕ → State → Type 0) (lines : List ℕ) → ((k : Kind) → Answers k lines t → FreshIsCurrent t) → OfKind Answers o lines t → FreshIsCurrent t
of_kind None s t Answers lines g h = absurd h
of_kind (Some k) s t Answers lines g h = g k h

answer_stays : (show : Show) (s t : State) (c : Command) (lines : List ℕ) → AnswersTo show s c lines t → FreshIsCurrent s → FreshIsCurrent t
answer_stays show s t (command.Source text) lines h f = unless_refused (text_refusal text) s t (SourceAnswer s text) lines (λ a. subst FreshIsCurrent (sym a.3) tt) f h
answer_stays show s t (command.Drop x) lines h f = unless_refused (name_refusal s.texts x) s t (DropAnswer s x) lines (λ a. subst FreshIsCurrent (sym a.1) tt) f h
answer_stays show s t (command.Make kind x) lines h f =
    unless_refused (make_refusal s.texts kind x) s t (OfKind (λ k. MakeAnswer s k x) (kind_with kind)) lines
    (λ a. of_kind (kind_with kind) s t (λ k. MakeAnswer s k x) lines (λ k b. makes_in s t (key k x) b.0 b.1 f) a) f h
answer_stays show s t (command.Show kind x) lines h f =
    unless_refused (value_refusal s.texts kind x) s t (OfKind (λ k. ShowAnswer show s k x) (kind_with kind)) lines
    (λ a. of_kind (kind_with kind) s t (λ k. ShowAnswer show s k x) lines (λ k b. makes_in s t (key k x) b.0 b.2 f) a) f h
answer_stays show s t command.Print lines h f =
    unless_refused (link_refusal s.texts) s t (PrintAnswer show s) lines (λ a. printing_stays_current s t (names_in s.texts) a.0 a.2 f) f h
answer_stays show s t command.Bad lines h f = subst FreshIsCurrent (sym h.1) f
answer_stays show s t command.Short lines h f = subst FreshIsCurrent (sym h.1) f

all_stay : (show : Show) (s t : State) (cs : List Command) (out : List ℕ) → AnswersAll show s cs out t → FreshIsCurrent s → FreshIsCurrent t
all_stay show s t [] out h f = subst FreshIsCurrent (sym h.1) f
all_stay show s t (c ∷ cs) out h f = all_stay show h.2 t cs h.1 h.4 (answer_stays show s h.2 c h.0 h.3 f)

pub answers_stay_current : AnswersStayCurrent
answers_stay_current show s t script out h f = all_stay show s t (commands_of script) out h f
