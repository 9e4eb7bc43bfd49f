-- Answers to scripts.
use Rattle.std.proofs.Common.{◌≡◌, ℕ, ◌≤◌, List, [], ◌∷◌, ◌++◌, refl, sym, ap, ◌∙◌, subst, append_assoc, append-nil, arith}
use Rattle.std.proofs.lemmas.List.Elements.{All-head, All-tail}
use Rattle.session_texts.specs.declared.command.Command.{Command}
use Rattle.session_texts.specs.declared.command.Command.TheVariants.{Source, Drop, Make, Show, Print, Bad, Short}
use Rattle.session_texts.specs.Commands.{IsWithin, AreWithin, commands_of}
use Rattle.result_lines.specs.declared.show.Show as shows
use Rattle.pipsmake_db.specs.declared.db.Db.{Db}
use Rattle.pipsmake_db.specs.State.{State, IsIn}
use Rattle.session_texts.specs.pipsmake_meaning.Texts.{ModuleText}
use Rattle.pipsmake_db.specs.Scripts.{AnswersAll}
use Rattle.pipsmake_db.specs.Outlines.{Outline, outline_of, OutlinesAll, OutlinesScript}
use Rattle.pipsmake_db.specs.AnswerTexts.{texts_after, texts_at_end}
use Rattle.pipsmake_db.specs.AnswerSteps.{AnswersFrom, AnswersAnyway, Answers, AnswersWholeFrom}

-- ---- sources that are short enough

within : (most limit : ℕ) (c : Command) → most ≤ limit → IsWithin most c → IsWithin limit c
within most limit (Source text) h w = omega arith
within most limit (Drop x) h w = tt
within most limit (Make kind x) h w = tt
within most limit (Show kind x) h w = tt
within most limit Print h w = tt
within most limit Bad h w = tt
within most limit Short h w = tt

pub first_within : (most limit : ℕ) (c : Command) (cs : List Command) → most ≤ limit → AreWithin most (c ∷ cs) → IsWithin limit c
first_within most limit c cs h w = within most limit c h (All-head (IsWithin most) c cs w)

pub rest_within : (most : ℕ) (c : Command) (cs : List Command) → AreWithin most (c ∷ cs) → AreWithin most cs
rest_within most c cs w = All-tail (IsWithin most) c cs w

-- ---- answers

-- these commands are still to be answered
pub record SoFar (show : shows.Show) (s : State) (commands rest : List Command) (out : List ℕ) (d : Db) : Type 0 where
  pub mid : State
  pub is_in : IsIn d mid
  pub answers : (more : List ℕ) (t : State) → AnswersAll show mid rest more t → AnswersAll show s commands (out ++ more) t

pub none_yet : (show : shows.Show) (s : State) (commands rest : List Command) (out : List ℕ) (d : Db) → rest ≡ commands → out ≡ [] → IsIn d s → SoFar show s commands rest out d
none_yet show s commands rest out d r e at = record {
  mid = s;
  is_in = at;
  answers = λ more t h. subst (λ (o : List ℕ). AnswersAll show s commands (o ++ more) t) (sym e) (subst (λ (cs : List Command). AnswersAll show s cs more t) r h);
}

pub one_more : (show : shows.Show) (s : State) (commands : List Command) (c : Command) (rest : List Command) (old new : List ℕ) (d e : Db) →
    SoFar show s commands (c ∷ rest) old d → Answers show c d e old new → SoFar show s commands rest new e
one_more show s commands c rest old new d e h a =
    let o : AnswersFrom show c h.mid old new e = a.from h.mid h.is_in in
    record {
      mid = o.next;
      is_in = o.is_in;
      answers = λ more t m.
          subst (λ (out : List ℕ). AnswersAll show s commands out t) (sym (append_assoc old o.lines more) ∙ ap (λ (w : List ℕ). w ++ more) (sym o.written)) (h.answers (o.lines ++ more) t (o.lines, more, o.next, o.answers, m, refl));
    }

pub no_more : (show : shows.Show) (s : State) (script out : List ℕ) (d : Db) → SoFar show s (commands_of script) [] out d → AnswersWholeFrom show script s out d
no_more show s script out d h = record {
  next = h.mid;
  answers = subst (λ (o : List ℕ). AnswersAll show s (commands_of script) o h.mid) (append-nil out) (h.answers [] h.mid (refl, refl));
  is_in = h.is_in;
}

-- ---- whatever is kept of results

pub record SoFarAnyway (o : Outline) (commands rest : List Command) (out : List ℕ) (d : Db) : Type 0 where
  pub answers : (more : List ℕ) (p : Outline) → OutlinesAll (outline_of d) rest more p → OutlinesAll o commands (out ++ more) p

pub none_anyway : (commands rest : List Command) (out : List ℕ) (d : Db) → rest ≡ commands → out ≡ [] → SoFarAnyway (outline_of d) commands rest out d
none_anyway commands rest out d r e = record {
  answers = λ more p h. subst (λ (o : List ℕ). OutlinesAll (outline_of d) commands (o ++ more) p) (sym e) (subst (λ (cs : List Command). OutlinesAll (outline_of d) cs more p) r h);
}

pub more_anyway : (o : Outline) (commands : List Command) (c : Command) (rest : List Command) (old new : List ℕ) (d e : Db) → SoFarAnyway o commands (c ∷ rest) old d → AnswersAnyway c d e old new → SoFarAnyway o commands rest new e
more_anyway o commands c rest old new d e h a = record {
  answers = λ more p m.
      subst (λ (out : List ℕ). OutlinesAll o commands out p) (sym (append_assoc old a.lines more) ∙ ap (λ (w : List ℕ). w ++ more) (sym a.written)) (h.answers (a.lines ++ more) p (a.lines, more, outline_of e, a.outlines, m, refl));
}

pub no_more_anyway : (o : Outline) (script out : List ℕ) (d : Db) → SoFarAnyway o (commands_of script) [] out d → OutlinesScript o script out (outline_of d)
no_more_anyway o script out d h = subst (λ (w : List ℕ). OutlinesAll o (commands_of script) w (outline_of d)) (append-nil out) (h.answers [] (outline_of d) (refl, refl))

-- ---- texts

pub texts_step : (ts us : List ModuleText) (c : Command) (rest more : List Command) → rest ≡ c ∷ more → us ≡ texts_after ts c → texts_at_end us more ≡ texts_at_end ts rest
texts_step ts us c rest more parts e = ap (λ (vs : List ModuleText). texts_at_end vs more) e ∙ sym (ap (texts_at_end ts) parts)
