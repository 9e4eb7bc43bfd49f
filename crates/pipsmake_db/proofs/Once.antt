-- There is one answer.
use Rattle.std.proofs.Common.{◌≡◌, inl, inr, ℕ, List, [], ◌∷◌, ◌++◌, Option, Some, None, Result, Ok, sym, ap, ◌∙◌, subst}
use Rattle.session_texts.specs.pipsmake_rules.declared.kind.Kind.{Kind}
use Rattle.session_texts.specs.pipsmake_rules.declared.kind.Kind.TheVariants.{Printed}
use Rattle.session_texts.specs.pipsmake_rules.declared.key.Key.{Key}
use Rattle.session_texts.specs.pipsmake_rules.Kinds.{kind_with}
use Rattle.session_texts.specs.declared.command.Command.{Command}
use Rattle.session_texts.specs.declared.command.Command.TheVariants as command
use Rattle.session_texts.specs.declared.refusal.Refusal.TheVariants as refusal
use Rattle.session_texts.specs.Answers.{source_line, made_lines, ok_line, text_with_count}
use Rattle.session_texts.specs.Refusals.{refused_line}
use Rattle.result_lines.specs.declared.show.Show as shows
use Rattle.session_texts.specs.pipsmake_meaning.Texts.{ModuleText, names_in}
use Rattle.session_texts.specs.pipsmake_meaning.Session.{Makings, MadeOf}
use Rattle.laws_database.specs.Laws.{walk_in}
use Rattle.laws_database.specs.ProgramTexts.{texts_named}
use Rattle.session_texts.specs.Sources.{source_modules}
use Rattle.pipsmake_db.specs.declared.refusal.DbRefusal.{DbRefusal}
use Rattle.pipsmake_db.specs.State.{State, after_source, after_make}
use Rattle.pipsmake_db.specs.Refusals.{text_refusal, name_refusal, link_refusal, make_refusal, value_refusal}
use Rattle.pipsmake_db.specs.Shown.{text_for}
use Rattle.pipsmake_db.specs.Calls.{key}
use Rattle.pipsmake_db.specs.Answers.{refusal_line, Says, UnlessRefused, SourceAnswer, DropAnswer, MakesIn, MakeAnswer, ShowAnswer, OfKind, MakesPrinted, PrintAnswer, AnswersTo}
use Rattle.pipsmake_db.specs.Scripts.{AnswersAll}

-- two answers that are the same
pub record Same (lines other : List ℕ) (t u : State) : Type 0 where
  pub lines_same : lines ≡ other
  pub state_same : t ≡ u

some_once : {A : Type 0} (a b : A) (o : Option A) → o ≡ Some a → o ≡ Some b → a ≡ b
some_once a b o e f = cc

ok_once : {A E : Type 0} (a b : A) (r : Result A E) → r ≡ Ok a → r ≡ Ok b → a ≡ b
ok_once a b r e f = cc

-- ---- what is made

made_once : (made : Makings) (ts : List ModuleText) (ks now other : List Key) → MadeOf made ts ks now → MadeOf made ts ks other → now ≡ other
made_once made ts [] now other h k = h ∙ sym k
made_once made ts (j ∷ js) now other (inl h) (inl k) = made_once made ts js now other h.1 k.1
made_once made ts (j ∷ js) now other (inl h) (inr k) = absurd (k.0 h.0)
made_once made ts (j ∷ js) now other (inr h) (inl k) = absurd (h.0 k.0)
made_once made ts (j ∷ js) now other (inr h) (inr k) = h.1.1 ∙ ap (λ (r : List Key). j ∷ r) (made_once made ts js h.1.0 k.1.0 h.1.2 k.1.2) ∙ sym k.1.1

-- the same was made, and the same state follows
record SameMade (now other : List Key) (t u : State) : Type 0 where
  made : now ≡ other
  state : t ≡ u

makes_once : (s : State) (k : Key) (now other : List Key) (t u : State) → MakesIn s k now t → MakesIn s k other u → SameMade now other t u
makes_once s k now other t u h g =
    let same : now ≡ other = made_once s.made s.texts (walk_in s.texts k) now other h.0 g.0 in
    record { made = same; state = h.1 ∙ ap (after_make s k) same ∙ sym g.1 }

printed_once : (s : State) (xs : List (List ℕ)) (now other : List Key) (t u : State) → MakesPrinted s xs now t → MakesPrinted s xs other u → SameMade now other t u
printed_once s [] now other t u h g = record { made = h.0 ∙ sym g.0; state = h.1 ∙ sym g.1 }
printed_once s (x ∷ xs) now other t u (first, later, next, one, rest, is) (first', later', next', one', rest', is') =
    let same : SameMade first first' next next' = makes_once s (key Printed x) first first' next next' one one' in
    let more : SameMade later later' t u = printed_once next' xs later later' t u (subst (λ (m : State). MakesPrinted m xs later t) same.state rest) rest' in
    record {
      made = is ∙ ap (λ (a : List Key). a ++ later) same.made ∙ ap (λ (b : List Key). first' ++ b) more.made ∙ sym is';
      state = more.state;
    }

-- ---- accepted commands

sources_once : (s : State) (text lines other : List ℕ) (t u : State) → SourceAnswer s text lines t → SourceAnswer s text other u → Same lines other t u
sources_once s text lines other t u (us, read, l, n) (vs, read', l', n') =
    let same : us ≡ vs = ok_once us vs (source_modules text) read read' in
    record { lines_same = l ∙ ap (λ (ts : List ModuleText). source_line (names_in ts)) same ∙ sym l'; state_same = n ∙ ap (after_source s) same ∙ sym n' }

drops_once : (s : State) (x lines other : List ℕ) (t u : State) → DropAnswer s x lines t → DropAnswer s x other u → Same lines other t u
drops_once s x lines other t u h g = record { lines_same = h.0 ∙ sym g.0; state_same = h.1 ∙ sym g.1 }

makes_kind_once : (s : State) (kind : Kind) (x lines other : List ℕ) (t u : State) → MakeAnswer s kind x lines t → MakeAnswer s kind x other u → Same lines other t u
makes_kind_once s kind x lines other t u (now, m, l) (now', m', l') =
    let same : SameMade now now' t u = makes_once s (key kind x) now now' t u m m' in
    record { lines_same = l ∙ ap (λ (ks : List Key). made_lines ks ++ ok_line (key kind x)) same.made ∙ sym l'; state_same = same.state }

shows_kind_once : (show : shows.Show) (s : State) (kind : Kind) (x lines other : List ℕ) (t u : State) → ShowAnswer show s kind x lines t → ShowAnswer show s kind x other u → Same lines other t u
shows_kind_once show s kind x lines other t u (now, text, m, e, l) (now', text', m', e', l') =
    let same : SameMade now now' t u = makes_once s (key kind x) now now' t u m m' in
    let shown : text ≡ text' = some_once text text' (text_for s.texts show kind x) e e' in
    record { lines_same = l ∙ ap (λ (ks : List Key). made_lines ks ++ text) same.made ∙ ap (λ (w : List ℕ). made_lines now' ++ w) shown ∙ sym l'; state_same = same.state }

prints_once : (show : shows.Show) (s : State) (lines other : List ℕ) (t u : State) → PrintAnswer show s lines t → PrintAnswer show s other u → Same lines other t u
prints_once show s lines other t u (now, text, m, e, l) (now', text', m', e', l') =
    let same : SameMade now now' t u = printed_once s (names_in s.texts) now now' t u m m' in
    let shown : text ≡ text' = some_once text text' (texts_named show s.texts (names_in s.texts)) e e' in
    record {
      lines_same = l ∙ ap (λ (ks : List Key). made_lines ks ++ text_with_count text) same.made ∙ ap (λ (w : List ℕ). made_lines now' ++ text_with_count w) shown ∙ sym l';
      state_same = same.state;
    }

of_kind_once : (answers : Kind → List ℕ → State → Type 0) → ((k : Kind) (lines other : List ℕ) (t u : State) → answers k lines t → answers k other u → Same lines other t u) →
    (o : Option Kind) (lines other : List ℕ) (t u : State) → OfKind answers o lines t → OfKind answers o other u → Same lines other t u
of_kind_once answers once None lines other t u h g = absurd h
of_kind_once answers once (Some k) lines other t u h g = once k lines other t u h g

-- ---- all commands

says_once : (line : List ℕ) (s : State) (lines other : List ℕ) (t u : State) → Says line s lines t → Says line s other u → Same lines other t u
says_once line s lines other t u h g = record { lines_same = h.0 ∙ sym g.0; state_same = h.1 ∙ sym g.1 }

unless_once : (s : State) (accepted : List ℕ → State → Type 0) → ((lines other : List ℕ) (t u : State) → accepted lines t → accepted other u → Same lines other t u) →
    (why : Option DbRefusal) (lines other : List ℕ) (t u : State) → UnlessRefused why s accepted lines t → UnlessRefused why s accepted other u → Same lines other t u
unless_once s accepted once None lines other t u h g = once lines other t u h g
unless_once s accepted once (Some r) lines other t u h g = says_once (refusal_line r) s lines other t u h g

answer_once : (show : shows.Show) (s : State) (c : Command) (lines other : List ℕ) (t u : State) → AnswersTo show s c lines t → AnswersTo show s c other u → Same lines other t u
answer_once show s (command.Source text) = unless_once s (SourceAnswer s text) (sources_once s text) (text_refusal text)
answer_once show s (command.Drop x) = unless_once s (DropAnswer s x) (drops_once s x) (name_refusal s.texts x)
answer_once show s (command.Make kind x) =
    unless_once s (OfKind (λ k. MakeAnswer s k x) (kind_with kind)) (of_kind_once (λ k. MakeAnswer s k x) (λ k. makes_kind_once s k x) (kind_with kind)) (make_refusal s.texts kind x)
answer_once show s (command.Show kind x) =
    unless_once s (OfKind (λ k. ShowAnswer show s k x) (kind_with kind)) (of_kind_once (λ k. ShowAnswer show s k x) (λ k. shows_kind_once show s k x) (kind_with kind)) (value_refusal s.texts kind x)
answer_once show s command.Print = unless_once s (PrintAnswer show s) (prints_once show s) (link_refusal s.texts)
answer_once show s command.Bad = says_once (refused_line refusal.BadCommand) s
answer_once show s command.Short = says_once (refused_line refusal.ShortSource) s

pub all_once : (show : shows.Show) (s : State) (cs : List Command) (out other : List ℕ) (t u : State) → AnswersAll show s cs out t → AnswersAll show s cs other u → (out ≡ other) × (t ≡ u)
all_once show s [] out other t u h g = (h.0 ∙ sym g.0, h.1 ∙ sym g.1)
all_once show s (c ∷ cs) out other t u (lines, more, next, a, rest, is) (lines', more', next', a', rest', is') =
    let one : Same lines lines' next next' = answer_once show s c lines lines' next next' a a' in
    let later : (more ≡ more') × (t ≡ u) = all_once show next' cs more more' t u (subst (λ (m : State). AnswersAll show m cs more t) one.state_same rest) rest' in
    (is ∙ ap (λ (l : List ℕ). l ++ more) one.lines_same ∙ ap (λ (m : List ℕ). lines' ++ m) later.0 ∙ sym is', later.1)
