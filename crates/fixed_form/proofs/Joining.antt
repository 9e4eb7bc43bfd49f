-- What was read so far and what the other lines give, together.
use Rattle.std.proofs.Common.{◌≡◌, ℕ, List, [], ◌∷◌, ◌++◌, refl, ap, sym, ◌∙◌, arith, append_assoc, append-nil, Option, Some, None, Bool, false, not}
use Rattle.std.proofs.lemmas.Bool.Decides.{nat_tests}
use Rattle.std.specs.Prelude.{unwrap_or}
use Rattle.fixed_form.specs.declared.line.Line.{Line}
use Rattle.fixed_form.specs.declared.progress.Current.{Current}
use Rattle.fixed_form.specs.declared.progress.Progress.{Progress}
use Rattle.fixed_form.specs.Cards.{columns, label_field}
use Rattle.fixed_form.specs.Body.{stripped, quoted_after}
use Rattle.fixed_form.specs.Reading.{Rest, with_comment, with_initial, with_continuation, label_of, rest_from}
use Rattle.fixed_form.specs.Steps.{finish_all, keep_comment, initial, continuation, continue_line, continuing}

pub stripped-append : (q : Bool) (a b : List ℕ) → stripped q (a ++ b) ≡ stripped q a ++ stripped (quoted_after q a) b
stripped-append q [] b = refl
stripped-append q (x ∷ xs) b = grind (arith, nat_tests, stripped-append (not q) xs b, stripped-append q xs b)

-- comments before what the other lines give
abbrev pub with_comments : List (List ℕ) → Rest → Rest
with_comments [] rest = rest
with_comments (c ∷ cs) rest = with_comment c (with_comments cs rest)

with_comments-append : (cs : List (List ℕ)) (c : List ℕ) (rest : Rest) → with_comments (cs ++ c ∷ []) rest ≡ with_comments cs (with_comment c rest)
with_comments-append [] c rest = refl
with_comments-append (d ∷ cs) c rest = ap (with_comment d) (with_comments-append cs c rest)

-- the current statement, with what the other lines add to it
abbrev pub completed : Current → Rest → Line
completed c rest = record c.line {
  last = unwrap_or rest.last c.line.last;
  body = c.line.body ++ stripped c.begun.quoted rest.more;
  comments = c.line.comments ++ rest.inside;
}

-- statements and closing comments alone
abbrev pub whole : List Line → List (List ℕ) → Rest
whole ss cs = record { more = []; last = None; inside = []; statements = ss; closing = cs }

abbrev pub behind : List Line → Option Current → Rest → Rest
behind done None rest = record rest { statements = done ++ rest.statements }
behind done (Some c) rest = whole (done ++ completed c rest ∷ rest.statements) rest.closing

-- what all lines give
unfoldable pub joined : Progress → Rest → Rest
joined p rest = behind p.done p.current (with_comments p.comments rest)

pub joined-commented : (line : List ℕ) (p : Progress) (rest : Rest) → joined (keep_comment line p) rest ≡ joined p (with_comment line rest)
unfolding joined keep_comment
joined-commented line p rest = ap (behind p.done p.current) (with_comments-append p.comments line rest)

-- comments before an initial line
with_comments-initial : (cs : List (List ℕ)) (n : ℕ) (card : List ℕ) (rest : Rest) → with_comments cs (with_initial n card rest) ≡ whole
    (record {
      first = n;
      last = unwrap_or rest.last n;
      label = label_of (label_field card);
      body = stripped false (columns card ++ rest.more);
      comments = cs ++ rest.inside;
    } ∷ rest.statements) rest.closing
with_comments-initial [] n card rest = refl
with_comments-initial (c ∷ cs) n card rest = ap (with_comment c) (with_comments-initial cs n card rest)

-- comments before a continuation line
with_comments-continuation : (cs : List (List ℕ)) (n : ℕ) (card : List ℕ) (rest : Rest) → with_comments cs (with_continuation n card rest)
    ≡ record rest { more = columns card ++ rest.more; last = Some (unwrap_or rest.last n); inside = cs ++ rest.inside }
with_comments-continuation [] n card rest = refl
with_comments-continuation (c ∷ cs) n card rest = ap (with_comment c) (with_comments-continuation cs n card rest)

line-nil : (l : Line) → record l { body = l.body ++ []; comments = l.comments ++ [] } ≡ l
line-nil l =
    ap (λ b. record l { body = b; comments = l.comments ++ [] }) (append-nil l.body)
    ∙ ap (λ cs. record l { comments = cs }) (append-nil l.comments)

finished-behind : (o : Option Current) (done : List Line) (s : Line) (ss : List Line) (cs : List (List ℕ))
    → whole ((done ++ finish_all o) ++ s ∷ ss) cs ≡ behind done o (whole (s ∷ ss) cs)
finished-behind None done s ss cs = ap (λ x. whole (x ++ s ∷ ss) cs) (append-nil done)
finished-behind (Some c) done s ss cs =
    ap (λ x. whole x cs) (append_assoc done (c.line ∷ []) (s ∷ ss) ∙ sym (ap (λ l. done ++ l ∷ s ∷ ss) (line-nil c.line)))

pub joined-initial : (n : ℕ) (card : List ℕ) (p : Progress) (rest : Rest) → joined (initial n card p) rest ≡ joined p (with_initial n card rest)
unfolding joined initial
joined-initial n card p rest =
    let line : List ℕ → Line = λ b. record {
      first = n;
      last = unwrap_or rest.last n;
      label = label_of (label_field card);
      body = b;
      comments = p.comments ++ rest.inside;
    } in
    ap (λ b. whole ((p.done ++ finish_all p.current) ++ line b ∷ rest.statements) rest.closing) (sym (stripped-append false (columns card) rest.more))
    ∙ finished-behind p.current p.done (line (stripped false (columns card ++ rest.more))) rest.statements rest.closing
    ∙ ap (behind p.done p.current) (sym (with_comments-initial p.comments n card rest))

completed-continued : (n : ℕ) (card : List ℕ) (comments : List (List ℕ)) (c : Current) (rest : Rest)
    → completed (continue_line n card comments c) rest
    ≡ completed c (record rest { more = columns card ++ rest.more; last = Some (unwrap_or rest.last n); inside = comments ++ rest.inside })
completed-continued n card comments c rest =
    let line : List ℕ → List (List ℕ) → Line = λ b cs. record c.line { last = unwrap_or rest.last n; body = b; comments = cs } in
    ap (λ b. line b ((c.line.comments ++ comments) ++ rest.inside))
    (append_assoc c.line.body (stripped c.begun.quoted (columns card)) (stripped (quoted_after c.begun.quoted (columns card)) rest.more)
    ∙ ap (λ x. c.line.body ++ x) (sym (stripped-append c.begun.quoted (columns card) rest.more)))
    ∙ ap (λ cs. line (c.line.body ++ stripped c.begun.quoted (columns card ++ rest.more)) cs)
    (append_assoc c.line.comments comments rest.inside)

joined-continuing : (c : Current) (n : ℕ) (card : List ℕ) (p : Progress) (rest : Rest)
    → joined (continuing (Some c) n card p) rest ≡ behind p.done (Some c) (with_comments p.comments (with_continuation n card rest))
unfolding joined
joined-continuing c n card p rest =
    ap (λ l. whole (p.done ++ l ∷ rest.statements) rest.closing) (completed-continued n card p.comments c rest)
    ∙ ap (behind p.done (Some c)) (sym (with_comments-continuation p.comments n card rest))

pub joined-continuation : (n : ℕ) (card : List ℕ) (p : Progress) (rest : Rest) (c : Current) → p.current ≡ Some c
    → joined (continuation n card p) rest ≡ joined p (with_continuation n card rest)
unfolding joined continuation
joined-continuation n card p rest c h =
    ap (λ o. joined (continuing o n card p) rest) h
    ∙ joined-continuing c n card p rest
    ∙ sym (ap (λ o. behind p.done o (with_comments p.comments (with_continuation n card rest))) h)

-- comments at the end of the text
with_comments-end : (cs : List (List ℕ)) → with_comments cs (whole [] []) ≡ whole [] cs
with_comments-end [] = refl
with_comments-end (c ∷ cs) = ap (with_comment c) (with_comments-end cs)

behind-end : (o : Option Current) (done : List Line) (cs : List (List ℕ)) → behind done o (whole [] cs) ≡ whole (done ++ finish_all o) cs
behind-end None done cs = refl
behind-end (Some c) done cs = ap (λ l. whole (done ++ l ∷ []) cs) (line-nil c.line)

pub joined-end : (n : ℕ) (p : Progress) → joined p (rest_from n []) ≡ whole (p.done ++ finish_all p.current) p.comments
unfolding joined rest_from
joined-end n p = ap (behind p.done p.current) (with_comments-end p.comments) ∙ behind-end p.current p.done p.comments
