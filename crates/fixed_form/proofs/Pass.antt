-- One line more of the pass over a text.
use Rattle.std.proofs.Common.{◌≡◌, ℕ, ◌+◌, ◌<◌, ◌≤◌, List, [], ◌∷◌, ◌++◌, length, refl, ap, sym, ◌∙◌, arith, Option, Some, None, Bool, true, false, if◌then◌else◌, Result, Err}
use Rattle.std.specs.Prelude.{option_map}
use Rattle.fx_lists.specs.declared.code.Code.{Code}
use Rattle.fx_lists.specs.declared.code.Code.TheVariants.{NonAscii, Tab, BadLabelField}
use Rattle.fixed_form.specs.declared.line.Line.{Line}
use Rattle.fixed_form.specs.declared.line.Lines.{Lines}
use Rattle.fixed_form.specs.declared.line.ReadRefusal.{ReadRefusal}
use Rattle.fixed_form.specs.declared.line.ReadRefusal.TheVariants.{At, Memory}
use Rattle.fixed_form.specs.declared.progress.Current.{Current}
use Rattle.fixed_form.specs.declared.progress.Progress.{Progress}
use Rattle.fixed_form.specs.TextLines.{text_lines, without_returns}
use Rattle.fixed_form.specs.Cards.{is_comment, is_dropped, card, is_initial, columns}
use Rattle.fixed_form.specs.Body.{quoted_after}
use Rattle.fx_lists.specs.Refusals.{number_of}
use Rattle.fixed_form.specs.Faults.{fault_of, continuation_fault, continuations_of, is_quoted, begun_behind, or_later, first_fault}
use Rattle.fixed_form.specs.Reading.{Rest, with_comment, with_initial, with_continuation, with_line, rest_from, outcome, reading, Gives}
use Rattle.fixed_form.specs.Steps.{first_line, after_line, begun_of, keep_comment, initial, continuing, continuation, step, line_fault, line_step, outcome_at, Takes}
use Rattle.fixed_form.proofs.TextLineLemmas.{text_lines-first}
use Rattle.fixed_form.proofs.Joining.{joined, joined-commented, joined-initial, joined-continuation, behind, joined-end, with_comments}

-- A test is a variable here, so that each proof goes by cases on it.

-- where a continuation line has no fault, a statement was begun
begun-there-by : (a b d i : Bool) (o : Option Current)
    → (if a then Some NonAscii else if b then Some Tab else if d then Some BadLabelField else if i then None else continuation_fault (begun_of o)) ≡ None
    → i ≡ false → (c : Current) × (o ≡ Some c)
begun-there-by true b d i o h e = cc
begun-there-by false true d i o h e = cc
begun-there-by false false true i o h e = cc
begun-there-by false false false true o h e = cc
begun-there-by false false false false None h e = cc
begun-there-by false false false false (Some c) h e = (c, refl)

begun-there : (o : Option Current) (card : List ℕ) → fault_of (begun_of o) card ≡ None → is_initial card ≡ false → (c : Current) × (o ≡ Some c)
unfolding fault_of
begun-there o card h e = begun-there-by _ _ _ (is_initial card) o h e

begun-continuing : (o : Option Current) (c : Current) (n : ℕ) (card : List ℕ) (p : Progress) → o ≡ Some c
    → begun_of (continuing o n card p).current
    ≡ Some (record { quoted = quoted_after (is_quoted (begun_of o)) (columns card); continuations = continuations_of (begun_of o) + 1 })
begun-continuing None c n card p h = cc
begun-continuing (Some d) c n card p h = refl

begun-step-by : (i : Bool) (n : ℕ) (card : List ℕ) (p : Progress) → (i ≡ false → (c : Current) × (p.current ≡ Some c))
    → begun_of (if i then initial n card p else continuation n card p).current
    ≡ Some (record {
      quoted = quoted_after (if i then false else is_quoted (begun_of p.current)) (columns card);
      continuations = if i then 0 else continuations_of (begun_of p.current) + 1;
    })
unfolding initial continuation
begun-step-by true n card p h = refl
begun-step-by false n card p h = let open_ = h refl in begun-continuing p.current open_.0 n card p open_.1

begun-step : (n : ℕ) (card : List ℕ) (p : Progress) → fault_of (begun_of p.current) card ≡ None
    → begun_of (step n card p).current ≡ Some (begun_behind (begun_of p.current) card)
unfolding step
begun-step n card p h = begun-step-by (is_initial card) n card p (begun-there p.current card h)

first_fault-taken-by : (b d : Bool) (n : ℕ) (line card : List ℕ) (ls : List (List ℕ)) (p : Progress) → (if b then None else fault_of (begun_of p.current) card) ≡ None
    → (if b then first_fault (begun_of p.current) (n + 1) ls
    else or_later n (fault_of (begun_of p.current) card) (first_fault (Some (begun_behind (begun_of p.current) card)) (n + 1) ls))
    ≡ first_fault (begun_of (if b then (if d then p else keep_comment line p) else step n card p).current) (n + 1) ls
unfolding keep_comment
first_fault-taken-by true true n line card ls p h = refl
first_fault-taken-by true false n line card ls p h = refl
first_fault-taken-by false d n line card ls p h =
    ap (λ k. or_later n k (first_fault (Some (begun_behind (begun_of p.current) card)) (n + 1) ls)) h
    ∙ ap (λ x. first_fault x (n + 1) ls) (sym (begun-step n card p h))

-- behind a line that was taken in the first fault is that of the lines that follow
first_fault-taken : (n : ℕ) (line : List ℕ) (ls : List (List ℕ)) (p : Progress) → line_fault p.current line ≡ None
    → first_fault (begun_of p.current) n (line ∷ ls) ≡ first_fault (begun_of (line_step n line p).current) (n + 1) ls
unfolding first_fault
first_fault-taken n line ls p h = first_fault-taken-by (is_comment line) (is_dropped line) n line (card line) ls p h

refused-by : (b : Bool) (o : Option Code) (n code last : ℕ) (x y : Option (ℕ × Code)) (rest : Rest)
    → option_map number_of (if b then None else o) ≡ Some code → outcome (if b then x else or_later n o y) last rest ≡ Err (n, code)
refused-by true o n code last x y rest h = cc
refused-by false None n code last x y rest h = cc
refused-by false (Some f) n code last x y rest h = cc

-- a refused line is the answer
outcome-refused : (n : ℕ) (line : List ℕ) (ls : List (List ℕ)) (o : Option Current) (code last : ℕ) (rest : Rest)
    → option_map number_of (line_fault o line) ≡ Some code → outcome (first_fault (begun_of o) n (line ∷ ls)) last rest ≡ Err (n, code)
unfolding first_fault
outcome-refused n line ls o code last rest h = refused-by (is_comment line) (fault_of (begun_of o) (card line)) n code last _ _ rest h

joined-by : (b d i : Bool) (n : ℕ) (line card : List ℕ) (p : Progress) (rest : Rest) → (b ≡ false → i ≡ false → (c : Current) × (p.current ≡ Some c))
    → joined (if b then (if d then p else keep_comment line p) else (if i then initial n card p else continuation n card p)) rest
    ≡ joined p (if b then (if d then rest else with_comment line rest) else (if i then with_initial n card rest else with_continuation n card rest))
joined-by true true i n line card p rest h = refl
joined-by true false i n line card p rest h = joined-commented line p rest
joined-by false d true n line card p rest h = joined-initial n card p rest
joined-by false d false n line card p rest h = let open_ = h refl refl in joined-continuation n card p rest open_.0 open_.1

fault-there : (b : Bool) (o : Option Code) → (if b then None else o) ≡ None → b ≡ false → o ≡ None
fault-there true o h e = cc
fault-there false o h e = h

joined-line : (n : ℕ) (line : List ℕ) (p : Progress) (rest : Rest) → line_fault p.current line ≡ None
    → joined (line_step n line p) rest ≡ joined p (with_line n line rest)
unfolding step
joined-line n line p rest h =
    joined-by (is_comment line) (is_dropped line) (is_initial (card line)) n line (card line) p rest
    (λ b i. begun-there p.current (card line) (fault-there (is_comment line) (fault_of (begun_of p.current) (card line)) h b) i)

-- what is still to be read gives the same as the whole text
pub record Left (text : List ℕ) (p : Progress) (n : ℕ) (rest : List ℕ) : Type 0 where
  pub faults : first_fault (begun_of p.current) n (text_lines rest) ≡ first_fault None 1 (text_lines text)
  pub statements : joined p (rest_from n (text_lines rest)) ≡ rest_from 1 (text_lines text)
  pub count : n + length (text_lines rest) ≡ 1 + length (text_lines text)

pub left-start : (text : List ℕ) (p : Progress) → p.done ≡ [] → p.current ≡ None → p.comments ≡ [] → Left text p 1 text
unfolding joined
left-start text p d o k =
    let rest = rest_from 1 (text_lines text) in
    let start : List Line → Rest = λ ss. record rest { statements = ss ++ rest.statements } in
    record {
      faults = ap (λ x. first_fault (begun_of x) 1 (text_lines text)) o;
      statements = ap (λ x. behind p.done x (with_comments p.comments rest)) o ∙ ap (λ x. behind p.done None (with_comments x rest)) k ∙ ap start d;
      count = refl;
    }

pub left-line : (text : List ℕ) (p q : Progress) (n : ℕ) (rest line : List ℕ) → 0 < length rest → Left text p n rest
    → line ≡ without_returns (first_line rest) → line_fault p.current line ≡ None → q ≡ line_step n line p
    → Left text q (n + 1) (after_line rest)
unfolding rest_from
left-line text p q n rest line more l is h e =
    let ls = text_lines (after_line rest) in
    let lines : text_lines rest ≡ line ∷ ls = text_lines-first rest more ∙ ap (λ x. x ∷ ls) (sym is) in
    record {
      faults =
          ap (λ x. first_fault (begun_of x.current) (n + 1) ls) e
          ∙ sym (first_fault-taken n line ls p h)
          ∙ sym (ap (first_fault (begun_of p.current) n) lines)
          ∙ l.faults;
      statements =
          ap (λ x. joined x (rest_from (n + 1) ls)) e
          ∙ joined-line n line p (rest_from (n + 1) ls) h
          ∙ sym (ap (λ x. joined p (rest_from n x)) lines)
          ∙ l.statements;
      count = omega (arith, l.count, ap length lines);
    }

pub left-refused : (text : List ℕ) (p : Progress) (n code : ℕ) (rest line : List ℕ) → 0 < length rest → Left text p n rest
    → line ≡ without_returns (first_line rest) → option_map number_of (line_fault p.current line) ≡ Some code → reading text ≡ Err (n, code)
unfolding reading
left-refused text p n code rest line more l is h =
    let ls = text_lines (after_line rest) in
    let lines : text_lines rest ≡ line ∷ ls = text_lines-first rest more ∙ ap (λ x. x ∷ ls) (sym is) in
    ap (λ o. outcome o (length (text_lines text)) (rest_from 1 (text_lines text))) (sym l.faults ∙ ap (first_fault (begun_of p.current) n) lines)
    ∙ outcome-refused n line ls p.current code (length (text_lines text)) (rest_from 1 (text_lines text)) h

-- an answer that refuses the next line is that of the whole text
pub left-error : (text : List ℕ) (p q : Progress) (n : ℕ) (rest line : List ℕ) (e : ReadRefusal) → 0 < length rest → Left text p n rest
    → line ≡ without_returns (first_line rest) → Takes n (line_fault p.current line) q (Err e) → Gives (Err e) (reading text)
left-error text p q n rest line Memory more l is takes = tt
left-error text p q n rest line (At m code) more l is takes =
    let refused : ℕ → Result Lines (ℕ × ℕ) = λ x. Err (x, code) in
    left-refused text p n code rest line more l is takes.1 ∙ ap refused (sym takes.0)

pub left-end : (text : List ℕ) (p : Progress) (n : ℕ) (rest : List ℕ) → length rest < 1 → Left text p (n + 1) rest → reading text ≡ outcome_at n p
unfolding reading first_fault
left-end text p n [] h l =
    let count : length (text_lines text) ≡ n = omega (arith, l.count) in
    ap (λ o. outcome o (length (text_lines text)) (rest_from 1 (text_lines text))) (sym l.faults)
    ∙ ap (λ k. outcome None k (rest_from 1 (text_lines text))) count
    ∙ ap (outcome None n) (sym l.statements ∙ joined-end (n + 1) p)
left-end text p n (c ∷ cs) h l = absurd (omega arith)

continuations-next : (i : Bool) (k m : ℕ) → m ≡ (if i then 0 else k + 1) → m ≤ k + 1
continuations-next true k m h = omega arith
continuations-next false k m h = omega arith

continuations-by : (b d : Bool) (n : ℕ) (line card : List ℕ) (p : Progress) → (if b then None else fault_of (begun_of p.current) card) ≡ None
    → continuations_of (begun_of (if b then (if d then p else keep_comment line p) else step n card p).current) ≤ continuations_of (begun_of p.current) + 1
unfolding keep_comment
continuations-by true true n line card p h = omega arith
continuations-by true false n line card p h = omega arith
continuations-by false d n line card p h = continuations-next (is_initial card) _ _ (ap continuations_of (begun-step n card p h))

-- a line is one continuation line more at most
pub continuations-step : (n : ℕ) (line : List ℕ) (p q : Progress) → line_fault p.current line ≡ None → q ≡ line_step n line p
    → continuations_of (begun_of q.current) ≤ continuations_of (begun_of p.current) + 1
continuations-step n line p q h e =
    let by = continuations-by (is_comment line) (is_dropped line) n line (card line) p h in
    omega (arith, by, ap (λ x. continuations_of (begun_of x.current)) e)
