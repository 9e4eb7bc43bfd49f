-- What the grammar of statements gives without a cause to refuse it is formed as it says.
use Rattle.std.proofs.Common.{ℕ, ◌<◌, List, subst, Option, Some, None, Bool, true, false, if◌then◌else◌}
use Rattle.std.specs.Prelude.{codes, Result, Ok, Err}
use Rattle.f77_ast.specs.declared.module.FunctionForm.{FunctionForm}
use Rattle.f77_ast.specs.Trees.{ExprTree, WhatTree}
use Rattle.f77_exprs.specs.declared.at.Notes.{Notes}
use Rattle.f77_exprs.specs.Words.{after}
use Rattle.f77_exprs.specs.State.{State, Reader, parse_word, ◌>>=◌}
use Rattle.f77_exprs.specs.Lexical.{name_at, label_at, digit_first}
use Rattle.f77_exprs.specs.Grammar.{expression}
use Rattle.f77_forms.specs.declared.form.FormId.{FormId}
use Rattle.f77_statements.specs.declared.refusal.Cause.{Cause}
use Rattle.f77_statements.specs.Lists.{skip_comma, in_parentheses, maybe_in_parentheses}
use Rattle.f77_statements.specs.Phrases.{PhraseTree, program, subroutine, function, block_if, else_if, do_head, while_head}
use Rattle.f77_statements.specs.Phrases as phrases
use Rattle.f77_statements.specs.Statements.{program_statement, subroutine_statement, function_statement, if_test, block_if_statement, else_if_statement, what_of, what_at, form_at, logical_if_statement, terminal, some_step, step, range, do_statement, while_statement, alone, simply}
use Rattle.roundtrip_programs.specs.Statements.Formed.{IsName, Each, IsExpression}
use Rattle.roundtrip_programs.specs.Statements.Declared.{MaybeExpression}
use Rattle.roundtrip_programs.specs.Statements.Phrased.{IsWhat, IsPhrase}
use Rattle.roundtrip_programs.specs.Statements.Follows.{IsClean}
use Rattle.roundtrip_programs.proofs.Statements.Readings.{After, Sound, seq, then_word, done_word, weaken}
use Rattle.roundtrip_programs.proofs.Statements.Names.{name-formed}
use Rattle.roundtrip_programs.proofs.Statements.Numbers.{label-formed}
use Rattle.roundtrip_programs.proofs.Statements.Formation.{expression-formed}
use Rattle.roundtrip_programs.proofs.Statements.WhatFormed.{ending-sound, enclosed-sound, maybe_enclosed-sound, what-formed}
use Rattle.roundtrip_programs.proofs.Statements.PartsFormed.{past_kept}

pub program-formed : Sound program_statement IsPhrase
unfolding program_statement
program-formed s =
    then_word (codes "PROGRAM") s (λ t. name_at t >>= λ n. Some (program n.0, n.1)) IsPhrase
    (λ r. let t : State = record s { rest = r } in seq (name_at t) (λ n. Some (program n.0, n.1)) s.notes IsName IsPhrase (name-formed t) (λ n c. (c, λ h. h)))

pub subroutine-formed : Sound subroutine_statement IsPhrase
unfolding subroutine_statement
subroutine-formed s =
    then_word (codes "SUBROUTINE") s (λ t. name_at t >>= λ n. maybe_in_parentheses name_at n.1 >>= λ ds. Some (subroutine n.0 ds.0, ds.1)) IsPhrase
    (λ r. let t : State = record s { rest = r } in
    seq (name_at t) (λ n. maybe_in_parentheses name_at n.1 >>= λ ds. Some (subroutine n.0 ds.0, ds.1)) s.notes IsName IsPhrase (name-formed t)
    (λ n. seq (maybe_in_parentheses name_at n.1) (λ ds. Some (subroutine n.0 ds.0, ds.1)) n.1.notes (Each IsName) (λ p. IsName n.0 → IsPhrase p) (maybe_enclosed-sound name_at IsName name-formed n.1)
    (λ ds c. (c, λ e h. record { name = h; dummies = e }))))

pub function-formed : (word : List ℕ) (form : FunctionForm) → Sound (function_statement word form) IsPhrase
unfolding function_statement
function-formed word form s =
    then_word word s (λ t. name_at t >>= λ n. parse_word (codes "(") n.1 >>= λ u. in_parentheses name_at u >>= λ ds. Some (function form n.0 ds.0, ds.1)) IsPhrase
    (λ r. let t : State = record s { rest = r } in
    seq (name_at t) (λ n. parse_word (codes "(") n.1 >>= λ u. in_parentheses name_at u >>= λ ds. Some (function form n.0 ds.0, ds.1)) s.notes IsName IsPhrase (name-formed t)
    (λ n. then_word (codes "(") n.1 (λ u. in_parentheses name_at u >>= λ ds. Some (function form n.0 ds.0, ds.1)) (λ p. IsName n.0 → IsPhrase p)
    (λ q. let u : State = record n.1 { rest = q } in
    seq (in_parentheses name_at u) (λ ds. Some (function form n.0 ds.0, ds.1)) n.1.notes (Each IsName) (λ p. IsName n.0 → IsPhrase p) (enclosed-sound name_at IsName name-formed u)
    (λ ds c. (c, λ e h. record { name = h; dummies = e })))))

test-sound : Sound if_test IsExpression
unfolding if_test
test-sound = ending-sound (codes ")") expression IsExpression expression-formed

pub block-formed : Sound block_if_statement IsPhrase
unfolding block_if_statement
block-formed s =
    then_word (codes "IF(") s (λ t. if_test t >>= λ e. parse_word (codes "THEN") e.1 >>= λ u. Some (block_if e.0, u)) IsPhrase
    (λ r. let t : State = record s { rest = r } in
    seq (if_test t) (λ e. parse_word (codes "THEN") e.1 >>= λ u. Some (block_if e.0, u)) s.notes IsExpression IsPhrase (test-sound t)
    (λ e. then_word (codes "THEN") e.1 (λ u. Some (block_if e.0, u)) (λ p. IsExpression e.0 → IsPhrase p) (λ q c. (c, λ h. h))))

pub else-formed : Sound else_if_statement IsPhrase
unfolding else_if_statement
else-formed s =
    then_word (codes "ELSEIF(") s (λ t. if_test t >>= λ e. parse_word (codes "THEN") e.1 >>= λ u. Some (else_if e.0, u)) IsPhrase
    (λ r. let t : State = record s { rest = r } in
    seq (if_test t) (λ e. parse_word (codes "THEN") e.1 >>= λ u. Some (else_if e.0, u)) s.notes IsExpression IsPhrase (test-sound t)
    (λ e. then_word (codes "THEN") e.1 (λ u. Some (else_if e.0, u)) (λ p. IsExpression e.0 → IsPhrase p) (λ q c. (c, λ h. h))))

what_of-sound : (f : Result FormId Cause) → Sound (what_of f) IsWhat
what_of-sound (Ok form) = what-formed form
what_of-sound (Err cause) = λ s. tt

what_at-sound : Sound what_at IsWhat
unfolding what_at
what_at-sound s = what_of-sound (form_at s.rest) s

pub logical-formed : Sound logical_if_statement IsPhrase
unfolding logical_if_statement
logical-formed s =
    then_word (codes "IF(") s (λ t. if_test t >>= λ e. what_at e.1 >>= λ w. Some (phrases.logical_if e.0 w.0, w.1)) IsPhrase
    (λ r. let t : State = record s { rest = r } in
    seq (if_test t) (λ e. what_at e.1 >>= λ w. Some (phrases.logical_if e.0 w.0, w.1)) s.notes IsExpression IsPhrase (test-sound t)
    (λ e. seq (what_at e.1) (λ w. Some (phrases.logical_if e.0 w.0, w.1)) e.1.notes IsWhat (λ p. IsExpression e.0 → IsPhrase p) (what_at-sound e.1)
    (λ w c. (c, λ h f. record { test = f; inner = h }))))

-- ---- DO

label_step : (o : Option (ℕ × State)) (k : Notes) → After o k (λ n. n < 2147483648) → After (o >>= λ l. Some (Some l.0, skip_comma l.1)) k (λ (x : Option ℕ). Unit {0})
label_step None k h = tt
label_step (Some l) k h = λ c. let p = h (subst IsClean (past_kept (after (codes ",") l.1.rest) l.1) c) in (p.0, tt)

terminal_at : (b : Bool) (s : State) → After (if b then (label_at s >>= λ l. Some (Some l.0, skip_comma l.1)) else Some (None, s)) s.notes (λ (x : Option ℕ). Unit {0})
terminal_at true s = label_step (label_at s) s.notes (label-formed s)
terminal_at false s = λ c. (c, tt)

terminal-sound : Sound terminal (λ x. Unit {0})
unfolding terminal
terminal-sound s = terminal_at (digit_first s.rest) s

some_step-sound : Sound some_step MaybeExpression
unfolding some_step
some_step-sound s = seq (expression s) (λ e. Some (Some e.0, e.1)) s.notes IsExpression MaybeExpression (expression-formed s) (λ e c. (c, λ h. h))

step-sound : Sound step MaybeExpression
unfolding step
step-sound s = done_word (codes ",") None s some_step MaybeExpression tt (λ r. some_step-sound (record s { rest = r }))

range-formed : (l : Option ℕ) → Sound (range l) IsPhrase
unfolding range
range-formed l s =
    let D : List ℕ → ExprTree → ExprTree → Option ExprTree → PhraseTree = λ i a b c. do_head (record { label = l; index = i; first = a; last = b; step = c }) in
    seq (name_at s) (λ i. parse_word (codes "=") i.1 >>= λ t. expression t >>= λ a. parse_word (codes ",") a.1 >>= λ u. expression u >>= λ b. step b.1 >>= λ c. Some (D i.0 a.0 b.0 c.0, c.1))
    s.notes IsName IsPhrase (name-formed s)
    (λ i. then_word (codes "=") i.1 (λ t. expression t >>= λ a. parse_word (codes ",") a.1 >>= λ u. expression u >>= λ b. step b.1 >>= λ c. Some (D i.0 a.0 b.0 c.0, c.1)) (λ p. IsName i.0 → IsPhrase p)
    (λ r. let t : State = record i.1 { rest = r } in
    seq (expression t) (λ a. parse_word (codes ",") a.1 >>= λ u. expression u >>= λ b. step b.1 >>= λ c. Some (D i.0 a.0 b.0 c.0, c.1)) i.1.notes IsExpression (λ p. IsName i.0 → IsPhrase p)
    (expression-formed t)
    (λ a. then_word (codes ",") a.1 (λ u. expression u >>= λ b. step b.1 >>= λ c. Some (D i.0 a.0 b.0 c.0, c.1)) (λ p. IsExpression a.0 → (IsName i.0 → IsPhrase p))
    (λ q. let u : State = record a.1 { rest = q } in
    seq (expression u) (λ b. step b.1 >>= λ c. Some (D i.0 a.0 b.0 c.0, c.1)) a.1.notes IsExpression (λ p. IsExpression a.0 → (IsName i.0 → IsPhrase p)) (expression-formed u)
    (λ b. seq (step b.1) (λ c. Some (D i.0 a.0 b.0 c.0, c.1)) b.1.notes MaybeExpression (λ p. IsExpression b.0 → (IsExpression a.0 → (IsName i.0 → IsPhrase p))) (step-sound b.1)
    (λ c d. (d, λ h g f e. record { index = e; first = f; last = g; step = h })))))))

pub do-formed : Sound do_statement IsPhrase
unfolding do_statement
do-formed s =
    then_word (codes "DO") s (λ t. terminal t >>= λ l. range l.0 l.1) IsPhrase
    (λ r. let t : State = record s { rest = r } in
    seq (terminal t) (λ l. range l.0 l.1) s.notes (λ x. Unit {0}) IsPhrase (terminal-sound t)
    (λ l. weaken (range l.0 l.1) l.1.notes IsPhrase (λ p. Unit {0} → IsPhrase p) (range-formed l.0 l.1) (λ p h u. h)))

pub while-formed : Sound while_statement IsPhrase
unfolding while_statement
while-formed s =
    then_word (codes "DO") s (λ t. terminal t >>= λ l. parse_word (codes "WHILE(") l.1 >>= λ u. if_test u >>= λ e. Some (while_head l.0 e.0, e.1)) IsPhrase
    (λ r. let t : State = record s { rest = r } in
    seq (terminal t) (λ l. parse_word (codes "WHILE(") l.1 >>= λ u. if_test u >>= λ e. Some (while_head l.0 e.0, e.1)) s.notes (λ x. Unit {0}) IsPhrase (terminal-sound t)
    (λ l. then_word (codes "WHILE(") l.1 (λ u. if_test u >>= λ e. Some (while_head l.0 e.0, e.1)) (λ p. Unit {0} → IsPhrase p)
    (λ q. let u : State = record l.1 { rest = q } in
    seq (if_test u) (λ e. Some (while_head l.0 e.0, e.1)) l.1.notes IsExpression (λ p. Unit {0} → IsPhrase p) (test-sound u) (λ e c. (c, λ h v. h)))))

-- ---- words alone, and executable statements

pub alone-formed : (w : List ℕ) (p : PhraseTree) → IsPhrase p → Sound (alone w p) IsPhrase
unfolding alone
alone-formed w p h s = then_word w s (λ t. Some (p, t)) IsPhrase (λ r c. (c, h))

pub simply-formed : (R : Reader WhatTree) → Sound R IsWhat → Sound (simply R) IsPhrase
unfolding simply
simply-formed R h s = seq (R s) (λ w. Some (phrases.simple w.0, w.1)) s.notes IsWhat IsPhrase (h s) (λ w c. (c, λ g. g))
