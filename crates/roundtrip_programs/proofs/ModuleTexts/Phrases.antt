-- What is written of a statement stands no deeper than what was read.
use Rattle.std.proofs.Common.{◌≡◌, ℕ, ◌+◌, List, [], ◌∷◌, ◌++◌, refl, ap, sym, ◌∙◌, append-nil, Option, Some, None, Bool, true, false, if◌then◌else◌, decimal}
use Rattle.std.specs.Prelude.{codes, Result, Ok, Err}
use Rattle.f77_ast.specs.Trees.{WhatTree}
use Rattle.f77_ast.specs.declared.module.FunctionForm.{FunctionForm}
use Rattle.f77_ast.specs.declared.module.FunctionForm.TheVariants.{Plain, Integer, Logical}
use Rattle.f77_ast.specs.DeclTrees.{DeclTree}
use Rattle.f77_structure.specs.Depth.{is_deep_from, is_deep}
use Rattle.f77_exprs.specs.State.{State, start, Reader, ◌>>=◌}
use Rattle.f77_exprs.specs.Lexical.{name_at, label_at, digit_first}
use Rattle.f77_exprs.specs.Grammar.{expression}
use Rattle.f77_forms.specs.declared.form.FormId.{FormId}
use Rattle.f77_forms.specs.declared.form.FormId.TheVariants as forms
use Rattle.f77_statements.specs.declared.refusal.Cause.{Cause}
use Rattle.f77_statements.specs.Lists.{skip_comma, in_parentheses, maybe_in_parentheses}
use Rattle.f77_statements.specs.Phrases.{PhraseTree, program, subroutine, function, specification, simple, block_if, else_if, else_part, end_if, do_head, while_head, end_do, end_module}
use Rattle.f77_statements.specs.Phrases as phrases
use Rattle.f77_statements.specs.Specifications.{implicit_statement, integer_statement, logical_statement, dimension_statement, parameter_statement, common_statement, equivalence_statement, save_statement, data_statement}
use Rattle.f77_statements.specs.Executables.{assignment, call_statement, goto_statement, continue_statement, return_statement, stop_statement, print_statement, write_statement, read_statement}
use Rattle.f77_statements.specs.Statements.{program_statement, subroutine_statement, function_statement, if_test, block_if_statement, else_if_statement, form_at, what_of, what_at, logical_if_statement, terminal, some_step, step, range, do_statement, while_statement, alone, specified, simply, phrase_by, phrase_in, phrase_of}
use Rattle.f77_printer.specs.ExprText.{expr_text}
use Rattle.f77_printer.specs.DeclText.{joined_by, decl_text}
use Rattle.f77_printer.specs.StatementText.{what_text, step_text}
use Rattle.f77_printer.specs.ModuleText.{dummies_text, function_word}
use Rattle.roundtrip_programs.specs.Statements.Written.{phrase_text, as_written}
use Rattle.roundtrip_programs.proofs.Statements.Readings.{After}
use Rattle.roundtrip_programs.proofs.Statements.Verdicts.{clean, verdict_given}
use Rattle.roundtrip_programs.specs.ModuleTexts.Flat.{IsFlat}
use Rattle.roundtrip_programs.specs.ModuleTexts.DepthLaws.{NotDeeper}
use Rattle.roundtrip_programs.proofs.ModuleTexts.Levels.{at, IsShallow, Leads, join, plain, opens, opened, closes}
use Rattle.roundtrip_programs.proofs.ModuleTexts.Stripping.{stripped_same}
use Rattle.roundtrip_programs.proofs.ModuleTexts.Readers.{Within, Even, Level, seq, then_read, then_word, done_word}
use Rattle.roundtrip_programs.proofs.ModuleTexts.Names.{name-even, label-even}
use Rattle.roundtrip_programs.proofs.ModuleTexts.Lists.{joined-leads, Wrapped, enclosed-even, maybe_enclosed-even, ending_closed}
use Rattle.roundtrip_programs.proofs.ModuleTexts.Exprs.{expression_even}
use Rattle.roundtrip_programs.proofs.ModuleTexts.Whats.{what_even}
use Rattle.roundtrip_programs.proofs.ModuleTexts.Blocks.{past_comma-shallow}
use Rattle.roundtrip_programs.proofs.ModuleTexts.Decls.{implicit_even, integer_even, logical_even, dimension_even, parameter_even, common_even, equivalence_even, save_even, data_even}

-- ---- modules

program-even : Even program_statement (Level phrase_text)
unfolding program_statement
program-even n s h =
    then_word (codes "PROGRAM") s _ n n (Level phrase_text n) h
    (λ r i. then_read name_at (Level (λ x. x)) _ (record s { rest = r }) n n (Level phrase_text n) name-even i (λ f x j. (join (plain n (codes "PROGRAM ") refl) x, j)))

dummies_leads : (n : ℕ) (ds : List (List ℕ)) → Wrapped (Level (λ x. x)) n ds → Leads n n (dummies_text ds)
dummies_leads n [] h = plain n [] refl
dummies_leads n (d ∷ ds) h = join (join h.0 (joined-leads (λ x. x) (n + 1) (d ∷ ds) h.1)) (closes n)

subroutine-even : Even subroutine_statement (Level phrase_text)
unfolding subroutine_statement
subroutine-even n s h =
    then_word (codes "SUBROUTINE") s _ n n (Level phrase_text n) h
    (λ r i. then_read name_at (Level (λ x. x)) _ (record s { rest = r }) n n (Level phrase_text n) name-even i
    (λ f x j. then_read (maybe_in_parentheses name_at) (Wrapped (Level (λ y. y))) _ f.1 n n (Level phrase_text n) (maybe_enclosed-even name_at (Level (λ y. y)) name-even) j
    (λ ds y k. (join (join (plain n (codes "SUBROUTINE ") refl) x) (dummies_leads n ds.0 y), k))))

-- what a word leads to is where it began
abbrev Keeps : List ℕ → Type 0
Keeps word = (n : ℕ) (r : List ℕ) → IsShallow n (word ++ r) → IsShallow n r

listed-leads : (n : ℕ) (ds : List (List ℕ)) → Wrapped (Level (λ x. x)) n ds → Leads (n + 1) (n + 1) (joined_by (λ x. x) ds)
listed-leads n [] h = plain (n + 1) [] refl
listed-leads n (d ∷ ds) h = joined-leads (λ x. x) (n + 1) (d ∷ ds) h.1

word-leads : (form : FunctionForm) (n : ℕ) → Leads n n (function_word form)
word-leads Plain n = plain n (codes "FUNCTION ") refl
word-leads Integer n = plain n (codes "INTEGER FUNCTION ") refl
word-leads Logical n = plain n (codes "LOGICAL FUNCTION ") refl

function-even : (word : List ℕ) (form : FunctionForm) → Keeps word → Even (function_statement word form) (Level phrase_text)
unfolding function_statement
function-even word form k n s h =
    then_word word s _ n n (Level phrase_text n) h
    (λ r i. then_read name_at (Level (λ x. x)) _ (record s { rest = r }) n n (Level phrase_text n) name-even (k n r i)
    (λ f x j. then_word (codes "(") f.1 _ n n (Level phrase_text n) j
    (λ q l. seq (in_parentheses name_at (record f.1 { rest = q })) _ n n (Wrapped (Level (λ y. y)) n) (Level phrase_text n)
    (enclosed-even name_at (Level (λ y. y)) n (record f.1 { rest = q }) name-even (opens n q l) (opened n q l))
    (λ ds y o. (join (join (word-leads form n) x) (join (join (opens n q l) (listed-leads n ds.0 y)) (closes n)), o)))))

-- ---- IF

test-even : (n : ℕ) (s : State) → IsShallow (n + 1) s.rest → Within (if_test s) n (Level expr_text (n + 1))
unfolding if_test
test-even n s h = ending_closed expression (Level expr_text) n s expression_even h

block-even : Even block_if_statement (Level phrase_text)
unfolding block_if_statement
block-even n s h =
    then_word (codes "IF(") s _ n n (Level phrase_text n) h
    (λ r i. seq (if_test (record s { rest = r })) _ n n (Level expr_text (n + 1)) (Level phrase_text n) (test-even n (record s { rest = r }) (opened n r i))
    (λ e x j. then_word (codes "THEN") e.1 _ n n (Level phrase_text n) j
    (λ q k. (join (join (join (plain n (codes "IF ") refl) (opens n r i)) x) (join (closes n) (plain n (codes " THEN") refl)), k))))

else-even : Even else_if_statement (Level phrase_text)
unfolding else_if_statement
else-even n s h =
    then_word (codes "ELSEIF(") s _ n n (Level phrase_text n) h
    (λ r i. seq (if_test (record s { rest = r })) _ n n (Level expr_text (n + 1)) (Level phrase_text n) (test-even n (record s { rest = r }) (opened n r i))
    (λ e x j. then_word (codes "THEN") e.1 _ n n (Level phrase_text n) j
    (λ q k. (join (join (join (plain n (codes "ELSE IF ") refl) (opens n r i)) x) (join (closes n) (plain n (codes " THEN") refl)), k))))

of_even : (f : Result FormId Cause) → Even (what_of f) (Level what_text)
of_even (Ok form) = what_even form
of_even (Err cause) = λ n s h. tt

at_even : Even what_at (Level what_text)
unfolding what_at
at_even n s h = of_even (form_at s.rest) n s h

logical-even : Even logical_if_statement (Level phrase_text)
unfolding logical_if_statement
logical-even n s h =
    then_word (codes "IF(") s _ n n (Level phrase_text n) h
    (λ r i. seq (if_test (record s { rest = r })) _ n n (Level expr_text (n + 1)) (Level phrase_text n) (test-even n (record s { rest = r }) (opened n r i))
    (λ e x j. then_read what_at (Level what_text) _ e.1 n n (Level phrase_text n) at_even j
    (λ w y k. (join (join (join (join (plain n (codes "IF ") refl) (opens n r i)) x) (join (closes n) (plain n (codes " ") refl))) y, k))))

-- ---- DO

terminal_by : (b : Bool) (n : ℕ) (s : State) → IsShallow n s.rest → Within (if b then (label_at s >>= λ l. Some (Some l.0, skip_comma l.1)) else Some (None, s)) n (λ l. Unit {0})
terminal_by true n s h = then_read label_at (Level decimal) (λ l. Some (Some l.0, skip_comma l.1)) s n n (λ l. Unit {0}) label-even h (λ l x i. (tt, past_comma-shallow n l.1 i))
terminal_by false n s h = (tt, h)

terminal-even : Even terminal (λ n l. Unit {0})
unfolding terminal
terminal-even n s h = terminal_by (digit_first s.rest) n s h

step-even : Even step (Level step_text)
unfolding step some_step
step-even n s h =
    done_word (codes ",") None s some_step n (Level step_text n) h (plain n [] refl)
    (λ r i. then_read expression (Level expr_text) (λ x. Some (Some x.0, x.1)) (record s { rest = r }) n n (Level step_text n) expression_even i (λ x y j. (join (plain n (codes ",") refl) y, j)))

range-even : (l : Option ℕ) → Even (range l) (Level phrase_text)
unfolding range
range-even l n s h =
    then_read name_at (Level (λ x. x)) _ s n n (Level phrase_text n) name-even h
    (λ f x i. then_word (codes "=") f.1 _ n n (Level phrase_text n) i
    (λ r j. then_read expression (Level expr_text) _ (record f.1 { rest = r }) n n (Level phrase_text n) expression_even j
    (λ a y k. then_word (codes ",") a.1 _ n n (Level phrase_text n) k
    (λ q m. then_read expression (Level expr_text) _ (record a.1 { rest = q }) n n (Level phrase_text n) expression_even m
    (λ b z o. then_read step (Level step_text) _ b.1 n n (Level phrase_text n) step-even o
    (λ c w p. (join (join (join (join (join (join (plain n (codes "DO ") refl) x) (plain n (codes " = ") refl)) y) (plain n (codes ",") refl)) z) w, p)))))))

do-even : Even do_statement (Level phrase_text)
unfolding do_statement
do-even n s h =
    then_word (codes "DO") s _ n n (Level phrase_text n) h
    (λ r i. then_read terminal (λ m l. Unit {0}) _ (record s { rest = r }) n n (Level phrase_text n) terminal-even i (λ l x j. range-even l.0 n l.1 j))

while-even : Even while_statement (Level phrase_text)
unfolding while_statement
while-even n s h =
    then_word (codes "DO") s _ n n (Level phrase_text n) h
    (λ r i. then_read terminal (λ m l. Unit {0}) _ (record s { rest = r }) n n (Level phrase_text n) terminal-even i
    (λ l x j. then_word (codes "WHILE(") l.1 _ n n (Level phrase_text n) j
    (λ q k. seq (if_test (record l.1 { rest = q })) _ n n (Level expr_text (n + 1)) (Level phrase_text n) (test-even n (record l.1 { rest = q }) (opened n q k))
    (λ e y o. (join (join (join (plain n (codes "DO WHILE ") refl) (opens n q k)) y) (closes n), o)))))

-- ---- each form

alone-even : (word : List ℕ) (p : PhraseTree) → Keeps word → ((n : ℕ) → Level phrase_text n p) → Even (alone word p) (Level phrase_text)
unfolding alone
alone-even word p k x n s h = then_word word s (λ t. Some (p, t)) n n (Level phrase_text n) h (λ r i. (x n, k n r i))

specified-even : (R : Reader DeclTree) → Even R (Level decl_text) → Even (specified R) (Level phrase_text)
unfolding specified
specified-even R e n s h = then_read R (Level decl_text) (λ d. Some (specification d.0, d.1)) s n n (Level phrase_text n) e h (λ d x i. (x, i))

simply-even : (R : Reader WhatTree) → Even R (Level what_text) → Even (simply R) (Level phrase_text)
unfolding simply
simply-even R e n s h = then_read R (Level what_text) (λ w. Some (simple w.0, w.1)) s n n (Level phrase_text n) e h (λ w x i. (x, i))

form_even : (form : FormId) → Even (phrase_by form) (Level phrase_text)
form_even forms.Program = program-even
form_even forms.Subroutine = subroutine-even
form_even forms.Function = function-even (codes "FUNCTION") Plain (λ n r h. h)
form_even forms.IntegerFunction = function-even (codes "INTEGERFUNCTION") Integer (λ n r h. h)
form_even forms.LogicalFunction = function-even (codes "LOGICALFUNCTION") Logical (λ n r h. h)
form_even forms.Implicit = specified-even implicit_statement implicit_even
form_even forms.Integer = specified-even integer_statement integer_even
form_even forms.Logical = specified-even logical_statement logical_even
form_even forms.Dimension = specified-even dimension_statement dimension_even
form_even forms.Parameter = specified-even parameter_statement parameter_even
form_even forms.Common = specified-even common_statement common_even
form_even forms.Equivalence = specified-even equivalence_statement equivalence_even
form_even forms.Save = specified-even save_statement save_even
form_even forms.Data = specified-even data_statement data_even
form_even forms.Assignment = simply-even assignment (what_even forms.Assignment)
form_even forms.LogicalIf = logical-even
form_even forms.BlockIf = block-even
form_even forms.ElseIf = else-even
form_even forms.Else = alone-even (codes "ELSE") else_part (λ n r h. h) (λ n. plain n (codes "ELSE") refl)
form_even forms.EndIf = alone-even (codes "ENDIF") end_if (λ n r h. h) (λ n. plain n (codes "END IF") refl)
form_even forms.Do = do-even
form_even forms.DoWhile = while-even
form_even forms.EndDo = alone-even (codes "ENDDO") end_do (λ n r h. h) (λ n. plain n (codes "END DO") refl)
form_even forms.Continue = simply-even continue_statement (what_even forms.Continue)
form_even forms.Return = simply-even return_statement (what_even forms.Return)
form_even forms.End = alone-even (codes "END") end_module (λ n r h. h) (λ n. plain n (codes "END") refl)
form_even forms.Goto = simply-even goto_statement (what_even forms.Goto)
form_even forms.Call = simply-even call_statement (what_even forms.Call)
form_even forms.Stop = simply-even stop_statement (what_even forms.Stop)
form_even forms.Print = simply-even print_statement (what_even forms.Print)
form_even forms.Write = simply-even write_statement (what_even forms.Write)
form_even forms.Read = simply-even read_statement (what_even forms.Read)

-- ---- the whole

level_flat : (p : PhraseTree) → Level phrase_text 0 p → IsFlat p
level_flat p x = stripped_same (phrase_text p) (at 0) ∙ ap (is_deep_from (at 0)) (sym (append-nil (phrase_text p))) ∙ x.over []

after_within : (o : Option (PhraseTree × State)) → Within o 0 (Level phrase_text 0) → After o clean IsFlat
after_within None h = tt
after_within (Some r) h = λ c. (record { real = refl; big = refl; long = refl }, level_flat r.0 h.0)

in_flat : (f : Result FormId Cause) (body : List ℕ) (p : PhraseTree) → phrase_in f body ≡ Ok p → is_deep body ≡ false → IsFlat p
in_flat (Ok form) body p h d = verdict_given (phrase_by form (start body)) clean IsFlat p (after_within (phrase_by form (start body)) (form_even form 0 (start body) d)) h
in_flat (Err cause) body p h d = absurd (apart h)
  where
    apart : Err cause ≡ Ok p → ⊥
    apart g = cc

phrase_flat : (body : List ℕ) (p : PhraseTree) → phrase_of body ≡ Ok p → is_deep body ≡ false → IsFlat p
unfolding phrase_of
phrase_flat body p h d = in_flat (form_at body) body p h d

pub kept_flat : (p : PhraseTree) → IsFlat p → IsFlat (as_written p)
kept_flat (program n) h = h
kept_flat (subroutine n ds) h = h
kept_flat (function form n ds) h = h
kept_flat (specification d) h = h
kept_flat (simple w) h = h
kept_flat (phrases.logical_if e w) h = h
kept_flat (block_if e) h = h
kept_flat (else_if e) h = h
kept_flat else_part h = h
kept_flat end_if h = h
kept_flat (do_head d) h = h
kept_flat (while_head l e) h = h
kept_flat end_do h = h
kept_flat end_module h = h

pub not_deeper : NotDeeper
not_deeper = record {
  flat = phrase_flat;
  kept = kept_flat;
  else_flat = refl;
  end_if_flat = refl;
  end_do_flat = refl;
  end_flat = refl;
  continue_flat = refl;
}
