-- Just the statement END ends a module.
use Rattle.std.proofs.Common.{◌≡◌, ℕ, List, [], ◌∷◌, refl, ap, sym, ◌∙◌, Bool, true, false, if◌then◌else◌}
use Rattle.std.specs.Prelude.{Option, Some, None, option_map, Result, Ok, Err, codes, nat_eq, bytes_eq}
use Rattle.std.proofs.lemmas.Bool.{eqb-true}
use Rattle.std.proofs.lemmas.Slice.Eq.{bytes_eq-Decides}
use Rattle.f77_ast.specs.declared.module.FunctionForm.{FunctionForm}
use Rattle.f77_ast.specs.declared.module.FunctionForm.TheVariants.{Plain, Integer, Logical}
use Rattle.f77_ast.specs.Trees.{ExprTree, WhatTree}
use Rattle.f77_ast.specs.DeclTrees.{DeclTree}
use Rattle.f77_exprs.specs.declared.at.Notes.{Notes}
use Rattle.f77_exprs.specs.Words.{after}
use Rattle.f77_exprs.specs.State.{State, Reader, start, parse_word, ◌>>=◌}
use Rattle.f77_exprs.specs.Lexical.{name_at}
use Rattle.f77_exprs.specs.Grammar.{expression}
use Rattle.f77_forms.specs.declared.form.FormId.{FormId}
use Rattle.f77_forms.specs.declared.form.FormId.TheVariants as forms
use Rattle.f77_statements.specs.declared.refusal.Cause.{Cause}
use Rattle.f77_statements.specs.declared.refusal.Cause.TheVariants.{RealConstant, NumberTooBig, NameTooLong}
use Rattle.f77_statements.specs.Causes.{finished, verdict}
use Rattle.f77_statements.specs.Lists.{in_parentheses, maybe_in_parentheses}
use Rattle.f77_statements.specs.Phrases.{PhraseTree, program, subroutine, function, specification, simple, logical_if, block_if, else_if, else_part, end_if, do_head, while_head, end_do, end_module}
use Rattle.f77_statements.specs.Specifications.{implicit_statement, integer_statement, logical_statement, dimension_statement, parameter_statement, common_statement, equivalence_statement, save_statement, data_statement}
use Rattle.f77_statements.specs.Executables.{assignment, call_statement, goto_statement, continue_statement, return_statement, stop_statement, print_statement, write_statement, read_statement}
use Rattle.f77_statements.specs.Statements.{program_statement, subroutine_statement, function_statement, while_statement, if_test, block_if_statement, else_if_statement, what_at, logical_if_statement, terminal, step, range, do_statement, alone, specified, simply, form_at, phrase_by, phrase_in, phrase_of}
use Rattle.f77_parser.specs.Ends.{ends_module}

-- ---- each other form

abbrev Inner : PhraseTree → Type 0
Inner p = ends_module p ≡ false

-- what was read is such a phrase
abbrev Reads : Option (PhraseTree × State) → Type 0
Reads None = Unit {0}
Reads (Some r) = Inner r.0

seq : {A : Type 0} (o : Option A) (f : A → Option (PhraseTree × State)) → ((a : A) → Reads (f a)) → Reads (o >>= f)
seq None f h = tt
seq (Some a) f h = h a

program-inner : (s : State) → Reads (program_statement s)
unfolding program_statement
program-inner s = seq (parse_word (codes "PROGRAM") s) (λ t. name_at t >>= λ n. Some (program n.0, n.1)) (λ t. seq (name_at t) (λ n. Some (program n.0, n.1)) (λ n. refl))

subroutine-inner : (s : State) → Reads (subroutine_statement s)
unfolding subroutine_statement
subroutine-inner s =
    seq (parse_word (codes "SUBROUTINE") s) (λ t. name_at t >>= λ n. maybe_in_parentheses name_at n.1 >>= λ ds. Some (subroutine n.0 ds.0, ds.1))
    (λ t. seq (name_at t) (λ n. maybe_in_parentheses name_at n.1 >>= λ ds. Some (subroutine n.0 ds.0, ds.1))
    (λ n. seq (maybe_in_parentheses name_at n.1) (λ ds. Some (subroutine n.0 ds.0, ds.1)) (λ ds. refl)))

function-inner : (word : List ℕ) (form : FunctionForm) (s : State) → Reads (function_statement word form s)
unfolding function_statement
function-inner word form s =
    seq (parse_word word s) (λ t. name_at t >>= λ n. parse_word (codes "(") n.1 >>= λ u. in_parentheses name_at u >>= λ ds. Some (function form n.0 ds.0, ds.1))
    (λ t. seq (name_at t) (λ n. parse_word (codes "(") n.1 >>= λ u. in_parentheses name_at u >>= λ ds. Some (function form n.0 ds.0, ds.1))
    (λ n. seq (parse_word (codes "(") n.1) (λ u. in_parentheses name_at u >>= λ ds. Some (function form n.0 ds.0, ds.1))
    (λ u. seq (in_parentheses name_at u) (λ ds. Some (function form n.0 ds.0, ds.1)) (λ ds. refl))))

block-inner : (s : State) → Reads (block_if_statement s)
unfolding block_if_statement
block-inner s =
    seq (parse_word (codes "IF(") s) (λ t. if_test t >>= λ e. parse_word (codes "THEN") e.1 >>= λ u. Some (block_if e.0, u))
    (λ t. seq (if_test t) (λ e. parse_word (codes "THEN") e.1 >>= λ u. Some (block_if e.0, u))
    (λ e. seq (parse_word (codes "THEN") e.1) (λ u. Some (block_if e.0, u)) (λ u. refl)))

else-inner : (s : State) → Reads (else_if_statement s)
unfolding else_if_statement
else-inner s =
    seq (parse_word (codes "ELSEIF(") s) (λ t. if_test t >>= λ e. parse_word (codes "THEN") e.1 >>= λ u. Some (else_if e.0, u))
    (λ t. seq (if_test t) (λ e. parse_word (codes "THEN") e.1 >>= λ u. Some (else_if e.0, u))
    (λ e. seq (parse_word (codes "THEN") e.1) (λ u. Some (else_if e.0, u)) (λ u. refl)))

logical-inner : (s : State) → Reads (logical_if_statement s)
unfolding logical_if_statement
logical-inner s =
    seq (parse_word (codes "IF(") s) (λ t. if_test t >>= λ e. what_at e.1 >>= λ w. Some (logical_if e.0 w.0, w.1))
    (λ t. seq (if_test t) (λ e. what_at e.1 >>= λ w. Some (logical_if e.0 w.0, w.1)) (λ e. seq (what_at e.1) (λ w. Some (logical_if e.0 w.0, w.1)) (λ w. refl)))

range-inner : (l : Option ℕ) (s : State) → Reads (range l s)
unfolding range
range-inner l s =
    let D : List ℕ → ExprTree → ExprTree → Option ExprTree → PhraseTree = λ i a b c. do_head (record { label = l; index = i; first = a; last = b; step = c }) in
    seq (name_at s) (λ i. parse_word (codes "=") i.1 >>= λ t. expression t >>= λ a. parse_word (codes ",") a.1 >>= λ u. expression u >>= λ b. step b.1 >>= λ c. Some (D i.0 a.0 b.0 c.0, c.1))
    (λ i. seq (parse_word (codes "=") i.1) (λ t. expression t >>= λ a. parse_word (codes ",") a.1 >>= λ u. expression u >>= λ b. step b.1 >>= λ c. Some (D i.0 a.0 b.0 c.0, c.1))
    (λ t. seq (expression t) (λ a. parse_word (codes ",") a.1 >>= λ u. expression u >>= λ b. step b.1 >>= λ c. Some (D i.0 a.0 b.0 c.0, c.1))
    (λ a. seq (parse_word (codes ",") a.1) (λ u. expression u >>= λ b. step b.1 >>= λ c. Some (D i.0 a.0 b.0 c.0, c.1))
    (λ u. seq (expression u) (λ b. step b.1 >>= λ c. Some (D i.0 a.0 b.0 c.0, c.1))
    (λ b. seq (step b.1) (λ c. Some (D i.0 a.0 b.0 c.0, c.1)) (λ c. refl))))))

do-inner : (s : State) → Reads (do_statement s)
unfolding do_statement
do-inner s =
    seq (parse_word (codes "DO") s) (λ t. terminal t >>= λ l. range l.0 l.1) (λ t. seq (terminal t) (λ l. range l.0 l.1) (λ l. range-inner l.0 l.1))

while-inner : (s : State) → Reads (while_statement s)
unfolding while_statement
while-inner s =
    seq (parse_word (codes "DO") s) (λ t. terminal t >>= λ l. parse_word (codes "WHILE(") l.1 >>= λ u. if_test u >>= λ e. Some (while_head l.0 e.0, e.1))
    (λ t. seq (terminal t) (λ l. parse_word (codes "WHILE(") l.1 >>= λ u. if_test u >>= λ e. Some (while_head l.0 e.0, e.1))
    (λ l. seq (parse_word (codes "WHILE(") l.1) (λ u. if_test u >>= λ e. Some (while_head l.0 e.0, e.1))
    (λ u. seq (if_test u) (λ e. Some (while_head l.0 e.0, e.1)) (λ e. refl))))

alone-inner : (w : List ℕ) (p : PhraseTree) → Inner p → (s : State) → Reads (alone w p s)
unfolding alone
alone-inner w p h s = seq (parse_word w s) (λ t. Some (p, t)) (λ t. h)

specified-inner : (R : Reader DeclTree) (s : State) → Reads (specified R s)
unfolding specified
specified-inner R s = seq (R s) (λ d. Some (specification d.0, d.1)) (λ d. refl)

simply-inner : (R : Reader WhatTree) (s : State) → Reads (simply R s)
unfolding simply
simply-inner R s = seq (R s) (λ w. Some (simple w.0, w.1)) (λ w. refl)

-- ---- what a whole statement is read as

noted-is : (a b c : Bool) (x y : PhraseTree) → (if a then Err RealConstant else if b then Err NumberTooBig else if c then Err NameTooLong else Ok x) ≡ Ok y → x ≡ y
noted-is true b c x y h = cc
noted-is false true c x y h = cc
noted-is false false true x y h = cc
noted-is false false false x y h = cc

finished-is : (rest : List ℕ) (k : Notes) (x y : PhraseTree) → finished rest k x ≡ Ok y → (rest ≡ []) × (x ≡ y)
finished-is [] k x y h = (refl, noted-is k.real k.big k.long x y h)
finished-is (c ∷ cs) k x y h = cc

inner-verdict : (o : Option (PhraseTree × State)) (p : PhraseTree) → Reads o → verdict o ≡ Ok p → Inner p
inner-verdict None p h g = cc
inner-verdict (Some r) p h g = sym (ap ends_module (finished-is r.1.rest r.1.notes r.0 p g).1) ∙ h

word-at : (w text : List ℕ) → after w text ≡ Some [] → text ≡ w
word-at [] text h = cc
word-at (w ∷ ws) [] h = cc
word-at (w ∷ ws) (c ∷ cs) h = word-by (nat_eq c w) w c ws cs refl h (word-at ws cs)
  where
    word-by : (b : Bool) (w c : ℕ) (ws cs : List ℕ) → nat_eq c w ≡ b → (if b then after ws cs else None) ≡ Some [] → (after ws cs ≡ Some [] → cs ≡ ws) → c ∷ cs ≡ w ∷ ws
    word-by true w c ws cs e h g = ap (λ x. x ∷ cs) (eqb-true c w e) ∙ ap (λ xs. w ∷ xs) (g h)
    word-by false w c ws cs e h g = cc

end-at : (o : Option (List ℕ)) (k : Notes) (p : PhraseTree) → verdict (option_map (λ r. record { rest = r; notes = k }) o >>= λ t. Some (end_module, t)) ≡ Ok p → o ≡ Some []
end-at None k p h = cc
end-at (Some r) k p h = ap Some (finished-is r k end_module p h).0

-- another statement, or the text is END
abbrev OrEnd : List ℕ → PhraseTree → Type 0
OrEnd body p = ends_module p ≡ true → body ≡ codes "END"

unless : (body : List ℕ) (p : PhraseTree) → Inner p → OrEnd body p
unless body p h e = cc

end-form : (body : List ℕ) (p : PhraseTree) → verdict (alone (codes "END") end_module (start body)) ≡ Ok p → OrEnd body p
unfolding alone
end-form body p h e = word-at (codes "END") body (end-at (after (codes "END") body) (record { real = false; big = false; long = false }) p h)

by-form : (form : FormId) (body : List ℕ) (p : PhraseTree) → verdict (phrase_by form (start body)) ≡ Ok p → OrEnd body p
by-form forms.Program body p h = unless body p (inner-verdict (program_statement (start body)) p (program-inner (start body)) h)
by-form forms.Subroutine body p h = unless body p (inner-verdict (subroutine_statement (start body)) p (subroutine-inner (start body)) h)
by-form forms.Function body p h = unless body p (inner-verdict (function_statement (codes "FUNCTION") Plain (start body)) p (function-inner (codes "FUNCTION") Plain (start body)) h)
by-form forms.IntegerFunction body p h = unless body p (inner-verdict (function_statement (codes "INTEGERFUNCTION") Integer (start body)) p (function-inner (codes "INTEGERFUNCTION") Integer (start body)) h)
by-form forms.LogicalFunction body p h = unless body p (inner-verdict (function_statement (codes "LOGICALFUNCTION") Logical (start body)) p (function-inner (codes "LOGICALFUNCTION") Logical (start body)) h)
by-form forms.Implicit body p h = unless body p (inner-verdict (specified implicit_statement (start body)) p (specified-inner implicit_statement (start body)) h)
by-form forms.Integer body p h = unless body p (inner-verdict (specified integer_statement (start body)) p (specified-inner integer_statement (start body)) h)
by-form forms.Logical body p h = unless body p (inner-verdict (specified logical_statement (start body)) p (specified-inner logical_statement (start body)) h)
by-form forms.Dimension body p h = unless body p (inner-verdict (specified dimension_statement (start body)) p (specified-inner dimension_statement (start body)) h)
by-form forms.Parameter body p h = unless body p (inner-verdict (specified parameter_statement (start body)) p (specified-inner parameter_statement (start body)) h)
by-form forms.Common body p h = unless body p (inner-verdict (specified common_statement (start body)) p (specified-inner common_statement (start body)) h)
by-form forms.Equivalence body p h = unless body p (inner-verdict (specified equivalence_statement (start body)) p (specified-inner equivalence_statement (start body)) h)
by-form forms.Save body p h = unless body p (inner-verdict (specified save_statement (start body)) p (specified-inner save_statement (start body)) h)
by-form forms.Data body p h = unless body p (inner-verdict (specified data_statement (start body)) p (specified-inner data_statement (start body)) h)
by-form forms.Assignment body p h = unless body p (inner-verdict (simply assignment (start body)) p (simply-inner assignment (start body)) h)
by-form forms.LogicalIf body p h = unless body p (inner-verdict (logical_if_statement (start body)) p (logical-inner (start body)) h)
by-form forms.BlockIf body p h = unless body p (inner-verdict (block_if_statement (start body)) p (block-inner (start body)) h)
by-form forms.ElseIf body p h = unless body p (inner-verdict (else_if_statement (start body)) p (else-inner (start body)) h)
by-form forms.Else body p h = unless body p (inner-verdict (alone (codes "ELSE") else_part (start body)) p (alone-inner (codes "ELSE") else_part refl (start body)) h)
by-form forms.EndIf body p h = unless body p (inner-verdict (alone (codes "ENDIF") end_if (start body)) p (alone-inner (codes "ENDIF") end_if refl (start body)) h)
by-form forms.Do body p h = unless body p (inner-verdict (do_statement (start body)) p (do-inner (start body)) h)
by-form forms.DoWhile body p h = unless body p (inner-verdict (while_statement (start body)) p (while-inner (start body)) h)
by-form forms.EndDo body p h = unless body p (inner-verdict (alone (codes "ENDDO") end_do (start body)) p (alone-inner (codes "ENDDO") end_do refl (start body)) h)
by-form forms.Continue body p h = unless body p (inner-verdict (simply continue_statement (start body)) p (simply-inner continue_statement (start body)) h)
by-form forms.Return body p h = unless body p (inner-verdict (simply return_statement (start body)) p (simply-inner return_statement (start body)) h)
by-form forms.End body p h = end-form body p h
by-form forms.Goto body p h = unless body p (inner-verdict (simply goto_statement (start body)) p (simply-inner goto_statement (start body)) h)
by-form forms.Call body p h = unless body p (inner-verdict (simply call_statement (start body)) p (simply-inner call_statement (start body)) h)
by-form forms.Stop body p h = unless body p (inner-verdict (simply stop_statement (start body)) p (simply-inner stop_statement (start body)) h)
by-form forms.Print body p h = unless body p (inner-verdict (simply print_statement (start body)) p (simply-inner print_statement (start body)) h)
by-form forms.Write body p h = unless body p (inner-verdict (simply write_statement (start body)) p (simply-inner write_statement (start body)) h)
by-form forms.Read body p h = unless body p (inner-verdict (simply read_statement (start body)) p (simply-inner read_statement (start body)) h)

in-form : (f : Result FormId Cause) (body : List ℕ) (p : PhraseTree) → phrase_in f body ≡ Ok p → OrEnd body p
in-form (Ok form) body p h = by-form form body p h
in-form (Err cause) body p h = cc

pub end-is : (body : List ℕ) (p : PhraseTree) → phrase_of body ≡ Ok p → ends_module p ≡ true → body ≡ codes "END"
unfolding phrase_of
end-is body p h = in-form (form_at body) body p h

end-read : phrase_of (codes "END") ≡ Ok end_module
unfolding phrase_of form_at alone
end-read = refl

pub ends-read : (body : List ℕ) (p : PhraseTree) → bytes_eq body (codes "END") ≡ true → phrase_of body ≡ Ok p → ends_module p ≡ true
ends-read body p e h =
    let same : body ≡ codes "END" = (bytes_eq-Decides body (codes "END")).0 e in
    let is : Ok p ≡ Ok end_module = sym h ∙ ap phrase_of same ∙ end-read in
    let q : p ≡ end_module = cc in ap ends_module q
