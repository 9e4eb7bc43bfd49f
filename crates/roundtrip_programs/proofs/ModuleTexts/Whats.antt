-- What is written of an executable statement stands no deeper than what was read.
use Rattle.std.proofs.Common.{◌≡◌, ℕ, ◌+◌, List, [], ◌∷◌, ◌++◌, length, refl, ap, subst, sym, ◌∙◌, append_assoc, Option, Some, None, Bool, true, false, if◌then◌else◌, decimal}
use Rattle.std.specs.Prelude.{codes, nat_le, ◌&&◌, option_map}
use Rattle.f77_ast.specs.Trees.{ExprTree, element, no_exprs, print, read}
use Rattle.f77_ast.specs.Plain.{exprs_of}
use Rattle.f77_structure.specs.Depth.{is_deep_from}
use Rattle.f77_exprs.specs.Words.{before, after}
use Rattle.f77_exprs.specs.State.{State, or_else, ◌>>=◌}
use Rattle.f77_exprs.specs.Lexical.{name_at, label_at, digit_first, skip_digits, constant}
use Rattle.f77_exprs.specs.Grammar.{expression, variable}
use Rattle.f77_forms.specs.declared.form.FormId.{FormId}
use Rattle.f77_forms.specs.declared.form.FormId.TheVariants as forms
use Rattle.f77_statements.specs.Lists.{items_left, maybe_in_parentheses, maybe_after_comma}
use Rattle.f77_statements.specs.Executables.{at_end, empty_call, or_other, right_side, assignment, call_statement, goto_statement, continue_statement, return_statement, five_digits, message, stop_text, stop_statement, print_statement, write_list, write_statement, read_listed, read_left, read_statement}
use Rattle.f77_statements.specs.Statements.{what_by}
use Rattle.f77_printer.specs.ExprText.{expr_text, doubled}
use Rattle.f77_printer.specs.StatementText.{actuals_text, message_text, what_text}
use Rattle.roundtrip_programs.specs.Statements.Formed.{Each}
use Rattle.roundtrip_programs.proofs.Statements.Names.{before-append}
use Rattle.roundtrip_programs.proofs.Statements.StopFormed.{Splits, constant_splits}
use Rattle.roundtrip_programs.proofs.Statements.TypedFormed.{splits}
use Rattle.roundtrip_programs.proofs.ModuleTexts.Levels.{at, IsShallow, Leads, join, plain, opens, opened, closes, closed}
use Rattle.roundtrip_programs.proofs.ModuleTexts.Quoted.{constant-leads, past_constant}
use Rattle.roundtrip_programs.proofs.ModuleTexts.Readers.{Within, Even, Level, split_shallow, then_read, then_word, else_word}
use Rattle.roundtrip_programs.proofs.ModuleTexts.Names.{left_shallow, before-leads, digits_left, name-even, label-even}
use Rattle.roundtrip_programs.proofs.ModuleTexts.Lists.{items-leads, exprs-leads, end_even, items_left-even, Wrapped, maybe_enclosed-even, maybe_listed-even}
use Rattle.roundtrip_programs.proofs.ModuleTexts.Exprs.{expression_even, variable_even}

-- ---- the right side of an assignment

end-within : {A : Type 0} (a : A) (t : State) (rest : List ℕ) (n : ℕ) (V : A → Type 0) → V a → IsShallow n t.rest → Within (at_end a t rest) n V
end-within a t [] n V v h = (v, h)
end-within a t (c ∷ cs) n V v h = tt

empty-even : Even empty_call (Level expr_text)
unfolding empty_call
empty-even n s h =
    then_read name_at (Level (λ x. x)) _ s n n (Level expr_text n) name-even h
    (λ f x i. then_word (codes "()") f.1 _ n n (Level expr_text n) i
    (λ r j. end-within (element f.0 no_exprs) (record f.1 { rest = r }) r n (Level expr_text n)
    (join (join (join x (opens n (41 ∷ r) j)) (plain (n + 1) [] refl)) (closes n)) (closed n r (opened n (41 ∷ r) j))))

either-within : {A : Type 0} (o p : Option (A × State)) (n : ℕ) (V : A → Type 0) → Within o n V → Within p n V → Within (or_other o p) n V
either-within None p n V h e = e
either-within (Some r) p n V h e = h

right-even : Even right_side (Level expr_text)
unfolding right_side
right-even n s h = either-within (expression s) (empty_call s) n (Level expr_text n) (expression_even n s h) (empty-even n s h)

assignment-even : Even assignment (Level what_text)
unfolding assignment
assignment-even n s h =
    then_read variable (Level expr_text) _ s n n (Level what_text n) variable_even h
    (λ v x i. then_word (codes "=") v.1 _ n n (Level what_text n) i
    (λ r j. then_read right_side (Level expr_text) _ (record v.1 { rest = r }) n n (Level what_text n) right-even j
    (λ e y k. (join (join x (plain n (codes " = ") refl)) y, k))))

actuals-leads : (n : ℕ) (xs : List ExprTree) → Wrapped (Level expr_text) n xs → Leads n n (actuals_text (exprs_of xs))
actuals-leads n [] h = plain n [] refl
actuals-leads n (x ∷ xs) h = join (join h.0 (exprs-leads (n + 1) (x ∷ xs) h.1)) (closes n)

call-even : Even call_statement (Level what_text)
unfolding call_statement
call-even n s h =
    then_word (codes "CALL") s _ n n (Level what_text n) h
    (λ r i. then_read name_at (Level (λ x. x)) _ (record s { rest = r }) n n (Level what_text n) name-even i
    (λ f x j. then_read (maybe_in_parentheses expression) (Wrapped (Level expr_text)) _ f.1 n n (Level what_text n) (maybe_enclosed-even expression (Level expr_text) expression_even) j
    (λ es y k. (join (join (plain n (codes "CALL ") refl) x) (actuals-leads n es.0 y), k))))

goto-even : Even goto_statement (Level what_text)
unfolding goto_statement
goto-even n s h =
    then_word (codes "GOTO") s _ n n (Level what_text n) h
    (λ r i. then_read label_at (Level decimal) _ (record s { rest = r }) n n (Level what_text n) label-even i (λ l x j. (join (plain n (codes "GO TO ") refl) x, j)))

continue-even : Even continue_statement (Level what_text)
unfolding continue_statement
continue-even n s h = then_word (codes "CONTINUE") s _ n n (Level what_text n) h (λ r i. (plain n (codes "CONTINUE") refl, i))

return-even : Even return_statement (Level what_text)
unfolding return_statement
return-even n s h = then_word (codes "RETURN") s _ n n (Level what_text n) h (λ r i. (plain n (codes "RETURN") refl, i))

-- ---- STOP

five_at : (b : Bool) (n : ℕ) (s : State) → IsShallow n s.rest
    → Within (if b then Some (Some (before s.rest (skip_digits s.rest)), record s { rest = skip_digits s.rest }) else None) n (Level message_text n)
five_at true n s h = let l = digits_left s.rest in (join (plain n (codes " ") refl) (before-leads n l), left_shallow n l h)
five_at false n s h = tt

five-even : Even five_digits (Level message_text)
unfolding five_digits
five-even n s h = five_at (digit_first s.rest && nat_le (length (before s.rest (skip_digits s.rest))) 5) n s h

message_in : (o : Option (List ℕ × List ℕ)) (text : List ℕ) (n : ℕ) (s : State) → text ≡ 39 ∷ s.rest → Splits s.rest o → IsShallow n (39 ∷ s.rest)
    → Within (o >>= λ c. Some (Some (before text c.1), record s { rest = c.1 })) n (Level message_text n)
message_in None text n s q h x = tt
message_in (Some c) text n s q h x =
    let l : text ≡ (39 ∷ (doubled c.0 ++ (39 ∷ []))) ++ c.1 = q ∙ ap (λ (y : List ℕ). 39 ∷ y) (h ∙ sym (append_assoc (doubled c.0) (39 ∷ []) c.1)) in
    let b : before text c.1 ≡ 39 ∷ (doubled c.0 ++ (39 ∷ [])) = ap (λ (y : List ℕ). before y c.1) l ∙ before-append (39 ∷ (doubled c.0 ++ (39 ∷ []))) c.1 in (
      join (plain n (codes " ") refl) (subst (λ (y : List ℕ). Leads n n y) (sym b) (constant-leads n c.0)),
      past_constant n c.0 c.1 (ap (λ (y : List ℕ). is_deep_from (at n) (39 ∷ y)) (sym h) ∙ x),
    )

message-even : (text : List ℕ) (n : ℕ) (s : State) → text ≡ 39 ∷ s.rest → IsShallow n (39 ∷ s.rest) → Within (message text s) n (Level message_text n)
unfolding message
message-even text n s q h = message_in (constant s.rest) text n s q (constant_splits s.rest) h

-- behind an apostrophe the text is known
quote_at : (o : Option (List ℕ)) (n : ℕ) (s : State) → after (codes "'") s.rest ≡ o → IsShallow n s.rest
    → Within (or_else (option_map (λ r. record s { rest = r }) o) (message s.rest) (five_digits s)) n (Level message_text n)
quote_at None n s e h = five-even n s h
quote_at (Some r) n s e h = message-even s.rest n (record s { rest = r }) (splits (codes "'") s.rest r e) (split_shallow (codes "'") r s n e h)

text-even : Even stop_text (Level message_text)
unfolding stop_text
text-even n s h = end_even s None _ n (Level message_text n) h (plain n [] refl) (quote_at (after (codes "'") s.rest) n s refl h)

stop-even : Even stop_statement (Level what_text)
unfolding stop_statement
stop-even n s h =
    then_word (codes "STOP") s _ n n (Level what_text n) h
    (λ r i. then_read stop_text (Level message_text) _ (record s { rest = r }) n n (Level what_text n) text-even i (λ m x j. (join (plain n (codes "STOP") refl) x, j)))

-- ---- PRINT, WRITE, READ

print-text : (n : ℕ) (xs : List ExprTree) → Each (Level expr_text n) xs → Level what_text n (print (exprs_of xs))
print-text n xs h = join (plain n (codes "PRINT *") refl) (items-leads n xs h)

read-text : (n : ℕ) (xs : List ExprTree) → Each (Level expr_text n) xs → Level what_text n (read (exprs_of xs))
read-text n xs h = join (plain n (codes "READ *") refl) (items-leads n xs h)

print-even : Even print_statement (Level what_text)
unfolding print_statement
print-even n s h =
    then_word (codes "PRINT*") s _ n n (Level what_text n) h
    (λ r i. then_read (maybe_after_comma expression) (λ m. Each (Level expr_text m)) _ (record s { rest = r }) n n (Level what_text n) (maybe_listed-even expression (Level expr_text) expression_even) i
    (λ es x j. (print-text n es.0 x, j)))

written-even : Even write_list (Level what_text)
unfolding write_list
written-even n s h =
    then_read (items_left expression) (λ m. Each (Level expr_text m)) _ s n n (Level what_text n) (items_left-even expression (Level expr_text) expression_even) h (λ es x i. (print-text n es.0 x, i))

-- behind the unit and the format in parentheses
write-even : Even write_statement (Level what_text)
unfolding write_statement
write-even n s h =
    else_word (codes "WRITE(*,*)") s write_list _ n n (Level what_text n) h (λ r i. written-even n (record s { rest = r }) (closed n r (opened n (codes "*,*)" ++ r) i)))
    (else_word (codes "WRITE(6,*)") s write_list None n n (Level what_text n) h (λ r i. written-even n (record s { rest = r }) (closed n r (opened n (codes "6,*)" ++ r) i))) tt)

listed-even : Even read_listed (Level what_text)
unfolding read_listed
listed-even n s h =
    then_read (maybe_after_comma variable) (λ m. Each (Level expr_text m)) _ s n n (Level what_text n) (maybe_listed-even variable (Level expr_text) variable_even) h (λ es x i. (read-text n es.0 x, i))

left-even : Even read_left (Level what_text)
unfolding read_left
left-even n s h =
    then_read (items_left variable) (λ m. Each (Level expr_text m)) _ s n n (Level what_text n) (items_left-even variable (Level expr_text) variable_even) h (λ es x i. (read-text n es.0 x, i))

read-even : Even read_statement (Level what_text)
unfolding read_statement
read-even n s h =
    else_word (codes "READ*") s read_listed _ n n (Level what_text n) h (λ r i. listed-even n (record s { rest = r }) i)
    (else_word (codes "READ(*,*)") s read_left _ n n (Level what_text n) h (λ r i. left-even n (record s { rest = r }) (closed n r (opened n (codes "*,*)" ++ r) i)))
    (else_word (codes "READ(5,*)") s read_left None n n (Level what_text n) h (λ r i. left-even n (record s { rest = r }) (closed n r (opened n (codes "5,*)" ++ r) i))) tt))

pub what_even : (form : FormId) → Even (what_by form) (Level what_text)
what_even forms.Assignment = assignment-even
what_even forms.Call = call-even
what_even forms.Continue = continue-even
what_even forms.Goto = goto-even
what_even forms.Return = return-even
what_even forms.Stop = stop-even
what_even forms.Print = print-even
what_even forms.Write = write-even
what_even forms.Read = read-even
what_even _ = λ n s h. tt
