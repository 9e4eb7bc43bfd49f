-- What the grammar of executable statements gives without a cause to refuse it is formed as it says.
use Rattle.std.proofs.Common.{ℕ, ◌<◌, List, [], ◌∷◌, Option, Some, None}
use Rattle.std.specs.Prelude.{codes}
use Rattle.f77_ast.specs.Trees.{ExprTree, element, no_exprs, assign, call, goto, continue, return, stop, print, read}
use Rattle.f77_ast.specs.Plain.{exprs_of}
use Rattle.f77_exprs.specs.declared.at.Notes.{Notes}
use Rattle.f77_exprs.specs.State.{State, Reader, parse_word, ◌>>=◌}
use Rattle.f77_exprs.specs.Lexical.{name_at, label_at}
use Rattle.f77_exprs.specs.Grammar.{comma, items, expression, variable}
use Rattle.f77_forms.specs.declared.form.FormId.{FormId}
use Rattle.f77_forms.specs.declared.form.FormId.TheVariants as forms
use Rattle.f77_statements.specs.Lists.{or_end, ending, items_left, in_parentheses, maybe_in_parentheses, maybe_after_comma}
use Rattle.f77_statements.specs.Executables.{at_end, empty_call, or_other, right_side, assignment, call_statement, goto_statement, continue_statement, return_statement, stop_text, stop_statement, print_statement, write_list, write_statement, read_listed, read_left, read_statement}
use Rattle.f77_statements.specs.Statements.{what_by}
use Rattle.roundtrip_programs.specs.Statements.Formed.{IsName, IsExpression, IsVariable}
use Rattle.roundtrip_programs.specs.Statements.Phrased.{AllVariables, IsRight, MaybeMessage, IsWhat}
use Rattle.roundtrip_programs.specs.Statements.Phrased as phrased
use Rattle.roundtrip_programs.proofs.Statements.Readings.{After, Sound, seq, then_word, else_word, done_word, weaken}
use Rattle.roundtrip_programs.proofs.Statements.Names.{name-formed}
use Rattle.roundtrip_programs.proofs.Statements.Numbers.{label-formed}
use Rattle.roundtrip_programs.specs.Statements.Formed.{Each}
use Rattle.roundtrip_programs.specs.Statements.Formed.{Filled}
use Rattle.roundtrip_programs.proofs.Statements.Lists.{items_by-sound, comma_keeps}
use Rattle.roundtrip_programs.proofs.Statements.Formation.{all_formed, expression-formed, variable-formed}
use Rattle.roundtrip_programs.proofs.Statements.StopFormed.{message-formed}
use Rattle.roundtrip_programs.proofs.Statements.DeclBack.{each_of}

-- ---- lists

pub ending-sound : {A : Type 0} (word : List ℕ) (one : Reader A) (P : A → Type 0) → Sound one P → Sound (ending word one) P
unfolding ending
ending-sound word one P h s =
    seq (one s) (λ r. parse_word word r.1 >>= λ t. Some (r.0, t)) s.notes P P (h s)
    (λ r. then_word word r.1 (λ t. Some (r.0, t)) (λ x. P r.0 → P x) (λ t c. (c, λ p. p)))

end_at : {A : Type 0} (t : List ℕ) (s : State) (a : A) (other : Option (A × State)) (P : A → Type 0) → P a → After other s.notes P → After (or_end t s a other) s.notes P
end_at [] s a other P p h = λ c. (c, p)
end_at (x ∷ xs) s a other P p h = h

pub items_left-sound : {A : Type 0} (one : Reader A) (P : A → Type 0) → Sound one P → Sound (items_left one) (Each P)
unfolding items_left
items_left-sound one P h s =
    end_at s.rest s [] (items one s) (Each P) tt (weaken (items one s) s.notes (Filled P) (Each P) (items_by-sound comma one P comma_keeps h s) (each_of P))

pub enclosed-sound : {A : Type 0} (one : Reader A) (P : A → Type 0) → Sound one P → Sound (in_parentheses one) (Each P)
unfolding in_parentheses
enclosed-sound one P h s =
    else_word (codes ")") s (λ t. Some ([], t)) (ending (codes ")") (items one) s) (Each P) (λ r c. (c, tt))
    (weaken (ending (codes ")") (items one) s) s.notes (Filled P) (Each P) (ending-sound (codes ")") (items one) (Filled P) (items_by-sound comma one P comma_keeps h) s) (each_of P))

pub maybe_enclosed-sound : {A : Type 0} (one : Reader A) (P : A → Type 0) → Sound one P → Sound (maybe_in_parentheses one) (Each P)
unfolding maybe_in_parentheses
maybe_enclosed-sound one P h s = done_word (codes "(") [] s (in_parentheses one) (Each P) tt (λ r. enclosed-sound one P h (record s { rest = r }))

pub maybe_listed-sound : {A : Type 0} (one : Reader A) (P : A → Type 0) → Sound one P → Sound (maybe_after_comma one) (Each P)
unfolding maybe_after_comma
maybe_listed-sound one P h s =
    done_word (codes ",") [] s (items one) (Each P) tt
    (λ r. weaken (items one (record s { rest = r })) s.notes (Filled P) (Each P) (items_by-sound comma one P comma_keeps h (record s { rest = r })) (each_of P))

all_variables : (xs : List ExprTree) → Each IsVariable xs → AllVariables (exprs_of xs)
all_variables [] h = tt
all_variables (x ∷ xs) h = record { first = h.first; others = all_variables xs h.others }

-- ---- statements

other_at : {A : Type 0} (o other : Option (A × State)) (k : Notes) (P : A → Type 0) → After o k P → After other k P → After (or_other o other) k P
other_at None other k P h g = g
other_at (Some r) other k P h g = h

end-formed : (t : List ℕ) (e : ExprTree) (s : State) (P : ExprTree → Type 0) → P e → After (at_end e s t) s.notes P
end-formed [] e s P p = λ c. (c, p)
end-formed (x ∷ xs) e s P p = tt

empty_call-formed : Sound empty_call IsRight
unfolding empty_call
empty_call-formed s =
    seq (name_at s) (λ n. parse_word (codes "()") n.1 >>= λ t. at_end (element n.0 no_exprs) t t.rest) s.notes IsName IsRight (name-formed s)
    (λ n. then_word (codes "()") n.1 (λ t. at_end (element n.0 no_exprs) t t.rest) (λ e. IsName n.0 → IsRight e)
    (λ r. end-formed r (element n.0 no_exprs) (record n.1 { rest = r }) (λ e. IsName n.0 → IsRight e) (λ h. phrased.empty_call n.0 h)))

right-formed : Sound right_side IsRight
unfolding right_side
right-formed s =
    other_at (expression s) (empty_call s) s.notes IsRight (weaken (expression s) s.notes IsExpression IsRight (expression-formed s) (λ e h. phrased.value e h)) (empty_call-formed s)

assignment-formed : Sound assignment IsWhat
unfolding assignment
assignment-formed s =
    seq (variable s) (λ v. parse_word (codes "=") v.1 >>= λ t. right_side t >>= λ e. Some (assign v.0 e.0, e.1)) s.notes IsVariable IsWhat (variable-formed s)
    (λ v. then_word (codes "=") v.1 (λ t. right_side t >>= λ e. Some (assign v.0 e.0, e.1)) (λ w. IsVariable v.0 → IsWhat w)
    (λ r. let t : State = record v.1 { rest = r } in
    seq (right_side t) (λ e. Some (assign v.0 e.0, e.1)) v.1.notes IsRight (λ w. IsVariable v.0 → IsWhat w) (right-formed t)
    (λ e c. (c, λ f g. record { left = g; right = f }))))

call-formed : Sound call_statement IsWhat
unfolding call_statement
call-formed s =
    then_word (codes "CALL") s (λ t. name_at t >>= λ n. maybe_in_parentheses expression n.1 >>= λ es. Some (call n.0 (exprs_of es.0), es.1)) IsWhat
    (λ r. let t : State = record s { rest = r } in
    seq (name_at t) (λ n. maybe_in_parentheses expression n.1 >>= λ es. Some (call n.0 (exprs_of es.0), es.1)) s.notes IsName IsWhat (name-formed t)
    (λ n. seq (maybe_in_parentheses expression n.1) (λ es. Some (call n.0 (exprs_of es.0), es.1)) n.1.notes (Each IsExpression) (λ w. IsName n.0 → IsWhat w)
    (maybe_enclosed-sound expression IsExpression expression-formed n.1)
    (λ es c. (c, λ f h. record { callee = h; actuals = all_formed es.0 f }))))

goto-formed : Sound goto_statement IsWhat
unfolding goto_statement
goto-formed s =
    then_word (codes "GOTO") s (λ t. label_at t >>= λ l. Some (goto l.0, l.1)) IsWhat
    (λ r. let t : State = record s { rest = r } in
    seq (label_at t) (λ l. Some (goto l.0, l.1)) s.notes (λ n. n < 2147483648) IsWhat (label-formed t) (λ l c. (c, λ h. h)))

continue-formed : Sound continue_statement IsWhat
unfolding continue_statement
continue-formed s = then_word (codes "CONTINUE") s (λ t. Some (continue, t)) IsWhat (λ r c. (c, tt))

return-formed : Sound return_statement IsWhat
unfolding return_statement
return-formed s = then_word (codes "RETURN") s (λ t. Some (return, t)) IsWhat (λ r c. (c, tt))

stop-formed : Sound stop_statement IsWhat
unfolding stop_statement
stop-formed s =
    then_word (codes "STOP") s (λ t. stop_text t >>= λ m. Some (stop m.0, m.1)) IsWhat
    (λ r. let t : State = record s { rest = r } in
    seq (stop_text t) (λ m. Some (stop m.0, m.1)) s.notes MaybeMessage IsWhat (message-formed t) (λ m c. (c, λ h. h)))

print-formed : Sound print_statement IsWhat
unfolding print_statement
print-formed s =
    then_word (codes "PRINT*") s (λ t. maybe_after_comma expression t >>= λ es. Some (print (exprs_of es.0), es.1)) IsWhat
    (λ r. let t : State = record s { rest = r } in
    seq (maybe_after_comma expression t) (λ es. Some (print (exprs_of es.0), es.1)) s.notes (Each IsExpression) IsWhat (maybe_listed-sound expression IsExpression expression-formed t)
    (λ es c. (c, λ h. all_formed es.0 h)))

written-formed : Sound write_list IsWhat
unfolding write_list
written-formed s =
    seq (items_left expression s) (λ es. Some (print (exprs_of es.0), es.1)) s.notes (Each IsExpression) IsWhat (items_left-sound expression IsExpression expression-formed s)
    (λ es c. (c, λ h. all_formed es.0 h))

write-formed : Sound write_statement IsWhat
unfolding write_statement
write-formed s =
    else_word (codes "WRITE(*,*)") s write_list _ IsWhat (λ r. written-formed (record s { rest = r }))
    (else_word (codes "WRITE(6,*)") s write_list None IsWhat (λ r. written-formed (record s { rest = r })) tt)

listed-formed : Sound read_listed IsWhat
unfolding read_listed
listed-formed s =
    seq (maybe_after_comma variable s) (λ es. Some (read (exprs_of es.0), es.1)) s.notes (Each IsVariable) IsWhat (maybe_listed-sound variable IsVariable variable-formed s)
    (λ es c. (c, λ h. all_variables es.0 h))

left-formed : Sound read_left IsWhat
unfolding read_left
left-formed s =
    seq (items_left variable s) (λ es. Some (read (exprs_of es.0), es.1)) s.notes (Each IsVariable) IsWhat (items_left-sound variable IsVariable variable-formed s)
    (λ es c. (c, λ h. all_variables es.0 h))

read-formed : Sound read_statement IsWhat
unfolding read_statement
read-formed s =
    else_word (codes "READ*") s read_listed _ IsWhat (λ r. listed-formed (record s { rest = r }))
    (else_word (codes "READ(*,*)") s read_left _ IsWhat (λ r. left-formed (record s { rest = r }))
    (else_word (codes "READ(5,*)") s read_left None IsWhat (λ r. left-formed (record s { rest = r })) tt))

pub what-formed : (form : FormId) → Sound (what_by form) IsWhat
what-formed forms.Assignment = assignment-formed
what-formed forms.Call = call-formed
what-formed forms.Continue = continue-formed
what-formed forms.Goto = goto-formed
what-formed forms.Return = return-formed
what-formed forms.Stop = stop-formed
what-formed forms.Print = print-formed
what-formed forms.Write = write-formed
what-formed forms.Read = read-formed
what-formed _ = λ s. tt
