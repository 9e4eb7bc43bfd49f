-- The text of an executable statement that is read, without its blanks, weighs no more than what was read.
use Rattle.std.proofs.Common.{◌≡◌, ℕ, ◌+◌, ◌≤◌, List, [], ◌∷◌, ◌++◌, length, refl, ap, sym, ◌∙◌, arith, append_assoc, Option, Some, None, Bool, true, false, if◌then◌else◌, decimal}
use Rattle.std.specs.Prelude.{codes, nat_le, ◌&&◌, option_map}
use Rattle.f77_ast.specs.Trees.{ExprTree, element, no_exprs, WhatTree}
use Rattle.f77_ast.specs.Plain.{exprs_of}
use Rattle.f77_exprs.specs.Words.{before, after}
use Rattle.f77_exprs.specs.State.{State, or_else, ◌>>=◌}
use Rattle.f77_exprs.specs.Lexical.{name_at, label_at, digit_first, skip_digits, constant}
use Rattle.f77_exprs.specs.Grammar.{expression, variable}
use Rattle.f77_forms.specs.declared.form.FormId.{FormId}
use Rattle.f77_forms.specs.declared.form.FormId.TheVariants as forms
use Rattle.f77_statements.specs.Lists.{items_left, maybe_in_parentheses, maybe_after_comma}
use Rattle.f77_statements.specs.Executables.{at_end, empty_call, or_other, right_side, assignment, call_statement, goto_statement, continue_statement, return_statement, five_digits, message, stop_text, stop_statement, print_statement, write_list, write_statement, read_listed, read_left, read_statement}
use Rattle.f77_statements.specs.Statements.{what_by}
use Rattle.f77_printer.specs.ExprText.{exprs_text, doubled}
use Rattle.f77_printer.specs.StatementText.{actuals_text}
use Rattle.roundtrip_programs.specs.Statements.Weights.{Weight, weigh}
use Rattle.roundtrip_programs.proofs.Statements.Compact.{compact, empty_text, message_of}
use Rattle.roundtrip_programs.proofs.Statements.StopFormed.{Splits, constant_splits}
use Rattle.roundtrip_programs.proofs.Statements.TypedFormed.{splits}
use Rattle.roundtrip_programs.proofs.Statements.Weighing.{weigh-append, Within, Light, widen, then_read, then_word, else_word}
use Rattle.roundtrip_programs.proofs.Statements.LightLists.{led, parted, wrapped, ew, items_weight, exprs_weight, end_light, items_left-light, maybe_enclosed-light, maybe_listed-light}
use Rattle.roundtrip_programs.proofs.Statements.LightNumbers.{digits_left, before_weight, name-light, label-light}
use Rattle.roundtrip_programs.proofs.Statements.LightExprs.{expression_light, variable_light}

module _ (w : Weight) where
  abbrev pub cw : WhatTree → ℕ
  cw x = weigh w (compact x)

  other_light : {A : Type 0} (o other : Option (A × State)) (b : ℕ) (v : A → ℕ) → Within w o b v → Within w other b v → Within w (or_other o other) b v
  other_light None other b v h g = g
  other_light (Some r) other b v h g = h

  last_light : (t : List ℕ) (x : ExprTree) (s : State) (b : ℕ) (v : ExprTree → ℕ) → v x + weigh w s.rest ≤ b → Within w (at_end x s t) b v
  last_light [] x s b v h = h
  last_light (c ∷ cs) x s b v h = tt

  empty_weight : (n : List ℕ) → ew w (element n no_exprs) ≡ weigh w n + weigh w (codes "()")
  empty_weight n = ap (weigh w) (empty_text n) ∙ weigh-append w n (codes "()")

  empty-light : Light w empty_call (ew w)
  unfolding empty_call
  empty-light e s =
      then_read w name_at (weigh w) _ s e (λ x. e + ew w x) (name-light w)
      (λ n. then_word w (codes "()") n.1 _ _ (λ x. e + ew w x)
      (λ r. last_light r (element n.0 no_exprs) (record n.1 { rest = r }) _ (λ x. e + ew w x) (omega (arith, empty_weight n.0))))

  right-light : Light w right_side (ew w)
  unfolding right_side
  right-light e s = other_light (expression s) (empty_call s) (e + weigh w s.rest) (λ x. e + ew w x) (expression_light w e s) (empty-light e s)

  assignment-light : Light w assignment cw
  unfolding assignment
  assignment-light e s =
      then_read w variable (ew w) _ s e (λ x. e + cw x) (variable_light w)
      (λ v. then_word w (codes "=") v.1 _ _ (λ x. e + cw x)
      (λ r. then_read w right_side (ew w) _ (record v.1 { rest = r }) _ (λ x. e + cw x) right-light
      (λ x. simp (weigh-append w) (omega arith))))

  actuals_weight : (xs : List ExprTree) → weigh w (actuals_text (exprs_of xs)) ≡ wrapped w (ew w) xs
  actuals_weight [] = refl
  actuals_weight (x ∷ xs) = omega (arith, weigh-append w (exprs_text (exprs_of (x ∷ xs))) (codes ")"), exprs_weight w (x ∷ xs))

  call-light : Light w call_statement cw
  unfolding call_statement
  call-light e s =
      then_word w (codes "CALL") s _ e (λ x. e + cw x)
      (λ r. then_read w name_at (weigh w) _ (record s { rest = r }) _ (λ x. e + cw x) (name-light w)
      (λ n. then_read w (maybe_in_parentheses expression) (wrapped w (ew w)) _ n.1 _ (λ x. e + cw x) (maybe_enclosed-light w expression (ew w) (expression_light w))
      (λ es. omega (arith, weigh-append w n.0 (actuals_text (exprs_of es.0)), actuals_weight es.0))))

  goto-light : Light w goto_statement cw
  unfolding goto_statement
  goto-light e s =
      then_word w (codes "GOTO") s _ e (λ x. e + cw x) (λ r. then_read w label_at (λ n. weigh w (decimal n)) _ (record s { rest = r }) _ (λ x. e + cw x) (label-light w) (λ l. omega arith))

  continue-light : Light w continue_statement cw
  unfolding continue_statement
  continue-light e s = then_word w (codes "CONTINUE") s _ e (λ x. e + cw x) (λ r. omega arith)

  return-light : Light w return_statement cw
  unfolding return_statement
  return-light e s = then_word w (codes "RETURN") s _ e (λ x. e + cw x) (λ r. omega arith)

  -- ---- STOP

  abbrev mw : Option (List ℕ) → ℕ
  mw m = weigh w (message_of m)

  five_at : (b : Bool) (s : State) (n : List ℕ) (e : ℕ) → weigh w n + weigh w (skip_digits s.rest) ≡ weigh w s.rest
      → Within w (if b then Some (Some n, record s { rest = skip_digits s.rest }) else None) (e + weigh w s.rest) (λ m. e + mw m)
  five_at true s n e h = omega arith
  five_at false s n e h = tt

  five_light : Light w five_digits mw
  unfolding five_digits
  five_light e s =
      five_at (digit_first s.rest && nat_le (length (before s.rest (skip_digits s.rest))) 5) s (before s.rest (skip_digits s.rest)) e (before_weight w s.rest (skip_digits s.rest) (digits_left s.rest))

  message_in : (o : Option (List ℕ × List ℕ)) (text : List ℕ) (s : State) (e : ℕ) → text ≡ 39 ∷ s.rest → Splits s.rest o
      → Within w (o >>= λ c. Some (Some (before text c.1), record s { rest = c.1 })) ((e + weigh w (codes "'")) + weigh w s.rest) (λ m. e + mw m)
  message_in None text s e q h = tt
  message_in (Some c) text s e q h =
      let l : text ≡ (39 ∷ (doubled c.0 ++ (39 ∷ []))) ++ c.1 = q ∙ ap (λ (x : List ℕ). 39 ∷ x) (h ∙ sym (append_assoc (doubled c.0) (39 ∷ []) c.1)) in
      let b = before_weight w text c.1 (39 ∷ (doubled c.0 ++ (39 ∷ [])), l) in
      let t : weigh w text ≡ w.of 39 + weigh w s.rest = ap (weigh w) q in
      omega arith

  message-light : (text : List ℕ) (s : State) (e : ℕ) → text ≡ 39 ∷ s.rest → Within w (message text s) ((e + weigh w (codes "'")) + weigh w s.rest) (λ m. e + mw m)
  unfolding message
  message-light text s e q = message_in (constant s.rest) text s e q (constant_splits s.rest)

  -- behind an apostrophe the text is known
  quote_at : (o : Option (List ℕ)) (s : State) (e : ℕ) → after (codes "'") s.rest ≡ o
      → Within w (or_else (option_map (λ r. record s { rest = r }) o) (message s.rest) (five_digits s)) (e + weigh w s.rest) (λ m. e + mw m)
  quote_at None s e h = five_light e s
  quote_at (Some r) s e h =
      let q : s.rest ≡ 39 ∷ r = splits (codes "'") s.rest r h in
      let z : weigh w s.rest ≡ w.of 39 + weigh w r = ap (weigh w) q in
      widen w (message s.rest (record s { rest = r })) ((e + weigh w (codes "'")) + weigh w r) (e + weigh w s.rest) (λ m. e + mw m) (omega arith) (message-light s.rest (record s { rest = r }) e q)

  text_light : Light w stop_text mw
  unfolding stop_text
  text_light e s = end_light w s None _ e (λ m. e + mw m) (omega arith) (quote_at (after (codes "'") s.rest) s e refl)

  stop-light : Light w stop_statement cw
  unfolding stop_statement
  stop-light e s = then_word w (codes "STOP") s _ e (λ x. e + cw x) (λ r. then_read w stop_text mw _ (record s { rest = r }) _ (λ x. e + cw x) text_light (λ m. omega arith))

  -- ---- PRINT, WRITE, READ

  print-light : Light w print_statement cw
  unfolding print_statement
  print-light e s =
      then_word w (codes "PRINT*") s _ e (λ x. e + cw x)
      (λ r. then_read w (maybe_after_comma expression) (led (w.of 44) (ew w)) _ (record s { rest = r }) _ (λ x. e + cw x) (maybe_listed-light w expression (ew w) (expression_light w))
      (λ es. omega (arith, items_weight w es.0)))

  led_parted : (xs : List ExprTree) → led (w.of 44) (ew w) xs ≤ w.of 44 + parted (w.of 44) (ew w) xs
  led_parted [] = omega arith
  led_parted (x ∷ xs) = omega arith

  -- PRINT and a comma weigh less than WRITE and its unit
  written-light : (e : ℕ) (s : State) (d : ℕ) → weigh w (codes "PRINT*,") ≤ d → Within w (write_list s) ((e + d) + weigh w s.rest) (λ x. e + cw x)
  unfolding write_list
  written-light e s d h =
      then_read w (items_left expression) (parted (w.of 44) (ew w)) _ s (e + d) (λ x. e + cw x) (items_left-light w expression (ew w) (expression_light w))
      (λ es. omega (arith, items_weight w es.0, led_parted es.0))

  wide : weigh w (codes "PRINT*,") ≤ weigh w (codes "WRITE(*,*)")
  wide = omega (arith, w.even 80 refl, w.even 82 refl, w.even 73 refl, w.even 78 refl, w.even 84 refl, w.even 87 refl, w.even 69 refl, w.even 40 refl, w.even 41 refl, w.even 42 refl, w.even 44 refl)

  numbered : weigh w (codes "PRINT*,") ≤ weigh w (codes "WRITE(6,*)")
  numbered = omega (arith, w.even 80 refl, w.even 82 refl, w.even 73 refl, w.even 78 refl, w.even 84 refl, w.even 87 refl, w.even 69 refl, w.even 40 refl, w.even 41 refl, w.even 54 refl, w.even 42 refl, w.even 44 refl)

  write-light : Light w write_statement cw
  unfolding write_statement
  write-light e s =
      else_word w (codes "WRITE(*,*)") s write_list _ e (λ x. e + cw x) (λ r. written-light e (record s { rest = r }) (weigh w (codes "WRITE(*,*)")) wide)
      (else_word w (codes "WRITE(6,*)") s write_list None e (λ x. e + cw x) (λ r. written-light e (record s { rest = r }) (weigh w (codes "WRITE(6,*)")) numbered) tt)

  listed-light : (e : ℕ) (s : State) → Within w (read_listed s) ((e + weigh w (codes "READ*")) + weigh w s.rest) (λ x. e + cw x)
  unfolding read_listed
  listed-light e s =
      then_read w (maybe_after_comma variable) (led (w.of 44) (ew w)) _ s (e + weigh w (codes "READ*")) (λ x. e + cw x) (maybe_listed-light w variable (ew w) (variable_light w))
      (λ es. omega (arith, items_weight w es.0))

  left-light : (e : ℕ) (s : State) (d : ℕ) → weigh w (codes "READ*,") ≤ d → Within w (read_left s) ((e + d) + weigh w s.rest) (λ x. e + cw x)
  unfolding read_left
  left-light e s d h =
      then_read w (items_left variable) (parted (w.of 44) (ew w)) _ s (e + d) (λ x. e + cw x) (items_left-light w variable (ew w) (variable_light w))
      (λ es. omega (arith, items_weight w es.0, led_parted es.0))

  read_wide : weigh w (codes "READ*,") ≤ weigh w (codes "READ(*,*)")
  read_wide = omega arith

  read_numbered : weigh w (codes "READ*,") ≤ weigh w (codes "READ(5,*)")
  read_numbered = omega arith

  read-light : Light w read_statement cw
  unfolding read_statement
  read-light e s =
      else_word w (codes "READ*") s read_listed _ e (λ x. e + cw x) (λ r. listed-light e (record s { rest = r }))
      (else_word w (codes "READ(*,*)") s read_left _ e (λ x. e + cw x) (λ r. left-light e (record s { rest = r }) (weigh w (codes "READ(*,*)")) read_wide)
      (else_word w (codes "READ(5,*)") s read_left None e (λ x. e + cw x) (λ r. left-light e (record s { rest = r }) (weigh w (codes "READ(5,*)")) read_numbered) tt))

  pub what_light : (form : FormId) → Light w (what_by form) cw
  what_light forms.Assignment = assignment-light
  what_light forms.Call = call-light
  what_light forms.Continue = continue-light
  what_light forms.Goto = goto-light
  what_light forms.Return = return-light
  what_light forms.Stop = stop-light
  what_light forms.Print = print-light
  what_light forms.Write = write-light
  what_light forms.Read = read-light
  what_light _ = λ e s. tt
