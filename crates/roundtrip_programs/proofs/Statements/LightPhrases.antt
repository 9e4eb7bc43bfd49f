-- The text of a statement that is read, without its blanks, weighs no more than what was read.
use Rattle.std.proofs.Common.{◌≡◌, ℕ, ◌+◌, ◌≤◌, List, [], ◌∷◌, ◌++◌, refl, ap, arith, Option, Some, None, Bool, true, false, if◌then◌else◌, decimal}
use Rattle.std.specs.Prelude.{codes, Result, Ok, Err}
use Rattle.f77_ast.specs.declared.module.FunctionForm.{FunctionForm}
use Rattle.f77_ast.specs.declared.module.FunctionForm.TheVariants.{Plain, Integer, Logical}
use Rattle.f77_ast.specs.Trees.{ExprTree, WhatTree}
use Rattle.f77_ast.specs.DeclTrees.{DeclTree}
use Rattle.f77_exprs.specs.State.{State, start, Reader, ◌>>=◌}
use Rattle.f77_exprs.specs.Lexical.{name_at, label_at, digit_first}
use Rattle.f77_exprs.specs.Grammar.{expression}
use Rattle.f77_forms.specs.declared.form.FormId.{FormId}
use Rattle.f77_forms.specs.declared.form.FormId.TheVariants as forms
use Rattle.f77_statements.specs.declared.refusal.Cause.{Cause}
use Rattle.f77_statements.specs.Lists.{skip_comma, in_parentheses, maybe_in_parentheses}
use Rattle.f77_statements.specs.Phrases.{PhraseTree, program, subroutine, function, specification, simple, block_if, else_if, else_part, end_if, do_head, while_head, end_do, end_module}
use Rattle.f77_statements.specs.Phrases as phrases
use Rattle.f77_statements.specs.Specifications.{implicit_statement, integer_statement, logical_statement, dimension_statement, parameter_statement, common_statement, equivalence_statement, save_statement, data_statement}
use Rattle.f77_statements.specs.Executables.{assignment, call_statement, goto_statement, continue_statement, return_statement, stop_statement, print_statement, write_statement, read_statement}
use Rattle.f77_statements.specs.Statements.{program_statement, subroutine_statement, function_statement, if_test, block_if_statement, else_if_statement, form_at, what_of, what_at, logical_if_statement, terminal, some_step, step, range, do_statement, while_statement, alone, specified, simply, phrase_by, phrase_in, phrase_of}
use Rattle.f77_printer.specs.ExprText.{expr_text}
use Rattle.f77_printer.specs.Layout.{stripped}
use Rattle.f77_printer.specs.DeclText.{joined_by}
use Rattle.f77_printer.specs.StatementText.{step_text}
use Rattle.roundtrip_programs.specs.Statements.Phrased.{IsPhrase}
use Rattle.roundtrip_programs.specs.Statements.Written.{phrase_text}
use Rattle.f77_printer.specs.ModuleText.{dummies_text}
use Rattle.roundtrip_programs.specs.Statements.Weights.{Weight, weigh}
use Rattle.roundtrip_programs.proofs.Statements.Readings.{After}
use Rattle.roundtrip_programs.proofs.Statements.Compact.{compact, stripped_what}
use Rattle.roundtrip_programs.proofs.Statements.HeadBack.{compact_head, stripped_block, stripped_else, stripped_logical, stripped_head, stripped_while}
use Rattle.roundtrip_programs.proofs.Statements.TitleBack.{stripped_program, stripped_subroutine, compact_word, enclosed, stripped_function}
use Rattle.roundtrip_programs.proofs.Statements.Verdicts.{clean, verdict_given}
use Rattle.roundtrip_programs.proofs.Statements.Weighing.{weigh-append, Within, Light, then_read, then_word, done_word}
use Rattle.roundtrip_programs.proofs.Statements.LightLists.{parted, wrapped, ew, joined_weight, ending-light, closed-light, maybe_enclosed-light}
use Rattle.roundtrip_programs.proofs.Statements.LightNumbers.{name-light, label-light}
use Rattle.roundtrip_programs.proofs.Statements.LightExprs.{expression_light}
use Rattle.roundtrip_programs.proofs.Statements.LightWhat.{cw, what_light}
use Rattle.roundtrip_programs.proofs.Statements.LightBlocks.{past_comma_light}
use Rattle.roundtrip_programs.proofs.Statements.LightDecls.{compact_decl, stripped_decl, tw, implicit_light, integer_light, logical_light, dimension_light, parameter_light, common_light, equivalence_light, save_light, data_light}

-- a statement without its blanks
abbrev pub compact_phrase : PhraseTree → List ℕ
compact_phrase (program n) = codes "PROGRAM" ++ n
compact_phrase (subroutine n ds) = codes "SUBROUTINE" ++ (n ++ dummies_text ds)
compact_phrase (function form n ds) = compact_word form ++ (n ++ enclosed ds)
compact_phrase (specification d) = compact_decl d
compact_phrase (simple x) = compact x
compact_phrase (phrases.logical_if e x) = codes "IF(" ++ (expr_text e ++ (41 ∷ compact x))
compact_phrase (block_if e) = codes "IF(" ++ (expr_text e ++ (41 ∷ codes "THEN"))
compact_phrase (else_if e) = codes "ELSEIF(" ++ (expr_text e ++ (41 ∷ codes "THEN"))
compact_phrase else_part = codes "ELSE"
compact_phrase end_if = codes "ENDIF"
compact_phrase (do_head d) = compact_head d
compact_phrase (while_head l e) = codes "DOWHILE(" ++ (expr_text e ++ codes ")")
compact_phrase end_do = codes "ENDDO"
compact_phrase end_module = codes "END"

pub stripped_phrase : (p : PhraseTree) → IsPhrase p → stripped false (phrase_text p) ≡ compact_phrase p
stripped_phrase (program n) h = stripped_program n h
stripped_phrase (subroutine n ds) h = stripped_subroutine n ds h.name h.dummies
stripped_phrase (function form n ds) h = stripped_function form n ds h.name h.dummies
stripped_phrase (specification d) h = stripped_decl d h
stripped_phrase (simple x) h = stripped_what x h
stripped_phrase (phrases.logical_if e x) h = stripped_logical e x h.test h.inner
stripped_phrase (block_if e) h = stripped_block e h
stripped_phrase (else_if e) h = stripped_else e h
stripped_phrase else_part h = refl
stripped_phrase end_if h = refl
stripped_phrase (do_head d) h = stripped_head d h
stripped_phrase (while_head l e) h = stripped_while e h
stripped_phrase end_do h = refl
stripped_phrase end_module h = refl

module _ (w : Weight) where
  abbrev hw : PhraseTree → ℕ
  hw p = weigh w (compact_phrase p)

  program-light : Light w program_statement hw
  unfolding program_statement
  program-light e s = then_word w (codes "PROGRAM") s _ e (λ p. e + hw p) (λ r. then_read w name_at (weigh w) _ (record s { rest = r }) _ (λ p. e + hw p) (name-light w) (λ n. omega arith))

  dummies_weight : (ds : List (List ℕ)) → weigh w (dummies_text ds) ≡ wrapped w (weigh w) ds
  dummies_weight [] = refl
  dummies_weight (d ∷ ds) = omega (arith, weigh-append w (joined_by (λ n. n) (d ∷ ds)) (codes ")"), joined_weight w (λ n. n) (d ∷ ds))

  subroutine-light : Light w subroutine_statement hw
  unfolding subroutine_statement
  subroutine-light e s =
      then_word w (codes "SUBROUTINE") s _ e (λ p. e + hw p)
      (λ r. then_read w name_at (weigh w) _ (record s { rest = r }) _ (λ p. e + hw p) (name-light w)
      (λ n. then_read w (maybe_in_parentheses name_at) (wrapped w (weigh w)) _ n.1 _ (λ p. e + hw p) (maybe_enclosed-light w name_at (weigh w) (name-light w))
      (λ ds. omega (arith, weigh-append w n.0 (dummies_text ds.0), dummies_weight ds.0))))

  function_weight : (form : FunctionForm) (n : List ℕ) (ds : List (List ℕ))
      → hw (function form n ds) ≡ weigh w (compact_word form) + (weigh w n + (w.of 40 + (parted (w.of 44) (weigh w) ds + w.of 41)))
  function_weight form n ds =
      omega (arith, weigh-append w (compact_word form) (n ++ enclosed ds), weigh-append w n (enclosed ds), weigh-append w (joined_by (λ d. d) ds) (codes ")"), joined_weight w (λ d. d) ds)

  function-light : (form : FunctionForm) → Light w (function_statement (compact_word form) form) hw
  unfolding function_statement
  function-light form e s =
      then_word w (compact_word form) s _ e (λ p. e + hw p)
      (λ r. then_read w name_at (weigh w) _ (record s { rest = r }) _ (λ p. e + hw p) (name-light w)
      (λ n. then_word w (codes "(") n.1 _ _ (λ p. e + hw p)
      (λ q. then_read w (in_parentheses name_at) (λ ds. parted (w.of 44) (weigh w) ds + weigh w (codes ")")) _ (record n.1 { rest = q }) _ (λ p. e + hw p) (closed-light w name_at (weigh w) (name-light w))
      (λ ds. omega (arith, function_weight form n.0 ds.0)))))

  test-light : Light w if_test (λ x. ew w x + weigh w (codes ")"))
  unfolding if_test
  test-light = ending-light w (codes ")") expression (ew w) (expression_light w)

  block-light : Light w block_if_statement hw
  unfolding block_if_statement
  block-light e s =
      then_word w (codes "IF(") s _ e (λ p. e + hw p)
      (λ r. then_read w if_test (λ x. ew w x + weigh w (codes ")")) _ (record s { rest = r }) _ (λ p. e + hw p) test-light
      (λ x. then_word w (codes "THEN") x.1 _ _ (λ p. e + hw p) (λ q. omega (arith, weigh-append w (expr_text x.0) (codes ")THEN")))))

  else-light : Light w else_if_statement hw
  unfolding else_if_statement
  else-light e s =
      then_word w (codes "ELSEIF(") s _ e (λ p. e + hw p)
      (λ r. then_read w if_test (λ x. ew w x + weigh w (codes ")")) _ (record s { rest = r }) _ (λ p. e + hw p) test-light
      (λ x. then_word w (codes "THEN") x.1 _ _ (λ p. e + hw p) (λ q. omega (arith, weigh-append w (expr_text x.0) (codes ")THEN")))))

  of_light : (f : Result FormId Cause) → Light w (what_of f) (cw w)
  of_light (Ok form) = what_light w form
  of_light (Err cause) = λ e s. tt

  at_light : Light w what_at (cw w)
  unfolding what_at
  at_light e s = of_light (form_at s.rest) e s

  logical-light : Light w logical_if_statement hw
  unfolding logical_if_statement
  logical-light e s =
      then_word w (codes "IF(") s _ e (λ p. e + hw p)
      (λ r. then_read w if_test (λ x. ew w x + weigh w (codes ")")) _ (record s { rest = r }) _ (λ p. e + hw p) test-light
      (λ x. then_read w what_at (cw w) _ x.1 _ (λ p. e + hw p) at_light (λ y. omega (arith, weigh-append w (expr_text x.0) (41 ∷ compact y.0)))))

  -- ---- DO

  terminal_by : (b : Bool) (e : ℕ) (s : State) → Within w (if b then (label_at s >>= λ l. Some (Some l.0, skip_comma l.1)) else Some (None, s)) (e + weigh w s.rest) (λ x. e + 0)
  terminal_by true e s = then_read w label_at (λ n. weigh w (decimal n)) (λ l. Some (Some l.0, skip_comma l.1)) s e (λ x. e + 0) (label-light w) (λ l. omega (arith, past_comma_light w l.1))
  terminal_by false e s = omega arith

  terminal-light : Light w terminal (λ x. 0)
  unfolding terminal
  terminal-light e s = terminal_by (digit_first s.rest) e s

  abbrev qw : Option ExprTree → ℕ
  qw x = weigh w (step_text x)

  step-light : Light w step qw
  unfolding step some_step
  step-light e s =
      done_word w (codes ",") None s some_step e (λ x. e + qw x) (omega arith)
      (λ r. then_read w expression (ew w) (λ x. Some (Some x.0, x.1)) (record s { rest = r }) (e + weigh w (codes ",")) (λ x. e + qw x) (expression_light w) (λ x. omega arith))

  range-light : (l : Option ℕ) (e : ℕ) (s : State) → Within w (range l s) (((e + weigh w (codes "DO")) + 0) + weigh w s.rest) (λ p. e + hw p)
  unfolding range
  range-light l e s =
      then_read w name_at (weigh w) _ s ((e + weigh w (codes "DO")) + 0) (λ p. e + hw p) (name-light w)
      (λ i. then_word w (codes "=") i.1 _ _ (λ p. e + hw p)
      (λ r. then_read w expression (ew w) _ (record i.1 { rest = r }) _ (λ p. e + hw p) (expression_light w)
      (λ a. then_word w (codes ",") a.1 _ _ (λ p. e + hw p)
      (λ q. then_read w expression (ew w) _ (record a.1 { rest = q }) _ (λ p. e + hw p) (expression_light w)
      (λ b. then_read w step qw _ b.1 _ (λ p. e + hw p) step-light
      (λ c. simp (weigh-append w) (omega arith)))))))

  do-light : Light w do_statement hw
  unfolding do_statement
  do-light e s =
      then_word w (codes "DO") s _ e (λ p. e + hw p)
      (λ r. then_read w terminal (λ x. 0) _ (record s { rest = r }) (e + weigh w (codes "DO")) (λ p. e + hw p) terminal-light (λ l. range-light l.0 e l.1))

  while-light : Light w while_statement hw
  unfolding while_statement
  while-light e s =
      then_word w (codes "DO") s _ e (λ p. e + hw p)
      (λ r. then_read w terminal (λ x. 0) _ (record s { rest = r }) (e + weigh w (codes "DO")) (λ p. e + hw p) terminal-light
      (λ l. then_word w (codes "WHILE(") l.1 _ _ (λ p. e + hw p)
      (λ q. then_read w if_test (λ x. ew w x + weigh w (codes ")")) _ (record l.1 { rest = q }) _ (λ p. e + hw p) test-light
      (λ x. omega (arith, weigh-append w (expr_text x.0) (codes ")"))))))

  -- ---- each form

  alone-light : (word : List ℕ) (p : PhraseTree) → hw p ≤ weigh w word → Light w (alone word p) hw
  unfolding alone
  alone-light word p h e s = then_word w word s (λ t. Some (p, t)) e (λ x. e + hw x) (λ r. omega arith)

  specified-light : (R : Reader DeclTree) → Light w R (tw w) → Light w (specified R) hw
  unfolding specified
  specified-light R h e s = then_read w R (tw w) (λ d. Some (specification d.0, d.1)) s e (λ x. e + hw x) h (λ d. omega arith)

  simply-light : (R : Reader WhatTree) → Light w R (cw w) → Light w (simply R) hw
  unfolding simply
  simply-light R h e s = then_read w R (cw w) (λ x. Some (simple x.0, x.1)) s e (λ x. e + hw x) h (λ x. omega arith)

  form_light : (form : FormId) → Light w (phrase_by form) hw
  form_light forms.Program = program-light
  form_light forms.Subroutine = subroutine-light
  form_light forms.Function = function-light Plain
  form_light forms.IntegerFunction = function-light Integer
  form_light forms.LogicalFunction = function-light Logical
  form_light forms.Implicit = specified-light implicit_statement (implicit_light w)
  form_light forms.Integer = specified-light integer_statement (integer_light w)
  form_light forms.Logical = specified-light logical_statement (logical_light w)
  form_light forms.Dimension = specified-light dimension_statement (dimension_light w)
  form_light forms.Parameter = specified-light parameter_statement (parameter_light w)
  form_light forms.Common = specified-light common_statement (common_light w)
  form_light forms.Equivalence = specified-light equivalence_statement (equivalence_light w)
  form_light forms.Save = specified-light save_statement (save_light w)
  form_light forms.Data = specified-light data_statement (data_light w)
  form_light forms.Assignment = simply-light assignment (what_light w forms.Assignment)
  form_light forms.LogicalIf = logical-light
  form_light forms.BlockIf = block-light
  form_light forms.ElseIf = else-light
  form_light forms.Else = alone-light (codes "ELSE") else_part (omega arith)
  form_light forms.EndIf = alone-light (codes "ENDIF") end_if (omega arith)
  form_light forms.Do = do-light
  form_light forms.DoWhile = while-light
  form_light forms.EndDo = alone-light (codes "ENDDO") end_do (omega arith)
  form_light forms.Continue = simply-light continue_statement (what_light w forms.Continue)
  form_light forms.Return = simply-light return_statement (what_light w forms.Return)
  form_light forms.End = alone-light (codes "END") end_module (omega arith)
  form_light forms.Goto = simply-light goto_statement (what_light w forms.Goto)
  form_light forms.Call = simply-light call_statement (what_light w forms.Call)
  form_light forms.Stop = simply-light stop_statement (what_light w forms.Stop)
  form_light forms.Print = simply-light print_statement (what_light w forms.Print)
  form_light forms.Write = simply-light write_statement (what_light w forms.Write)
  form_light forms.Read = simply-light read_statement (what_light w forms.Read)

  -- ---- the whole

  after_within : (o : Option (PhraseTree × State)) (b : ℕ) → Within w o (0 + b) (λ p. 0 + hw p) → After o clean (λ p. hw p ≤ b)
  after_within None b h = tt
  after_within (Some r) b h = λ c. (record { real = refl; big = refl; long = refl }, omega arith)

  in_light : (f : Result FormId Cause) (body : List ℕ) (p : PhraseTree) → phrase_in f body ≡ Ok p → hw p ≤ weigh w body
  in_light (Ok form) body p h =
      verdict_given (phrase_by form (start body)) clean (λ q. hw q ≤ weigh w body) p (after_within (phrase_by form (start body)) (weigh w body) (form_light form 0 (start body))) h
  in_light (Err cause) body p h = absurd (apart h)
    where
      apart : Err cause ≡ Ok p → ⊥
      apart g = cc

  pub phrase_light : (body : List ℕ) (p : PhraseTree) → phrase_of body ≡ Ok p → IsPhrase p → weigh w (stripped false (phrase_text p)) ≤ weigh w body
  unfolding phrase_of
  phrase_light body p h f = let l = in_light (form_at body) body p h in omega (arith, ap (weigh w) (stripped_phrase p f))
