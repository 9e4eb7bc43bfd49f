-- Each phrase is read back from the text that is written for it.
use Rattle.std.proofs.Common.{◌≡◌, [], ◌∷◌, ◌++◌, refl, ap, Option, Some, None, false}
use Rattle.std.specs.Prelude.{codes, Ok}
use Rattle.f77_ast.specs.declared.module.FunctionForm.TheVariants.{Plain, Integer, Logical}
use Rattle.f77_ast.specs.Trees.{ExprTree, WhatTree, assign, call, goto, continue, return, stop, print, read}
use Rattle.f77_ast.specs.Trees as trees
use Rattle.f77_exprs.specs.declared.at.Notes.{Notes}
use Rattle.f77_exprs.specs.State.{State, ◌>>=◌}
use Rattle.f77_forms.specs.declared.form.FormId.TheVariants as forms
use Rattle.f77_statements.specs.Phrases.{PhraseTree, program, subroutine, function, specification, simple, block_if, else_if, else_part, end_if, do_head, while_head, end_do, end_module}
use Rattle.f77_statements.specs.Phrases as phrases
use Rattle.f77_statements.specs.Statements.{simply, phrase_by, phrase_of, form_at, alone}
use Rattle.f77_printer.specs.ExprText.{expr_text}
use Rattle.f77_printer.specs.Layout.{stripped}
use Rattle.roundtrip_programs.specs.Statements.Written.{phrase_text, as_written}
use Rattle.f77_printer.specs.ModuleText.{dummies_text}
use Rattle.roundtrip_programs.specs.Statements.Phrased.{IsWhat, IsPhrase}
use Rattle.roundtrip_programs.specs.Statements.Follows.{standing}
use Rattle.roundtrip_programs.proofs.Statements.Compact.{compact, stripped_what}
use Rattle.roundtrip_programs.proofs.Statements.WhatForms.{form_of_what, what_form}
use Rattle.roundtrip_programs.proofs.Statements.WhatBack.{what_back}
use Rattle.roundtrip_programs.proofs.Statements.HeadBack.{stripped_block, block_form, block_back, stripped_else, else_form, else_back, stripped_logical, logical_form, logical_back, compact_head, stripped_head, head_form, head_back, stripped_while, while_form, while_back}
use Rattle.roundtrip_programs.proofs.Statements.TitleBack.{stripped_program, program_form, program_back, stripped_subroutine, subroutine_form, subroutine_back, enclosed, stripped_function, function_form, function_back}
use Rattle.roundtrip_programs.proofs.Statements.Verdicts.{whole}
use Rattle.roundtrip_programs.proofs.Statements.DeclPhrases.{decl-back}

read_simply : (w : WhatTree) → IsWhat w → (k : Notes) → phrase_by (form_of_what w) (standing (compact w) k) ≡ Some (simple w, standing [] k)
unfolding simply
read_simply (assign v e) h k = ap (λ (o : Option (WhatTree × State)). o >>= λ w. Some (simple w.0, w.1)) (what_back (assign v e) k h)
read_simply (call n es) h k = ap (λ (o : Option (WhatTree × State)). o >>= λ w. Some (simple w.0, w.1)) (what_back (call n es) k h)
read_simply (goto l) h k = ap (λ (o : Option (WhatTree × State)). o >>= λ w. Some (simple w.0, w.1)) (what_back (goto l) k h)
read_simply continue h k = ap (λ (o : Option (WhatTree × State)). o >>= λ w. Some (simple w.0, w.1)) (what_back continue k h)
read_simply return h k = ap (λ (o : Option (WhatTree × State)). o >>= λ w. Some (simple w.0, w.1)) (what_back return k h)
read_simply (stop text) h k = ap (λ (o : Option (WhatTree × State)). o >>= λ w. Some (simple w.0, w.1)) (what_back (stop text) k h)
read_simply (print es) h k = ap (λ (o : Option (WhatTree × State)). o >>= λ w. Some (simple w.0, w.1)) (what_back (print es) k h)
read_simply (read es) h k = ap (λ (o : Option (WhatTree × State)). o >>= λ w. Some (simple w.0, w.1)) (what_back (read es) k h)
read_simply (trees.block_if arms other) h k = absurd h
read_simply (trees.logical_if e s) h k = absurd h
read_simply (trees.do_loop l) h k = absurd h

pub phrase-back : (p : PhraseTree) → IsPhrase p → phrase_of (stripped false (phrase_text p)) ≡ Ok (as_written p)
unfolding phrase_of form_at alone
phrase-back (program n) h = whole (codes "PROGRAM " ++ n) (codes "PROGRAM" ++ n) forms.Program (program n) (stripped_program n h) (program_form n h) (λ k. program_back n k h)
phrase-back (subroutine n ds) h =
    whole (codes "SUBROUTINE " ++ n ++ dummies_text ds) (codes "SUBROUTINE" ++ (n ++ dummies_text ds)) forms.Subroutine (subroutine n ds) (stripped_subroutine n ds h.name h.dummies)
    (subroutine_form n ds h.name h.dummies) (λ k. subroutine_back n ds k h.name h.dummies)
phrase-back (function Plain n ds) h = whole (phrase_text (function Plain n ds)) (codes "FUNCTION" ++ (n ++ enclosed ds)) forms.Function (function Plain n ds)
    (stripped_function Plain n ds h.name h.dummies) (function_form Plain n ds h.name h.dummies) (λ k. function_back Plain n ds k h.name h.dummies)
phrase-back (function Integer n ds) h = whole (phrase_text (function Integer n ds)) (codes "INTEGERFUNCTION" ++ (n ++ enclosed ds)) forms.IntegerFunction (function Integer n ds)
    (stripped_function Integer n ds h.name h.dummies) (function_form Integer n ds h.name h.dummies) (λ k. function_back Integer n ds k h.name h.dummies)
phrase-back (function Logical n ds) h = whole (phrase_text (function Logical n ds)) (codes "LOGICALFUNCTION" ++ (n ++ enclosed ds)) forms.LogicalFunction (function Logical n ds)
    (stripped_function Logical n ds h.name h.dummies) (function_form Logical n ds h.name h.dummies) (λ k. function_back Logical n ds k h.name h.dummies)
phrase-back (specification d) h = decl-back d h
phrase-back (simple w) h = whole (phrase_text (simple w)) (compact w) (form_of_what w) (simple w) (stripped_what w h) (what_form w h) (read_simply w h)
phrase-back (phrases.logical_if e w) h =
    whole (phrase_text (phrases.logical_if e w)) (codes "IF(" ++ (expr_text e ++ (41 ∷ compact w))) forms.LogicalIf (phrases.logical_if e w) (stripped_logical e w h.test h.inner)
    (logical_form e w h.test h.inner) (λ k. logical_back e w k h.test h.inner)
phrase-back (block_if e) h =
    whole (phrase_text (block_if e)) (codes "IF(" ++ (expr_text e ++ (41 ∷ codes "THEN"))) forms.BlockIf (block_if e) (stripped_block e h) (block_form e h) (λ k. block_back e k h)
phrase-back (else_if e) h =
    whole (phrase_text (else_if e)) (codes "ELSEIF(" ++ (expr_text e ++ (41 ∷ codes "THEN"))) forms.ElseIf (else_if e) (stripped_else e h) (else_form e h) (λ k. else_back e k h)
phrase-back else_part h = refl
phrase-back end_if h = refl
phrase-back (do_head i) h = whole (phrase_text (do_head i)) (compact_head i) forms.Do (as_written (do_head i)) (stripped_head i h) (head_form i h) (λ k. head_back i k h)
phrase-back (while_head l e) h =
    whole (phrase_text (while_head l e)) (codes "DOWHILE(" ++ (expr_text e ++ codes ")")) forms.DoWhile (while_head None e) (stripped_while e h) (while_form e h) (λ k. while_back e k h)
phrase-back end_do h = refl
phrase-back end_module h = refl
