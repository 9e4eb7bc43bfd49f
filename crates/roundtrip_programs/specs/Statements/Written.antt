-- The text of a statement by itself, as the printer writes it from column 7 on.
use Rattle.std.specs.Prelude.{ℕ, List, ◌++◌, None, codes}
use Rattle.f77_statements.specs.Phrases.{DoTree, PhraseTree, program, subroutine, function, specification, simple, logical_if, block_if, else_if, else_part, end_if, do_head, while_head, end_do, end_module}
use Rattle.f77_printer.specs.ExprText.{expr_text}
use Rattle.f77_printer.specs.StatementText.{what_text, step_text}
use Rattle.f77_printer.specs.DeclText.{joined_by, decl_text}
use Rattle.f77_printer.specs.ModuleText.{dummies_text, function_word, else_if_text}

-- the first line of a DO, without a label of its last statement
abbrev pub head_text : DoTree → List ℕ
head_text d = codes "DO " ++ d.index ++ codes " = " ++ expr_text d.first ++ codes "," ++ expr_text d.last ++ step_text d.step

abbrev pub phrase_text : PhraseTree → List ℕ
phrase_text (program n) = codes "PROGRAM " ++ n
phrase_text (subroutine n ds) = codes "SUBROUTINE " ++ n ++ dummies_text ds
phrase_text (function form n ds) = function_word form ++ n ++ (codes "(" ++ joined_by (λ d. d) ds ++ codes ")")
phrase_text (specification d) = decl_text d
phrase_text (simple w) = what_text w
phrase_text (logical_if e w) = codes "IF (" ++ expr_text e ++ codes ") " ++ what_text w
phrase_text (block_if e) = codes "IF (" ++ expr_text e ++ codes ") THEN"
phrase_text (else_if e) = else_if_text e
phrase_text else_part = codes "ELSE"
phrase_text end_if = codes "END IF"
phrase_text (do_head d) = head_text d
phrase_text (while_head l e) = codes "DO WHILE (" ++ expr_text e ++ codes ")"
phrase_text end_do = codes "END DO"
phrase_text end_module = codes "END"

-- a labelled DO or DO WHILE is written without its label, and END DO ends it
abbrev pub as_written : PhraseTree → PhraseTree
as_written (program n) = program n
as_written (subroutine n ds) = subroutine n ds
as_written (function form n ds) = function form n ds
as_written (specification d) = specification d
as_written (simple w) = simple w
as_written (logical_if e w) = logical_if e w
as_written (block_if e) = block_if e
as_written (else_if e) = else_if e
as_written else_part = else_part
as_written end_if = end_if
as_written (do_head d) = do_head (record d { label = None })
as_written (while_head l e) = while_head None e
as_written end_do = end_do
as_written end_module = end_module
