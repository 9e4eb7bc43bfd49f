-- The grammar of the other forms, and of each statement by its form.
use Rattle.std.specs.Prelude.{ℕ, List, Option, Some, None, Result, Ok, Err, if◌then◌else◌, codes}
use Rattle.f77_ast.specs.declared.module.FunctionForm.{FunctionForm}
use Rattle.f77_ast.specs.declared.module.FunctionForm.TheVariants as forms
use Rattle.f77_ast.specs.Trees.{ExprTree, WhatTree}
use Rattle.f77_ast.specs.DeclTrees.{DeclTree}
use Rattle.f77_exprs.specs.State.{start, Reader, parse_word, or_done, ◌>>=◌}
use Rattle.f77_exprs.specs.Lexical.{name_at, label_at, digit_first}
use Rattle.f77_exprs.specs.Grammar.{expression}
use Rattle.f77_forms.specs.declared.form.FormId.{FormId}
use Rattle.f77_forms.specs.declared.form.FormId.TheVariants.{Program, Subroutine, Function, IntegerFunction, LogicalFunction, Implicit, Integer, Logical, Dimension, Parameter, Common, Equivalence, Save, Data, Assignment, LogicalIf, BlockIf, ElseIf, Else, EndIf, Do, DoWhile, EndDo, Continue, Return, End, Goto, Call, Stop, Print, Write, Read}
use Rattle.f77_forms.specs.declared.choice.Choice.{Choice}
use Rattle.f77_forms.specs.declared.choice.Choice.TheVariants.{Chosen, OutOfProfile, Syntax}
use Rattle.f77_forms.specs.Choice.{choice_of}
use Rattle.f77_forms.specs.Profile.{profile}
use Rattle.f77_statements.specs.declared.refusal.Cause.{Cause}
use Rattle.f77_statements.specs.declared.refusal.Cause.TheVariants as causes
use Rattle.f77_statements.specs.Causes.{verdict}
use Rattle.f77_statements.specs.Lists.{ending, skip_comma, in_parentheses, maybe_in_parentheses}
use Rattle.f77_statements.specs.Phrases.{PhraseTree, program, subroutine, function, specification, simple, logical_if, block_if, else_if, else_part, end_if, do_head, while_head, end_do, end_module}
use Rattle.f77_statements.specs.Specifications.{implicit_statement, integer_statement, logical_statement, dimension_statement, parameter_statement, common_statement, equivalence_statement, save_statement, data_statement}
use Rattle.f77_statements.specs.Executables.{assignment, call_statement, goto_statement, continue_statement, return_statement, stop_statement, print_statement, write_statement, read_statement}

-- ---- modules

unfoldable pub program_statement : Reader PhraseTree
program_statement s = do
  t ← parse_word (codes "PROGRAM") s
  n ← name_at t
  Some (program n.0, n.1)

-- SUBROUTINEn[([d,..])]
unfoldable pub subroutine_statement : Reader PhraseTree
subroutine_statement s = do
  t ← parse_word (codes "SUBROUTINE") s
  n ← name_at t
  ds ← maybe_in_parentheses name_at n.1
  Some (subroutine n.0 ds.0, ds.1)

-- FUNCTIONn([d,..]) alone, or behind INTEGER or LOGICAL
unfoldable pub function_statement : List ℕ → FunctionForm → Reader PhraseTree
function_statement word form s = do
  t ← parse_word word s
  n ← name_at t
  u ← parse_word (codes "(") n.1
  ds ← in_parentheses name_at u
  Some (function form n.0 ds.0, ds.1)

-- ---- IF

-- a test behind its opening parenthesis
unfoldable pub if_test : Reader ExprTree
if_test = ending (codes ")") expression

-- IF(e)THEN
unfoldable pub block_if_statement : Reader PhraseTree
block_if_statement s = do
  t ← parse_word (codes "IF(") s
  e ← if_test t
  u ← parse_word (codes "THEN") e.1
  Some (block_if e.0, u)

unfoldable pub else_if_statement : Reader PhraseTree
else_if_statement s = do
  t ← parse_word (codes "ELSEIF(") s
  e ← if_test t
  u ← parse_word (codes "THEN") e.1
  Some (else_if e.0, u)

-- the statements that may stand in a logical IF
abbrev pub what_by : FormId → Reader WhatTree
what_by Assignment = assignment
what_by Call = call_statement
what_by Continue = continue_statement
what_by Goto = goto_statement
what_by Return = return_statement
what_by Stop = stop_statement
what_by Print = print_statement
what_by Write = write_statement
what_by Read = read_statement
what_by _ = λ s. None

abbrev pub form_in : Choice → Result FormId Cause
form_in (Chosen form) = Ok form
form_in (OutOfProfile keyword) = Err (causes.OutOfProfile keyword)
form_in Syntax = Err causes.Syntax

-- the form that a text has, or why it has none
unfoldable pub form_at : List ℕ → Result FormId Cause
form_at body = form_in (choice_of profile body)

abbrev pub what_of : Result FormId Cause → Reader WhatTree
what_of (Ok form) s = what_by form s
what_of (Err cause) s = None

-- a statement of the form that its text has
unfoldable pub what_at : Reader WhatTree
what_at s = what_of (form_at s.rest) s

-- IF(e)s
unfoldable pub logical_if_statement : Reader PhraseTree
logical_if_statement s = do
  t ← parse_word (codes "IF(") s
  e ← if_test t
  w ← what_at e.1
  Some (logical_if e.0 w.0, w.1)

-- ---- DO

-- a label and a comma, neither of which need be there
unfoldable pub terminal : Reader (Option ℕ)
terminal s =
    if digit_first s.rest
    then (label_at s >>= λ l. Some (Some l.0, skip_comma l.1))
    else Some (None, s)

unfoldable pub some_step : Reader (Option ExprTree)
some_step s = expression s >>= λ e. Some (Some e.0, e.1)

-- the step behind a comma, which need not be there
unfoldable pub step : Reader (Option ExprTree)
step s = or_done None s (parse_word (codes ",") s) some_step

-- the index and its values
unfoldable pub range : Option ℕ → Reader PhraseTree
range label s = do
  i ← name_at s
  t ← parse_word (codes "=") i.1
  a ← expression t
  u ← parse_word (codes ",") a.1
  b ← expression u
  c ← step b.1
  Some (do_head (record { label = label; index = i.0; first = a.0; last = b.0; step = c.0 }), c.1)

-- DO[l[,]]i=e,e[,e]
unfoldable pub do_statement : Reader PhraseTree
do_statement s = do
  t ← parse_word (codes "DO") s
  l ← terminal t
  range l.0 l.1

-- DO[l[,]]WHILE(e)
unfoldable pub while_statement : Reader PhraseTree
while_statement s = do
  t ← parse_word (codes "DO") s
  l ← terminal t
  u ← parse_word (codes "WHILE(") l.1
  e ← if_test u
  Some (while_head l.0 e.0, e.1)

-- ---- each form

-- a word alone
unfoldable pub alone : List ℕ → PhraseTree → Reader PhraseTree
alone word p s = parse_word word s >>= λ t. Some (p, t)

unfoldable pub specified : Reader DeclTree → Reader PhraseTree
specified R s = R s >>= λ d. Some (specification d.0, d.1)

unfoldable pub simply : Reader WhatTree → Reader PhraseTree
simply R s = R s >>= λ w. Some (simple w.0, w.1)

-- a statement of this form
abbrev pub phrase_by : FormId → Reader PhraseTree
phrase_by Program = program_statement
phrase_by Subroutine = subroutine_statement
phrase_by Function = function_statement (codes "FUNCTION") forms.Plain
phrase_by IntegerFunction = function_statement (codes "INTEGERFUNCTION") forms.Integer
phrase_by LogicalFunction = function_statement (codes "LOGICALFUNCTION") forms.Logical
phrase_by Implicit = specified implicit_statement
phrase_by Integer = specified integer_statement
phrase_by Logical = specified logical_statement
phrase_by Dimension = specified dimension_statement
phrase_by Parameter = specified parameter_statement
phrase_by Common = specified common_statement
phrase_by Equivalence = specified equivalence_statement
phrase_by Save = specified save_statement
phrase_by Data = specified data_statement
phrase_by Assignment = simply assignment
phrase_by LogicalIf = logical_if_statement
phrase_by BlockIf = block_if_statement
phrase_by ElseIf = else_if_statement
phrase_by Else = alone (codes "ELSE") else_part
phrase_by EndIf = alone (codes "ENDIF") end_if
phrase_by Do = do_statement
phrase_by DoWhile = while_statement
phrase_by EndDo = alone (codes "ENDDO") end_do
phrase_by Continue = simply continue_statement
phrase_by Return = simply return_statement
phrase_by End = alone (codes "END") end_module
phrase_by Goto = simply goto_statement
phrase_by Call = simply call_statement
phrase_by Stop = simply stop_statement
phrase_by Print = simply print_statement
phrase_by Write = simply write_statement
phrase_by Read = simply read_statement

-- ---- the whole

abbrev pub phrase_in : Result FormId Cause → List ℕ → Result PhraseTree Cause
phrase_in (Ok form) body = verdict (phrase_by form (start body))
phrase_in (Err cause) body = Err cause

-- a stripped statement by the form that its text has
unfoldable pub phrase_of : List ℕ → Result PhraseTree Cause
phrase_of body = phrase_in (form_at body) body
