-- The modules of a text.
use Rattle.std.specs.Prelude.{ℕ, Bool, true, nat_lt, List, [], ◌∷◌, ◌++◌, Option, Some, None, Result, Ok, Err, if◌then◌else◌}
use Rattle.fixed_form.specs.declared.line.Line.{Line}
use Rattle.fixed_form.specs.declared.line.Lines.{Lines}
use Rattle.f77_ast.specs.DeclTrees.{ParsedTree}
use Rattle.f77_statements.specs.declared.refusal.Cause.TheVariants.{Syntax}
use Rattle.fx_lists.specs.declared.code.Code.TheVariants.{StrayPart}
use Rattle.fx_lists.specs.declared.refusal.Refusal.{Refusal}
use Rattle.f77_structure.specs.Lists.{is_none_of}
use Rattle.fx_lists.specs.Refusals.{number_of, refuse_if}
use Rattle.f77_structure.specs.Checks.{fault_of}
use Rattle.f77_parser.specs.Gives.{Refused, and_then}
use Rattle.f77_parser.specs.Statements.{StatementTree, refusal_at, all_read, those_read, marks_of}
use Rattle.f77_parser.specs.Building.{build_module}
use Rattle.f77_parser.specs.Ends.{ends_module}
use Rattle.f77_parser.specs.References.{empty_call_fault, reference_fault}

-- the last module has the comments at the end of the text
abbrev pub closing_at : Bool → List (List ℕ) → List (List ℕ)
closing_at last closing = if last then closing else []

abbrev pub unless_faulty : Option Refusal → ParsedTree → Result ParsedTree Refused
unless_faulty None p = Ok p
unless_faulty (Some f) p = Err (record { line = f.line; code = number_of f.code; keyword = [] })

abbrev pub with_reference : Option ℕ → Option Refusal → Option Refusal
with_reference None found = found
with_reference (Some line) found = refuse_if true line StrayPart found

-- the fault of a module at the earliest line, and there the one with the lowest number
abbrev pub module_fault : List StatementTree → Option Refusal
module_fault ss = with_reference (reference_fault ss) (fault_of (marks_of ss))

-- the module of these statements, or its first fault
abbrev pub module_read : List (List ℕ) → List StatementTree → Result ParsedTree Refused
module_read closing ss = unless_faulty (module_fault ss) (build_module closing ss)

-- the modules that are done, the statements of the module that is begun, and those behind them: a module goes up to its END
abbrev pub modules_from : List (List ℕ) → List ParsedTree → List StatementTree → List StatementTree → Result (List ParsedTree) Refused
modules_from closing done begun [] = Ok done
modules_from closing done begun (s ∷ ss) =
    if ends_module s.phrase
    then and_then (module_read (closing_at (is_none_of ss) closing) (begun ++ s ∷ [])) (λ p. modules_from closing (done ++ p ∷ []) [] ss)
    else modules_from closing done (begun ++ s ∷ []) ss

-- ---- statements by themselves, with what is around them

-- F() is Syntax at this line; a refusal at an earlier line comes first
abbrev pub unless_called : Option ℕ → Result (List StatementTree) Refused → Result (List StatementTree) Refused
unless_called None read = read
unless_called (Some line) (Ok ss) = Err (refusal_at line Syntax)
unless_called (Some line) (Err r) = if nat_lt line r.line then Err (refusal_at line Syntax) else Err r

-- the statements of a text, or the first that is refused
abbrev pub statements_in : List Line → Result (List StatementTree) Refused
statements_in ls = unless_called (empty_call_fault (those_read ls)) (all_read [] ls)

-- ---- the whole

-- the modules of a text, or its first refusal: all statements by themselves come before the structure of any module
unfoldable pub parse_of : Lines → Result (List ParsedTree) Refused
parse_of lines = and_then (statements_in lines.lines) (λ ss. modules_from lines.closing [] [] ss)
