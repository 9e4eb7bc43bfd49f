-- Faults of assignments of the value of a function.
use Rattle.std.specs.Prelude.{ℕ, Bool, true, false, not, ◌&&◌, ◌||◌, List, [], ◌∷◌, Option, Some, None, if◌then◌else◌}
use Rattle.f77_ast.specs.Trees.{ExprTree, ExprTrees, WhatTree}
use Rattle.f77_ast.specs.Trees as tree
use Rattle.f77_statements.specs.Phrases.{PhraseTree, program, subroutine, function, specification, simple, logical_if, block_if, else_if, else_part, end_if, do_head, while_head, end_do, end_module}
use Rattle.f77_parser.specs.Statements.{StatementTree}
use Rattle.f77_parser.specs.Functions.{has, bounded_names, is_external}
use Rattle.f77_parser.specs.Ends.{ends_module, decls_to_end}
use Rattle.f77_parser.specs.Standing.{standing}

-- ---- what a statement assigns

-- a name with arguments
pub record Application : Type 0 where
  pub name : List ℕ
  pub arguments : ExprTrees

abbrev pub application : List ℕ → ExprTrees → Application
application x es = record { name = x; arguments = es }

abbrev pub application_in : ExprTree → Option Application
application_in (tree.int n) = None
application_in (tree.log b) = None
application_in (tree.name x) = None
application_in (tree.element x es) = Some (application x es)
application_in (tree.paren e) = None
application_in (tree.unary op e) = None
application_in (tree.binary op a b) = None
application_in (tree.chars c) = None

-- the right side of an assignment, where it is a name with arguments
abbrev pub assigned_in : WhatTree → Option Application
assigned_in (tree.assign v e) = application_in e
assigned_in (tree.block_if arms other) = None
assigned_in (tree.logical_if e s) = None
assigned_in (tree.do_loop l) = None
assigned_in (tree.call x es) = None
assigned_in (tree.goto l) = None
assigned_in tree.continue = None
assigned_in tree.return = None
assigned_in (tree.stop text) = None
assigned_in (tree.print es) = None
assigned_in (tree.read es) = None

-- of a statement by itself, or in a logical IF
abbrev pub assigned_by : PhraseTree → Option Application
assigned_by (program n) = None
assigned_by (subroutine n ds) = None
assigned_by (function form n ds) = None
assigned_by (specification d) = None
assigned_by (simple w) = assigned_in w
assigned_by (logical_if e w) = assigned_in w
assigned_by (block_if e) = None
assigned_by (else_if e) = None
assigned_by else_part = None
assigned_by end_if = None
assigned_by (do_head d) = None
assigned_by (while_head l e) = None
assigned_by end_do = None
assigned_by end_module = None

-- ---- F() where F is no function subprogram

abbrev pub are_none : ExprTrees → Bool
are_none tree.no_exprs = true
are_none (tree.more_exprs e es) = false

abbrev pub is_empty_call : Option Application → Bool
is_empty_call None = false
is_empty_call (Some a) = are_none a.arguments

-- where these names have bounds
abbrev pub is_bad_call : List (List ℕ) → Option Application → Bool
is_bad_call bounded None = false
is_bad_call bounded (Some a) = are_none a.arguments && not (is_external bounded a.name)

-- one of these statements assigns F()
abbrev pub has_empty_call : List StatementTree → Bool
has_empty_call [] = false
has_empty_call (s ∷ ss) = is_empty_call (assigned_by s.phrase) || has_empty_call ss

-- the line of the first of these statements, where these names have bounds up to the next END
abbrev pub empty_call_from : List (List ℕ) → List StatementTree → Option ℕ
empty_call_from bounded [] = None
empty_call_from bounded (s ∷ ss) =
    if is_bad_call bounded (assigned_by s.phrase) then Some s.first
    else if ends_module s.phrase then empty_call_from (bounded_names (decls_to_end ss)) ss
    else empty_call_from bounded ss

-- the line of the first statement that assigns F(), F having bounds in its module or being an intrinsic function: a module goes up to its END
unfoldable pub empty_call_fault : List StatementTree → Option ℕ
empty_call_fault ss = empty_call_from (bounded_names (decls_to_end ss)) ss

-- ---- a function whose name stands elsewhere in its module

-- where these names have bounds
abbrev pub is_reference : List (List ℕ) → Option Application → Bool
is_reference bounded None = false
is_reference bounded (Some a) = is_external bounded a.name

-- one of these statements assigns the value of a function
abbrev pub has_reference : List (List ℕ) → List StatementTree → Bool
has_reference bounded [] = false
has_reference bounded (s ∷ ss) = is_reference bounded (assigned_by s.phrase) || has_reference bounded ss

-- where these names have bounds, and these stand in the module
abbrev pub is_bad_reference : List (List ℕ) → List (List ℕ) → Option Application → Bool
is_bad_reference bounded names None = false
is_bad_reference bounded names (Some a) = is_external bounded a.name && has names a.name

abbrev pub bad_reference_from : List (List ℕ) → List (List ℕ) → List StatementTree → Option ℕ
bad_reference_from bounded names [] = None
bad_reference_from bounded names (s ∷ ss) =
    if is_bad_reference bounded names (assigned_by s.phrase) then Some s.first else bad_reference_from bounded names ss

abbrev pub bad_reference_in : List (List ℕ) → List StatementTree → Option ℕ
bad_reference_in bounded ss = bad_reference_from bounded (standing bounded ss) ss

-- the line of the first statement of a module that assigns the value of a function whose name stands elsewhere in the module
unfoldable pub reference_fault : List StatementTree → Option ℕ
reference_fault ss = bad_reference_in (bounded_names (decls_to_end ss)) ss
