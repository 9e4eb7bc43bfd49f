-- Which statement ends a module, and the specification statements of one.
use Rattle.std.specs.Prelude.{Bool, true, false, List, [], ◌∷◌, ◌++◌, if◌then◌else◌}
use Rattle.f77_ast.specs.DeclTrees.{DeclTree}
use Rattle.f77_statements.specs.Phrases.{PhraseTree, program, subroutine, function, specification, simple, logical_if, block_if, else_if, else_part, end_if, do_head, while_head, end_do, end_module}
use Rattle.f77_parser.specs.Statements.{StatementTree}

abbrev pub ends_module : PhraseTree → Bool
ends_module (program n) = false
ends_module (subroutine n ds) = false
ends_module (function form n ds) = false
ends_module (specification d) = false
ends_module (simple w) = false
ends_module (logical_if e w) = false
ends_module (block_if e) = false
ends_module (else_if e) = false
ends_module else_part = false
ends_module end_if = false
ends_module (do_head d) = false
ends_module (while_head l e) = false
ends_module end_do = false
ends_module end_module = true

-- the specification statement that a statement is
abbrev pub decls_by : PhraseTree → List DeclTree
decls_by (program n) = []
decls_by (subroutine n xs) = []
decls_by (function form n xs) = []
decls_by (specification d) = d ∷ []
decls_by (simple w) = []
decls_by (logical_if e w) = []
decls_by (block_if e) = []
decls_by (else_if e) = []
decls_by else_part = []
decls_by end_if = []
decls_by (do_head d) = []
decls_by (while_head l e) = []
decls_by end_do = []
decls_by end_module = []

-- the specification statements among these statements, wherever they stand, up to an END
abbrev pub decls_to_end : List StatementTree → List DeclTree
decls_to_end [] = []
decls_to_end (s ∷ ss) = if ends_module s.phrase then [] else decls_by s.phrase ++ decls_to_end ss
