-- What each statement makes of its module.
use Rattle.std.specs.Prelude.{ℕ, true, false, List, [], ◌∷◌, ◌++◌, length, Option, Some, None, codes}
use Rattle.f77_ast.specs.declared.module.FunctionForm.{FunctionForm}
use Rattle.f77_ast.specs.declared.places.Part.{Part}
use Rattle.f77_ast.specs.declared.places.Part.TheVariants as parts
use Rattle.f77_ast.specs.Trees.{ExprTree, StmtTree, continue, ArmTree, arm}
use Rattle.f77_ast.specs.DeclTrees.{DeclTree, ParsedTree}
use Rattle.f77_ast.specs.PlainStmt.{stmts_of}
use Rattle.f77_statements.specs.Phrases.{PhraseTree, program, subroutine, function, specification, simple, logical_if, block_if, else_if, else_part, end_if, do_head, while_head, end_do, end_module}
use Rattle.f77_parser.specs.declared.progress.Heading.{Heading}
use Rattle.f77_parser.specs.SoFar.{OpeningTree, opening_loop, opening_while, branches, AroundTree, SoFar, add_spot, add_executable, add_logical_if, open_block, add_while, end_loops, end_loops_at, close_block}
use Rattle.f77_parser.specs.Statements.{StatementTree}
use Rattle.f77_parser.specs.Elaborated.{elaborated}

-- PROGRAM, SUBROUTINE or FUNCTION
abbrev pub set_heading : ℕ → List (List ℕ) → Heading → SoFar → SoFar
set_heading first comments h p = add_spot parts.Title first comments (record p { heading = h })

abbrev pub add_specification : ℕ → List (List ℕ) → DeclTree → SoFar → SoFar
add_specification first comments d p = add_spot (parts.Decl (length p.decls)) first comments (record p { decls = p.decls ++ d ∷ [] })

-- the parts of a block IF, this being the open list
abbrev pub close_arm : OpeningTree → List StmtTree → List ArmTree
close_arm (opening_loop d) list = []
close_arm (opening_while l test) list = []
close_arm (branches arms (Some test)) list = arms ++ arm test (stmts_of list) ∷ []
close_arm (branches arms None) list = arms

abbrev pub part_of : ℕ → ℕ → Option ExprTree → Part
part_of id place None = parts.Else id
part_of id place (Some test) = parts.ElseIf id place

-- a block goes on with another list, which this part begins
abbrev pub next_block : AroundTree → List StmtTree → Option ExprTree → AroundTree
next_block a list test = record a { opening = branches (close_arm a.opening list) test }

abbrev pub next_part : AroundTree → List StmtTree → Option ExprTree → Part
next_part a list test = part_of a.id (length (close_arm a.opening list)) test

abbrev pub divide_innermost : List AroundTree → ℕ → List (List ℕ) → Option ExprTree → SoFar → SoFar
divide_innermost [] first comments test p = p
divide_innermost (a ∷ others) first comments test p =
    add_spot (next_part a p.list test) first comments (record p { list = []; around = next_block a p.list test ∷ others })

-- ELSE IF with its test, or ELSE: the innermost block goes on with another list
abbrev pub divide_block : ℕ → List (List ℕ) → Option ExprTree → SoFar → SoFar
divide_block first comments test p = divide_innermost p.around first comments test p

-- the CONTINUE that a label stands for
abbrev pub add_continue : ℕ → ℕ → List (List ℕ) → SoFar → SoFar
add_continue first l comments p = end_loops l (add_executable first (Some l) comments continue p)

-- a label of END IF stands for a CONTINUE behind it
abbrev pub close_if : ℕ → Option ℕ → List (List ℕ) → SoFar → SoFar
close_if first None comments p = close_block first comments p
close_if first (Some l) comments p = add_continue first l [] (close_block first comments p)

-- one of END DO for a CONTINUE before it, which has the comments
abbrev pub close_do : ℕ → Option ℕ → List (List ℕ) → SoFar → SoFar
close_do first None comments p = close_block first comments p
close_do first (Some l) comments p = close_block first [] (add_continue first l comments p)

-- and one of END too
abbrev pub close_module : ℕ → Option ℕ → List (List ℕ) → SoFar → SoFar
close_module first None comments p = add_spot parts.End first comments p
close_module first (Some l) comments p = add_spot parts.End first [] (add_continue first l comments p)

abbrev pub program_heading : List ℕ → Heading
program_heading n = record { name = n; main = true; titled = true; dummies = []; function = None }

abbrev pub subroutine_heading : List ℕ → List (List ℕ) → Heading
subroutine_heading n ds = record { name = n; main = false; titled = false; dummies = ds; function = None }

-- the name of a function is its last dummy argument
abbrev pub function_heading : FunctionForm → List ℕ → List (List ℕ) → Heading
function_heading form n ds = record { name = n; main = false; titled = false; dummies = ds ++ n ∷ []; function = Some form }

-- one statement more, by what it says
abbrev pub add_phrase : ℕ → Option ℕ → List (List ℕ) → PhraseTree → SoFar → SoFar
add_phrase first label comments (program n) p = set_heading first comments (program_heading n) p
add_phrase first label comments (subroutine n ds) p = set_heading first comments (subroutine_heading n ds) p
add_phrase first label comments (function form n ds) p = set_heading first comments (function_heading form n ds) p
add_phrase first label comments (specification d) p = add_specification first comments d p
add_phrase first label comments (simple w) p = end_loops_at label (add_executable first label comments w p)
add_phrase first label comments (logical_if e w) p = end_loops_at label (add_logical_if first label comments e w p)
add_phrase first label comments (block_if e) p = open_block first label comments (branches [] (Some e)) p
add_phrase first label comments (else_if e) p = divide_block first comments (Some e) p
add_phrase first label comments else_part p = divide_block first comments None p
add_phrase first label comments end_if p = close_if first label comments p
add_phrase first label comments (do_head d) p = open_block first label comments (opening_loop d) p
add_phrase first label comments (while_head l e) p = open_block first label comments (opening_while l e) (add_while p)
add_phrase first label comments end_do p = close_do first label comments p
add_phrase first label comments end_module p = close_module first label comments p

-- one statement more
abbrev pub add_statement : StatementTree → SoFar → SoFar
add_statement s p = add_phrase s.first s.label s.comments s.phrase p

-- these statements more
abbrev pub add_all : List StatementTree → SoFar → SoFar
add_all [] p = p
add_all (s ∷ ss) p = add_all ss (add_statement s p)

-- a module without a heading is a main program with the name MAIN
abbrev pub no_statements : SoFar
no_statements = record {
  heading = record { name = codes "MAIN"; main = true; titled = false; dummies = []; function = None };
  decls = [];
  count = 0;
  whiles = [];
  spots = [];
  list = [];
  around = [];
}

abbrev pub whole : List (List ℕ) → SoFar → ParsedTree
whole closing p = record {
  module_read = record {
    name = p.heading.name;
    main = p.heading.main;
    titled = p.heading.titled;
    dummies = p.heading.dummies;
    decls = p.decls;
    body = stmts_of p.list;
    function = p.heading.function;
    references = [];
    whiles = p.whiles;
  };
  places = record { spots = p.spots; closing = closing };
}

-- the module as these statements write it, with the comments behind it
unfoldable pub written_module : List (List ℕ) → List StatementTree → ParsedTree
written_module closing ss = whole closing (add_all ss no_statements)

-- with the statements that stand for assignments of the value of a function, and for DO WHILEs
abbrev pub elaborated_parsed : ParsedTree → ParsedTree
elaborated_parsed p = record p { module_read = elaborated p.module_read }

-- the module of these statements, with the comments behind it
unfoldable pub build_module : List (List ℕ) → List StatementTree → ParsedTree
build_module closing ss = elaborated_parsed (written_module closing ss)
