-- A small program with a loop that refers to a function: its text, and what reading gives of it.
use Rattle.std.specs.Prelude.{ℕ, pos, true, false, List, [], ◌∷◌, Some, None, codes}
use Rattle.f77_ast.specs.declared.decl.Scalar.TheVariants as scalar
use Rattle.f77_ast.specs.declared.places.Part.TheVariants as parts
use Rattle.f77_ast.specs.Plain.{exprs_of}
use Rattle.f77_ast.specs.PlainStmt.{stmts_of}
use Rattle.f77_ast.specs.Trees.{ExprTree, int, log, name, element, StmtTree, stmt, assign, do_loop, loop, call}
use Rattle.f77_ast.specs.DeclTrees.{integer, ParsedTree}
use Rattle.f77_ast.specs.declared.symbol.Place.TheVariants.{Local}
use Rattle.f77_ast.specs.Symbols.{SymbolTree}
use Rattle.call_graph.specs.declared.graph.Graph.{Graph}
use Rattle.pips_top.specs.Program.{ProgramTree}
use Rattle.pips_top.specs.Small.{text_of, scalar_named, at_line, local}
use Rattle.pips_top.specs.SmallFunction.{f, only, function_table}
use Rattle.pips_top.specs.SmallFunction as small

-- ---- its text, as the printer writes it with a directive

abbrev pub lines : List (List ℕ)
lines =
    codes "      PROGRAM P"
    ∷ codes "      INTEGER A(3),F"
    ∷ codes "C$OMP PARALLEL DO"
    ∷ codes "      DO I = 1,3"
    ∷ codes "      A(I) = F(I)"
    ∷ codes "      END DO"
    ∷ codes "      END"
    ∷ codes "      INTEGER FUNCTION F(N)"
    ∷ codes "      F = N+1"
    ∷ codes "      END"
    ∷ []

abbrev pub text : List ℕ
text = text_of lines

-- ---- the main program

abbrev pub i : ExprTree
i = name (codes "I")

-- A(I) = F(I), the statement 2
abbrev pub value : StmtTree
value = stmt 2 None (only (log true) (
    stmt 4097 None (assign f (int (pos 0)))
    ∷ stmt 4098 None (call (codes "F") (exprs_of (i ∷ f ∷ [])))
    ∷ stmt 4099 None (assign (element (codes "A") (exprs_of (i ∷ []))) f)
    ∷ []))

-- the DO is the statement 1
abbrev pub main_parsed : ParsedTree
main_parsed = record {
  module_read = record {
    name = codes "P";
    main = true;
    titled = true;
    dummies = [];
    decls = integer (record { name = codes "A"; bounds = record { low = None; high = Some (int (pos 3)) } ∷ [] } ∷ scalar_named (codes "F") ∷ []) ∷ [];
    body = stmts_of (stmt 1 None (do_loop (loop (codes "I") (int (pos 1)) (int (pos 3)) None (stmts_of (value ∷ [])))) ∷ []);
    function = None;
    references = 2 ∷ [];
    whiles = [];
  };
  places = record {
    spots =
        at_line parts.Title 1
        ∷ at_line (parts.Decl 0) 2
        ∷ at_line (parts.Stmt 1) 3
        ∷ at_line (parts.Stmt 2) 4
        ∷ at_line (parts.Close 1) 5
        ∷ at_line parts.End 6
        ∷ [];
    closing = [];
  };
}

abbrev pub function_parsed : ParsedTree
function_parsed = record {
  module_read = small.function_parsed.module_read;
  places = record { spots = at_line parts.Title 7 ∷ at_line (parts.Stmt 1) 8 ∷ at_line parts.End 9 ∷ []; closing = [] };
}

-- ---- the program

abbrev pub array : List ℕ → ℕ → SymbolTree
array x group = record { name = x; scalar = scalar.Int; bounds = record { low = int (pos 1); high = Some (int (pos 3)) } ∷ []; place = Local group 0; saved = false; initial = [] }

-- A is symbol 1, F is symbol 2, I is symbol 3
abbrev pub main_table : List SymbolTree
main_table = array (codes "A") 1 ∷ local (codes "F") 2 ∷ local (codes "I") 3 ∷ []

-- the main program calls the function in the hidden statement 4098
abbrev pub links : Graph
links = record {
  order = codes "F" ∷ codes "P" ∷ [];
  edges = record { caller = codes "P"; at = 4098; callee = codes "F" } ∷ [];
  blocks = [];
  untracked = [];
}

abbrev pub program : ProgramTree
program = record { modules = main_parsed ∷ function_parsed ∷ []; tables = main_table ∷ function_table ∷ []; graph = links }
