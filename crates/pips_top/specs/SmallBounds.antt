-- A small program with references to an array: its text, alone and with the lines on its references, and what reading gives of it.
use Rattle.std.specs.Prelude.{ℕ, pos, true, false, List, [], ◌∷◌, ◌++◌, Some, None, codes}
use Rattle.f77_ast.specs.declared.decl.Scalar.TheVariants as scalar
use Rattle.f77_ast.specs.declared.expr.BinaryOp.TheVariants.{Add, Sub}
use Rattle.f77_ast.specs.declared.places.Part.TheVariants as parts
use Rattle.f77_ast.specs.declared.symbol.Place.TheVariants.{Local}
use Rattle.f77_ast.specs.Plain.{exprs_of}
use Rattle.f77_ast.specs.PlainStmt.{stmts_of}
use Rattle.f77_ast.specs.Trees.{ExprTree, int, name, element, binary, stmt, assign, do_loop, loop}
use Rattle.f77_ast.specs.DeclTrees.{integer, ParsedTree}
use Rattle.f77_ast.specs.Symbols.{SymbolTree}
use Rattle.call_graph.specs.declared.graph.Graph.{Graph}
use Rattle.pips_top.specs.Program.{ProgramTree}
use Rattle.pips_top.specs.Small.{text_of, at_line, local}

-- ---- its text, as the printer writes it, with these lines on references

abbrev pub lines_with : List (List ℕ) → List (List ℕ)
lines_with checks =
    codes "      PROGRAM P"
    ∷ codes "      INTEGER A(10)"
    ∷ codes "      DO I = 2,10"
    ∷ checks
    ++ (codes "      A(I) = A(I-1)+A(I+1)"
    ∷ codes "      END DO"
    ∷ codes "      END"
    ∷ [])

abbrev pub text : List ℕ
text = text_of (lines_with [])

-- A(I+1) is A(11) in the last iteration
abbrev pub text_with_checks : List ℕ
text_with_checks = text_of (lines_with (codes "C> SAFE A(I-1),A(I)" ∷ codes "C> CHECK A(I+1)" ∷ []))

-- ---- what reading gives

abbrev pub i : ExprTree
i = name (codes "I")

abbrev pub a : ExprTree → ExprTree
a subscript = element (codes "A") (exprs_of (subscript ∷ []))

-- the DO is the statement 1
abbrev pub parsed : ParsedTree
parsed = record {
  module_read = record {
    name = codes "P";
    main = true;
    titled = true;
    dummies = [];
    decls = integer (record { name = codes "A"; bounds = record { low = None; high = Some (int (pos 10)) } ∷ [] } ∷ []) ∷ [];
    body = stmts_of (stmt 1 None (do_loop (loop (codes "I") (int (pos 2)) (int (pos 10)) None (stmts_of (
        stmt 2 None (assign (a i) (binary Add (a (binary Sub i (int (pos 1)))) (a (binary Add i (int (pos 1)))))) ∷ [])))) ∷ []);
    function = None;
    references = [];
    whiles = [];
  };
  places = record {
    spots =
        at_line parts.Title 1
        ∷ at_line (parts.Decl 0) 2
        ∷ at_line (parts.Stmt 1) 3
        ∷ at_line (parts.Stmt 2) 4
        ∷ at_line (parts.Close 1) 5
        ∷ at_line parts.End 6
        ∷ [];
    closing = [];
  };
}

-- A is symbol 1, I is symbol 2
abbrev pub table : List SymbolTree
table =
    record { name = codes "A"; scalar = scalar.Int; bounds = record { low = int (pos 1); high = Some (int (pos 10)) } ∷ []; place = Local 1 0; saved = false; initial = [] }
    ∷ local (codes "I") 2
    ∷ []

abbrev pub graph : Graph
graph = record { order = codes "P" ∷ []; edges = []; blocks = []; untracked = [] }

abbrev pub program : ProgramTree
program = record { modules = parsed ∷ []; tables = table ∷ []; graph = graph }
