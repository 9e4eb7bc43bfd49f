-- A small program with a sum: its texts, what reading gives of it, and what it prints.
use Rattle.std.specs.Prelude.{ℕ, pos, true, List, [], ◌∷◌, ◌++◌, None, codes}
use Rattle.f77_ast.specs.declared.expr.BinaryOp.TheVariants.{Add, Sub, Mul}
use Rattle.f77_ast.specs.declared.places.Part.TheVariants as parts
use Rattle.f77_ast.specs.Plain.{exprs_of}
use Rattle.f77_ast.specs.PlainStmt.{stmts_of}
use Rattle.f77_ast.specs.Trees.{ExprTree, int, name, paren, binary, stmt, assign, do_loop, loop, print}
use Rattle.f77_ast.specs.DeclTrees.{ParsedTree}
use Rattle.f77_ast.specs.Store.{Int, content}
use Rattle.f77_ast.specs.Steps.{Shown, Value}
use Rattle.f77_ast.specs.Symbols.{SymbolTree}
use Rattle.call_graph.specs.declared.graph.Graph.{Graph}
use Rattle.pips_top.specs.Program.{ProgramTree}
use Rattle.pips_top.specs.Small.{text_of, at_line, local}

-- ---- its text, as the printer writes it, with a directive or without

abbrev pub lines_with : List (List ℕ) → List (List ℕ)
lines_with directive =
    codes "      PROGRAM P"
    ∷ codes "      K = 2147483640"
    ∷ directive
    ++ (codes "      DO I = 1,2"
    ∷ codes "      K = K+(20*I-30)"
    ∷ codes "      END DO"
    ∷ codes "      PRINT *,K"
    ∷ codes "      END"
    ∷ [])

abbrev pub text : List ℕ
text = text_of (lines_with [])

abbrev pub text_with_directive : List ℕ
text_with_directive = text_of (lines_with (codes "C$OMP PARALLEL DO REDUCTION(+:K)" ∷ []))

-- ---- what reading gives

abbrev pub k : ExprTree
k = name (codes "K")

-- the DO is the statement 2
abbrev pub parsed : ParsedTree
parsed = record {
  module_read = record {
    name = codes "P";
    main = true;
    titled = true;
    dummies = [];
    decls = [];
    body = stmts_of (
        stmt 1 None (assign k (int (pos 2147483640)))
        ∷ stmt 2 None (do_loop (loop (codes "I") (int (pos 1)) (int (pos 2)) None (stmts_of (
        stmt 3 None (assign k (binary Add k (paren (binary Sub (binary Mul (int (pos 20)) (name (codes "I"))) (int (pos 30)))))) ∷ []))))
        ∷ stmt 4 None (print (exprs_of (k ∷ [])))
        ∷ []);
    function = None;
    references = [];
    whiles = [];
  };
  places = record {
    spots =
        at_line parts.Title 1
        ∷ at_line (parts.Stmt 1) 2
        ∷ at_line (parts.Stmt 2) 3
        ∷ at_line (parts.Stmt 3) 4
        ∷ at_line (parts.Close 2) 5
        ∷ at_line (parts.Stmt 4) 6
        ∷ at_line parts.End 7
        ∷ [];
    closing = [];
  };
}

-- K is symbol 1, I is symbol 2
abbrev pub table : List SymbolTree
table = local (codes "K") 1 ∷ local (codes "I") 2 ∷ []

abbrev pub graph : Graph
graph = record { order = codes "P" ∷ []; edges = []; blocks = []; untracked = [] }

abbrev pub program : ProgramTree
program = record { modules = parsed ∷ []; tables = table ∷ []; graph = graph }

-- ---- what it prints: -10 is added, and then 10

abbrev pub printed : List (List Shown)
printed = (Value (content Int (pos 2147483640)) ∷ []) ∷ []
