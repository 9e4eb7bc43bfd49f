-- A small program with a function and a DO WHILE: its text, and what reading gives of it.
use Rattle.std.specs.Prelude.{ℕ, pos, true, false, List, [], ◌∷◌, Some, None, codes}
use Rattle.f77_ast.specs.declared.decl.Scalar.TheVariants as scalar
use Rattle.f77_ast.specs.declared.expr.BinaryOp.TheVariants.{Add, Lt}
use Rattle.f77_ast.specs.declared.module.FunctionForm.TheVariants as forms
use Rattle.f77_ast.specs.declared.places.Part.TheVariants as parts
use Rattle.f77_ast.specs.Plain.{exprs_of}
use Rattle.f77_ast.specs.PlainStmt.{stmts_of}
use Rattle.f77_ast.specs.Trees.{ExprTree, int, log, name, binary, StmtTree, stmt, WhatTree, assign, block_if, call, goto, print, arm, no_arms, more_arms, no_else}
use Rattle.f77_ast.specs.DeclTrees.{integer, ParsedTree}
use Rattle.f77_ast.specs.declared.symbol.Place.TheVariants.{Dummy}
use Rattle.f77_ast.specs.Symbols.{SymbolTree}
use Rattle.call_graph.specs.declared.graph.Graph.{Graph}
use Rattle.pips_top.specs.Program.{ProgramTree}
use Rattle.pips_top.specs.Small.{text_of, scalar_named, at_line, local}

-- ---- its text, as the printer writes it

abbrev pub lines : List (List ℕ)
lines =
    codes "      PROGRAM P"
    ∷ codes "      INTEGER K,F"
    ∷ codes "      K = 0"
    ∷ codes "      DO WHILE (K.LT.3)"
    ∷ codes "      K = F(K)"
    ∷ codes "      END DO"
    ∷ codes "      PRINT *,K"
    ∷ codes "      END"
    ∷ codes "      INTEGER FUNCTION F(N)"
    ∷ codes "      F = N+1"
    ∷ codes "      END"
    ∷ []

abbrev pub text : List ℕ
text = text_of lines

-- ---- the main program

abbrev pub k : ExprTree
k = name (codes "K")

abbrev pub f : ExprTree
f = name (codes "F")

-- a block IF with one part
abbrev pub only : ExprTree → List StmtTree → WhatTree
only test body = block_if (more_arms (arm test (stmts_of body)) no_arms) no_else

-- K = F(K), the statement 3: F is 0, then what the CALL makes of it, and K is F (f77_ast, specs/Hidden)
abbrev pub value : StmtTree
value = stmt 3 None (only (log true) (
    stmt 4098 None (assign f (int (pos 0)))
    ∷ stmt 4099 None (call (codes "F") (exprs_of (k ∷ f ∷ [])))
    ∷ stmt 4100 None (assign k f)
    ∷ []))

-- the DO WHILE, the statement 2: a labelled block IF that ends with a GO TO to its label
abbrev pub turns : StmtTree
turns = stmt 2 None (only (log true) (
    stmt 4097 (Some 100002) (only (binary Lt k (int (pos 3))) (value ∷ stmt 4101 None (goto 100002) ∷ []))
    ∷ []))

abbrev pub main_parsed : ParsedTree
main_parsed = record {
  module_read = record {
    name = codes "P";
    main = true;
    titled = true;
    dummies = [];
    decls = integer (scalar_named (codes "K") ∷ scalar_named (codes "F") ∷ []) ∷ [];
    body = stmts_of (stmt 1 None (assign k (int (pos 0))) ∷ turns ∷ stmt 4 None (print (exprs_of (k ∷ []))) ∷ []);
    function = None;
    references = 3 ∷ [];
    whiles = 2 ∷ [];
  };
  places = record {
    spots =
        at_line parts.Title 1
        ∷ at_line (parts.Decl 0) 2
        ∷ at_line (parts.Stmt 1) 3
        ∷ at_line (parts.Stmt 2) 4
        ∷ at_line (parts.Stmt 3) 5
        ∷ at_line (parts.Close 2) 6
        ∷ at_line (parts.Stmt 4) 7
        ∷ at_line parts.End 8
        ∷ [];
    closing = [];
  };
}

-- ---- the function, whose name is its last dummy

abbrev pub function_parsed : ParsedTree
function_parsed = record {
  module_read = record {
    name = codes "F";
    main = false;
    titled = false;
    dummies = codes "N" ∷ codes "F" ∷ [];
    decls = [];
    body = stmts_of (stmt 1 None (assign f (binary Add (name (codes "N")) (int (pos 1)))) ∷ []);
    function = Some forms.Integer;
    references = [];
    whiles = [];
  };
  places = record { spots = at_line parts.Title 9 ∷ at_line (parts.Stmt 1) 10 ∷ at_line parts.End 11 ∷ []; closing = [] };
}

-- ---- the program

-- an INTEGER dummy
abbrev pub dummy : List ℕ → ℕ → SymbolTree
dummy x n = record { name = x; scalar = scalar.Int; bounds = []; place = Dummy n; saved = false; initial = [] }

abbrev pub main_table : List SymbolTree
main_table = local (codes "K") 1 ∷ local (codes "F") 2 ∷ []

abbrev pub function_table : List SymbolTree
function_table = dummy (codes "N") 1 ∷ dummy (codes "F") 2 ∷ []

-- the main program calls the function in the hidden statement 4099
abbrev pub links : Graph
links = record {
  order = codes "F" ∷ codes "P" ∷ [];
  edges = record { caller = codes "P"; at = 4099; callee = codes "F" } ∷ [];
  blocks = [];
  untracked = [];
}

abbrev pub program : ProgramTree
program = record { modules = main_parsed ∷ function_parsed ∷ []; tables = main_table ∷ function_table ∷ []; graph = links }
