-- A small program: its text, what reading gives of it, and what a run does.
use Rattle.std.specs.Prelude.{ℕ, ℤ, pos, true, false, List, [], ◌∷◌, ◌++◌, Some, None, codes}
use Rattle.f77_ast.specs.declared.decl.Scalar.TheVariants as scalar
use Rattle.f77_ast.specs.declared.expr.BinaryOp.TheVariants.{Add}
use Rattle.f77_ast.specs.declared.places.Part.{Part}
use Rattle.f77_ast.specs.declared.places.Part.TheVariants as parts
use Rattle.f77_ast.specs.declared.places.Spot.{Spot}
use Rattle.f77_ast.specs.Plain.{exprs_of}
use Rattle.f77_ast.specs.PlainStmt.{stmts_of}
use Rattle.f77_ast.specs.Trees.{int, name, binary, stmt, assign, do_loop, loop, print}
use Rattle.f77_ast.specs.DeclTrees.{EntityTree, integer, ParsedTree}
use Rattle.f77_ast.specs.Store.{Int, content}
use Rattle.f77_ast.specs.Steps.{Value}
use Rattle.f77_ast.specs.Runs.{Event, Arrived, Read, Wrote, Printed}
use Rattle.f77_ast.specs.declared.symbol.Place.TheVariants.{Local}
use Rattle.f77_ast.specs.Symbols.{SymbolTree}
use Rattle.call_graph.specs.declared.graph.Graph.{Graph}
use Rattle.f77_meaning.specs.Modules.{Known, known_of}

-- ---- its text

-- lines, each with a line feed
abbrev pub text_of : List (List ℕ) → List ℕ
text_of [] = []
text_of (l ∷ ls) = l ++ 10 ∷ text_of ls

abbrev pub lines : List (List ℕ)
lines =
    codes "      PROGRAM P"
    ∷ codes "      INTEGER I,K"
    ∷ codes "      K=1"
    ∷ codes "      DO 10 I=1,2"
    ∷ codes "   10 K=K+I"
    ∷ codes "      PRINT *,K"
    ∷ codes "      END"
    ∷ []

abbrev pub text : List ℕ
text = text_of lines

-- ---- what reading gives

abbrev pub scalar_named : List ℕ → EntityTree
scalar_named x = record { name = x; bounds = [] }

-- a statement without comments, by its first line
abbrev pub at_line : Part → ℕ → Spot
at_line part line = record { part = part; first = line; comments = [] }

-- statements have the numbers 1 to 4, the body of the DO among them
abbrev pub parsed : ParsedTree
parsed = record {
  module_read = record {
    name = codes "P";
    main = true;
    titled = true;
    dummies = [];
    decls = integer (scalar_named (codes "I") ∷ scalar_named (codes "K") ∷ []) ∷ [];
    body = stmts_of (
        stmt 1 None (assign (name (codes "K")) (int (pos 1)))
        ∷ stmt 2 None (do_loop (loop (codes "I") (int (pos 1)) (int (pos 2)) None (stmts_of (
        stmt 3 (Some 10) (assign (name (codes "K")) (binary Add (name (codes "K")) (name (codes "I")))) ∷ []))))
        ∷ stmt 4 None (print (exprs_of (name (codes "K") ∷ [])))
        ∷ []);
    function = None;
    references = [];
    whiles = [];
  };
  places = record {
    spots =
        at_line parts.Title 1
        ∷ at_line (parts.Decl 0) 2
        ∷ at_line (parts.Stmt 1) 3
        ∷ at_line (parts.Stmt 2) 4
        ∷ at_line (parts.Stmt 3) 5
        ∷ at_line (parts.Stmt 4) 6
        ∷ at_line parts.End 7
        ∷ [];
    closing = [];
  };
}

-- an INTEGER scalar with a storage group of its own
abbrev pub local : List ℕ → ℕ → SymbolTree
local x group = record { name = x; scalar = scalar.Int; bounds = []; place = Local group 0; saved = false; initial = [] }

-- I is symbol 1, K is symbol 2
abbrev pub table : List SymbolTree
table = local (codes "I") 1 ∷ local (codes "K") 2 ∷ []

abbrev pub graph : Graph
graph = record { order = codes "P" ∷ []; edges = []; blocks = []; untracked = [] }

abbrev pub modules : List Known
modules = known_of (parsed ∷ []) (table ∷ [])

-- ---- what a run does

abbrev pub arrives : ℕ → Event
arrives n = Arrived (record { module_name = codes "P"; statement = n })

-- the units of I and K
abbrev pub i : ℕ
i = 19

abbrev pub k : ℕ
k = 31

abbrev pub reads : ℕ → ℤ → Event
reads u n = Read u (content Int n)

abbrev pub writes : ℕ → ℤ → Event
writes u n = Wrote u (content Int n)

-- two iterations; K is 1, then 2, then 4, and I ends as 3
abbrev pub trace : List Event
trace =
    arrives 0
    ∷ arrives 1 ∷ writes k (pos 1)
    ∷ arrives 2 ∷ writes i (pos 1)
    ∷ arrives 3 ∷ reads k (pos 1) ∷ reads i (pos 1) ∷ writes k (pos 2) ∷ writes i (pos 2)
    ∷ arrives 3 ∷ reads k (pos 2) ∷ reads i (pos 2) ∷ writes k (pos 4) ∷ writes i (pos 3)
    ∷ arrives 4 ∷ reads k (pos 4) ∷ Printed (Value (content Int (pos 4)) ∷ [])
    ∷ []
