-- What reading makes sure of in executable statements: arrays have subscripts, and nothing else but functions has parentheses (ANSI X3.9-1978 §5.4, §15.10).
use Rattle.std.specs.Prelude.{◌≡◌, ◌⊎◌, ℕ, true, false, List, Option, Some, None, Ok, is_some, is_none}
use Rattle.f77_ast.specs.Trees.{ExprTree, ExprTrees, StmtTree, WhatTree, ArmTree, ArmTrees, ElseTree, LoopTree, StmtTrees}
use Rattle.f77_ast.specs.Trees as tree
use Rattle.f77_ast.specs.DeclTrees.{ParsedTree}
use Rattle.f77_ast.specs.Numbers.{intrinsic_named}
use Rattle.f77_ast.specs.Symbols.{BoundTree, SymbolTree}
use Rattle.storage_layout.specs.Symbols.{symbols_of}
use Rattle.std.specs.Prelude.{if◌then◌else◌, bytes_eq, [], ◌∷◌}

-- ---- names

abbrev pub symbol_named : List SymbolTree → List ℕ → Option SymbolTree
symbol_named [] x = None
symbol_named (s ∷ ss) x = if bytes_eq x s.name then Some s else symbol_named ss x

abbrev pub has_any : List BoundTree → Type 0
has_any [] = ⊥
has_any (b ∷ bs) = Unit {0}

-- the bounds of a name, none where it has no symbol
abbrev pub bounds_of : Option SymbolTree → List BoundTree
bounds_of None = []
bounds_of (Some s) = s.bounds

abbrev pub is_given : ExprTrees → Type 0
is_given tree.no_exprs = ⊥
is_given (tree.more_exprs e es) = Unit {0}

-- a bare name is none of an array
abbrev pub StandsBare : List SymbolTree → List ℕ → Type 0
StandsBare ss x = (bounds_of (symbol_named ss x) ≡ [])

-- a name with parentheses is that of an array, with subscripts, or of an intrinsic function
abbrev pub StandsIndexed : List SymbolTree → List ℕ → ExprTrees → Type 0
StandsIndexed ss x es = (has_any (bounds_of (symbol_named ss x)) × is_given es) ⊎ ((bounds_of (symbol_named ss x) ≡ []) × (is_some (intrinsic_named x) ≡ true))

-- ---- expressions and statements, with what is asked of their names

module _ (bare : List ℕ → Type 0) (indexed : List ℕ → ExprTrees → Type 0) where
  abbrev mutual
    pub Shaped : ExprTree → Type 0
    Shaped (tree.int n) = Unit {0}
    Shaped (tree.log b) = Unit {0}
    Shaped (tree.name x) = bare x
    Shaped (tree.element x es) = indexed x es × AllShaped es
    Shaped (tree.paren e) = Shaped e
    Shaped (tree.unary o e) = Shaped e
    Shaped (tree.binary o a b) = Shaped a × Shaped b
    Shaped (tree.chars x) = Unit {0}

    pub AllShaped : ExprTrees → Type 0
    AllShaped tree.no_exprs = Unit {0}
    AllShaped (tree.more_exprs e es) = Shaped e × AllShaped es

  -- an array may stand whole as an actual
  abbrev pub ShapedActual : ExprTree → Type 0
  ShapedActual (tree.int n) = Unit {0}
  ShapedActual (tree.log b) = Unit {0}
  ShapedActual (tree.name x) = Unit {0}
  ShapedActual (tree.element x es) = indexed x es × AllShaped es
  ShapedActual (tree.paren e) = Shaped e
  ShapedActual (tree.unary o e) = Shaped e
  ShapedActual (tree.binary o a b) = Shaped a × Shaped b
  ShapedActual (tree.chars x) = Unit {0}

  abbrev pub ShapedActuals : ExprTrees → Type 0
  ShapedActuals tree.no_exprs = Unit {0}
  ShapedActuals (tree.more_exprs e es) = ShapedActual e × ShapedActuals es

  abbrev pub ShapedStep : Option ExprTree → Type 0
  ShapedStep None = Unit {0}
  ShapedStep (Some e) = Shaped e

  abbrev mutual
    pub ShapedStmt : StmtTree → Type 0
    ShapedStmt (tree.stmt n label w) = ShapedWhat w

    pub ShapedWhat : WhatTree → Type 0
    ShapedWhat (tree.assign a b) = Shaped a × Shaped b
    ShapedWhat (tree.block_if arms other) = ShapedArms arms × ShapedElse other
    ShapedWhat (tree.logical_if e s) = Shaped e × ShapedStmt s
    ShapedWhat (tree.do_loop l) = ShapedLoop l
    ShapedWhat (tree.call x es) = ShapedActuals es
    ShapedWhat (tree.goto l) = Unit {0}
    ShapedWhat tree.continue = Unit {0}
    ShapedWhat tree.return = Unit {0}
    ShapedWhat (tree.stop text) = Unit {0}
    ShapedWhat (tree.print es) = AllShaped es
    ShapedWhat (tree.read es) = AllShaped es

    pub ShapedArms : ArmTrees → Type 0
    ShapedArms tree.no_arms = Unit {0}
    ShapedArms (tree.more_arms a rest) = ShapedArm a × ShapedArms rest

    pub ShapedArm : ArmTree → Type 0
    ShapedArm (tree.arm test body) = Shaped test × ShapedList body

    pub ShapedElse : ElseTree → Type 0
    ShapedElse tree.no_else = Unit {0}
    ShapedElse (tree.otherwise body) = ShapedList body

    pub ShapedLoop : LoopTree → Type 0
    ShapedLoop (tree.loop index first last step body) = bare index × Shaped first × Shaped last × ShapedStep step × ShapedList body

    pub ShapedList : StmtTrees → Type 0
    ShapedList tree.no_stmts = Unit {0}
    ShapedList (tree.more_stmts s rest) = ShapedStmt s × ShapedList rest

-- the body of a module that is not refused is such
abbrev pub BodiesAreShaped : Type 0
BodiesAreShaped = (p : ParsedTree) (ss : List SymbolTree) → symbols_of p ≡ Ok ss → ShapedList (StandsBare ss) (StandsIndexed ss) p.module_read.body
