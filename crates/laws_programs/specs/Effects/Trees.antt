-- What reading makes sure of in statements: they are numbered from 1, and arrays stand where they may.
use Rattle.std.specs.Prelude.{◌≡◌, ◌⊎◌, ℕ, ◌<◌, true, false, List, Option, Some, None}
use Rattle.f77_ast.specs.Trees.{ExprTree, ExprTrees, StmtTree, WhatTree, ArmTree, ArmTrees, ElseTree, LoopTree, StmtTrees}
use Rattle.f77_ast.specs.Trees as tree
use Rattle.f77_ast.specs.Places.{Function}
use Rattle.f77_ast.specs.Symbols.{SymbolTree}
use Rattle.call_graph.specs.Actuals.{symbol_with_name, is_array}
use Rattle.f77_meaning.specs.Modules.{names}

-- ---- expressions

-- a name without subscripts is that of no array
abbrev pub StandsBare : List ℕ → List SymbolTree → Type 0
StandsBare x ss = is_array (symbol_with_name ss x) ≡ false

-- a name with parentheses is that of an array or of an intrinsic function
abbrev pub StandsIndexed : List ℕ → List SymbolTree → Type 0
StandsIndexed x ss = (is_array (symbol_with_name ss x) ≡ true) ⊎ (names ss x ≡ Function)

abbrev mutual
  pub IsShaped : ExprTree → List SymbolTree → Type 0
  IsShaped (tree.int n) ss = Unit {0}
  IsShaped (tree.log b) ss = Unit {0}
  IsShaped (tree.name x) ss = StandsBare x ss
  IsShaped (tree.element x es) ss = StandsIndexed x ss × AreShaped es ss
  IsShaped (tree.paren e) ss = IsShaped e ss
  IsShaped (tree.unary o e) ss = IsShaped e ss
  IsShaped (tree.binary o a b) ss = IsShaped a ss × IsShaped b ss
  IsShaped (tree.chars x) ss = Unit {0}

  pub AreShaped : ExprTrees → List SymbolTree → Type 0
  AreShaped tree.no_exprs ss = Unit {0}
  AreShaped (tree.more_exprs e es) ss = IsShaped e ss × AreShaped es ss

-- an actual may be a whole array
abbrev pub IsActual : ExprTree → List SymbolTree → Type 0
IsActual (tree.int n) ss = Unit {0}
IsActual (tree.log b) ss = Unit {0}
IsActual (tree.name x) ss = Unit {0}
IsActual (tree.element x es) ss = StandsIndexed x ss × AreShaped es ss
IsActual (tree.paren e) ss = IsShaped e ss
IsActual (tree.unary o e) ss = IsShaped e ss
IsActual (tree.binary o a b) ss = IsShaped a ss × IsShaped b ss
IsActual (tree.chars x) ss = Unit {0}

abbrev pub AreActuals : ExprTrees → List SymbolTree → Type 0
AreActuals tree.no_exprs ss = Unit {0}
AreActuals (tree.more_exprs e es) ss = IsActual e ss × AreActuals es ss

-- ---- statements, with what is asked of each CALL

abbrev pub OfMaybe : Option ExprTree → List SymbolTree → Type 0
OfMaybe None ss = Unit {0}
OfMaybe (Some e) ss = IsShaped e ss

abbrev pub AskedOfCall : Type 1
AskedOfCall = List ℕ → ExprTrees → Type 0

abbrev mutual
  pub StmtFits : StmtTree → List SymbolTree → AskedOfCall → Type 0
  StmtFits (tree.stmt n label w) ss Q = (0 < n) × WhatFits w ss Q

  pub WhatFits : WhatTree → List SymbolTree → AskedOfCall → Type 0
  WhatFits (tree.assign a b) ss Q = IsShaped a ss × IsShaped b ss
  WhatFits (tree.block_if arms other) ss Q = ArmsFit arms ss Q × ElseFits other ss Q
  WhatFits (tree.logical_if e s) ss Q = IsShaped e ss × StmtFits s ss Q
  WhatFits (tree.do_loop l) ss Q = LoopFits l ss Q
  WhatFits (tree.call x es) ss Q = AreActuals es ss × Q x es
  WhatFits (tree.goto l) ss Q = Unit {0}
  WhatFits tree.continue ss Q = Unit {0}
  WhatFits tree.return ss Q = Unit {0}
  WhatFits (tree.stop text) ss Q = Unit {0}
  WhatFits (tree.print es) ss Q = AreShaped es ss
  WhatFits (tree.read es) ss Q = AreShaped es ss

  pub ListFits : StmtTrees → List SymbolTree → AskedOfCall → Type 0
  ListFits tree.no_stmts ss Q = Unit {0}
  ListFits (tree.more_stmts s rest) ss Q = StmtFits s ss Q × ListFits rest ss Q

  pub ArmsFit : ArmTrees → List SymbolTree → AskedOfCall → Type 0
  ArmsFit tree.no_arms ss Q = Unit {0}
  ArmsFit (tree.more_arms a rest) ss Q = ArmFits a ss Q × ArmsFit rest ss Q

  pub ArmFits : ArmTree → List SymbolTree → AskedOfCall → Type 0
  ArmFits (tree.arm test body) ss Q = IsShaped test ss × ListFits body ss Q

  pub ElseFits : ElseTree → List SymbolTree → AskedOfCall → Type 0
  ElseFits tree.no_else ss Q = Unit {0}
  ElseFits (tree.otherwise body) ss Q = ListFits body ss Q

  pub LoopFits : LoopTree → List SymbolTree → AskedOfCall → Type 0
  LoopFits (tree.loop index first last step body) ss Q =
      StandsBare index ss × IsShaped first ss × IsShaped last ss × OfMaybe step ss × ListFits body ss Q
