-- What is known of CALLs in modules that link: which dummy takes which actual (ANSI X3.9-1978 §15.9.3).
use Rattle.std.specs.Prelude.{◌≡◌, ℕ, suc, Bool, true, false, List, [], ◌∷◌, Some, Ok}
use Rattle.f77_ast.specs.Trees.{ExprTree, ExprTrees, StmtTree, WhatTree, ArmTree, ArmTrees, ElseTree, LoopTree, StmtTrees}
use Rattle.f77_ast.specs.Trees as tree
use Rattle.f77_ast.specs.DeclTrees.{ParsedTree}
use Rattle.f77_ast.specs.Store.{Content}
use Rattle.f77_ast.specs.Steps.{◌>>=◌}
use Rattle.f77_ast.specs.Places.{Constant, Variable, Function, Places}
use Rattle.f77_ast.specs.Values.{value}
use Rattle.f77_ast.specs.Calls.{stored, actual}
use Rattle.f77_ast.specs.declared.symbol.Place.TheVariants.{Dummy}
use Rattle.f77_ast.specs.Symbols.{SymbolTree}
use Rattle.f77_ast.specs.Shared.{symbol_at}
use Rattle.tracked_cells.specs.Standing.{has_bounds, is_int_scalar}
use Rattle.storage_layout.specs.Symbols.{symbols_of}
use Rattle.laws_programs.specs.SymbolTables.Laws.{NoDummies}
use Rattle.call_graph.specs.declared.graph.Graph.{Graph}
use Rattle.call_graph.specs.Actuals.{symbol_with_name, is_array}
use Rattle.f77_meaning.specs.Modules.{names}
use Rattle.laws_programs.specs.Storage.Programs.{IsLinked, IsModule, IsCell}

-- each table is that of its module
abbrev pub AreLaidOut : List ParsedTree → List (List SymbolTree) → Type 0
AreLaidOut ps sss = (i : ℕ) (p : ParsedTree) (ss : List SymbolTree) → IsModule ps sss i p ss → symbols_of p ≡ Ok ss

-- ---- one actual

-- a name stands for a variable
pub record IsNamed (ss : List SymbolTree) (x : List ℕ) (v : ℕ) (s : SymbolTree) : Type 0 where
  pub meant : names ss x ≡ Variable v
  pub is_symbol : symbol_at ss v ≡ Some s

-- what reading refuses: parentheses behind a name that is none of an array or of a function, or an array that is a constant
pub data IsMisread (ss : List SymbolTree) (e : ExprTree) : Type 0 where
  indexed : (x : List ℕ) (es : ExprTrees) → e ≡ tree.element x es → is_array (symbol_with_name ss x) ≡ false → (names ss x ≡ Function → ⊥) → IsMisread ss e
  constant_array : (x : List ℕ) (c : Content) → is_array (symbol_with_name ss x) ≡ true → names ss x ≡ Constant c → IsMisread ss e

-- a dummy d of what is called takes the actual e of a module with these symbols
pub data Takes (ss : List SymbolTree) (e : ExprTree) (d : SymbolTree) : Type 0 where
  -- a scalar takes a scalar variable of its type
  takes_scalar : (x : List ℕ) (v : ℕ) (s : SymbolTree) → e ≡ tree.name x → IsNamed ss x v s → s.bounds ≡ [] → d.bounds ≡ [] → s.scalar ≡ d.scalar → Takes ss e d
  -- an array takes an array
  takes_array : (x : List ℕ) (v : ℕ) (s : SymbolTree) → e ≡ tree.name x → IsNamed ss x v s → has_bounds s.bounds ≡ true → has_bounds d.bounds ≡ true → s.scalar ≡ d.scalar → Takes ss e d
  -- each takes an element
  takes_element : (x : List ℕ) (es : ExprTrees) (v : ℕ) (s : SymbolTree) → e ≡ tree.element x es → IsNamed ss x v s → has_bounds s.bounds ≡ true → s.scalar ≡ d.scalar → Takes ss e d
  -- a scalar takes the value of any other expression, which is put into a unit of its own
  takes_value : d.bounds ≡ [] → ((at : Places) (u : ℕ) → actual e (names ss) at u ≡ (value e (names ss) at >>= stored u)) → Takes ss e d
  misread : IsMisread ss e → Takes ss e d

-- each actual, from left to right, goes to a dummy, the first of which has this number, and no dummy is left
abbrev pub Args : List SymbolTree → ExprTrees → ℕ → List SymbolTree → Type 0
Args ss tree.no_exprs m ds = NoDummies ds
Args ss (tree.more_exprs e es) m [] = ⊥
Args ss (tree.more_exprs e es) m (d ∷ ds) = (d.place ≡ Dummy m) × Takes ss e d × Args ss es (suc m) ds

-- ---- CALLs

-- a CALL in a module with these symbols has a subroutine of its name, whose dummies take its actuals
pub record CallFits (ps : List ParsedTree) (sss : List (List SymbolTree)) (ss : List SymbolTree) (x : List ℕ) (es : ExprTrees) : Type 0 where
  pub at : ℕ
  pub callee : ParsedTree
  pub table : List SymbolTree
  pub is_module : IsModule ps sss at callee table
  pub is_named : callee.module_read.name ≡ x
  pub is_subroutine : callee.module_read.main ≡ false
  pub args : Args ss es 1 table

abbrev mutual
  -- of each CALL in it, with its number, this holds
  pub EachCall : (ℕ → List ℕ → ExprTrees → Type 0) → StmtTrees → Type 0
  EachCall C tree.no_stmts = Unit {0}
  EachCall C (tree.more_stmts s rest) = CallsOf C s × EachCall C rest

  pub CallsOf : (ℕ → List ℕ → ExprTrees → Type 0) → StmtTree → Type 0
  CallsOf C (tree.stmt n label w) = CallsIn C n w

  pub CallsIn : (ℕ → List ℕ → ExprTrees → Type 0) → ℕ → WhatTree → Type 0
  CallsIn C n (tree.assign a b) = Unit {0}
  CallsIn C n (tree.block_if arms other) = ArmCalls C arms × ElseCalls C other
  CallsIn C n (tree.logical_if e s) = CallsOf C s
  CallsIn C n (tree.do_loop l) = LoopCalls C l
  CallsIn C n (tree.call x es) = C n x es
  CallsIn C n (tree.goto l) = Unit {0}
  CallsIn C n tree.continue = Unit {0}
  CallsIn C n tree.return = Unit {0}
  CallsIn C n (tree.stop text) = Unit {0}
  CallsIn C n (tree.print es) = Unit {0}
  CallsIn C n (tree.read es) = Unit {0}

  pub ArmCalls : (ℕ → List ℕ → ExprTrees → Type 0) → ArmTrees → Type 0
  ArmCalls C tree.no_arms = Unit {0}
  ArmCalls C (tree.more_arms a rest) = OneArm C a × ArmCalls C rest

  pub OneArm : (ℕ → List ℕ → ExprTrees → Type 0) → ArmTree → Type 0
  OneArm C (tree.arm test body) = EachCall C body

  pub ElseCalls : (ℕ → List ℕ → ExprTrees → Type 0) → ElseTree → Type 0
  ElseCalls C tree.no_else = Unit {0}
  ElseCalls C (tree.otherwise body) = EachCall C body

  pub LoopCalls : (ℕ → List ℕ → ExprTrees → Type 0) → LoopTree → Type 0
  LoopCalls C (tree.loop index first last step body) = EachCall C body

-- each CALL of modules that link is such
abbrev pub CallsFit : Type 0
CallsFit = (ps : List ParsedTree) (sss : List (List SymbolTree)) (g : Graph) → IsLinked ps sss g → AreLaidOut ps sss → (i : ℕ) (p : ParsedTree) (ss : List SymbolTree) → IsModule ps sss i p ss →
    EachCall (λ n x es. CallFits ps sss ss x es) p.module_read.body

-- no actual is misread
abbrev pub AllRead : List SymbolTree → ExprTrees → Type 0
AllRead ss tree.no_exprs = Unit {0}
AllRead ss (tree.more_exprs e es) = (IsMisread ss e → ⊥) × AllRead ss es

-- so it is in each CALL of a module that is not refused
abbrev pub CallsAreRead : Type 0
CallsAreRead = (p : ParsedTree) (ss : List SymbolTree) → symbols_of p ≡ Ok ss → EachCall (λ n x es. AllRead ss es) p.module_read.body

-- ---- dummies

-- the tracked cells among the dummies are just the INTEGER scalars
abbrev pub DummiesAreTracked : Type 0
DummiesAreTracked = (g : Graph) (p : ParsedTree) (ss : List SymbolTree) → symbols_of p ≡ Ok ss → (n k : ℕ) (s : SymbolTree) → symbol_at ss n ≡ Some s → s.place ≡ Dummy k → is_int_scalar s ≡ true → IsCell g p ss n s
