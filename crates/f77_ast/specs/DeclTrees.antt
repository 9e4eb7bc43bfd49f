-- Specification statements and modules as plain data.
use Rattle.std.specs.Prelude.{ℕ, Bool, List, Option}
use Rattle.f77_ast.specs.declared.decl.ImplicitPart.{ImplicitPart}
use Rattle.f77_ast.specs.declared.decl.SaveItem.{SaveItem}
use Rattle.f77_ast.specs.declared.module.FunctionForm.{FunctionForm}
use Rattle.f77_ast.specs.declared.places.Places.{Places}
use Rattle.f77_ast.specs.Trees.{ExprTree, StmtTrees}

-- a dimension as it is written: no lower bound, or `*`, where there is None
pub record ExtentTree : Type 0 where
  pub low : Option ExprTree
  pub high : Option ExprTree

pub record EntityTree : Type 0 where
  pub name : List ℕ
  pub bounds : List ExtentTree

pub record SettingTree : Type 0 where
  pub name : List ℕ
  pub value : ExprTree

pub record CommonTree : Type 0 where
  pub block : List ℕ
  pub members : List EntityTree

pub record DataValueTree : Type 0 where
  pub repeat : Option ℕ
  pub value : ExprTree

pub record DataTree : Type 0 where
  pub targets : List ExprTree
  pub values : List DataValueTree

-- a specification statement
pub data DeclTree : Type 0 where
  implicit : Option (List ImplicitPart) → DeclTree
  integer : List EntityTree → DeclTree
  logical : List EntityTree → DeclTree
  dimension : List EntityTree → DeclTree
  parameter : List SettingTree → DeclTree
  common : List CommonTree → DeclTree
  equivalence : List (List ExprTree) → DeclTree
  save : List SaveItem → DeclTree
  initial : List DataTree → DeclTree

-- a main program or a subroutine
pub record ModuleTree : Type 0 where
  pub name : List ℕ
  pub main : Bool
  pub titled : Bool
  pub dummies : List (List ℕ)
  pub decls : List DeclTree
  pub body : StmtTrees
  -- the form of its FUNCTION statement, for a function
  pub function : Option FunctionForm
  -- the block IFs that stand for an assignment of the value of a function, and those that stand for a DO WHILE
  pub references : List ℕ
  pub whiles : List ℕ

-- a module that was read, and where its statements stood
pub record ParsedTree : Type 0 where
  pub module_read : ModuleTree
  pub places : Places
