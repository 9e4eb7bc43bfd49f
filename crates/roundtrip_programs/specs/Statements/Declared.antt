-- The specification statements that the grammar gives.
use Rattle.std.specs.Prelude.{◌≡◌, ℕ, ◌<◌, ◌≤◌, List, [], ◌∷◌, Option, Some, None, true, pos, codes}
use Rattle.std.specs.Char.{is_ascii_uppercase}
use Rattle.f77_ast.specs.declared.expr.UnaryOp.TheVariants.{Plus, Minus}
use Rattle.f77_ast.specs.declared.decl.Letters.{Letters}
use Rattle.f77_ast.specs.declared.decl.ImplicitPart.{ImplicitPart}
use Rattle.f77_ast.specs.declared.decl.SaveItem.{SaveItem}
use Rattle.f77_ast.specs.declared.decl.SaveItem.TheVariants.{Name, Block}
use Rattle.f77_ast.specs.Trees.{ExprTree, int, log, unary}
use Rattle.f77_ast.specs.DeclTrees.{ExtentTree, EntityTree, SettingTree, CommonTree, DataValueTree, DataTree, DeclTree, implicit, integer, logical, dimension, parameter, common, equivalence, save, initial}
use Rattle.f77_exprs.specs.Words.{after}
use Rattle.roundtrip_programs.specs.Statements.Formed.{IsName, Each, Filled, IsExpression, IsVariable}

abbrev pub MaybeExpression : Option ExprTree → Type 0
MaybeExpression None = Unit {0}
MaybeExpression (Some e) = IsExpression e

pub record IsExtent (x : ExtentTree) : Type 0 where
  pub low : MaybeExpression x.low
  pub high : MaybeExpression x.high

pub record IsEntity (e : EntityTree) : Type 0 where
  pub name : IsName e.name
  pub bounds : Each IsExtent e.bounds

pub record IsArray (e : EntityTree) : Type 0 where
  pub name : IsName e.name
  pub bounds : Filled IsExtent e.bounds

-- a range that does not run backwards
pub record IsRange (l : Letters) : Type 0 where
  pub first : is_ascii_uppercase l.first ≡ true
  pub last : is_ascii_uppercase l.last ≡ true
  pub ordered : l.first ≤ l.last

abbrev pub IsPart : ImplicitPart → Type 0
IsPart p = Filled IsRange p.ranges

abbrev pub MaybeParts : Option (List ImplicitPart) → Type 0
MaybeParts None = Unit {0}
MaybeParts (Some parts) = Filled IsPart parts

pub record IsSetting (s : SettingTree) : Type 0 where
  pub name : IsName s.name
  pub value : IsExpression s.value

-- the name of a block, or nothing for the blank block
abbrev pub IsBlock : List ℕ → Type 0
IsBlock [] = Unit {0}
IsBlock (c ∷ cs) = IsName (c ∷ cs)

pub record IsCommon (c : CommonTree) : Type 0 where
  pub block : IsBlock c.block
  pub members : Filled IsEntity c.members

-- two or more
abbrev pub IsGroup : List ExprTree → Type 0
IsGroup [] = ⊥
IsGroup (v ∷ vs) = record { first : IsVariable v; others : Filled IsVariable vs }

abbrev pub IsSaved : SaveItem → Type 0
IsSaved (Name n) = IsName n
IsSaved (Block b) = IsName b

-- an integer with a sign or none, or a logical constant
pub data IsConstant : ExprTree → Type 0 where
  truth : (b : _) → IsConstant (log b)
  whole : (n : ℕ) → n < 2147483648 → IsConstant (int (pos n))
  raised : (n : ℕ) → n < 2147483648 → IsConstant (unary Plus (int (pos n)))
  lowered : (n : ℕ) → n < 2147483648 → IsConstant (unary Minus (int (pos n)))

abbrev pub MaybeCount : Option ℕ → Type 0
MaybeCount None = Unit {0}
MaybeCount (Some n) = n < 2147483648

pub record IsValue (v : DataValueTree) : Type 0 where
  pub repeat : MaybeCount v.repeat
  pub value : IsConstant v.value

pub record IsInitial (g : DataTree) : Type 0 where
  pub targets : Filled IsVariable g.targets
  pub values : Filled IsValue g.values

-- names of which the first does not go on to INTEGER FUNCTION or LOGICAL FUNCTION
abbrev pub AreTyped : List EntityTree → Type 0
AreTyped [] = ⊥
AreTyped (e ∷ es) = record { first : IsEntity e; others : Each IsEntity es; function : after (codes "FUNCTION") e.name ≡ None }

abbrev pub IsDecl : DeclTree → Type 0
IsDecl (implicit parts) = MaybeParts parts
IsDecl (integer es) = AreTyped es
IsDecl (logical es) = AreTyped es
IsDecl (dimension es) = Filled IsArray es
IsDecl (parameter ss) = Filled IsSetting ss
IsDecl (common cs) = Filled IsCommon cs
IsDecl (equivalence gs) = Filled IsGroup gs
IsDecl (save is) = Each IsSaved is
IsDecl (initial gs) = Filled IsInitial gs
