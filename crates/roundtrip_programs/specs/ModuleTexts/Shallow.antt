-- Modules whose blocks stand at most 64 in one another.
use Rattle.std.specs.Prelude.{◌≡◌, ℕ, suc, false, nat_le}
use Rattle.f77_ast.specs.Trees.{StmtTree, stmt, WhatTree, assign, block_if, logical_if, do_loop, call, goto, continue, return, stop, print, read, arm, ArmTrees, no_arms, more_arms, ElseTree, no_else, otherwise, LoopTree, loop, StmtTrees, no_stmts, more_stmts}
use Rattle.f77_ast.specs.DeclTrees.{ModuleTree}
use Rattle.f77_parser.specs.Elaborated.{meant_in}
use Rattle.roundtrip_programs.specs.ModuleTexts.Folded.{folded, WhilesFit}

-- a block more may stand in so many
abbrev pub HasRoom : ℕ → Type 0
HasRoom n = nat_le 64 n ≡ false

abbrev mutual
  -- in so many open blocks
  pub IsShallow : ℕ → StmtTree → Type 0
  IsShallow n (stmt id label w) = ShallowBelow n w

  pub ShallowBelow : ℕ → WhatTree → Type 0
  ShallowBelow n (assign v e) = Unit {0}
  ShallowBelow n (block_if arms other) = record { room : HasRoom n; parts : ShallowArms (suc n) arms; last : ShallowElse (suc n) other }
  ShallowBelow n (logical_if e s) = Unit {0}
  ShallowBelow n (do_loop l) = record { room : HasRoom n; below : ShallowBody (suc n) l }
  ShallowBelow n (call c es) = Unit {0}
  ShallowBelow n (goto l) = Unit {0}
  ShallowBelow n continue = Unit {0}
  ShallowBelow n return = Unit {0}
  ShallowBelow n (stop t) = Unit {0}
  ShallowBelow n (print es) = Unit {0}
  ShallowBelow n (read es) = Unit {0}

  pub ShallowBody : ℕ → LoopTree → Type 0
  ShallowBody n (loop index first last step body) = AreShallow n body

  pub ShallowArms : ℕ → ArmTrees → Type 0
  ShallowArms n no_arms = Unit {0}
  ShallowArms n (more_arms (arm test body) others) = record { below : AreShallow n body; parts : ShallowArms n others }

  pub ShallowElse : ℕ → ElseTree → Type 0
  ShallowElse n no_else = Unit {0}
  ShallowElse n (otherwise body) = AreShallow n body

  pub AreShallow : ℕ → StmtTrees → Type 0
  AreShallow n no_stmts = Unit {0}
  AreShallow n (more_stmts s others) = record { first : IsShallow n s; behind : AreShallow n others }

-- as they are written
pub record IsNested (m : ModuleTree) : Type 0 where
  pub shallow : AreShallow 0 (folded m).body
  pub whiles : WhilesFit (meant_in m).is_while (folded m).body
