-- Modules as reading gives them: the executable statements numbered from 1 in the order of the text, and a title that fits.
use Rattle.std.specs.Prelude.{◌≡◌, ℕ, ◌+◌, ◌≤◌, Bool, true, false, List, [], ◌∷◌, ◌++◌, Option, Some, None, codes}
use Rattle.f77_ast.specs.declared.module.FunctionForm.{FunctionForm}
use Rattle.f77_ast.specs.Trees.{StmtTree, stmt, WhatTree, assign, block_if, logical_if, do_loop, call, goto, continue, return, stop, print, read, arm, ArmTrees, no_arms, more_arms, ElseTree, no_else, otherwise, LoopTree, loop, StmtTrees, no_stmts, more_stmts}
use Rattle.f77_ast.specs.DeclTrees.{ModuleTree}
use Rattle.f77_printer.specs.ModuleText.{titled_dummies}
use Rattle.f77_parser.specs.Elaborated.{meant_in, elaborated}
use Rattle.roundtrip_programs.specs.ModuleTexts.Folded.{folded, WhilesFit}
use Rattle.roundtrip_programs.specs.ModuleTexts.Cards.{cards_in, while_numbers}

-- ---- the number of the last statement, behind so many others

abbrev mutual
  pub last_of : ℕ → StmtTree → ℕ
  last_of n (stmt id label w) = last_by (n + 1) w

  -- this statement having the number
  pub last_by : ℕ → WhatTree → ℕ
  last_by n (assign v e) = n
  last_by n (block_if arms other) = last_else (last_arms n arms) other
  last_by n (logical_if e s) = n + 1
  last_by n (do_loop l) = last_body n l
  last_by n (call c es) = n
  last_by n (goto l) = n
  last_by n continue = n
  last_by n return = n
  last_by n (stop t) = n
  last_by n (print es) = n
  last_by n (read es) = n

  pub last_body : ℕ → LoopTree → ℕ
  last_body n (loop index first last step body) = last_in n body

  pub last_arms : ℕ → ArmTrees → ℕ
  last_arms n no_arms = n
  last_arms n (more_arms (arm test body) others) = last_arms (last_in n body) others

  pub last_else : ℕ → ElseTree → ℕ
  last_else n no_else = n
  last_else n (otherwise body) = last_in n body

  pub last_in : ℕ → StmtTrees → ℕ
  last_in n no_stmts = n
  last_in n (more_stmts s others) = last_in (last_of n s) others

-- ---- statements that are numbered behind so many others

-- the statement in a logical IF has the next number, and no label
abbrev pub IsInner : ℕ → StmtTree → Type 0
IsInner n (stmt id label w) = record { number : id ≡ n + 1; bare : label ≡ None }

abbrev mutual
  pub IsNumbered : ℕ → StmtTree → Type 0
  IsNumbered n (stmt id label w) = record { number : id ≡ n + 1; below : NumberedBelow (n + 1) w }

  pub NumberedBelow : ℕ → WhatTree → Type 0
  NumberedBelow n (assign v e) = Unit {0}
  NumberedBelow n (block_if arms other) = record { parts : NumberedBlock n arms; last : NumberedElse (last_arms n arms) other }
  NumberedBelow n (logical_if e s) = IsInner n s
  NumberedBelow n (do_loop l) = NumberedBody n l
  NumberedBelow n (call c es) = Unit {0}
  NumberedBelow n (goto l) = Unit {0}
  NumberedBelow n continue = Unit {0}
  NumberedBelow n return = Unit {0}
  NumberedBelow n (stop t) = Unit {0}
  NumberedBelow n (print es) = Unit {0}
  NumberedBelow n (read es) = Unit {0}

  pub NumberedBody : ℕ → LoopTree → Type 0
  NumberedBody n (loop index first last step body) = AreNumbered n body

  -- a block IF has a part
  pub NumberedBlock : ℕ → ArmTrees → Type 0
  NumberedBlock n no_arms = ⊥
  NumberedBlock n (more_arms (arm test body) others) = record { below : AreNumbered n body; parts : NumberedArms (last_in n body) others }

  pub NumberedArms : ℕ → ArmTrees → Type 0
  NumberedArms n no_arms = Unit {0}
  NumberedArms n (more_arms (arm test body) others) = record { below : AreNumbered n body; parts : NumberedArms (last_in n body) others }

  pub NumberedElse : ℕ → ElseTree → Type 0
  NumberedElse n no_else = Unit {0}
  NumberedElse n (otherwise body) = AreNumbered n body

  pub AreNumbered : ℕ → StmtTrees → Type 0
  AreNumbered n no_stmts = Unit {0}
  AreNumbered n (more_stmts s others) = record { first : IsNumbered n s; behind : AreNumbered (last_of n s) others }

-- ---- modules

-- of a main program or not, with a title that was written or not: a main program has no dummies, and without PROGRAM the name MAIN
abbrev pub TitleFits : Bool → Bool → List ℕ → List (List ℕ) → Type 0
TitleFits true true name dummies = dummies ≡ []
TitleFits true false name dummies = record { alone : dummies ≡ []; unnamed : name ≡ codes "MAIN" }
TitleFits false titled name dummies = titled ≡ false

-- the last dummy of a function is its name, and a main program is none
abbrev pub FunctionFits : Option FunctionForm → Bool → List ℕ → List (List ℕ) → Type 0
FunctionFits None main name dummies = Unit {0}
FunctionFits (Some form) main name dummies = record { called : main ≡ false; last : titled_dummies dummies ++ name ∷ [] ≡ dummies }

-- a module as it is written: its statements have numbers in the order of the text, of which its DO WHILEs are listed
pub record IsAsWritten (w : ModuleTree) : Type 0 where
  pub title : TitleFits w.main w.titled w.name w.dummies
  pub function : FunctionFits w.function w.main w.name w.dummies
  pub body : AreNumbered 0 w.body
  pub few : last_in 0 w.body ≤ 4096
  pub whiles : WhilesFit (meant_in w).is_while w.body
  pub listed : while_numbers (cards_in (meant_in w).is_while w.body) ≡ w.whiles
  pub plain : w.references ≡ []

-- a module that is elaborated from one that is written
pub record IsWell (m : ModuleTree) : Type 0 where
  pub title : TitleFits m.main m.titled m.name m.dummies
  pub function : FunctionFits m.function m.main m.name m.dummies
  pub body : AreNumbered 0 (folded m).body
  pub few : last_in 0 (folded m).body ≤ 4096
  pub whiles : WhilesFit (meant_in m).is_while (folded m).body
  pub listed : while_numbers (cards_in (meant_in m).is_while (folded m).body) ≡ m.whiles
  pub same : elaborated (folded m) ≡ m
