-- Numbers of statements in lists that grow at their ends.
use Rattle.std.proofs.Common.{◌≡◌, ℕ, ◌+◌, List, [], ◌∷◌, ◌++◌, refl}
use Rattle.std.specs.Prelude.{Some, None}
use Rattle.f77_ast.specs.Trees.{ExprTree, StmtTree, WhatTree, assign, block_if, logical_if, do_loop, call, goto, continue, return, stop, print, read, ArmTree, arm, ArmTrees, no_arms, more_arms, StmtTrees}
use Rattle.f77_ast.specs.PlainStmt.{stmts_of, arms_of}
use Rattle.f77_parser.specs.SoFar.{OpeningTree, opening_loop, opening_while, branches, AroundTree, what_of}
use Rattle.roundtrip_programs.specs.Statements.Phrased.{IsWhat}
use Rattle.roundtrip_programs.specs.ModuleTexts.Numbered.{last_of, last_by, last_in, last_arms, IsNumbered, NumberedBelow, NumberedBlock, NumberedArms, AreNumbered}

pub more-numbered : (n : ℕ) (l : List StmtTree) (s : StmtTree) → AreNumbered n (stmts_of l) → IsNumbered (last_in n (stmts_of l)) s → AreNumbered n (stmts_of (l ++ s ∷ []))
more-numbered n [] s h i = record { first = i; behind = tt }
more-numbered n (x ∷ l) s h i = record { first = h.first; behind = more-numbered (last_of n x) l s h.behind i }

pub last-more : (n : ℕ) (l : List StmtTree) (s : StmtTree) → last_in n (stmts_of (l ++ s ∷ [])) ≡ last_of (last_in n (stmts_of l)) s
last-more n [] s = refl
last-more n (x ∷ l) s = last-more (last_of n x) l s

pub block-arms : (n : ℕ) (t : ArmTrees) → NumberedBlock n t → NumberedArms n t
block-arms n no_arms h = absurd h
block-arms n (more_arms (arm test body) others) h = h

pub more-arms : (n : ℕ) (l : List ArmTree) (test : ExprTree) (body : StmtTrees) → NumberedArms n (arms_of l) → AreNumbered (last_arms n (arms_of l)) body
    → NumberedBlock n (arms_of (l ++ arm test body ∷ []))
more-arms n [] test body h i = record { below = i; parts = tt }
more-arms n (arm t b ∷ l) test body h i =
    record { below = h.below; parts = block-arms (last_in n b) (arms_of (l ++ arm test body ∷ [])) (more-arms (last_in n b) l test body h.parts i) }

pub last-arms-more : (n : ℕ) (l : List ArmTree) (test : ExprTree) (body : StmtTrees) → last_arms n (arms_of (l ++ arm test body ∷ [])) ≡ last_in (last_arms n (arms_of l)) body
last-arms-more n [] test body = refl
last-arms-more n (arm t b ∷ l) test body = last-arms-more (last_in n b) l test body

-- a statement that is one
pub plain-below : (w : WhatTree) (n : ℕ) → IsWhat w → NumberedBelow n w × (last_by n w ≡ n)
plain-below (assign v e) n h = (tt, refl)
plain-below (call c es) n h = (tt, refl)
plain-below (goto l) n h = (tt, refl)
plain-below continue n h = (tt, refl)
plain-below return n h = (tt, refl)
plain-below (stop t) n h = (tt, refl)
plain-below (print es) n h = (tt, refl)
plain-below (read es) n h = (tt, refl)
plain-below (block_if arms other) n h = absurd h
plain-below (logical_if e s) n h = absurd h
plain-below (do_loop l) n h = absurd h

-- ---- open blocks

-- the number of the last statement before the open list of a block
abbrev pub start_by : ℕ → OpeningTree → ℕ
start_by id (opening_loop d) = id
start_by id (opening_while l e) = id
start_by id (branches arms test) = last_arms id (arms_of arms)

abbrev pub start_of : List AroundTree → ℕ
start_of [] = 0
start_of (a ∷ os) = start_by a.id a.opening

-- the parts that are closed; an ELSE has one before it
abbrev pub OpeningFits : ℕ → OpeningTree → Type 0
OpeningFits id (opening_loop d) = Unit {0}
OpeningFits id (opening_while l e) = Unit {0}
OpeningFits id (branches arms (Some test)) = NumberedArms id (arms_of arms)
OpeningFits id (branches arms None) = NumberedBlock id (arms_of arms)

abbrev pub AroundFits : List AroundTree → Type 0
AroundFits [] = Unit {0}
AroundFits (a ∷ os) = record {
  list : AreNumbered (start_of os) (stmts_of a.before);
  number : a.id ≡ last_in (start_of os) (stmts_of a.before) + 1;
  closed : OpeningFits a.id a.opening;
  outer : AroundFits os;
}

pub whole-below : (id : ℕ) (o : OpeningTree) (l : List StmtTree) → OpeningFits id o → AreNumbered (start_by id o) (stmts_of l) → NumberedBelow id (what_of o l)
whole-below id (opening_loop d) l h i = i
whole-below id (opening_while k e) l h i = record { parts = record { below = i; parts = tt }; last = tt }
whole-below id (branches arms (Some test)) l h i = record { parts = more-arms id arms test (stmts_of l) h i; last = tt }
whole-below id (branches arms None) l h i = record { parts = h; last = i }

pub whole-last : (id : ℕ) (o : OpeningTree) (l : List StmtTree) → last_by id (what_of o l) ≡ last_in (start_by id o) (stmts_of l)
whole-last id (opening_loop d) l = refl
whole-last id (opening_while k e) l = refl
whole-last id (branches arms (Some test)) l = last-arms-more id arms test (stmts_of l)
whole-last id (branches arms None) l = refl
