-- How many GO TOs statements have: no more than the statements that are written of them.
use Rattle.std.proofs.Common.{ℕ, ◌+◌, ◌≤◌, Bool, List, [], ◌∷◌, ◌++◌, arith}
use Rattle.std.specs.Prelude.{Option, None}
use Rattle.f77_ast.specs.declared.places.Part.TheVariants as parts
use Rattle.f77_ast.specs.Trees.{StmtTree, stmt, WhatTree, assign, block_if, logical_if, do_loop, call, goto, continue, return, stop, print, read, arm, ArmTrees, no_arms, more_arms, ElseTree, no_else, otherwise, LoopTree, loop, StmtTrees, no_stmts, more_stmts}
use Rattle.f77_statements.specs.Phrases.{end_do}
use Rattle.f77_structure.specs.declared.mark.Action.{Action}
use Rattle.f77_structure.specs.declared.mark.Action.TheVariants.{Goto, Return, Stop, Other}
use Rattle.f77_parser.specs.Roles.{action_of}
use Rattle.laws_programs.specs.roundtrip_programs.ModuleTexts.Cards.{Card, card, if_end, cards_of, cards_by, block_cards, part_cards, else_cards, cards_in}
use Rattle.laws_programs.specs.roundtrip_programs.ModuleTexts.Numbered.{last_of, last_arms, last_in, IsNumbered, NumberedBelow, NumberedBody, NumberedBlock, NumberedArms, NumberedElse, AreNumbered}
use Rattle.laws_programs.proofs.RoundtripPrograms.ModuleTexts.Tally.{count_of, count-append}
use Rattle.laws_programs.proofs.RoundtripPrograms.ModuleTexts.TreeOutlines.{acting as action_in}

abbrev pub one_going : Action → ℕ
one_going (Goto l) = 1
one_going Return = 0
one_going Stop = 0
one_going Other = 0

abbrev mutual
  pub goings_of : StmtTree → ℕ
  goings_of (stmt id label w) = goings_by w

  pub goings_by : WhatTree → ℕ
  goings_by (assign v e) = 0
  goings_by (block_if arms other) = goings_arms arms + goings_else other
  goings_by (logical_if e s) = one_going (action_in s)
  goings_by (do_loop l) = goings_body l
  goings_by (call n es) = 0
  goings_by (goto l) = 1
  goings_by continue = 0
  goings_by return = 0
  goings_by (stop t) = 0
  goings_by (print es) = 0
  goings_by (read es) = 0

  pub goings_body : LoopTree → ℕ
  goings_body (loop index first last step body) = goings_in body

  pub goings_arms : ArmTrees → ℕ
  goings_arms no_arms = 0
  goings_arms (more_arms (arm test body) others) = goings_in body + goings_arms others

  pub goings_else : ElseTree → ℕ
  goings_else no_else = 0
  goings_else (otherwise body) = goings_in body

  pub goings_in : StmtTrees → ℕ
  goings_in no_stmts = 0
  goings_in (more_stmts s others) = goings_of s + goings_in others

one_least : (a : Action) → one_going a ≤ 1
one_least (Goto l) = omega arith
one_least Return = omega arith
one_least Stop = omega arith
one_least Other = omega arith

-- the statements of two lists of cards
both : (xs ys : List Card) (m n : ℕ) → m ≤ count_of xs → n ≤ count_of ys → m + n ≤ count_of (xs ++ ys)
both xs ys m n h k = let e = count-append xs ys in omega (arith, h, k, e)

mutual
  list_size : (f : ℕ → Bool) (n : ℕ) (t : StmtTrees) → AreNumbered n t → goings_in t ≤ count_of (cards_in f t)
  list_size f n no_stmts a = omega arith
  list_size f n (more_stmts s others) a = both (cards_of f s) (cards_in f others) (goings_of s) (goings_in others) (stmt_size f n s a.first) (list_size f (last_of n s) others a.behind)

  stmt_size : (f : ℕ → Bool) (n : ℕ) (s : StmtTree) → IsNumbered n s → goings_of s ≤ count_of (cards_of f s)
  stmt_size f n (stmt id label w) a = what_size f (n + 1) id label w a.below

  what_size : (f : ℕ → Bool) (n id : ℕ) (label : Option ℕ) (w : WhatTree) → NumberedBelow n w → goings_by w ≤ count_of (cards_by f id label w)
  what_size f n id label (assign v e) a = omega arith
  what_size f n id label (block_if arms other) a =
      let end = else_cards f id other ++ card (parts.Close id) None (if_end (f id)) ∷ [] in
      block_size f n id label arms end a.parts (goings_else other) (else_end f (last_arms n arms) id other a.last)
  what_size f n id label (logical_if e (stmt inner own w)) a = let h = one_least (action_of w) in omega (arith, h)
  what_size f n id label (do_loop l) a = body_size f n id label l a
  what_size f n id label (call c es) a = omega arith
  what_size f n id label (goto l) a = omega arith
  what_size f n id label continue a = omega arith
  what_size f n id label return a = omega arith
  what_size f n id label (stop t) a = omega arith
  what_size f n id label (print es) a = omega arith
  what_size f n id label (read es) a = omega arith

  body_size : (f : ℕ → Bool) (n id : ℕ) (label : Option ℕ) (l : LoopTree) → NumberedBody n l → goings_body l ≤ count_of (cards_by f id label (do_loop l))
  body_size f n id label (loop index first last step body) a =
      let h = list_size f n body a in
      let e = count-append (cards_in f body) (card (parts.Close id) None end_do ∷ []) in
      omega (arith, h, e)

  block_size : (f : ℕ → Bool) (n id : ℕ) (label : Option ℕ) (arms : ArmTrees) (end : List Card) → NumberedBlock n arms → (m : ℕ) → m ≤ count_of end → goings_arms arms + m ≤ count_of (block_cards f id label arms end)
  block_size f n id label no_arms end a m h = absurd a
  block_size f n id label (more_arms (arm test body) others) end a m h =
      let r = list_size f n body a.below in
      let q = arms_size f (last_in n body) id 1 others end a.parts m h in
      let e = count-append (cards_in f body) (part_cards f id 1 others end) in
      omega (arith, r, q, e)

  arms_size : (f : ℕ → Bool) (n id place : ℕ) (arms : ArmTrees) (end : List Card) → NumberedArms n arms → (m : ℕ) → m ≤ count_of end → goings_arms arms + m ≤ count_of (part_cards f id place arms end)
  arms_size f n id place no_arms end a m h = omega (arith, h)
  arms_size f n id place (more_arms (arm test body) others) end a m h =
      let r = list_size f n body a.below in
      let q = arms_size f (last_in n body) id (place + 1) others end a.parts m h in
      let e = count-append (cards_in f body) (part_cards f id (place + 1) others end) in
      omega (arith, r, q, e)

  else_end : (f : ℕ → Bool) (n id : ℕ) (other : ElseTree) → NumberedElse n other → goings_else other ≤ count_of (else_cards f id other ++ card (parts.Close id) None (if_end (f id)) ∷ [])
  else_end f n id no_else a = omega arith
  else_end f n id (otherwise body) a =
      let r = list_size f n body a in
      let e = count-append (cards_in f body) (card (parts.Close id) None (if_end (f id)) ∷ []) in
      omega (arith, r, e)

pub goings_few : (f : ℕ → Bool) (t : StmtTrees) → AreNumbered 0 t → goings_in t ≤ count_of (cards_in f t)
goings_few f t a = list_size f 0 t a
