-- The statements of a module that is built, as it is written, are numbered in the order of the text, and a logical IF has a plain statement.
use Rattle.std.proofs.Common.{◌≡◌, ℕ, ◌+◌, Bool, List, [], ◌∷◌, ◌++◌}
use Rattle.std.specs.Prelude.{Option, None}
use Rattle.f77_ast.specs.declared.places.Part.TheVariants as parts
use Rattle.f77_ast.specs.Trees.{StmtTree, stmt, WhatTree, assign, block_if, logical_if, do_loop, call, goto, continue, return, stop, print, read, arm, ArmTrees, no_arms, more_arms, ElseTree, no_else, otherwise, LoopTree, loop, StmtTrees, no_stmts, more_stmts}
use Rattle.f77_ast.specs.DeclTrees.{ModuleTree}
use Rattle.f77_statements.specs.Phrases.{end_do, end_module}
use Rattle.f77_parser.specs.Elaborated.{meant_in}
use Rattle.roundtrip_programs.specs.Statements.Formed.{Each}
use Rattle.roundtrip_programs.specs.Statements.Phrased.{IsWhat, IsPhrase}
use Rattle.roundtrip_programs.specs.ModuleTexts.Cards.{Card, card, if_end, cards_of, cards_by, body_cards, block_cards, part_cards, else_cards, cards_in, title_cards, decl_cards, statements_of}
use Rattle.roundtrip_programs.specs.ModuleTexts.Folded.{folded}
use Rattle.roundtrip_programs.specs.ModuleTexts.Numbered.{last_of, last_arms, last_in, IsNumbered, NumberedBelow, NumberedBody, NumberedBlock, NumberedArms, NumberedElse, AreNumbered}
use Rattle.roundtrip_programs.proofs.ModuleTexts.Kept.{Held}
use Rattle.roundtrip_programs.proofs.ModuleTexts.Cards.{Any as AnyLabel}

abbrev pub InnerOrdered : ℕ → StmtTree → Type 0
InnerOrdered n (stmt id label w) = (id ≡ n + 1) × IsWhat w

-- statements behind so many others
abbrev mutual
  pub StmtOrdered : ℕ → StmtTree → Type 0
  StmtOrdered n (stmt id label w) = (id ≡ n + 1) × BelowOrdered (n + 1) w

  pub BelowOrdered : ℕ → WhatTree → Type 0
  BelowOrdered n (assign v e) = Unit {0}
  BelowOrdered n (block_if arms other) = ArmsOrdered n arms × ElseOrdered (last_arms n arms) other
  BelowOrdered n (logical_if e s) = InnerOrdered n s
  BelowOrdered n (do_loop l) = LoopOrdered n l
  BelowOrdered n (call c es) = Unit {0}
  BelowOrdered n (goto l) = Unit {0}
  BelowOrdered n continue = Unit {0}
  BelowOrdered n return = Unit {0}
  BelowOrdered n (stop t) = Unit {0}
  BelowOrdered n (print es) = Unit {0}
  BelowOrdered n (read es) = Unit {0}

  pub LoopOrdered : ℕ → LoopTree → Type 0
  LoopOrdered n (loop index first last step body) = ListOrdered n body

  pub ArmsOrdered : ℕ → ArmTrees → Type 0
  ArmsOrdered n no_arms = Unit {0}
  ArmsOrdered n (more_arms (arm test body) others) = ListOrdered n body × ArmsOrdered (last_in n body) others

  pub ElseOrdered : ℕ → ElseTree → Type 0
  ElseOrdered n no_else = Unit {0}
  ElseOrdered n (otherwise body) = ListOrdered n body

  pub ListOrdered : ℕ → StmtTrees → Type 0
  ListOrdered n no_stmts = Unit {0}
  ListOrdered n (more_stmts s others) = StmtOrdered n s × ListOrdered (last_of n s) others

-- ---- statements that the grammar gives

abbrev pub AllFormed : List Card → Type 0
AllFormed cs = Each (Held AnyLabel IsPhrase) cs

pub split : (xs ys : List Card) → AllFormed (xs ++ ys) → AllFormed xs × AllFormed ys
split [] ys h = (tt, h)
split (x ∷ xs) ys h = let r = split xs ys h.others in (record { first = h.first; others = r.0 }, r.1)

mutual
  list_ordered : (f : ℕ → Bool) (n : ℕ) (t : StmtTrees) → AreNumbered n t → AllFormed (cards_in f t) → ListOrdered n t
  list_ordered f n no_stmts a h = tt
  list_ordered f n (more_stmts s others) a h = let r = split (cards_of f s) (cards_in f others) h in (stmt_ordered f n s a.first r.0, list_ordered f (last_of n s) others a.behind r.1)

  stmt_ordered : (f : ℕ → Bool) (n : ℕ) (s : StmtTree) → IsNumbered n s → AllFormed (cards_of f s) → StmtOrdered n s
  stmt_ordered f n (stmt id label w) a h = (a.number, below_ordered f (n + 1) id label w a.below h)

  below_ordered : (f : ℕ → Bool) (n id : ℕ) (label : Option ℕ) (w : WhatTree) → NumberedBelow n w → AllFormed (cards_by f id label w) → BelowOrdered n w
  below_ordered f n id label (assign v e) a h = tt
  below_ordered f n id label (block_if arms other) a h =
      let r = block_ordered f n id label arms (else_cards f id other ++ card (parts.Close id) None (if_end (f id)) ∷ []) a.parts h in
      (r.0, else_ordered f (last_arms n arms) id other a.last (split (else_cards f id other) (card (parts.Close id) None (if_end (f id)) ∷ []) r.1).0)
  below_ordered f n id label (logical_if e (stmt inner own w)) a h = (a.number, h.first.1.inner)
  below_ordered f n id label (do_loop l) a h = loop_ordered f n id l a h.others
  below_ordered f n id label (call c es) a h = tt
  below_ordered f n id label (goto l) a h = tt
  below_ordered f n id label continue a h = tt
  below_ordered f n id label return a h = tt
  below_ordered f n id label (stop t) a h = tt
  below_ordered f n id label (print es) a h = tt
  below_ordered f n id label (read es) a h = tt

  loop_ordered : (f : ℕ → Bool) (n id : ℕ) (l : LoopTree) → NumberedBody n l → AllFormed (body_cards f id l) → LoopOrdered n l
  loop_ordered f n id (loop index first last step body) a h = list_ordered f n body a (split (cards_in f body) (card (parts.Close id) None end_do ∷ []) h).0

  block_ordered : (f : ℕ → Bool) (n id : ℕ) (label : Option ℕ) (arms : ArmTrees) (end : List Card) → NumberedBlock n arms → AllFormed (block_cards f id label arms end) → ArmsOrdered n arms × AllFormed end
  block_ordered f n id label no_arms end a h = absurd a
  block_ordered f n id label (more_arms (arm test body) others) end a h =
      let r = split (cards_in f body) (part_cards f id 1 others end) h.others in
      let q = arms_ordered f (last_in n body) id 1 others end a.parts r.1 in
      ((list_ordered f n body a.below r.0, q.0), q.1)

  arms_ordered : (f : ℕ → Bool) (n id place : ℕ) (arms : ArmTrees) (end : List Card) → NumberedArms n arms → AllFormed (part_cards f id place arms end) → ArmsOrdered n arms × AllFormed end
  arms_ordered f n id place no_arms end a h = (tt, h)
  arms_ordered f n id place (more_arms (arm test body) others) end a h =
      let r = split (cards_in f body) (part_cards f id (place + 1) others end) h.others in
      let q = arms_ordered f (last_in n body) id (place + 1) others end a.parts r.1 in
      ((list_ordered f n body a.below r.0, q.0), q.1)

  else_ordered : (f : ℕ → Bool) (n id : ℕ) (other : ElseTree) → NumberedElse n other → AllFormed (else_cards f id other) → ElseOrdered n other
  else_ordered f n id no_else a h = tt
  else_ordered f n id (otherwise body) a h = list_ordered f n body a h.others

-- ---- modules

pub title_formed : (m : ModuleTree) → AllFormed (statements_of m) → AllFormed (title_cards m)
unfolding statements_of
title_formed m h =
    let cards = cards_in (meant_in m).is_while (folded m).body in
    let all = (split (title_cards m ++ decl_cards 0 m.decls ++ cards) (card parts.End None end_module ∷ []) h).0 in
    let front = (split (title_cards m ++ decl_cards 0 m.decls) cards all).0 in
    (split (title_cards m) (decl_cards 0 m.decls) front).0

-- the statements as they are written
pub body_formed : (m : ModuleTree) → AllFormed (statements_of m) → AllFormed (cards_in (meant_in m).is_while (folded m).body)
unfolding statements_of
body_formed m h =
    let cards = cards_in (meant_in m).is_while (folded m).body in
    let all = (split (title_cards m ++ decl_cards 0 m.decls ++ cards) (card parts.End None end_module ∷ []) h).0 in
    (split (title_cards m ++ decl_cards 0 m.decls) cards all).1

pub body_ordered : (m : ModuleTree) → AreNumbered 0 (folded m).body → AllFormed (statements_of m) → ListOrdered 0 (folded m).body
body_ordered m a h = list_ordered (meant_in m).is_while 0 (folded m).body a (body_formed m h)
