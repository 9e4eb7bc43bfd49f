-- In a module without a fault a block IF that stands for a DO WHILE has one part.
use Rattle.std.proofs.Common.{◌≡◌, ℕ, ◌+◌, Bool, true, false, List, [], ◌∷◌, ◌++◌, refl, sym, ◌∙◌, subst}
use Rattle.std.specs.Prelude.{Option, Some, None, if◌then◌else◌}
use Rattle.f77_ast.specs.Trees.{ExprTree, StmtTree, stmt, WhatTree, assign, block_if, logical_if, do_loop, call, goto, continue, return, stop, print, read, ArmTree, arm, StmtTrees}
use Rattle.f77_ast.specs.PlainStmt.{stmts_of, arms_of}
use Rattle.f77_ast.specs.Shapes.{IsLeaf}
use Rattle.f77_statements.specs.Phrases.{PhraseTree, program, subroutine, function, specification, simple, else_if, else_part, end_if, do_head, while_head, end_do, end_module}
use Rattle.f77_statements.specs.Phrases as phrases
use Rattle.f77_parser.specs.Statements.{StatementTree}
use Rattle.f77_parser.specs.SoFar.{OpeningTree, opening_loop, opening_while, branches, AroundTree, SoFar, add_spot, add_executable, add_logical_if, open_block, add_while, what_of, leave_block, is_loop_to, leave_loops, end_loops_at, close_innermost, close_block}
use Rattle.f77_parser.specs.Building.{close_arm, divide_innermost, add_continue, add_phrase, add_statement, add_all}
use Rattle.roundtrip_programs.specs.Statements.Formed.{Each}
use Rattle.roundtrip_programs.specs.Statements.Phrased.{IsWhat, IsPhrase}
use Rattle.roundtrip_programs.specs.ModuleTexts.Folded.{WhileFits, WhileFitsBy, WhilesFitArms, WhilesFit}
use Rattle.roundtrip_programs.specs.ModuleTexts.ModuleLaws.{IsStatement}
use Rattle.roundtrip_programs.proofs.ModuleTexts.Calm.{true-false}
use Rattle.roundtrip_programs.proofs.ModuleTexts.Counted.{Divisible, Allowed}
use Rattle.roundtrip_programs.proofs.ModuleTexts.Openings.{IsTold, AllMay}

-- whether a block IF stands for a DO WHILE
abbrev pub Tells : Bool → OpeningTree → Type 0
Tells c (opening_loop d) = Unit {0}
Tells c (opening_while l e) = c ≡ true
Tells c (branches arms test) = c ≡ false

plain-leaf : (w : WhatTree) → IsWhat w → IsLeaf w
plain-leaf (assign v e) h = refl
plain-leaf (call c es) h = refl
plain-leaf (goto l) h = refl
plain-leaf continue h = refl
plain-leaf return h = refl
plain-leaf (stop t) h = refl
plain-leaf (print es) h = refl
plain-leaf (read es) h = refl
plain-leaf (block_if arms other) h = absurd h
plain-leaf (logical_if e s) h = absurd h
plain-leaf (do_loop l) h = absurd h

module _ (f : ℕ → Bool) where
  more-fit : (l : List StmtTree) (s : StmtTree) → WhilesFit f (stmts_of l) → WhileFits f s → WhilesFit f (stmts_of (l ++ s ∷ []))
  more-fit [] s h i = record { first = i; behind = tt }
  more-fit (x ∷ l) s h i = record { first = h.first; behind = more-fit l s h.behind i }

  more-arms : (l : List ArmTree) (t : ExprTree) (body : StmtTrees) → WhilesFitArms f (arms_of l) → WhilesFit f body → WhilesFitArms f (arms_of (l ++ arm t body ∷ []))
  more-arms [] t body h i = record { below = i; parts = tt }
  more-arms (arm u b ∷ l) t body h i = record { below = h.below; parts = more-arms l t body h.parts i }

  plain-fits : (w : WhatTree) (c : Bool) → IsWhat w → WhileFitsBy f c w
  plain-fits (assign v e) c h = tt
  plain-fits (call x es) c h = tt
  plain-fits (goto l) c h = tt
  plain-fits continue c h = tt
  plain-fits return c h = tt
  plain-fits (stop t) c h = tt
  plain-fits (print es) c h = tt
  plain-fits (read es) c h = tt
  plain-fits (block_if arms other) c h = absurd h
  plain-fits (logical_if e s) c h = absurd h
  plain-fits (do_loop l) c h = absurd h

  -- the parts that are closed
  abbrev PartsFit : OpeningTree → Type 0
  PartsFit (opening_loop d) = Unit {0}
  PartsFit (opening_while l e) = Unit {0}
  PartsFit (branches arms test) = WhilesFitArms f (arms_of arms)

  abbrev BlockFits : AroundTree → Type 0
  BlockFits a = record { told : Tells (f a.id) a.opening; list : WhilesFit f (stmts_of a.before); parts : PartsFit a.opening }

  whole-fits : (c : Bool) (o : OpeningTree) (l : List StmtTree) → Tells c o → PartsFit o → WhilesFit f (stmts_of l) → WhileFitsBy f c (what_of o l)
  whole-fits c (opening_loop d) l t h i = i
  whole-fits c (opening_while k e) l t h i = record { alone = λ x. tt; parts = record { below = i; parts = tt }; last = tt }
  whole-fits c (branches arms (Some u)) l t h i = record { alone = λ x. absurd (true-false (sym x ∙ t)); parts = more-arms arms u (stmts_of l) h i; last = tt }
  whole-fits c (branches arms None) l t h i = record { alone = λ x. absurd (true-false (sym x ∙ t)); parts = h; last = i }

  -- these open blocks, and the open list in them
  pub record Fits (os : List AroundTree) (p : SoFar) : Type 0 where
    pub around : Each BlockFits os
    pub list : WhilesFit f (stmts_of p.list)

  abbrev FitsSo : SoFar → Type 0
  FitsSo p = Fits p.around p

  left-fits : (a : AroundTree) (os : List AroundTree) (p : SoFar) → Fits (a ∷ os) p → FitsSo (leave_block a os p)
  left-fits a os p g = record {
    around = g.around.others;
    list = more-fit a.before (stmt a.id a.label (what_of a.opening p.list)) g.around.first.list (whole-fits (f a.id) a.opening p.list g.around.first.told g.around.first.parts g.list);
  }

  either-fits : (v : Bool) (x y : SoFar) → FitsSo x → FitsSo y → FitsSo (if v then x else y)
  either-fits true x y h e = h
  either-fits false x y h e = e

  at-around : (os : List AroundTree) (p : SoFar) → p.around ≡ os → Fits os p → FitsSo p
  at-around os p e g = let P : List AroundTree → Type 0 = λ x. Fits x p in subst P (sym e) g

  ended_by-fits : (l : ℕ) (os : List AroundTree) (p : SoFar) → p.around ≡ os → Fits os p → FitsSo (leave_loops l os p)
  ended_by-fits l [] p e g = at-around [] p e g
  ended_by-fits l (a ∷ os) p e g =
      either-fits (is_loop_to l a.opening) (leave_loops l os (leave_block a os p)) p
      (ended_by-fits l os (leave_block a os p) refl (left-fits a os p g)) (at-around (a ∷ os) p e g)

  ended_at-fits : (label : Option ℕ) (p : SoFar) → FitsSo p → FitsSo (end_loops_at label p)
  ended_at-fits None p g = g
  ended_at-fits (Some l) p g = ended_by-fits l p.around p refl g

  closed_from-fits : (os : List AroundTree) (k : ℕ) (cs : List (List ℕ)) (p : SoFar) → p.around ≡ os → Fits os p → FitsSo (close_innermost os k cs p)
  unfolding add_spot
  closed_from-fits [] k cs p e g = at-around [] p e g
  closed_from-fits (a ∷ os) k cs p e g = let x = left-fits a os p g in record { around = x.around; list = x.list }

  closed-fits : (k : ℕ) (cs : List (List ℕ)) (p : SoFar) → FitsSo p → FitsSo (close_block k cs p)
  closed-fits k cs p g = closed_from-fits p.around k cs p refl g

  stated-fits : (k : ℕ) (label : Option ℕ) (cs : List (List ℕ)) (w : WhatTree) (p : SoFar) → IsWhat w → FitsSo p → FitsSo (add_executable k label cs w p)
  unfolding add_executable add_spot
  stated-fits k label cs w p h g =
      record { around = g.around; list = more-fit p.list (stmt (p.count + 1) label w) g.list (plain-fits w (f (p.count + 1)) h) }

  conditioned-fits : (k : ℕ) (label : Option ℕ) (cs : List (List ℕ)) (e : ExprTree) (w : WhatTree) (p : SoFar) → IsWhat w → FitsSo p → FitsSo (add_logical_if k label cs e w p)
  unfolding add_logical_if add_spot
  conditioned-fits k label cs e w p h g = record {
    around = g.around;
    list = more-fit p.list (stmt (p.count + 1) label (logical_if e (stmt (p.count + 1 + 1) None w))) g.list (plain-leaf w h);
  }

  entered-fits : (k : ℕ) (label : Option ℕ) (cs : List (List ℕ)) (o : OpeningTree) (p : SoFar) → Tells (f (p.count + 1)) o → PartsFit o → FitsSo p → FitsSo (open_block k label cs o p)
  unfolding open_block add_spot
  entered-fits k label cs o p t h g = record { around = record { first = record { told = t; list = g.list; parts = h }; others = g.around }; list = tt }

  part-told : (o : OpeningTree) (l : List StmtTree) (c : Bool) (os : List AroundTree) (a : AroundTree) → a.opening ≡ o → Divisible (a ∷ os) → Tells c o → PartsFit o → WhilesFit f (stmts_of l)
      → (c ≡ false) × WhilesFitArms f (arms_of (close_arm o l))
  part-told (opening_loop d) l c os a e v t h i = let P : OpeningTree → Type 0 = λ x. Divisible (record a { opening = x } ∷ os) in absurd (subst P e v)
  part-told (opening_while k u) l c os a e v t h i = let P : OpeningTree → Type 0 = λ x. Divisible (record a { opening = x } ∷ os) in absurd (subst P e v)
  part-told (branches arms None) l c os a e v t h i = (t, h)
  part-told (branches arms (Some u)) l c os a e v t h i = (t, more-arms arms u (stmts_of l) h i)

  divided-fits : (os : List AroundTree) (k : ℕ) (cs : List (List ℕ)) (test : Option ExprTree) (p : SoFar) → Divisible os → Fits os p → FitsSo (divide_innermost os k cs test p)
  unfolding add_spot
  divided-fits [] k cs test p v g = absurd v
  divided-fits (a ∷ os) k cs test p v g =
      let b = g.around.first in
      let r = part-told a.opening p.list (f a.id) os a refl v b.told b.parts g.list in
      record { around = record { first = record { told = r.0; list = b.list; parts = r.1 }; others = g.around.others }; list = tt }

  continued-fits : (k l : ℕ) (cs : List (List ℕ)) (p : SoFar) → FitsSo p → FitsSo (add_continue k l cs p)
  continued-fits k l cs p g = ended_at-fits (Some l) (add_executable k (Some l) cs continue p) (stated-fits k (Some l) cs continue p tt g)

  phrase-fits : (k : ℕ) (label : Option ℕ) (cs : List (List ℕ)) (phrase : PhraseTree) (p : SoFar) → IsPhrase phrase → Allowed phrase p.around → IsTold f phrase (p.count + 1) → FitsSo p
      → FitsSo (add_phrase k label cs phrase p)
  unfolding add_spot add_while
  phrase-fits k label cs (program n) p i v t g = record { around = g.around; list = g.list }
  phrase-fits k label cs (subroutine n ds) p i v t g = record { around = g.around; list = g.list }
  phrase-fits k label cs (function form n ds) p i v t g = record { around = g.around; list = g.list }
  phrase-fits k label cs (specification d) p i v t g = record { around = g.around; list = g.list }
  phrase-fits k label cs (simple w) p i v t g = ended_at-fits label (add_executable k label cs w p) (stated-fits k label cs w p i g)
  phrase-fits k label cs (phrases.logical_if e w) p i v t g = ended_at-fits label (add_logical_if k label cs e w p) (conditioned-fits k label cs e w p i.inner g)
  phrase-fits k label cs (phrases.block_if e) p i v t g = entered-fits k label cs (branches [] (Some e)) p t tt g
  phrase-fits k label cs (else_if e) p i v t g = divided-fits p.around k cs (Some e) p v g
  phrase-fits k label cs else_part p i v t g = divided-fits p.around k cs None p v g
  phrase-fits k None cs end_if p i v t g = closed-fits k cs p g
  phrase-fits k (Some l) cs end_if p i v t g = continued-fits k l [] (close_block k cs p) (closed-fits k cs p g)
  phrase-fits k label cs (do_head d) p i v t g = entered-fits k label cs (opening_loop d) p tt tt g
  phrase-fits k label cs (while_head l e) p i v t g = entered-fits k label cs (opening_while l e) (add_while p) t tt (record { around = g.around; list = g.list })
  phrase-fits k None cs end_do p i v t g = closed-fits k cs p g
  phrase-fits k (Some l) cs end_do p i v t g = closed-fits k [] (add_continue k l cs p) (continued-fits k l cs p g)
  phrase-fits k None cs end_module p i v t g = record { around = g.around; list = g.list }
  phrase-fits k (Some l) cs end_module p i v t g = let q = continued-fits k l cs p g in record { around = q.around; list = q.list }

  pub all-fit : (ss : List StatementTree) (p : SoFar) → Each IsStatement ss → AllMay f ss p → FitsSo p → FitsSo (add_all ss p)
  all-fit [] p i m g = g
  all-fit (s ∷ ss) p i m g = all-fit ss (add_statement s p) i.others m.others (phrase-fits s.first s.label s.comments s.phrase p i.first m.may m.told g)
