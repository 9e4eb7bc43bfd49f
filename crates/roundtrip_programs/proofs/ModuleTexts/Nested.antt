-- In a module without a fault at most 64 blocks stand in one another.
use Rattle.std.proofs.Common.{◌≡◌, ℕ, suc, ◌+◌, Bool, true, false, List, [], ◌∷◌, ◌++◌, length, refl, sym, ap, ◌∙◌, subst}
use Rattle.std.specs.Prelude.{Option, Some, None, nat_le, if◌then◌else◌}
use Rattle.f77_ast.specs.Trees.{ExprTree, StmtTree, stmt, WhatTree, assign, block_if, logical_if, do_loop, call, goto, continue, return, stop, print, read, ArmTree, arm, StmtTrees}
use Rattle.f77_ast.specs.PlainStmt.{stmts_of, arms_of}
use Rattle.f77_statements.specs.Phrases.{PhraseTree, program, subroutine, function, specification, simple, else_if, else_part, end_if, do_head, while_head, end_do, end_module}
use Rattle.f77_statements.specs.Phrases as phrases
use Rattle.f77_structure.specs.declared.open.Kind.TheVariants as kinds
use Rattle.f77_structure.specs.declared.open.Open.{Open}
use Rattle.f77_structure.specs.declared.blocks.Blocks.{Blocks}
use Rattle.f77_structure.specs.Blocks.{add_landing}
use Rattle.f77_structure.specs.Steps.{by_role}
use Rattle.f77_parser.specs.Roles.{role_of}
use Rattle.f77_parser.specs.SoFar.{OpeningTree, opening_loop, opening_while, branches, AroundTree, SoFar, add_spot, add_executable, add_logical_if, open_block, add_while, what_of, leave_block, is_loop_to, leave_loops, end_loops_at, close_innermost, close_block}
use Rattle.f77_parser.specs.Building.{close_arm, divide_innermost, add_continue, add_phrase}
use Rattle.roundtrip_programs.specs.Statements.Phrased.{IsWhat, IsPhrase}
use Rattle.roundtrip_programs.specs.ModuleTexts.Shallow.{HasRoom, IsShallow, ShallowBelow, ShallowArms, AreShallow}
use Rattle.roundtrip_programs.proofs.ModuleTexts.Calm.{entered-calm, landed-stack}
use Rattle.roundtrip_programs.proofs.ModuleTexts.Matched.{Matches}

more-shallow : (n : ℕ) (l : List StmtTree) (s : StmtTree) → AreShallow n (stmts_of l) → IsShallow n s → AreShallow n (stmts_of (l ++ s ∷ []))
more-shallow n [] s h i = record { first = i; behind = tt }
more-shallow n (x ∷ l) s h i = record { first = h.first; behind = more-shallow n l s h.behind i }

more-arms : (n : ℕ) (l : List ArmTree) (t : ExprTree) (body : StmtTrees) → ShallowArms n (arms_of l) → AreShallow n body → ShallowArms n (arms_of (l ++ arm t body ∷ []))
more-arms n [] t body h i = record { below = i; parts = tt }
more-arms n (arm u b ∷ l) t body h i = record { below = h.below; parts = more-arms n l t body h.parts i }

plain-shallow : (w : WhatTree) (n : ℕ) → IsWhat w → ShallowBelow n w
plain-shallow (assign v e) n h = tt
plain-shallow (call c es) n h = tt
plain-shallow (goto l) n h = tt
plain-shallow continue n h = tt
plain-shallow return n h = tt
plain-shallow (stop t) n h = tt
plain-shallow (print es) n h = tt
plain-shallow (read es) n h = tt
plain-shallow (block_if arms other) n h = absurd h
plain-shallow (logical_if e s) n h = absurd h
plain-shallow (do_loop l) n h = absurd h

abbrev OpeningNests : ℕ → OpeningTree → Type 0
OpeningNests n (opening_loop d) = Unit {0}
OpeningNests n (opening_while l e) = Unit {0}
OpeningNests n (branches arms test) = ShallowArms n (arms_of arms)

abbrev AroundNests : List AroundTree → Type 0
AroundNests [] = Unit {0}
AroundNests (a ∷ os) = record {
  list : AreShallow (length os) (stmts_of a.before);
  room : HasRoom (length os);
  parts : OpeningNests (suc (length os)) a.opening;
  outer : AroundNests os;
}

whole-shallow : (n : ℕ) (o : OpeningTree) (l : List StmtTree) → HasRoom n → OpeningNests (suc n) o → AreShallow (suc n) (stmts_of l) → ShallowBelow n (what_of o l)
whole-shallow n (opening_loop d) l r h i = record { room = r; below = i }
whole-shallow n (opening_while k e) l r h i = record { room = r; parts = record { below = i; parts = tt }; last = tt }
whole-shallow n (branches arms (Some t)) l r h i = record { room = r; parts = more-arms (suc n) arms t (stmts_of l) h i; last = tt }
whole-shallow n (branches arms None) l r h i = record { room = r; parts = h; last = i }

-- these open blocks, and the open list in them, have room
pub record NestsIn (os : List AroundTree) (p : SoFar) : Type 0 where
  pub around : AroundNests os
  pub list : AreShallow (length os) (stmts_of p.list)

abbrev pub Nests : SoFar → Type 0
Nests p = NestsIn p.around p

left-nests : (a : AroundTree) (others : List AroundTree) (p : SoFar) → NestsIn (a ∷ others) p → Nests (leave_block a others p)
left-nests a others p c = record {
  around = c.around.outer;
  list = more-shallow (length others) a.before (stmt a.id a.label (what_of a.opening p.list)) c.around.list
      (whole-shallow (length others) a.opening p.list c.around.room c.around.parts c.list);
}

either-nests : (v : Bool) (x y : SoFar) → Nests x → Nests y → Nests (if v then x else y)
either-nests true x y h e = h
either-nests false x y h e = e

at-around : (os : List AroundTree) (p : SoFar) → p.around ≡ os → NestsIn os p → Nests p
at-around os p e c = let P : List AroundTree → Type 0 = λ x. NestsIn x p in subst P (sym e) c

ended_by-nests : (l : ℕ) (os : List AroundTree) (p : SoFar) → p.around ≡ os → NestsIn os p → Nests (leave_loops l os p)
ended_by-nests l [] p e c = at-around [] p e c
ended_by-nests l (a ∷ others) p e c =
    either-nests (is_loop_to l a.opening) (leave_loops l others (leave_block a others p)) p
    (ended_by-nests l others (leave_block a others p) refl (left-nests a others p c)) (at-around (a ∷ others) p e c)

ended_at-nests : (label : Option ℕ) (p : SoFar) → Nests p → Nests (end_loops_at label p)
ended_at-nests None p c = c
ended_at-nests (Some l) p c = ended_by-nests l p.around p refl c

closed_from-nests : (os : List AroundTree) (f : ℕ) (cs : List (List ℕ)) (p : SoFar) → p.around ≡ os → NestsIn os p → Nests (close_innermost os f cs p)
unfolding add_spot
closed_from-nests [] f cs p e c = at-around [] p e c
closed_from-nests (a ∷ others) f cs p e c = let l = left-nests a others p c in record { around = l.around; list = l.list }

closed-nests : (f : ℕ) (cs : List (List ℕ)) (p : SoFar) → Nests p → Nests (close_block f cs p)
closed-nests f cs p c = closed_from-nests p.around f cs p refl c

stated-nests : (f : ℕ) (label : Option ℕ) (cs : List (List ℕ)) (w : WhatTree) (p : SoFar) → IsWhat w → Nests p → Nests (add_executable f label cs w p)
unfolding add_executable add_spot
stated-nests f label cs w p h c =
    record { around = c.around; list = more-shallow (length p.around) p.list (stmt (p.count + 1) label w) c.list (plain-shallow w (length p.around) h) }

conditioned-nests : (f : ℕ) (label : Option ℕ) (cs : List (List ℕ)) (e : ExprTree) (w : WhatTree) (p : SoFar) → Nests p → Nests (add_logical_if f label cs e w p)
unfolding add_logical_if add_spot
conditioned-nests f label cs e w p c =
    record { around = c.around; list = more-shallow (length p.around) p.list (stmt (p.count + 1) label (logical_if e (stmt (p.count + 1 + 1) None w))) c.list tt }

entered-nests : (f : ℕ) (label : Option ℕ) (cs : List (List ℕ)) (o : OpeningTree) (p : SoFar) → OpeningNests (suc (length p.around)) o → HasRoom (length p.around) → Nests p
    → Nests (open_block f label cs o p)
unfolding open_block add_spot
entered-nests f label cs o p h r c = record { around = record { list = c.list; room = r; parts = h; outer = c.around }; list = tt }

arms-nest : (n : ℕ) (o : OpeningTree) (l : List StmtTree) → OpeningNests n o → AreShallow n (stmts_of l) → ShallowArms n (arms_of (close_arm o l))
arms-nest n (opening_loop d) l h i = tt
arms-nest n (opening_while k e) l h i = tt
arms-nest n (branches arms (Some t)) l h i = more-arms n arms t (stmts_of l) h i
arms-nest n (branches arms None) l h i = h

divided-nests : (os : List AroundTree) (f : ℕ) (cs : List (List ℕ)) (test : Option ExprTree) (p : SoFar) → p.around ≡ os → NestsIn os p → Nests (divide_innermost os f cs test p)
unfolding add_spot
divided-nests [] f cs test p e c = at-around [] p e c
divided-nests (a ∷ others) f cs test p e c = record {
  around = record { list = c.around.list; room = c.around.room; parts = arms-nest (suc (length others)) a.opening p.list c.around.parts c.list; outer = c.around.outer };
  list = tt;
}

continued-nests : (f l : ℕ) (cs : List (List ℕ)) (p : SoFar) → Nests p → Nests (add_continue f l cs p)
continued-nests f l cs p c = ended_at-nests (Some l) (add_executable f (Some l) cs continue p) (stated-nests f (Some l) cs continue p tt c)

same-length : (xs : List AroundTree) (os : List Open) → Matches xs os → length xs ≡ length os
same-length [] [] m = refl
same-length [] (o ∷ os) m = absurd m
same-length (a ∷ xs) [] m = absurd m
same-length (a ∷ xs) (o ∷ os) m = ap suc (same-length xs os m.outer)

-- a block that is entered without a fault has room
roomy : (label : Option ℕ) (p : SoFar) (b : Blocks) → Matches p.around b.stack → nat_le 64 (length (add_landing label b).stack) ≡ false → HasRoom (length p.around)
roomy label p b m h = ap (nat_le 64) (same-length p.around b.stack m ∙ ap length (sym (landed-stack label b))) ∙ h

pub phrase-nests : (f : ℕ) (label : Option ℕ) (cs : List (List ℕ)) (phrase : PhraseTree) (line : ℕ) (p : SoFar) (b : Blocks) → IsPhrase phrase → Matches p.around b.stack
    → (by_role (role_of phrase) label line b).found ≡ None → Nests p → Nests (add_phrase f label cs phrase p)
unfolding add_spot add_while
phrase-nests f label cs (program n) line p b i m h c = record { around = c.around; list = c.list }
phrase-nests f label cs (subroutine n ds) line p b i m h c = record { around = c.around; list = c.list }
phrase-nests f label cs (function form n ds) line p b i m h c = record { around = c.around; list = c.list }
phrase-nests f label cs (specification x) line p b i m h c = record { around = c.around; list = c.list }
phrase-nests f label cs (simple w) line p b i m h c = ended_at-nests label (add_executable f label cs w p) (stated-nests f label cs w p i c)
phrase-nests f label cs (phrases.logical_if e w) line p b i m h c = ended_at-nests label (add_logical_if f label cs e w p) (conditioned-nests f label cs e w p c)
phrase-nests f label cs (phrases.block_if e) line p b i m h c =
    entered-nests f label cs (branches [] (Some e)) p tt (roomy label p b m (entered-calm kinds.If line (add_landing label b) h).2) c
phrase-nests f label cs (else_if e) line p b i m h c = divided-nests p.around f cs (Some e) p refl c
phrase-nests f label cs else_part line p b i m h c = divided-nests p.around f cs None p refl c
phrase-nests f None cs end_if line p b i m h c = closed-nests f cs p c
phrase-nests f (Some l) cs end_if line p b i m h c = continued-nests f l [] (close_block f cs p) (closed-nests f cs p c)
phrase-nests f label cs (do_head d) line p b i m h c =
    entered-nests f label cs (opening_loop d) p tt (roomy label p b m (entered-calm (kinds.Do d.label) line (add_landing label b) h).2) c
phrase-nests f label cs (while_head l e) line p b i m h c =
    entered-nests f label cs (opening_while l e) (add_while p) tt (roomy label p b m (entered-calm (kinds.Do l) line (add_landing label b) h).2) (record { around = c.around; list = c.list })
phrase-nests f None cs end_do line p b i m h c = closed-nests f cs p c
phrase-nests f (Some l) cs end_do line p b i m h c = closed-nests f [] (add_continue f l cs p) (continued-nests f l cs p c)
phrase-nests f None cs end_module line p b i m h c = record { around = c.around; list = c.list }
phrase-nests f (Some l) cs end_module line p b i m h c = let q = continued-nests f l cs p c in record { around = q.around; list = q.list }
