-- Each statement keeps the numbers in the order of the text.
use Rattle.std.proofs.Common.{◌≡◌, ℕ, ◌+◌, ◌-◌, Bool, true, false, List, [], ◌∷◌, ◌++◌, length, take, refl, sym, ap, ◌∙◌, subst, arith, length-append}
use Rattle.std.specs.Prelude.{Option, Some, None, if◌then◌else◌}
use Rattle.f77_ast.specs.Trees.{ExprTree, StmtTree, stmt, WhatTree, logical_if, continue, arm}
use Rattle.f77_ast.specs.PlainStmt.{stmts_of, arms_of}
use Rattle.f77_statements.specs.Phrases.{PhraseTree, program, subroutine, function, specification, simple, block_if, else_if, else_part, end_if, do_head, while_head, end_do, end_module}
use Rattle.f77_statements.specs.Phrases as phrases
use Rattle.f77_parser.specs.declared.progress.Heading.{Heading}
use Rattle.f77_parser.specs.SoFar.{OpeningTree, opening_loop, opening_while, branches, AroundTree, SoFar, add_spot, add_executable, add_logical_if, open_block, add_while, what_of, leave_block, is_loop_to, leave_loops, end_loops_at, close_innermost, close_block}
use Rattle.f77_parser.specs.Building.{close_arm, divide_innermost, add_continue, add_phrase}
use Rattle.roundtrip_programs.specs.Statements.Phrased.{IsWhat, IsPhrase}
use Rattle.roundtrip_programs.specs.ModuleTexts.Numbered.{last_of, last_by, last_in, IsNumbered, NumberedBelow, AreNumbered, TitleFits, FunctionFits}
use Rattle.f77_printer.specs.ModuleText.{titled_dummies}
use Rattle.roundtrip_programs.proofs.ModuleTexts.Counting.{more-numbered, last-more, block-arms, more-arms, last-arms-more, plain-below, start_by, start_of, OpeningFits, AroundFits, whole-below, whole-last}

abbrev HeadingFits : Heading → Type 0
HeadingFits h = record { title : TitleFits h.main h.titled h.name h.dummies; function : FunctionFits h.function h.main h.name h.dummies }

-- the name of a function is its last dummy
all-but-one : (ds : List (List ℕ)) (n : List ℕ) → take (length ds) (ds ++ n ∷ []) ≡ ds
all-but-one [] n = refl
all-but-one (d ∷ ds) n = ap (λ x. d ∷ x) (all-but-one ds n)

pub titled-same : (ds : List (List ℕ)) (n : List ℕ) → titled_dummies (ds ++ n ∷ []) ≡ ds
titled-same ds n =
    let k : length (ds ++ n ∷ []) - 1 ≡ length ds = omega (arith, length-append ds (n ∷ [])) in
    ap (λ i. take i (ds ++ n ∷ [])) k ∙ all-but-one ds n

-- these open blocks, and the open list in them, are numbered in the order of the text
pub record CountsIn (os : List AroundTree) (p : SoFar) : Type 0 where
  pub heading : HeadingFits p.heading
  pub around : AroundFits os
  pub list : AreNumbered (start_of os) (stmts_of p.list)
  pub count : p.count ≡ last_in (start_of os) (stmts_of p.list)

abbrev pub Counts : SoFar → Type 0
Counts p = CountsIn p.around p

-- ---- blocks end

left-counts : (a : AroundTree) (others : List AroundTree) (p : SoFar) → CountsIn (a ∷ others) p → Counts (leave_block a others p)
left-counts a others p c =
    let n = last_in (start_of others) (stmts_of a.before) in
    let w = what_of a.opening p.list in
    let Below : ℕ → Type 0 = λ x. NumberedBelow x w in
    let below : NumberedBelow (n + 1) w = subst Below c.around.number (whole-below a.id a.opening p.list c.around.closed c.list) in
    record {
      heading = c.heading;
      around = c.around.outer;
      list = more-numbered (start_of others) a.before (stmt a.id a.label w) c.around.list (record { number = c.around.number; below = below });
      count = c.count ∙ sym (whole-last a.id a.opening p.list) ∙ ap (λ x. last_by x w) c.around.number ∙ sym (last-more (start_of others) a.before (stmt a.id a.label w));
    }

either-counts : (v : Bool) (x y : SoFar) → Counts x → Counts y → Counts (if v then x else y)
either-counts true x y h e = h
either-counts false x y h e = e

at-around : (os : List AroundTree) (p : SoFar) → p.around ≡ os → CountsIn os p → Counts p
at-around os p e c = let P : List AroundTree → Type 0 = λ x. CountsIn x p in subst P (sym e) c

ended_by-counts : (l : ℕ) (os : List AroundTree) (p : SoFar) → p.around ≡ os → CountsIn os p → Counts (leave_loops l os p)
ended_by-counts l [] p e c = at-around [] p e c
ended_by-counts l (a ∷ others) p e c =
    either-counts (is_loop_to l a.opening) (leave_loops l others (leave_block a others p)) p
    (ended_by-counts l others (leave_block a others p) refl (left-counts a others p c)) (at-around (a ∷ others) p e c)

ended_at-counts : (label : Option ℕ) (p : SoFar) → Counts p → Counts (end_loops_at label p)
ended_at-counts None p c = c
ended_at-counts (Some l) p c = ended_by-counts l p.around p refl c

closed_from-counts : (os : List AroundTree) (f : ℕ) (cs : List (List ℕ)) (p : SoFar) → p.around ≡ os → CountsIn os p → Counts (close_innermost os f cs p)
unfolding add_spot
closed_from-counts [] f cs p e c = at-around [] p e c
closed_from-counts (a ∷ others) f cs p e c = let l = left-counts a others p c in record { heading = l.heading; around = l.around; list = l.list; count = l.count }

closed-counts : (f : ℕ) (cs : List (List ℕ)) (p : SoFar) → Counts p → Counts (close_block f cs p)
closed-counts f cs p c = closed_from-counts p.around f cs p refl c

-- ---- statements

-- one more stands in the open list
stood-counts : (s : StmtTree) (p : SoFar) (n : ℕ) → Counts p → IsNumbered p.count s → last_of p.count s ≡ n
    → AreNumbered (start_of p.around) (stmts_of (p.list ++ s ∷ [])) × (n ≡ last_in (start_of p.around) (stmts_of (p.list ++ s ∷ [])))
stood-counts s p n c i e =
    let P : ℕ → Type 0 = λ x. IsNumbered x s in (
      more-numbered (start_of p.around) p.list s c.list (subst P c.count i),
      sym e ∙ ap (λ x. last_of x s) c.count ∙ sym (last-more (start_of p.around) p.list s),
    )

stated-counts : (f : ℕ) (label : Option ℕ) (cs : List (List ℕ)) (w : WhatTree) (p : SoFar) → IsWhat w → Counts p → Counts (add_executable f label cs w p)
unfolding add_executable add_spot
stated-counts f label cs w p h c =
    let b = plain-below w (p.count + 1) h in
    let s = stood-counts (stmt (p.count + 1) label w) p (p.count + 1) c (record { number = refl; below = b.0 }) b.1 in
    record { heading = c.heading; around = c.around; list = s.0; count = s.1 }

conditioned-counts : (f : ℕ) (label : Option ℕ) (cs : List (List ℕ)) (e : ExprTree) (w : WhatTree) (p : SoFar) → Counts p → Counts (add_logical_if f label cs e w p)
unfolding add_logical_if add_spot
conditioned-counts f label cs e w p c =
    let n = p.count + 1 in
    let s = stood-counts (stmt n label (logical_if e (stmt (n + 1) None w))) p (n + 1) c (record { number = refl; below = record { number = refl; bare = refl } }) refl in
    record { heading = c.heading; around = c.around; list = s.0; count = s.1 }

entered-counts : (f : ℕ) (label : Option ℕ) (cs : List (List ℕ)) (o : OpeningTree) (p : SoFar) → OpeningFits (p.count + 1) o → start_by (p.count + 1) o ≡ p.count + 1 → Counts p → Counts (open_block f label cs o p)
unfolding open_block add_spot
entered-counts f label cs o p h e c = record {
  heading = c.heading;
  around = record { list = c.list; number = ap (λ x. x + 1) c.count; closed = h; outer = c.around };
  list = tt;
  count = sym e;
}

-- a part begins where a block IF is open that is not in its ELSE
abbrev pub IsOpenIf : OpeningTree → Type 0
IsOpenIf (opening_loop d) = ⊥
IsOpenIf (opening_while l e) = ⊥
IsOpenIf (branches arms (Some test)) = Unit {0}
IsOpenIf (branches arms None) = ⊥

abbrev pub Divisible : List AroundTree → Type 0
Divisible [] = ⊥
Divisible (a ∷ others) = IsOpenIf a.opening

part-fits : (id : ℕ) (o : OpeningTree) (l : List StmtTree) (test : Option ExprTree) → IsOpenIf o → OpeningFits id o → AreNumbered (start_by id o) (stmts_of l)
    → OpeningFits id (branches (close_arm o l) test) × (last_in (start_by id o) (stmts_of l) ≡ start_by id (branches (close_arm o l) test))
part-fits id (opening_loop d) l test d' h i = absurd d'
part-fits id (opening_while k e) l test d' h i = absurd d'
part-fits id (branches arms None) l test d' h i = absurd d'
part-fits id (branches arms (Some t)) l None d' h i = (more-arms id arms t (stmts_of l) h i, sym (last-arms-more id arms t (stmts_of l)))
part-fits id (branches arms (Some t)) l (Some u) d' h i =
    (block-arms id (arms_of (arms ++ arm t (stmts_of l) ∷ [])) (more-arms id arms t (stmts_of l) h i), sym (last-arms-more id arms t (stmts_of l)))

divided-counts : (os : List AroundTree) (f : ℕ) (cs : List (List ℕ)) (test : Option ExprTree) (p : SoFar) → Divisible os → CountsIn os p → Counts (divide_innermost os f cs test p)
unfolding add_spot
divided-counts [] f cs test p d c = absurd d
divided-counts (a ∷ others) f cs test p d c =
    let q = part-fits a.id a.opening p.list test d c.around.closed c.list in record {
      heading = c.heading;
      around = record { list = c.around.list; number = c.around.number; closed = q.0; outer = c.around.outer };
      list = tt;
      count = c.count ∙ q.1;
    }

continued-counts : (f l : ℕ) (cs : List (List ℕ)) (p : SoFar) → Counts p → Counts (add_continue f l cs p)
continued-counts f l cs p c = ended_at-counts (Some l) (add_executable f (Some l) cs continue p) (stated-counts f (Some l) cs continue p tt c)

-- what a part asks of the open blocks
abbrev pub Allowed : PhraseTree → List AroundTree → Type 0
Allowed (else_if e) around = Divisible around
Allowed else_part around = Divisible around
Allowed _ around = Unit {0}

pub phrase-counts : (f : ℕ) (label : Option ℕ) (cs : List (List ℕ)) (phrase : PhraseTree) (p : SoFar) → IsPhrase phrase → Allowed phrase p.around → Counts p
    → Counts (add_phrase f label cs phrase p)
unfolding add_spot add_while
phrase-counts f label cs (program n) p h d c = record { heading = record { title = refl; function = tt }; around = c.around; list = c.list; count = c.count }
phrase-counts f label cs (subroutine n ds) p h d c = record { heading = record { title = refl; function = tt }; around = c.around; list = c.list; count = c.count }
phrase-counts f label cs (function form n ds) p h d c = record {
  heading = record { title = refl; function = record { called = refl; last = ap (λ x. x ++ n ∷ []) (titled-same ds n) } };
  around = c.around;
  list = c.list;
  count = c.count;
}
phrase-counts f label cs (specification x) p h d c = record { heading = c.heading; around = c.around; list = c.list; count = c.count }
phrase-counts f label cs (simple w) p h d c = ended_at-counts label (add_executable f label cs w p) (stated-counts f label cs w p h c)
phrase-counts f label cs (phrases.logical_if e w) p h d c = ended_at-counts label (add_logical_if f label cs e w p) (conditioned-counts f label cs e w p c)
phrase-counts f label cs (block_if e) p h d c = entered-counts f label cs (branches [] (Some e)) p tt refl c
phrase-counts f label cs (else_if e) p h d c = divided-counts p.around f cs (Some e) p d c
phrase-counts f label cs else_part p h d c = divided-counts p.around f cs None p d c
phrase-counts f None cs end_if p h d c = closed-counts f cs p c
phrase-counts f (Some l) cs end_if p h d c = continued-counts f l [] (close_block f cs p) (closed-counts f cs p c)
phrase-counts f label cs (do_head x) p h d c = entered-counts f label cs (opening_loop x) p tt refl c
phrase-counts f label cs (while_head l e) p h d c =
    entered-counts f label cs (opening_while l e) (add_while p) tt refl (record { heading = c.heading; around = c.around; list = c.list; count = c.count })
phrase-counts f None cs end_do p h d c = closed-counts f cs p c
phrase-counts f (Some l) cs end_do p h d c = closed-counts f [] (add_continue f l cs p) (continued-counts f l cs p c)
phrase-counts f None cs end_module p h d c = record { heading = c.heading; around = c.around; list = c.list; count = c.count }
phrase-counts f (Some l) cs end_module p h d c =
    let q = continued-counts f l cs p c in record { heading = q.heading; around = q.around; list = q.list; count = q.count }
