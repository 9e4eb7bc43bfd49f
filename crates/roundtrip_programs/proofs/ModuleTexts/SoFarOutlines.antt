-- The outline of what the statements of a module made so far.
use Rattle.std.proofs.Common.{◌≡◌, ℕ, List, [], ◌∷◌, ◌++◌, refl, ap, ◌∙◌}
use Rattle.std.specs.Prelude.{Option, Some, None}
use Rattle.f77_ast.specs.Trees.{ExprTree, StmtTree, stmt, WhatTree, assign, block_if, logical_if, do_loop, call, goto, continue, return, stop, print, read, ArmTree, arm, StmtTrees}
use Rattle.f77_ast.specs.PlainStmt.{stmts_of, arms_of}
use Rattle.f77_statements.specs.Phrases.{PhraseTree, simple}
use Rattle.f77_parser.specs.Roles.{action_of}
use Rattle.f77_parser.specs.SoFar.{OpeningTree, opening_loop, opening_while, branches, AroundTree, SoFar, add_spot, add_executable, add_logical_if, what_of, leave_block}
use Rattle.f77_parser.specs.Building.{close_arm}
use Rattle.roundtrip_programs.specs.Statements.Phrased.{IsWhat, IsPhrase}
use Rattle.roundtrip_programs.proofs.ModuleTexts.Counted.{IsOpenIf}
use Rattle.roundtrip_programs.proofs.ModuleTexts.Outlines.{Outline, nothing_outlined, lands, goes, begins, leaves}
use Rattle.roundtrip_programs.proofs.ModuleTexts.TreeOutlines.{outline_of, outline_by, outline_arms, outline_in}

-- an open block up to its open list
abbrev pub outline_opening : OpeningTree → Outline → Outline
outline_opening (opening_loop d) o = begins o
outline_opening (opening_while l e) o = begins o
outline_opening (branches arms test) o = begins (outline_arms (arms_of arms) o)

abbrev pub outline_around : List AroundTree → Outline
outline_around [] = nothing_outlined
outline_around (a ∷ xs) = outline_opening a.opening (lands a.label (outline_in (stmts_of a.before) (outline_around xs)))

-- these blocks being open around the open list
abbrev pub outline_with : List AroundTree → SoFar → Outline
outline_with xs p = outline_in (stmts_of p.list) (outline_around xs)

abbrev pub outline_so : SoFar → Outline
outline_so p = outline_with p.around p

-- ---- lists that grow at their ends

list-more : (l : List StmtTree) (s : StmtTree) (o : Outline) → outline_in (stmts_of (l ++ s ∷ [])) o ≡ outline_of s (outline_in (stmts_of l) o)
list-more [] s o = refl
list-more (x ∷ l) s o = list-more l s (outline_of x o)

arms-more : (l : List ArmTree) (t : ExprTree) (body : StmtTrees) (o : Outline)
    → outline_arms (arms_of (l ++ arm t body ∷ [])) o ≡ leaves (outline_in body (begins (outline_arms (arms_of l) o)))
arms-more [] t body o = refl
arms-more (arm u b ∷ l) t body o = arms-more l t body (leaves (outline_in b (begins o)))

whole : (label : Option ℕ) (opening : OpeningTree) (l : List StmtTree) (o : Outline)
    → outline_by label (what_of opening l) o ≡ leaves (outline_in (stmts_of l) (outline_opening opening (lands label o)))
whole label (opening_loop d) l o = refl
whole label (opening_while k e) l o = refl
whole label (branches arms (Some t)) l o = arms-more arms t (stmts_of l) (lands label o)
whole label (branches arms None) l o = refl

-- ---- each change of what is so far

pub left-outline : (a : AroundTree) (xs : List AroundTree) (p : SoFar) → outline_so (leave_block a xs p) ≡ leaves (outline_with (a ∷ xs) p)
left-outline a xs p =
    list-more a.before (stmt a.id a.label (what_of a.opening p.list)) (outline_around xs)
    ∙ whole a.label a.opening p.list (outline_in (stmts_of a.before) (outline_around xs))

-- the list that a part of a block IF begins
pub next-outline : (opening : OpeningTree) (l : List StmtTree) (test : Option ExprTree) (o : Outline) → IsOpenIf opening
    → outline_opening (branches (close_arm opening l) test) o ≡ begins (leaves (outline_in (stmts_of l) (outline_opening opening o)))
next-outline (opening_loop d) l test o h = absurd h
next-outline (opening_while k e) l test o h = absurd h
next-outline (branches arms None) l test o h = absurd h
next-outline (branches arms (Some t)) l test o h = ap begins (arms-more arms t (stmts_of l) o)

-- a statement by itself has the outline of its label and its GO TO
abbrev pub StandsAlone : PhraseTree → Type 0
StandsAlone (simple w) = (label : Option ℕ) (o : Outline) → outline_by label w o ≡ lands label (goes (action_of w) o)
StandsAlone _ = Unit {0}

what-alone : (w : WhatTree) → IsWhat w → StandsAlone (simple w)
what-alone (assign v e) h label o = refl
what-alone (call n es) h label o = refl
what-alone (goto l) h label o = refl
what-alone continue h label o = refl
what-alone return h label o = refl
what-alone (stop t) h label o = refl
what-alone (print es) h label o = refl
what-alone (read es) h label o = refl
what-alone (block_if arms other) h label o = absurd h
what-alone (logical_if e s) h label o = absurd h
what-alone (do_loop l) h label o = absurd h

pub phrase-alone : (phrase : PhraseTree) → IsPhrase phrase → StandsAlone phrase
phrase-alone (simple w) h = what-alone w h
phrase-alone _ h = tt

pub stated-outline : (f : ℕ) (label : Option ℕ) (cs : List (List ℕ)) (w : WhatTree) (p : SoFar) → StandsAlone (simple w)
    → outline_so (add_executable f label cs w p) ≡ lands label (goes (action_of w) (outline_so p))
unfolding add_executable add_spot
stated-outline f label cs w p h = list-more p.list (stmt _ label w) (outline_around p.around) ∙ h label (outline_so p)

pub conditioned-outline : (f : ℕ) (label : Option ℕ) (cs : List (List ℕ)) (e : ExprTree) (w : WhatTree) (p : SoFar)
    → outline_so (add_logical_if f label cs e w p) ≡ lands label (goes (action_of w) (outline_so p))
unfolding add_logical_if add_spot
conditioned-outline f label cs e w p = list-more p.list (stmt _ label (logical_if e (stmt _ None w))) (outline_around p.around)
