-- The labels of a module of the text have at most five digits (ANSI X3.9-1978 §3.4).
use Rattle.std.proofs.Common.{ℕ, ◌+◌, ◌≤◌, Bool, List, [], ◌∷◌, ◌++◌, Option, Some, None, inl, inr, sym, subst}
use Rattle.f77_ast.specs.declared.places.Part.TheVariants as parts
use Rattle.f77_ast.specs.Trees.{StmtTree, stmt, WhatTree, assign, block_if, logical_if, do_loop, call, goto, continue, return, stop, print, read, arm, ArmTrees, no_arms, more_arms, ElseTree, no_else, otherwise, loop, StmtTrees, no_stmts, more_stmts}
use Rattle.f77_statements.specs.Phrases.{end_do}
use Rattle.f77_structure.specs.declared.mark.Action.{Action}
use Rattle.f77_structure.specs.declared.mark.Action.TheVariants.{Goto, Return, Stop, Other}
use Rattle.f77_structure.specs.declared.blocks.Landing.{Landing}
use Rattle.laws_programs.specs.roundtrip_programs.Statements.Formed.{Each}
use Rattle.laws_programs.specs.roundtrip_programs.ModuleTexts.Cards.{Card, card, if_end, cards_of, cards_by, part_cards, else_cards, cards_in}
use Rattle.laws_programs.specs.roundtrip_programs.ModuleTexts.ModuleLaws.{MaybeLabel}
use Rattle.laws_programs.specs.roundtrip_programs.ModuleTexts.Numbered.{last_of, last_arms, last_in, IsNumbered, NumberedBelow, NumberedArms, NumberedElse, AreNumbered}
use Rattle.laws_programs.proofs.RoundtripPrograms.ModuleTexts.Each.{Each-append}
use Rattle.laws_programs.proofs.RoundtripPrograms.ModuleTexts.Outlines.{Outline, lands, goes, begins, leaves}
use Rattle.laws_programs.proofs.RoundtripPrograms.ModuleTexts.TreeOutlines.{acting, outline_of, outline_by, outline_arms, outline_else, outline_in}
use Rattle.laws_analyses.proofs.Members.{Member}

abbrev pub HasLabel : Card → Type 0
HasLabel c = MaybeLabel c.label

abbrev AreBounded : List Landing → Type 0
AreBounded xs = Each (λ x. x.label ≤ 99999) xs

abbrev Bounded : Outline → Type 0
Bounded o = AreBounded o.landings

pub front : (xs ys : List Card) → Each HasLabel (xs ++ ys) → Each HasLabel xs
front [] ys h = tt
front (x ∷ xs) ys h = record { first = h.first; others = front xs ys h.others }

pub back : (xs ys : List Card) → Each HasLabel (xs ++ ys) → Each HasLabel ys
back [] ys h = h
back (x ∷ xs) ys h = back xs ys h.others

land-bounded : (label : Option ℕ) (o : Outline) → MaybeLabel label → Bounded o → Bounded (lands label o)
land-bounded None o m b = b
land-bounded (Some l) o m b = Each-append (λ (x : Landing). x.label ≤ 99999) o.landings _ b (record { first = m.most; others = tt })

go-bounded : (a : Action) (o : Outline) → Bounded o → Bounded (goes a o)
go-bounded (Goto l) o b = b
go-bounded Return o b = b
go-bounded Stop o b = b
go-bounded Other o b = b

module _ (f : ℕ → Bool) where
  mutual
    pub list-bounded : (n : ℕ) (t : StmtTrees) → AreNumbered n t → Each HasLabel (cards_in f t) → (o : Outline) → Bounded o → Bounded (outline_in t o)
    list-bounded n no_stmts a h o b = b
    list-bounded n (more_stmts s others) a h o b =
        list-bounded (last_of n s) others a.behind (back (cards_of f s) (cards_in f others) h) (outline_of s o) (stmt-bounded n s a.first (front (cards_of f s) (cards_in f others) h) o b)

    stmt-bounded : (n : ℕ) (s : StmtTree) → IsNumbered n s → Each HasLabel (cards_of f s) → (o : Outline) → Bounded o → Bounded (outline_of s o)
    stmt-bounded n (stmt id label w) a h o b = what-bounded (n + 1) id label w a.below h o b

    what-bounded : (n id : ℕ) (label : Option ℕ) (w : WhatTree) → NumberedBelow n w → Each HasLabel (cards_by f id label w) → (o : Outline) → Bounded o → Bounded (outline_by label w o)
    what-bounded n id label (assign v e) a h o b = land-bounded label o h.first b
    what-bounded n id label (block_if no_arms other) a h o b = absurd a.parts
    what-bounded n id label (block_if (more_arms (arm test body) others) other) a h o b =
        let end = else_cards f id other ++ card (parts.Close id) None (if_end (f id)) ∷ [] in
        let p = lands label o in
        let q = outline_in body (begins p) in
        let ps = part_cards f id 1 others end in
        let r = parts-bounded (last_in n body) id 1 others end a.parts.parts (back (cards_in f body) ps h.others) (leaves q)
        (list-bounded n body a.parts.below (front (cards_in f body) ps h.others) (begins p) (land-bounded label o h.first b)) in
        else-bounded (last_arms (last_in n body) others) id other a.last (front (else_cards f id other) (card (parts.Close id) None (if_end (f id)) ∷ []) r.0) (outline_arms others (leaves q)) r.1
    what-bounded n id label (logical_if e (stmt inner own w)) a h o b = land-bounded label (goes (acting (stmt inner own w)) o) h.first (go-bounded (acting (stmt inner own w)) o b)
    what-bounded n id label (do_loop (loop index first last step body)) a h o b =
        list-bounded n body a (front (cards_in f body) (card (parts.Close id) None end_do ∷ []) h.others) (begins (lands label o)) (land-bounded label o h.first b)
    what-bounded n id label (call c es) a h o b = land-bounded label o h.first b
    what-bounded n id label (goto l) a h o b = land-bounded label (goes (Goto l) o) h.first b
    what-bounded n id label continue a h o b = land-bounded label o h.first b
    what-bounded n id label return a h o b = land-bounded label o h.first b
    what-bounded n id label (stop t) a h o b = land-bounded label o h.first b
    what-bounded n id label (print es) a h o b = land-bounded label o h.first b
    what-bounded n id label (read es) a h o b = land-bounded label o h.first b

    parts-bounded : (n id place : ℕ) (others : ArmTrees) (end : List Card) → NumberedArms n others → Each HasLabel (part_cards f id place others end) → (o : Outline) → Bounded o
        → Each HasLabel end × Bounded (outline_arms others o)
    parts-bounded n id place no_arms end a h o b = (h, b)
    parts-bounded n id place (more_arms (arm test body) others) end a h o b =
        let ps = part_cards f id (place + 1) others end in
        parts-bounded (last_in n body) id (place + 1) others end a.parts (back (cards_in f body) ps h.others) (leaves (outline_in body (begins o)))
        (list-bounded n body a.below (front (cards_in f body) ps h.others) (begins o) b)

    else-bounded : (n id : ℕ) (other : ElseTree) → NumberedElse n other → Each HasLabel (else_cards f id other) → (o : Outline) → Bounded o → Bounded (outline_else other o)
    else-bounded n id no_else a h o b = b
    else-bounded n id (otherwise body) a h o b = list-bounded n body a h.others (begins o) b

-- each of them
pub is-bounded : (F : List Landing) → AreBounded F → (x : Landing) → Member x F → x.label ≤ 99999
is-bounded [] h x m = absurd m
is-bounded (y ∷ F) h x (inl e) = subst (λ (z : Landing). z.label ≤ 99999) (sym e) h.first
is-bounded (y ∷ F) h x (inr m) = is-bounded F h.others x m
