-- No GO TO of the statements that stand for those of a text leads out of all the lists around it.
use Rattle.std.proofs.Common.{◌≡◌, inl, inr, ℕ, ◌+◌, ◌≤◌, Bool, true, false, not, List, [], ◌∷◌, nat_eq, Option, refl, sym, ap, ◌∙◌, subst, arith}
use Rattle.std.specs.Prelude.{◌||◌, ◌&&◌, None, if◌then◌else◌}
use Rattle.std.specs.List.{list_any, list_all}
use Rattle.std.proofs.lemmas.Bool.{or_from}
use Rattle.f77_ast.specs.Trees.{ExprTree, stmt, WhatTree, assign, block_if, logical_if, do_loop, call, goto, continue, return, stop, print, read, arm, ArmTrees, no_arms, more_arms, ElseTree, no_else, otherwise, LoopTree, loop, StmtTrees, no_stmts, more_stmts}
use Rattle.f77_ast.specs.Trees as trees
use Rattle.f77_structure.specs.declared.mark.Action.TheVariants.{Goto}
use Rattle.f77_structure.specs.declared.blocks.Landing.{Landing}
use Rattle.f77_parser.specs.Roles.{action_of}
use Rattle.f77_parser.specs.Elaborated.{Meant, value_block, assigned, while_label, and_then_last, while_block, hidden_to, hidden_in, hidden_arms, elaborated_what, elaborated_while, elaborated_loop, elaborated_arms, elaborated_else, elaborated_in}
use Rattle.laws_programs.specs.roundtrip_programs.Statements.Phrased.{IsWhat}
use Rattle.laws_programs.proofs.RoundtripPrograms.ModuleTexts.Outlines.{Going, Outline, lands, goes, begins, leaves}
use Rattle.laws_programs.proofs.RoundtripPrograms.ModuleTexts.TreeOutlines.{outline_by, outline_body, outline_arms, outline_else, outline_in}
use Rattle.laws_programs.proofs.RoundtripPrograms.ModuleTexts.Shown as lists
use Rattle.laws_programs.proofs.RoundtripPrograms.ModuleTexts.Reached.{AllReach}
use Rattle.laws_programs.specs.roundtrip_programs.ModuleTexts.Numbered.{last_of, last_arms, last_in}
use Rattle.laws_programs.specs.roundtrip_programs.ModuleTexts.Folded.{WhileFitsBy, WhilesFitBody, WhilesFitArms, WhilesFitElse, WhilesFit}
use Rattle.laws_programs.proofs.Ordered.{BelowOrdered, LoopOrdered, ArmsOrdered, ElseOrdered, ListOrdered}
use Rattle.preconditions.specs.transformer_algebra.Cells.{has, others}
use Rattle.preconditions.specs.transformers.Jumps.{before_labels, labels}
use Rattle.laws_analyses.specs.Statements.Leads.{what_leads, each_leads, arms_lead, else_leads, loop_leads}
use Rattle.laws_analyses.proofs.Members.{Member, member_last}
use Rattle.laws_analyses.proofs.Sizes.{one_going, goings_by, goings_body, goings_arms, goings_else, goings_in}
use Rattle.laws_analyses.proofs.Steps.{Never, Own, InLabels, step_then, lands_step, list_step_in, list_step, what_step, body_step, arms_step, else_step}
use Rattle.laws_analyses.proofs.Insides.{In, Inside, taken_away, not_there, first_part, second_part, list_part}
use Rattle.fx_lists.proofs.Booleans.{or_neither}
use Rattle.fx_lists.proofs.Numbers.{same_is, nat_eq_same, unequal_numbers}

-- ---- a GO TO reaches a statement with its label in a list around it

pub record Lands (F : List Landing) (l : ℕ) (ks : List ℕ) : Type 0 where
  pub landing : Landing
  pub stands : Member landing F
  pub label : landing.label ≡ l
  pub within : In landing.list ks

landed_in : (F : List Landing) (l : ℕ) (ks : List ℕ) → list_any (λ x. nat_eq x.label l) F ≡ true → list_all (λ x. not (nat_eq x.label l) || lists.has x.list ks) F ≡ true → Lands F l ks
landed_in [] l ks h k = cc
landed_in (x ∷ F) l ks h k = go (nat_eq x.label l) refl (lists.has x.list ks) refl h k (landed_in F l ks)
  where
    go : (b : Bool) → nat_eq x.label l ≡ b → (c : Bool) → lists.has x.list ks ≡ c → (b || list_any (λ y. nat_eq y.label l) F) ≡ true → ((not b || c) && list_all (λ y. not (nat_eq y.label l) || lists.has y.list ks) F) ≡ true
        → (list_any (λ y. nat_eq y.label l) F ≡ true → list_all (λ y. not (nat_eq y.label l) || lists.has y.list ks) F ≡ true → Lands F l ks) → Lands (x ∷ F) l ks
    go true q true w i j ih = record { landing = x; stands = inl refl; label = same_is x.label l q; within = w }
    go true q false w i j ih = cc
    go false q c w i j ih = let r = ih i j in record { landing = r.landing; stands = inr r.stands; label = r.label; within = r.within }

pub reached : (F : List Landing) (G : List Going) → AllReach F G → (g : Going) → Member g G → Lands F g.label g.lists
reached F [] r g h = absurd h
reached F (y ∷ G) r g (inl e) = subst (λ (z : Going). Lands F z.label z.lists) (sym e) (landed_in F y.label y.lists r.first.stands r.first.meets)
reached F (y ∷ G) r g (inr h) = reached F G r.others g h

-- ---- labels of the text

-- those of the text are the same in both
abbrev pub Agree : List ℕ → List ℕ → Type 0
Agree ms ns = (l : ℕ) → l ≤ 99999 → has ns l ≡ has ms l

-- those that are left
left-over : (ms ns : List ℕ) (l : ℕ) → has (others ms ns) l ≡ (not (has ns l) && has ms l)
left-over [] ns l = go (has ns l)
  where
    go : (b : Bool) → false ≡ (not b && false)
    go true = refl
    go false = refl
left-over (m ∷ ms) ns l = go (has ns m) refl (nat_eq m l) refl (left-over ms ns l)
  where
    go : (b : Bool) → has ns m ≡ b → (c : Bool) → nat_eq m l ≡ c → has (others ms ns) l ≡ (not (has ns l) && has ms l)
        → has (if b then others ms ns else m ∷ others ms ns) l ≡ (not (has ns l) && (c || has ms l))
    go true p true q ih =
        let e : has ns l ≡ true = ap (has ns) (sym (same_is m l q)) ∙ p in
        ih ∙ ap (λ d. not d && has ms l) e ∙ sym (ap (λ d. not d && (true || has ms l)) e)
    go true p false q ih = ih
    go false p true q ih =
        let e : has ns l ≡ false = ap (has ns) (sym (same_is m l q)) ∙ p in
        ap (λ d. d || has (others ms ns) l) q ∙ sym (ap (λ d. not d && (true || has ms l)) e)
    go false p false q ih = ap (λ d. d || has (others ms ns) l) q ∙ ih

still-agree : (ms ns ls : List ℕ) → Agree ms ns → Agree (others ms ls) (others ns ls)
still-agree ms ns ls a l few = left-over ns ls l ∙ ap (λ b. not (has ls l) && b) (a l few) ∙ sym (left-over ms ls l)

-- the label of a hidden statement is none of them
hidden-not : (n l : ℕ) → l ≤ 99999 → has (while_label n ∷ []) l ≡ false
hidden-not n l few = let e : nat_eq (100000 + n) l ≡ false = unequal_numbers (100000 + n) l (λ x. absurd (omega (arith, x, few))) in ap (λ b. b || false) e

agree-hidden : (ms ns : List ℕ) (n : ℕ) → Agree ms ns → Agree ms (others ns (while_label n ∷ []))
agree-hidden ms ns n a l few = left-over ns (while_label n ∷ []) l ∙ ap (λ b. not b && has ns l) (hidden-not n l few) ∙ a l few

own-label : (n : ℕ) → has (while_label n ∷ []) (while_label n) ≡ true
own-label n = ap (λ b. b || false) (nat_eq_same (100000 + n))

-- ---- the lists of elaborated statements have the labels that they had

pub elaborated-labels : (m : Meant) (h : ℕ) (t : StmtTrees) → labels (elaborated_in m h t) ≡ labels t
elaborated-labels m h no_stmts = refl
elaborated-labels m h (more_stmts (stmt n label w) others) = ap (before_labels label) (elaborated-labels m (hidden_to m h (stmt n label w)) others)

pub last-labels : (t : StmtTrees) (k l : ℕ) → labels (and_then_last t (stmt k None (goto l))) ≡ labels t
last-labels no_stmts k l = refl
last-labels (more_stmts (stmt n label w) others) k l = ap (before_labels label) (last-labels others k l)

pub last-leads : (t : StmtTrees) (k l : ℕ) (ms : List ℕ) → each_leads t ms ≡ false → has ms l ≡ false → each_leads (and_then_last t (stmt k None (goto l))) ms ≡ false
last-leads no_stmts k l ms e h = ap (λ b. b || false) h
last-leads (more_stmts (stmt n label w) others) k l ms e h =
    let p = or_neither (what_leads w ms) (each_leads others ms) e in or_from (what_leads w ms) (each_leads (and_then_last others (stmt k None (goto l))) ms) p.0 (last-leads others k l ms p.1 h)

-- an assignment of the value of a function has no GO TO
pub assigned-leads : (m : Meant) (h : ℕ) (v e : ExprTree) (ms : List ℕ) → what_leads (assigned m h v e) ms ≡ false
assigned-leads m h v (trees.element f es) ms = go (m.is_function f)
  where
    go : (b : Bool) → what_leads (if b then value_block m h v f es else assign v (trees.element f es)) ms ≡ false
    go true = refl
    go false = refl
assigned-leads m h v e ms = refl

-- nor has a DO WHILE one that leads out, where its statements have none
pub while-leads : (n h k : ℕ) (test : ExprTree) (list : StmtTrees) (ms : List ℕ) → each_leads list (others (others ms (while_label n ∷ [])) (labels list)) ≡ false → what_leads (while_block n h k test list) ms ≡ false
while-leads n h k test list ms e =
    let all = and_then_last list (stmt (4097 + k) None (goto (while_label n))) in
    let ls = others ms (while_label n ∷ []) in
    let gone : has (others ls (labels all)) (while_label n) ≡ false = not_there ls (labels all) (while_label n) (taken_away ms (while_label n ∷ []) (while_label n) (own-label n)) in
    let same = last-labels list (4097 + k) (while_label n) in
    let inside : each_leads list (others ls (labels all)) ≡ false = ap (λ xs. each_leads list (others ls xs)) same ∙ e in
    let r : each_leads all (others ls (labels all)) ≡ false = last-leads list (4097 + k) (while_label n) (others ls (labels all)) inside gone in
    ap (λ b. b || false || false || false || false || false) r

-- ---- statements

module _ (F : List Landing) (G : List Going) (reach : AllReach F G) (bounded : (x : Landing) → Member x F → x.label ≤ 99999) (m : Meant) where
  -- a GO TO is kept
  goes_there : (l : ℕ) (o : Outline) → Member (record { label = l; lists = o.within }) (goes (Goto l) o).goings
  goes_there l o = member_last (record { label = l; lists = o.within }) o.goings

  goto_stays : (label : Option ℕ) (l : ℕ) (o : Outline) (ms ns : List ℕ) → Agree ms ns → Inside F G o (lands label (goes (Goto l) o)) ms 1 → has ns l ≡ false
  goto_stays label l o ms ns a i =
      let g : Going = record { label = l; lists = o.within } in
      let r = reached F G reach g (i.later g ((lands_step label (goes (Goto l) o)).goings g (goes_there l o))) in
      let few : l ≤ 99999 = subst (λ x. x ≤ 99999) r.label (bounded r.landing r.stands) in
      a l few ∙ ap (has ms) (sym r.label) ∙ i.covered r.landing r.stands r.within

  plain_stays : (h id : ℕ) (label : Option ℕ) (w : WhatTree) → IsWhat w → (o : Outline) (ms ns : List ℕ) → Agree ms ns → Inside F G o (lands label (goes (action_of w) o)) ms (one_going (action_of w))
      → what_leads (elaborated_what m h id w) ns ≡ false
  plain_stays h id label (assign v e) f o ms ns g i = assigned-leads m h v e ns
  plain_stays h id label (call n es) f o ms ns g i = refl
  plain_stays h id label (goto l) f o ms ns g i = goto_stays label l o ms ns g i
  plain_stays h id label continue f o ms ns g i = refl
  plain_stays h id label return f o ms ns g i = refl
  plain_stays h id label (stop t) f o ms ns g i = refl
  plain_stays h id label (print es) f o ms ns g i = refl
  plain_stays h id label (read es) f o ms ns g i = refl
  plain_stays h id label (block_if arms other) f o ms ns g i = absurd f
  plain_stays h id label (logical_if e s) f o ms ns g i = absurd f
  plain_stays h id label (do_loop l) f o ms ns g i = absurd f

  listed : (body : StmtTrees) (h : ℕ) (ns : List ℕ) → each_leads (elaborated_in m h body) (others ns (labels body)) ≡ false → each_leads (elaborated_in m h body) (others ns (labels (elaborated_in m h body))) ≡ false
  listed body h ns e = ap (λ xs. each_leads (elaborated_in m h body) (others ns xs)) (elaborated-labels m h body) ∙ e

  block_stays : (h id : ℕ) (arms : ArmTrees) (other : ElseTree) (c : Bool) (ns : List ℕ) → WhileFitsBy m.is_while c (block_if arms other)
      → ((j : ℕ) → arms_lead (elaborated_arms m j arms) ns ≡ false) → ((j : ℕ) → else_leads (elaborated_else m j other) ns ≡ false)
      → ((n j : ℕ) → arms_lead (elaborated_arms m j arms) (others ns (while_label n ∷ [])) ≡ false)
      → what_leads (if c then elaborated_while m h id arms else block_if (elaborated_arms m h arms) (elaborated_else m (hidden_arms m h arms) other)) ns ≡ false
  block_stays h id arms other false ns t p q r = or_from (arms_lead (elaborated_arms m h arms) ns) (else_leads (elaborated_else m (hidden_arms m h arms) other) ns) (p h) (q (hidden_arms m h arms))
  block_stays h id no_arms other true ns t p q r = refl
  block_stays h id (more_arms (arm test body) no_arms) no_else true ns t p q r =
      let list = elaborated_in m (1 + h) body in
      while-leads id h (hidden_in m (1 + h) body) test list ns (or_neither (each_leads list (others (others ns (while_label id ∷ [])) (labels list))) false (r id (1 + h))).0
  block_stays h id (more_arms (arm test body) no_arms) (otherwise list) true ns t p q r = absurd (t.alone refl)
  block_stays h id (more_arms (arm test body) (more_arms x xs)) other true ns t p q r = absurd (t.alone refl)

  mutual
    pub list_stays : (h n : ℕ) (t : StmtTrees) → ListOrdered n t → WhilesFit m.is_while t → (o : Outline) (ms ns : List ℕ) → Agree ms ns → Inside F G o (outline_in t o) ms (goings_in t)
        → each_leads (elaborated_in m h t) ns ≡ false
    list_stays h n no_stmts a t o ms ns g i = refl
    list_stays h n (more_stmts (stmt id label w) rest) a f o ms ns g i =
        let p = outline_by label w o in
        let q = outline_in rest p in
        let s = what_step label w o in
        let t = list_step rest p in
        let k = hidden_to m h (stmt id label w) in
        or_from (what_leads (elaborated_what m h id w) ns) (each_leads (elaborated_in m k rest) ns)
        (what_stays h (n + 1) id label w a.0.1 f.first o ms ns g (first_part F G ms o p q (Own label) (InLabels rest) (goings_by w) (goings_in rest) (goings_by w + goings_in rest) refl i s t))
        (list_stays k (last_of n (stmt id label w)) rest a.1 f.behind p ms ns g (second_part F G ms o p q (Own label) (InLabels rest) (goings_by w) (goings_in rest) (goings_by w + goings_in rest) refl i s t))

    what_stays : (h n id : ℕ) (label : Option ℕ) (w : WhatTree) → BelowOrdered n w → WhileFitsBy m.is_while (m.is_while id) w → (o : Outline) (ms ns : List ℕ) → Agree ms ns → Inside F G o (outline_by label w o) ms (goings_by w)
        → what_leads (elaborated_what m h id w) ns ≡ false
    what_stays h n id label (assign v e) a f o ms ns g i = assigned-leads m h v e ns
    what_stays h n id label (block_if arms other) a f o ms ns g i =
        let p = lands label o in
        let q = outline_arms arms p in
        let r = outline_else other q in
        let s = arms_step arms p in
        let t = else_step other q in
        let x = goings_arms arms in
        let y = goings_else other in
        let both = step_then p q r Never Never Never x y (λ l e. e) (λ l e. e) s t in
        let j = second_part F G ms o p r (Own label) Never 0 (x + y) (x + y) (omega arith) i (lands_step label o) both in
        let before = first_part F G ms p q r Never Never x y (x + y) refl j s t in
        block_stays h id arms other (m.is_while id) ns f
        (λ k. arms_stay k n arms a.0 f.parts p ms ns g before)
        (λ k. else_stays k (last_arms n arms) other a.1 f.last q ms ns g (second_part F G ms p q r Never Never x y (x + y) refl j s t))
        (λ l k. arms_stay k n arms a.0 f.parts p ms (others ns (while_label l ∷ [])) (agree-hidden ms ns l g) before)
    what_stays h n id label (logical_if e (stmt inner own w)) a f o ms ns g i = plain_stays h inner label w a.1 o ms ns g i
    what_stays h n id label (do_loop l) a f o ms ns g i =
        let p = lands label o in
        loop_stays h n l a f p ms ns g (second_part F G ms o p (outline_body l p) (Own label) Never 0 (goings_body l) (goings_body l) (omega arith) i (lands_step label o) (body_step l p))
    what_stays h n id label (call c es) a f o ms ns g i = refl
    what_stays h n id label (goto l) a f o ms ns g i = goto_stays label l o ms ns g i
    what_stays h n id label continue a f o ms ns g i = refl
    what_stays h n id label return a f o ms ns g i = refl
    what_stays h n id label (stop t) a f o ms ns g i = refl
    what_stays h n id label (print es) a f o ms ns g i = refl
    what_stays h n id label (read es) a f o ms ns g i = refl

    loop_stays : (h n : ℕ) (l : LoopTree) → LoopOrdered n l → WhilesFitBody m.is_while l → (o : Outline) (ms ns : List ℕ) → Agree ms ns → Inside F G o (outline_body l o) ms (goings_body l) → loop_leads (elaborated_loop m h l) ns ≡ false
    loop_stays h n (loop index first last step body) a f o ms ns g i =
        listed body h ns (list_stays h n body a f (begins o) (others ms (labels body)) (others ns (labels body)) (still-agree ms ns (labels body) g)
        (list_part F G ms o (outline_in body (begins o)) body (goings_in body) i (list_step body (begins o))))

    arms_stay : (h n : ℕ) (arms : ArmTrees) → ArmsOrdered n arms → WhilesFitArms m.is_while arms → (o : Outline) (ms ns : List ℕ) → Agree ms ns → Inside F G o (outline_arms arms o) ms (goings_arms arms)
        → arms_lead (elaborated_arms m h arms) ns ≡ false
    arms_stay h n no_arms a f o ms ns g i = refl
    arms_stay h n (more_arms (arm test body) rest) a f o ms ns g i =
        let b = outline_in body (begins o) in
        let p = leaves b in
        let q = outline_arms rest p in
        let s = list_step_in o b (InLabels body) (goings_in body) (list_step body (begins o)) in
        let t = arms_step rest p in
        let x = goings_in body in
        let y = goings_arms rest in
        let k = hidden_in m h body in
        or_from (each_leads (elaborated_in m h body) (others ns (labels (elaborated_in m h body)))) (arms_lead (elaborated_arms m k rest) ns)
        (listed body h ns (list_stays h n body a.0 f.below (begins o) (others ms (labels body)) (others ns (labels body)) (still-agree ms ns (labels body) g)
        (list_part F G ms o b body x (first_part F G ms o p q Never Never x y (x + y) refl i s t) (list_step body (begins o)))))
        (arms_stay k (last_in n body) rest a.1 f.parts p ms ns g (second_part F G ms o p q Never Never x y (x + y) refl i s t))

    else_stays : (h n : ℕ) (other : ElseTree) → ElseOrdered n other → WhilesFitElse m.is_while other → (o : Outline) (ms ns : List ℕ) → Agree ms ns → Inside F G o (outline_else other o) ms (goings_else other)
        → else_leads (elaborated_else m h other) ns ≡ false
    else_stays h n no_else a f o ms ns g i = refl
    else_stays h n (otherwise body) a f o ms ns g i =
        listed body h ns (list_stays h n body a f (begins o) (others ms (labels body)) (others ns (labels body)) (still-agree ms ns (labels body) g)
        (list_part F G ms o (outline_in body (begins o)) body (goings_in body) i (list_step body (begins o))))
