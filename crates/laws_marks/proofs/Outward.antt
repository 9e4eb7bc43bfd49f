-- GO TOs that lead out of a list that is executed in its order name no label in it, at whatever depth: each statement with the label of a GO TO stands in a list around it.
-- The statements are those that stand for the written ones (f77_parser, specs/Elaborated); the GO TO of a DO WHILE leads to its own labelled block IF, and no other does.
use Rattle.std.proofs.Common.{◌≡◌, ◌⊎◌, inl, inr, ⊎_elim, ℕ, ◌+◌, ◌≤◌, ◌<◌, Bool, true, false, List, [], ◌∷◌, ◌++◌, nat_eq, Option, Some, None, refl, sym, ap, ◌∙◌, subst, arith, true≢false, append-nil}
use Rattle.std.specs.Prelude.{◌||◌, ◌&&◌, not, if◌then◌else◌}
use Rattle.std.specs.List.{list_all}
use Rattle.std.proofs.lemmas.Bool.{and_parts, or_from, or_left, or_right, or_parts}
use Rattle.f77_ast.specs.Trees.{ExprTree, StmtTree, stmt, WhatTree, assign, block_if, logical_if, do_loop, call, goto, continue, return, stop, print, read, arm, ArmTrees, no_arms, more_arms, ElseTree, no_else, otherwise, LoopTree, loop, StmtTrees, no_stmts, more_stmts}
use Rattle.f77_ast.specs.Trees as trees
use Rattle.f77_structure.specs.declared.mark.Action.{Action}
use Rattle.f77_structure.specs.declared.mark.Action.TheVariants.{Goto, Return, Stop, Other}
use Rattle.f77_structure.specs.declared.blocks.Landing.{Landing}
use Rattle.f77_parser.specs.Roles.{action_of}
use Rattle.f77_parser.specs.Elaborated.{Meant, value_block, assigned, one_arm, while_label, and_then_last, while_block, hidden_to, hidden_in, hidden_arms, elaborated_what, elaborated_while, elaborated_loop, elaborated_arms, elaborated_else, elaborated_in}
use Rattle.laws_programs.specs.roundtrip_programs.Statements.Phrased.{IsWhat}
use Rattle.laws_programs.proofs.RoundtripPrograms.ModuleTexts.Outlines.{Going, Outline, innermost, lands, goes, begins, leaves, nothing_outlined}
use Rattle.laws_programs.proofs.RoundtripPrograms.ModuleTexts.TreeOutlines.{outline_by, outline_body, outline_arms, outline_else, outline_in}
use Rattle.laws_programs.proofs.RoundtripPrograms.ModuleTexts.Shown as lists
use Rattle.laws_programs.proofs.RoundtripPrograms.ModuleTexts.Reached.{AllReach}
use Rattle.laws_programs.proofs.RoundtripPrograms.ModuleTexts.FoldedLaws.{later-of, later-arms, later-in}
use Rattle.laws_programs.specs.roundtrip_programs.ModuleTexts.Numbered.{last_of, last_arms, last_in, NumberedBelow, NumberedBody, NumberedArms, NumberedElse, AreNumbered}
use Rattle.laws_programs.specs.roundtrip_programs.ModuleTexts.Folded.{WhileFitsBy, WhilesFitBody, WhilesFitArms, WhilesFitElse, WhilesFit}
use Rattle.laws_programs.proofs.Ordered.{BelowOrdered, LoopOrdered, ArmsOrdered, ElseOrdered, ListOrdered}
use Rattle.preconditions.specs.transformer_algebra.Cells.{has, others}
use Rattle.preconditions.specs.transformers.Jumps.{before_labels, labels, goes_to, list_has, stmt_has, early_return, unstructured}
use Rattle.loop_marker.specs.out_regions.Leaving.{stmt_labels, what_labels, list_labels, arms_labels, else_labels, loop_labels}
use Rattle.laws_analyses.specs.Statements.Leads.{what_leads, each_leads, arms_lead, else_leads, loop_leads}
use Rattle.laws_analyses.proofs.Statements.LeadLaws.{list_goes}
use Rattle.laws_analyses.proofs.Members.{Member, member_more, member_last}
use Rattle.laws_analyses.proofs.Sizes.{one_going, goings_by, goings_body, goings_arms, goings_else, goings_in}
use Rattle.laws_analyses.proofs.Steps.{Never, Own, InLabels, Came, before, own, inner, Step, step_then, lands_step, list_step_in, list_step, what_step, body_step, arms_step, else_step}
use Rattle.laws_analyses.proofs.Insides.{In, Inside, taken_away, not_there, first_part, second_part, list_part}
use Rattle.laws_analyses.proofs.Leading.{reached as lands_there, elaborated-labels, last-labels, last-leads, assigned-leads, while-leads}
use Rattle.laws_marks.proofs.InFirsts.{not_so}
use Rattle.laws_marks.specs.OutLabels.{EachOutward, IsOutward, PartsOutward, StmtsOutward, ArmsOutward, ElseOutward, LoopOutward}
use Rattle.fx_lists.proofs.Booleans.{or_split, bool_cases}
use Rattle.fx_lists.proofs.Numbers.{same_is as nat_same, nat_eq_same}
use Rattle.preconditions.proofs.TransformerAlgebra.HasLaws.{has_left, has_either, has_parts as none_parts, others_in}
use Rattle.laws_programs.proofs.RoundtripPrograms.ModuleTexts.Counting.{block-arms}

only : (l m : ℕ) → has (l ∷ []) m ≡ true → l ≡ m
only l m h = or_split (nat_eq l m) false h (λ e. nat_same l m e) (λ e. absurd (true≢false (sym e)))

-- ---- each statement with the label of a GO TO stands in a list around it

all_in : (l : ℕ) (ks : List ℕ) (L : List Landing) → list_all (λ x. not (nat_eq x.label l) || lists.has x.list ks) L ≡ true → (x : Landing) → Member x L → x.label ≡ l → In x.list ks
all_in l ks [] h x m e = absurd m
all_in l ks (y ∷ L) h x m e = (let q = and_parts (not (nat_eq y.label l) || lists.has y.list ks) (list_all (λ z. not (nat_eq z.label l) || lists.has z.list ks) L) h in go q.0 m (λ n. all_in l ks L q.1 x n e))
  where
    here : (y.label ≡ l) → (not (nat_eq y.label l) || lists.has y.list ks) ≡ true → In y.list ks
    here q r = subst (λ b. (not b || lists.has y.list ks) ≡ true) (ap (nat_eq y.label) (sym q) ∙ nat_eq_same y.label) r

    go : (not (nat_eq y.label l) || lists.has y.list ks) ≡ true → Member x (y ∷ L) → (Member x L → In x.list ks) → In x.list ks
    go r (inl q) ih = subst (λ (z : Landing). In z.list ks) (sym q) (here (sym (ap (λ (z : Landing). z.label) q) ∙ e) r)
    go r (inr n) ih = ih n

module _ (F : List Landing) where
  -- one of the labels that are asked for: all its statements are in these lists
  pub record LeadsOut (ms ks : List ℕ) : Type 0 where
    label : ℕ
    asked : has ms label ≡ true
    few : label ≤ 99999
    all : (x : Landing) → Member x F → x.label ≡ label → In x.list ks

  reached : (G : List Going) → AllReach F G → (g : Going) → Member g G → (x : Landing) → Member x F → x.label ≡ g.label → In x.list g.lists
  reached [] r g h = absurd h
  reached (y ∷ G) r g (inl e) = subst (λ (z : Going). (x : Landing) → Member x F → x.label ≡ z.label → In x.list z.lists) (sym e) (λ x m q. all_in y.label y.lists F r.first.meets x m q)
  reached (y ∷ G) r g (inr h) = reached G r.others g h

  around : (ms ks js : List ℕ) → ks ≡ js → LeadsOut ms ks → LeadsOut ms js
  around ms ks js e h = subst (λ zs. LeadsOut ms zs) e h

  -- one of more labels
  among : (ms ns ks : List ℕ) → ((l : ℕ) → has ms l ≡ true → has ns l ≡ true) → LeadsOut ms ks → LeadsOut ns ks
  among ms ns ks f h = record { label = h.label; asked = f h.label h.asked; few = h.few; all = h.all }

-- where a block IF that is elaborated leads
data BlockLeads (m : Meant) (arms : ArmTrees) (other : ElseTree) (ns : List ℕ) : Type 0 where
  in_arms : (j : ℕ) (ms : List ℕ) → ((l : ℕ) → has ms l ≡ true → has ns l ≡ true) → arms_lead (elaborated_arms m j arms) ms ≡ true → BlockLeads m arms other ns
  in_else : (j : ℕ) → else_leads (elaborated_else m j other) ns ≡ true → BlockLeads m arms other ns

block_leads : (m : Meant) (h id : ℕ) (arms : ArmTrees) (other : ElseTree) (c : Bool) (ns : List ℕ) → WhileFitsBy m.is_while c (block_if arms other)
    → what_leads (if c then elaborated_while m h id arms else block_if (elaborated_arms m h arms) (elaborated_else m (hidden_arms m h arms) other)) ns ≡ true → BlockLeads m arms other ns
block_leads m h id arms other false ns t e = or_split (arms_lead (elaborated_arms m h arms) ns) (else_leads (elaborated_else m (hidden_arms m h arms) other) ns) e (λ q. in_arms h ns (λ l x. x) q) (λ q. in_else (hidden_arms m h arms) q)
block_leads m h id no_arms other true ns t e = absurd (true≢false (sym e))
block_leads m h id (more_arms (arm test body) no_arms) no_else true ns t e = bool_cases inside (BlockLeads m (more_arms (arm test body) no_arms) no_else ns) there (λ q. absurd (true≢false (sym e ∙ while-leads id h (hidden_in m (1 + h) body) test list ns q)))
  where
    list : StmtTrees
    list = elaborated_in m (1 + h) body

    ms : List ℕ
    ms = others ns (while_label id ∷ [])

    inside : Bool
    inside = each_leads list (others ms (labels list))

    there : each_leads (elaborated_in m (1 + h) body) (others (others ns (while_label id ∷ [])) (labels (elaborated_in m (1 + h) body))) ≡ true → BlockLeads m (more_arms (arm test body) no_arms) no_else ns
    there q = in_arms (1 + h) ms (λ l x. others_in ns (while_label id ∷ []) l x) (or_left inside false q)
block_leads m h id (more_arms (arm test body) no_arms) (otherwise list) true ns t e = absurd (t.alone refl)
block_leads m h id (more_arms (arm test body) (more_arms x xs)) other true ns t e = absurd (t.alone refl)

module _ (F : List Landing) (G : List Going) (reach : AllReach F G) (bounded : (x : Landing) → Member x F → x.label ≤ 99999) where
  goto_out : (label : Option ℕ) (l : ℕ) (o : Outline) (ms : List ℕ) → Inside F G o (lands label (goes (Goto l) o)) [] 1 → has ms l ≡ true → LeadsOut F ms o.within
  goto_out label l o ms i h =
      let g : Going = record { label = l; lists = o.within } in
      let there = i.later g ((lands_step label (goes (Goto l) o)).goings g (member_last g o.goings)) in
      let r = lands_there F G reach g there in
      record { label = l; asked = h; few = subst (λ x. x ≤ 99999) r.label (bounded r.landing r.stands); all = λ x m e. reached F G reach g there x m e }

  plain_out : (m : Meant) (h id : ℕ) (label : Option ℕ) (w : WhatTree) → IsWhat w → (o : Outline) (ms : List ℕ) → Inside F G o (lands label (goes (action_of w) o)) [] (one_going (action_of w))
      → what_leads (elaborated_what m h id w) ms ≡ true → LeadsOut F ms o.within
  plain_out m h id label (assign v e) f o ms i q = absurd (true≢false (sym q ∙ assigned-leads m h v e ms))
  plain_out m h id label (call n es) f o ms i q = absurd (true≢false (sym q))
  plain_out m h id label (goto l) f o ms i q = goto_out label l o ms i q
  plain_out m h id label continue f o ms i q = absurd (true≢false (sym q))
  plain_out m h id label return f o ms i q = absurd (true≢false (sym q))
  plain_out m h id label (stop t) f o ms i q = absurd (true≢false (sym q))
  plain_out m h id label (print es) f o ms i q = absurd (true≢false (sym q))
  plain_out m h id label (read es) f o ms i q = absurd (true≢false (sym q))
  plain_out m h id label (block_if arms other) f o ms i q = absurd f
  plain_out m h id label (logical_if e s) f o ms i q = absurd f
  plain_out m h id label (do_loop l) f o ms i q = absurd f

  -- out of a list within
  list_around : (ms : List ℕ) (o p : Outline) (body : StmtTrees) (n : ℕ) → Inside F G o (leaves p) [] n → Step (begins o) p (InLabels body) n → LeadsOut F (others ms (labels body)) (begins o).within → LeadsOut F ms o.within
  list_around ms o p body n i s h = record { label = h.label; few = h.few; asked = asked (has ms h.label) refl; all = λ x m e. outside x m e (h.all x m e) }
    where
      asked : (b : Bool) → has ms h.label ≡ b → b ≡ true
      asked true e = refl
      asked false e = absurd (true≢false (sym h.asked ∙ not_there ms (labels body) h.label e))

      mine : (x : Landing) → x.label ≡ h.label → o.count ≡ x.list → Came (begins o) p (InLabels body) x → In x.list o.within
      mine x q e (before m) = let l = i.old x m in absurd (omega (arith, l, e))
      mine x q e (own y z) = absurd (true≢false (sym h.asked ∙ taken_away ms (labels body) h.label (subst (λ k. has (labels body) k ≡ true) q z)))
      mine x q e (inner y z) = absurd (omega (arith, y, e))

      outside : (x : Landing) → Member x F → x.label ≡ h.label → In x.list (begins o).within → In x.list o.within
      outside x m q r =
          or_split (nat_eq o.count x.list) (lists.has x.list o.within) r
          (λ b. (let e = nat_same o.count x.list b in let c = s.count in mine x q e (s.landings x (i.apart x m (omega (arith, e)) (omega (arith, e, c))))))
          (λ b. b)

  -- the labels of a list are those that it had
  relabelled : (m : Meant) (h : ℕ) (body : StmtTrees) (ms : List ℕ) → each_leads (elaborated_in m h body) (others ms (labels (elaborated_in m h body))) ≡ true → each_leads (elaborated_in m h body) (others ms (labels body)) ≡ true
  relabelled m h body ms e = sym (ap (λ xs. each_leads (elaborated_in m h body) (others ms xs)) (elaborated-labels m h body)) ∙ e

  module _ (m : Meant) where
    in_block : (o : Outline) (ms : List ℕ) (arms : ArmTrees) (other : ElseTree) → BlockLeads m arms other ms
        → ((j : ℕ) (ns : List ℕ) → arms_lead (elaborated_arms m j arms) ns ≡ true → LeadsOut F ns o.within) → ((j : ℕ) → else_leads (elaborated_else m j other) ms ≡ true → LeadsOut F ms o.within) → LeadsOut F ms o.within
    in_block o ms arms other (in_arms j ns g e) p q = among F ns ms o.within g (p j ns e)
    in_block o ms arms other (in_else j e) p q = q j e

    mutual
      list_out : (h n : ℕ) (t : StmtTrees) → ListOrdered n t → WhilesFit m.is_while t → (o : Outline) (ms : List ℕ) → Inside F G o (outline_in t o) [] (goings_in t) → each_leads (elaborated_in m h t) ms ≡ true → LeadsOut F ms o.within
      list_out h n no_stmts a f o ms i e = absurd (true≢false (sym e))
      list_out h n (more_stmts (stmt id label w) rest) a f o ms i e =
          let p = outline_by label w o in
          let q = outline_in rest p in
          let s = what_step label w o in
          let t = list_step rest p in
          let k = hidden_to m h (stmt id label w) in
          or_split (what_leads (elaborated_what m h id w) ms) (each_leads (elaborated_in m k rest) ms) e
          (λ z. what_out h (n + 1) id label w a.0.1 f.first o ms (first_part F G [] o p q (Own label) (InLabels rest) (goings_by w) (goings_in rest) (goings_by w + goings_in rest) refl i s t) z)
          (λ z. around F ms p.within o.within s.within (list_out k (last_of n (stmt id label w)) rest a.1 f.behind p ms (second_part F G [] o p q (Own label) (InLabels rest) (goings_by w) (goings_in rest) (goings_by w + goings_in rest) refl i s t) z))

      what_out : (h n id : ℕ) (label : Option ℕ) (w : WhatTree) → BelowOrdered n w → WhileFitsBy m.is_while (m.is_while id) w → (o : Outline) (ms : List ℕ) → Inside F G o (outline_by label w o) [] (goings_by w)
          → what_leads (elaborated_what m h id w) ms ≡ true → LeadsOut F ms o.within
      what_out h n id label (assign v e) a f o ms i z = absurd (true≢false (sym z ∙ assigned-leads m h v e ms))
      what_out h n id label (block_if arms other) a f o ms i z =
          let p = lands label o in
          let q = outline_arms arms p in
          let r = outline_else other q in
          let s = arms_step arms p in
          let t = else_step other q in
          let x = goings_arms arms in
          let y = goings_else other in
          let both = step_then p q r Never Never Never x y (λ l e. e) (λ l e. e) s t in
          let j = second_part F G [] o p r (Own label) Never 0 (x + y) (x + y) (omega arith) i (lands_step label o) both in
          in_block o ms arms other (block_leads m h id arms other (m.is_while id) ms f z)
          (λ k ns e. around F ns p.within o.within (lands_step label o).within (arms_out k n arms a.0 f.parts p ns (first_part F G [] p q r Never Never x y (x + y) refl j s t) e))
          (λ k e. around F ms q.within o.within (s.within ∙ (lands_step label o).within) (else_out k (last_arms n arms) other a.1 f.last q ms (second_part F G [] p q r Never Never x y (x + y) refl j s t) e))
      what_out h n id label (logical_if e (stmt number own_label w)) a f o ms i z = plain_out m h number label w a.1 o ms i z
      what_out h n id label (do_loop l) a f o ms i z =
          let p = lands label o in
          around F ms p.within o.within (lands_step label o).within (loop_out h n l a f p ms (second_part F G [] o p (outline_body l p) (Own label) Never 0 (goings_body l) (goings_body l) (omega arith) i (lands_step label o) (body_step l p)) z)
      what_out h n id label (call c es) a f o ms i z = absurd (true≢false (sym z))
      what_out h n id label (goto l) a f o ms i z = goto_out label l o ms i z
      what_out h n id label continue a f o ms i z = absurd (true≢false (sym z))
      what_out h n id label return a f o ms i z = absurd (true≢false (sym z))
      what_out h n id label (stop t) a f o ms i z = absurd (true≢false (sym z))
      what_out h n id label (print es) a f o ms i z = absurd (true≢false (sym z))
      what_out h n id label (read es) a f o ms i z = absurd (true≢false (sym z))

      pub loop_out : (h n : ℕ) (l : LoopTree) → LoopOrdered n l → WhilesFitBody m.is_while l → (o : Outline) (ms : List ℕ) → Inside F G o (outline_body l o) [] (goings_body l) → loop_leads (elaborated_loop m h l) ms ≡ true → LeadsOut F ms o.within
      loop_out h n (loop index first last step body) a f o ms i z =
          list_around ms o (outline_in body (begins o)) body (goings_in body) i (list_step body (begins o))
          (list_out h n body a f (begins o) (others ms (labels body)) (list_part F G [] o (outline_in body (begins o)) body (goings_in body) i (list_step body (begins o))) (relabelled m h body ms z))

      arms_out : (h n : ℕ) (arms : ArmTrees) → ArmsOrdered n arms → WhilesFitArms m.is_while arms → (o : Outline) (ms : List ℕ) → Inside F G o (outline_arms arms o) [] (goings_arms arms) → arms_lead (elaborated_arms m h arms) ms ≡ true → LeadsOut F ms o.within
      arms_out h n no_arms a f o ms i z = absurd (true≢false (sym z))
      arms_out h n (more_arms (arm test body) rest) a f o ms i z =
          let b = outline_in body (begins o) in
          let p = leaves b in
          let q = outline_arms rest p in
          let s = list_step_in o b (InLabels body) (goings_in body) (list_step body (begins o)) in
          let t = arms_step rest p in
          let x = goings_in body in
          let y = goings_arms rest in
          let k = hidden_in m h body in
          or_split (each_leads (elaborated_in m h body) (others ms (labels (elaborated_in m h body)))) (arms_lead (elaborated_arms m k rest) ms) z
          (λ e. (let j = first_part F G [] o p q Never Never x y (x + y) refl i s t in
          list_around ms o b body x j (list_step body (begins o)) (list_out h n body a.0 f.below (begins o) (others ms (labels body)) (list_part F G [] o b body x j (list_step body (begins o))) (relabelled m h body ms e))))
          (λ e. around F ms p.within o.within s.within (arms_out k (last_in n body) rest a.1 f.parts p ms (second_part F G [] o p q Never Never x y (x + y) refl i s t) e))

      else_out : (h n : ℕ) (other : ElseTree) → ElseOrdered n other → WhilesFitElse m.is_while other → (o : Outline) (ms : List ℕ) → Inside F G o (outline_else other o) [] (goings_else other) → else_leads (elaborated_else m h other) ms ≡ true → LeadsOut F ms o.within
      else_out h n no_else a f o ms i z = absurd (true≢false (sym z))
      else_out h n (otherwise body) a f o ms i z =
          list_around ms o (outline_in body (begins o)) body (goings_in body) i (list_step body (begins o))
          (list_out h n body a f (begins o) (others ms (labels body)) (list_part F G [] o (outline_in body (begins o)) body (goings_in body) i (list_step body (begins o))) (relabelled m h body ms z))

-- ---- what stands stays

lands_keeps : (label : Option ℕ) (o : Outline) (x : Landing) → Member x o.landings → Member x (lands label o).landings
lands_keeps None o x m = m
lands_keeps (Some l) o x m = member_more x (record { label = l; list = innermost o.within }) o.landings m

goes_keeps : (a : Action) (o : Outline) (x : Landing) → Member x o.landings → Member x (goes a o).landings
goes_keeps (Goto l) o x m = m
goes_keeps Return o x m = m
goes_keeps Stop o x m = m
goes_keeps Other o x m = m

mutual
  pub list_keeps : (t : StmtTrees) (o : Outline) (x : Landing) → Member x o.landings → Member x (outline_in t o).landings
  list_keeps no_stmts o x m = m
  list_keeps (more_stmts (stmt id label w) rest) o x m = list_keeps rest (outline_by label w o) x (what_keeps label w o x m)

  what_keeps : (label : Option ℕ) (w : WhatTree) (o : Outline) (x : Landing) → Member x o.landings → Member x (outline_by label w o).landings
  what_keeps label (assign v e) o x m = lands_keeps label o x m
  what_keeps label (block_if arms other) o x m = else_keeps other (outline_arms arms (lands label o)) x (arms_keeps arms (lands label o) x (lands_keeps label o x m))
  what_keeps label (logical_if e (stmt id own_label w)) o x m = lands_keeps label (goes (action_of w) o) x (goes_keeps (action_of w) o x m)
  what_keeps label (do_loop l) o x m = body_keeps l (lands label o) x (lands_keeps label o x m)
  what_keeps label (call n es) o x m = lands_keeps label o x m
  what_keeps label (goto l) o x m = lands_keeps label (goes (Goto l) o) x m
  what_keeps label continue o x m = lands_keeps label o x m
  what_keeps label return o x m = lands_keeps label o x m
  what_keeps label (stop t) o x m = lands_keeps label o x m
  what_keeps label (print es) o x m = lands_keeps label o x m
  what_keeps label (read es) o x m = lands_keeps label o x m

  body_keeps : (l : LoopTree) (o : Outline) (x : Landing) → Member x o.landings → Member x (outline_body l o).landings
  body_keeps (loop index first last step body) o x m = list_keeps body (begins o) x m

  pub arms_keeps : (arms : ArmTrees) (o : Outline) (x : Landing) → Member x o.landings → Member x (outline_arms arms o).landings
  arms_keeps no_arms o x m = m
  arms_keeps (more_arms (arm test body) rest) o x m = arms_keeps rest (leaves (outline_in body (begins o))) x (list_keeps body (begins o) x m)

  pub else_keeps : (other : ElseTree) (o : Outline) (x : Landing) → Member x o.landings → Member x (outline_else other o).landings
  else_keeps no_else o x m = m
  else_keeps (otherwise body) o x m = list_keeps body (begins o) x m

-- ---- where labels stand

-- in a list that began since
pub record Stands (o p : Outline) (l : ℕ) : Type 0 where
  landing : Landing
  stands : Member landing p.landings
  label : landing.label ≡ l
  inside : o.count ≤ landing.list

-- directly in this one
record StandsHere (o p : Outline) (l : ℕ) : Type 0 where
  landing : Landing
  stands : Member landing p.landings
  label : landing.label ≡ l
  list : landing.list ≡ innermost o.within

label_lands : (label : Option ℕ) (w : WhatTree) (o : Outline) (l : ℕ) → label ≡ Some l → StandsHere o (outline_by label w o) l
label_lands None w o l e = cc
label_lands (Some k) w o l e = by_what w
  where
    same : k ≡ l
    same = cc

    x : Landing
    x = record { label = k; list = innermost o.within }

    at_end : (q : Outline) → q.within ≡ o.within → Member (record { label = k; list = innermost o.within }) (lands (Some k) q).landings
    at_end q e = subst (λ ks. Member (record { label = k; list = innermost ks }) (lands (Some k) q).landings) e (member_last (record { label = k; list = innermost q.within }) q.landings)

    made : (p : Outline) → Member (record { label = k; list = innermost o.within }) p.landings → StandsHere o p l
    made p m = record { landing = record { label = k; list = innermost o.within }; stands = m; label = same; list = refl }

    acted : (a : Action) → (goes a o).within ≡ o.within
    acted (Goto m) = refl
    acted Return = refl
    acted Stop = refl
    acted Other = refl

    by_what : (w : WhatTree) → StandsHere o (outline_by (Some k) w o) l
    by_what (assign v f) = made (lands (Some k) o) (at_end o refl)
    by_what (block_if arms other) = made (outline_else other (outline_arms arms (lands (Some k) o))) (else_keeps other (outline_arms arms (lands (Some k) o)) (record { label = k; list = innermost o.within }) (arms_keeps arms (lands (Some k) o) (record { label = k; list = innermost o.within }) (at_end o refl)))
    by_what (logical_if f (stmt id own_label v)) = made (lands (Some k) (goes (action_of v) o)) (at_end (goes (action_of v) o) (acted (action_of v)))
    by_what (do_loop d) = made (outline_body d (lands (Some k) o)) (body_keeps d (lands (Some k) o) (record { label = k; list = innermost o.within }) (at_end o refl))
    by_what (call n es) = made (lands (Some k) o) (at_end o refl)
    by_what (goto m) = made (lands (Some k) (goes (Goto m) o)) (at_end (goes (Goto m) o) refl)
    by_what continue = made (lands (Some k) o) (at_end o refl)
    by_what return = made (lands (Some k) o) (at_end o refl)
    by_what (stop t) = made (lands (Some k) o) (at_end o refl)
    by_what (print es) = made (lands (Some k) o) (at_end o refl)
    by_what (read es) = made (lands (Some k) o) (at_end o refl)

-- one of the labels of a statement and its parts
split_labels : (label : Option ℕ) (ls : List ℕ) (l : ℕ) → has (before_labels label ls) l ≡ true → (label ≡ Some l) ⊎ (has ls l ≡ true)
split_labels None ls l h = inr h
split_labels (Some k) ls l h = or_split (nat_eq k l) (has ls l) h (λ e. inl (ap Some (nat_same k l e))) (λ e. inr e)

-- a label directly in a list
listed : (t : StmtTrees) (o : Outline) (l : ℕ) → has (labels t) l ≡ true → StandsHere o (outline_in t o) l
listed no_stmts o l h = absurd (true≢false (sym h))
listed (more_stmts (stmt id label w) rest) o l h = ⊎_elim here (λ e. later (listed rest (outline_by label w o) l e)) (split_labels label (labels rest) l h)
  where
    here : label ≡ Some l → StandsHere o (outline_in rest (outline_by label w o)) l
    here e = (let r = label_lands label w o l e in record { landing = r.landing; stands = list_keeps rest (outline_by label w o) r.landing r.stands; label = r.label; list = r.list })

    later : StandsHere (outline_by label w o) (outline_in rest (outline_by label w o)) l → StandsHere o (outline_in rest (outline_by label w o)) l
    later r = record { landing = r.landing; stands = r.stands; label = r.label; list = r.list ∙ ap innermost (what_step label w o).within }

-- where more statements follow
stands_more : (o p q : Outline) (l : ℕ) → ((x : Landing) → Member x p.landings → Member x q.landings) → Stands o p l → Stands o q l
stands_more o p q l f h = record { landing = h.landing; stands = f h.landing h.stands; label = h.label; inside = h.inside }

-- from before others
stands_from : (o p q : Outline) (l : ℕ) → o.count ≤ p.count → Stands p q l → Stands o q l
stands_from o p q l c h = record { landing = h.landing; stands = h.stands; label = h.label; inside = let a = h.inside in omega (arith, a, c) }

-- a label that stands in a list that began since, or that of a hidden statement of a DO WHILE with such a number
pub data Labelled (n : ℕ) (o p : Outline) (l : ℕ) : Type 0 where
  text : Stands o p l → Labelled n o p l
  hidden : (k : ℕ) → n ≤ k → l ≡ while_label k → Labelled n o p l

labelled_more : (n : ℕ) (o p q : Outline) (l : ℕ) → ((x : Landing) → Member x p.landings → Member x q.landings) → Labelled n o p l → Labelled n o q l
labelled_more n o p q l f (text h) = text (stands_more o p q l f h)
labelled_more n o p q l f (hidden k a e) = hidden k a e

labelled_from : (n k : ℕ) (o p q : Outline) (l : ℕ) → k ≤ n → o.count ≤ p.count → Labelled n p q l → Labelled k o q l
labelled_from n k o p q l c d (text h) = text (stands_from o p q l d h)
labelled_from n k o p q l c d (hidden j a e) = hidden j (omega (arith, a, c)) e

-- what stands in a list within
within_from : (n : ℕ) (body : StmtTrees) (o : Outline) (l : ℕ) → (has (labels body) l ≡ true) ⊎ Labelled n (begins o) (outline_in body (begins o)) l → Labelled n o (leaves (outline_in body (begins o))) l
within_from n body o l h = ⊎_elim here inside h
  where
    here : has (labels body) l ≡ true → Labelled n o (leaves (outline_in body (begins o))) l
    here e = (let r = listed body (begins o) l e in text (record { landing = r.landing; stands = r.stands; label = r.label; inside = let q = r.list in omega (arith, q) }))

    inside : Labelled n (begins o) (outline_in body (begins o)) l → Labelled n o (leaves (outline_in body (begins o))) l
    inside (text r) = text (record { landing = r.landing; stands = r.stands; label = r.label; inside = let q = r.inside in omega (arith, q) })
    inside (hidden k a e) = hidden k a e

-- a plain statement has no other in it
assigned_none : (m : Meant) (h : ℕ) (v e : ExprTree) → what_labels (assigned m h v e) ≡ []
assigned_none m h v (trees.element f es) = go (m.is_function f)
  where
    go : (b : Bool) → what_labels (if b then value_block m h v f es else assign v (trees.element f es)) ≡ []
    go true = refl
    go false = refl
assigned_none m h v e = refl

plain_none : (m : Meant) (h id : ℕ) (w : WhatTree) → IsWhat w → what_labels (elaborated_what m h id w) ≡ []
plain_none m h id (assign v e) f = assigned_none m h v e
plain_none m h id (call n es) f = refl
plain_none m h id (goto k) f = refl
plain_none m h id continue f = refl
plain_none m h id return f = refl
plain_none m h id (stop t) f = refl
plain_none m h id (print es) f = refl
plain_none m h id (read es) f = refl
plain_none m h id (block_if arms other) f = absurd f
plain_none m h id (logical_if e s) f = absurd f
plain_none m h id (do_loop d) f = absurd f

bare_none : (label : Option ℕ) (ls : List ℕ) → label ≡ None → ls ≡ [] → before_labels label ls ≡ []
bare_none None ls e f = f
bare_none (Some k) ls e f = cc

-- the labels of a block IF that is elaborated
data BlockLabel (m : Meant) (id : ℕ) (arms : ArmTrees) (other : ElseTree) (l : ℕ) : Type 0 where
  of_while : l ≡ while_label id → BlockLabel m id arms other l
  of_arms : (j : ℕ) → has (arms_labels (elaborated_arms m j arms)) l ≡ true → BlockLabel m id arms other l
  of_else : (j : ℕ) → has (else_labels (elaborated_else m j other)) l ≡ true → BlockLabel m id arms other l

without_none : (xs : List ℕ) (l : ℕ) → has (xs ++ []) l ≡ true → has xs l ≡ true
without_none xs l h = sym (ap (λ ys. has ys l) (append-nil xs)) ∙ h

-- a GO TO at the end has no label
last-lists : (t : StmtTrees) (k l : ℕ) → list_labels (and_then_last t (stmt k None (goto l))) ≡ list_labels t
last-lists no_stmts k l = refl
last-lists (more_stmts s others) k l = ap (λ xs. (stmt_labels s ++ xs)) (last-lists others k l)

block_labels : (m : Meant) (h id : ℕ) (arms : ArmTrees) (other : ElseTree) (c : Bool) (l : ℕ) → WhileFitsBy m.is_while c (block_if arms other)
    → has (what_labels (if c then elaborated_while m h id arms else block_if (elaborated_arms m h arms) (elaborated_else m (hidden_arms m h arms) other))) l ≡ true → BlockLabel m id arms other l
block_labels m h id arms other false l t e = ⊎_elim (λ q. of_arms h q) (λ q. of_else (hidden_arms m h arms) q) (has_either (arms_labels (elaborated_arms m h arms)) (else_labels (elaborated_else m (hidden_arms m h arms) other)) l e)
block_labels m h id no_arms other true l t e = absurd (true≢false (sym e))
block_labels m h id (more_arms (arm test body) no_arms) no_else true l t e = or_split (nat_eq (while_label id) l) (has (((list_labels all ++ []) ++ []) ++ []) l) third (λ q. of_while (sym (nat_same (while_label id) l q))) inside
  where
    list : StmtTrees
    list = elaborated_in m (1 + h) body

    all : StmtTrees
    all = and_then_last list (stmt (4097 + hidden_in m (1 + h) body) None (goto (while_label id)))

    own : List ℕ
    own = (while_label id ∷ ((list_labels all ++ []) ++ [])) ++ []

    third : has own l ≡ true
    third = without_none own l (without_none (own ++ []) l e)

    inside : has (((list_labels all ++ []) ++ []) ++ []) l ≡ true → BlockLabel m id (more_arms (arm test body) no_arms) no_else l
    inside q =
        let r : has (list_labels all) l ≡ true = without_none (list_labels all) l (without_none (list_labels all ++ []) l (without_none ((list_labels all ++ []) ++ []) l q)) in
        let s : has (list_labels list) l ≡ true = sym (ap (λ xs. has xs l) (last-lists list (4097 + hidden_in m (1 + h) body) (while_label id))) ∙ r in
        of_arms (1 + h) (has_left (list_labels list) [] l s)
block_labels m h id (more_arms (arm test body) no_arms) (otherwise list) true l t e = absurd (t.alone refl)
block_labels m h id (more_arms (arm test body) (more_arms x xs)) other true l t e = absurd (t.alone refl)

module _ (m : Meant) where
  stands_in : (n id : ℕ) (label : Option ℕ) (arms : ArmTrees) (other : ElseTree) → id ≡ n → (o : Outline) (l : ℕ) → BlockLabel m id arms other l
      → ((j : ℕ) → has (arms_labels (elaborated_arms m j arms)) l ≡ true → Labelled (n + 1) (lands label o) (outline_arms arms (lands label o)) l)
      → ((j : ℕ) → has (else_labels (elaborated_else m j other)) l ≡ true → Labelled (last_arms n arms + 1) (outline_arms arms (lands label o)) (outline_else other (outline_arms arms (lands label o))) l)
      → Labelled n o (outline_else other (outline_arms arms (lands label o))) l
  stands_in n id label arms other g o l (of_while e) x y = hidden id (omega (arith, g)) e
  stands_in n id label arms other g o l (of_arms j e) x y =
      let p = lands label o in
      let q = outline_arms arms p in
      labelled_more n o q (outline_else other q) l (λ z i. else_keeps other q z i) (labelled_from (n + 1) n o p q l (omega arith) (lands_step label o).count (x j e))
  stands_in n id label arms other g o l (of_else j e) x y =
      let p = lands label o in
      let c = (lands_step label o).count in
      let d = (arms_step arms p).count in
      let up = later-arms n arms in
      labelled_from (last_arms n arms + 1) n o (outline_arms arms p) (outline_else other (outline_arms arms p)) l (omega (arith, up)) (omega (arith, c, d)) (y j e)

  mutual
    list_stands : (h n : ℕ) (t : StmtTrees) → AreNumbered n t → ListOrdered n t → WhilesFit m.is_while t → (o : Outline) (l : ℕ) → has (list_labels (elaborated_in m h t)) l ≡ true
        → (has (labels t) l ≡ true) ⊎ Labelled (n + 1) o (outline_in t o) l
    list_stands h n no_stmts a f y o l e = absurd (true≢false (sym e))
    list_stands h n (more_stmts (stmt id label w) rest) a f y o l e =
        ⊎_elim (λ z. first z (λ q. what_stands h (n + 1) id label w a.first.number a.first.below f.0.1 y.first o l q)) (λ z. later (list_stands k (last_of n (stmt id label w)) rest a.behind f.1 y.behind (outline_by label w o) l z))
        (has_either (before_labels label (what_labels (elaborated_what m h id w))) (list_labels (elaborated_in m k rest)) l e)
      where
        k : ℕ
        k = hidden_to m h (stmt id label w)

        mine : label ≡ Some l → has (before_labels label (labels rest)) l ≡ true
        mine q = subst (λ b. has (before_labels b (labels rest)) l ≡ true) (sym q) (or_left (nat_eq l l) (has (labels rest) l) (nat_eq_same l))

        more : (b : Option ℕ) → has (labels rest) l ≡ true → has (before_labels b (labels rest)) l ≡ true
        more None q = q
        more (Some j) q = or_right (nat_eq j l) (has (labels rest) l) q

        first : has (before_labels label (what_labels (elaborated_what m h id w))) l ≡ true → (has (what_labels (elaborated_what m h id w)) l ≡ true → Labelled (n + 1) o (outline_by label w o) l)
            → (has (before_labels label (labels rest)) l ≡ true) ⊎ Labelled (n + 1) o (outline_in rest (outline_by label w o)) l
        first z ih = ⊎_elim (λ q. inl (mine q)) (λ q. inr (labelled_more (n + 1) o (outline_by label w o) (outline_in rest (outline_by label w o)) l (λ x i. list_keeps rest (outline_by label w o) x i) (ih q)))
            (split_labels label (what_labels (elaborated_what m h id w)) l z)

        later : (has (labels rest) l ≡ true) ⊎ Labelled (last_of n (stmt id label w) + 1) (outline_by label w o) (outline_in rest (outline_by label w o)) l
            → (has (before_labels label (labels rest)) l ≡ true) ⊎ Labelled (n + 1) o (outline_in rest (outline_by label w o)) l
        later z =
            ⊎_elim (λ q. inl (more label q))
            (λ q. inr (labelled_from (last_of n (stmt id label w) + 1) (n + 1) o (outline_by label w o) (outline_in rest (outline_by label w o)) l (let up = later-of n (stmt id label w) in omega (arith, up)) (what_step label w o).count q)) z

    what_stands : (h n id : ℕ) (label : Option ℕ) (w : WhatTree) → id ≡ n → NumberedBelow n w → BelowOrdered n w → WhileFitsBy m.is_while (m.is_while id) w → (o : Outline) (l : ℕ) → has (what_labels (elaborated_what m h id w)) l ≡ true
        → Labelled n o (outline_by label w o) l
    what_stands h n id label (assign v e) g a f y o l z = absurd (true≢false (sym z ∙ ap (λ xs. has xs l) (assigned_none m h v e)))
    what_stands h n id label (block_if arms other) g a f y o l z =
        let p = lands label o in
        let q = outline_arms arms p in
        stands_in n id label arms other g o l (block_labels m h id arms other (m.is_while id) l y z)
        (λ j e. arms_stand j n arms (block-arms n arms a.parts) f.0 y.parts p l e)
        (λ j e. else_stands j (last_arms n arms) other a.last f.1 y.last q l e)
    what_stands h n id label (logical_if e (stmt number own_label w)) g a f y o l z =
        absurd (true≢false (sym z ∙ ap (λ xs. has xs l) (bare_none own_label (what_labels (elaborated_what m h number w)) a.bare (plain_none m h number w f.1))))
    what_stands h n id label (do_loop d) g a f y o l z = labelled_from (n + 1) n o (lands label o) (outline_body d (lands label o)) l (omega arith) (lands_step label o).count (body_stands h n d a f y (lands label o) l z)
    what_stands h n id label (call c es) g a f y o l z = absurd (true≢false (sym z))
    what_stands h n id label (goto k) g a f y o l z = absurd (true≢false (sym z))
    what_stands h n id label continue g a f y o l z = absurd (true≢false (sym z))
    what_stands h n id label return g a f y o l z = absurd (true≢false (sym z))
    what_stands h n id label (stop t) g a f y o l z = absurd (true≢false (sym z))
    what_stands h n id label (print es) g a f y o l z = absurd (true≢false (sym z))
    what_stands h n id label (read es) g a f y o l z = absurd (true≢false (sym z))

    pub body_stands : (h n : ℕ) (d : LoopTree) → NumberedBody n d → LoopOrdered n d → WhilesFitBody m.is_while d → (o : Outline) (l : ℕ) → has (loop_labels (elaborated_loop m h d)) l ≡ true → Labelled (n + 1) o (outline_body d o) l
    body_stands h n (loop index first last step body) a f y o l z = within_from (n + 1) body o l (list_stands h n body a f y (begins o) l z)

    pub arms_stand : (h n : ℕ) (arms : ArmTrees) → NumberedArms n arms → ArmsOrdered n arms → WhilesFitArms m.is_while arms → (o : Outline) (l : ℕ) → has (arms_labels (elaborated_arms m h arms)) l ≡ true
        → Labelled (n + 1) o (outline_arms arms o) l
    arms_stand h n no_arms a f y o l z = absurd (true≢false (sym z))
    arms_stand h n (more_arms (arm test body) rest) a f y o l z =
        let p = leaves (outline_in body (begins o)) in
        let c = (list_step_in o (outline_in body (begins o)) (InLabels body) (goings_in body) (list_step body (begins o))).count in
        let up = later-in n body in
        let k = hidden_in m h body in
        ⊎_elim (λ e. labelled_more (n + 1) o p (outline_arms rest p) l (λ x i. arms_keeps rest p x i) (within_from (n + 1) body o l (list_stands h n body a.below f.0 y.below (begins o) l e)))
        (λ e. labelled_from (last_in n body + 1) (n + 1) o p (outline_arms rest p) l (omega (arith, up)) c (arms_stand k (last_in n body) rest a.parts f.1 y.parts p l e))
        (has_either (list_labels (elaborated_in m h body)) (arms_labels (elaborated_arms m k rest)) l z)

    else_stands : (h n : ℕ) (other : ElseTree) → NumberedElse n other → ElseOrdered n other → WhilesFitElse m.is_while other → (o : Outline) (l : ℕ) → has (else_labels (elaborated_else m h other)) l ≡ true
        → Labelled (n + 1) o (outline_else other o) l
    else_stands h n no_else a f y o l z = absurd (true≢false (sym z))
    else_stands h n (otherwise body) a f y o l z = within_from (n + 1) body o l (list_stands h n body a f y (begins o) l z)

-- ---- lists that are executed in their order

-- no GO TO of these leads to a label directly among them
abbrev IsStraight : StmtTrees → Type 0
IsStraight t = (l : ℕ) → has (labels t) l ≡ true → each_leads t (l ∷ []) ≡ true → ⊥

straight_list : (whole : Bool) (t : StmtTrees) → unstructured whole t ≡ false → IsStraight t
straight_list whole t u l h e =
    true≢false (sym (list_goes t (l ∷ []) (labels t) (λ m r. subst (λ k. has (labels t) k ≡ true) (only l m r) h) e) ∙ (or_parts (list_has (goes_to (labels t)) t) (whole && early_return t) u).0)

straight_rest : (id : ℕ) (label : Option ℕ) (w : WhatTree) (rest : StmtTrees) → IsStraight (more_stmts (stmt id label w) rest) → IsStraight rest
straight_rest id label w rest s l h e = s l (more label) (or_right (what_leads w (l ∷ [])) (each_leads rest (l ∷ [])) e)
  where
    more : (b : Option ℕ) → has (before_labels b (labels rest)) l ≡ true
    more None = h
    more (Some k) = or_right (nat_eq k l) (has (labels rest) l) h

-- ---- the statements of a DO WHILE

last-has : (such : WhatTree → Bool) (t : StmtTrees) (s : StmtTree) → list_has such (and_then_last t s) ≡ false → list_has such t ≡ false
last-has such no_stmts s e = refl
last-has such (more_stmts x others) s e =
    let p = or_parts (stmt_has such x) (list_has such (and_then_last others s)) e in or_from (stmt_has such x) (list_has such others) p.0 (last-has such others s p.1)

-- the GO TO at the end
goes-last : (t : StmtTrees) (k l : ℕ) → list_has (goes_to (l ∷ [])) (and_then_last t (stmt k None (goto l))) ≡ true
goes-last no_stmts k l = ap (λ b. ((b || false) || false) || false) (nat_eq_same l)
goes-last (more_stmts x others) k l = or_right (stmt_has (goes_to (l ∷ [])) x) (list_has (goes_to (l ∷ [])) (and_then_last others (stmt k None (goto l)))) (goes-last others k l)

last-outward : (t : StmtTrees) (k l : ℕ) → EachOutward t → has (list_labels t) l ≡ false → EachOutward (and_then_last t (stmt k None (goto l)))
last-outward no_stmts k l h e = (λ j q. refl, λ j q. refl, tt)
last-outward (more_stmts s rest) k l h e = (h.0, behind, last-outward rest k l h.2 none)
  where
    none : has (list_labels rest) l ≡ false
    none = (none_parts (stmt_labels s) (list_labels rest) l e).1

    same : (j : ℕ) → has (list_labels rest) j ≡ false → has (list_labels (and_then_last rest (stmt k None (goto l)))) j ≡ false
    same j q = ap (λ xs. has xs j) (last-lists rest k l) ∙ q

    there : (j : ℕ) → each_leads (and_then_last rest (stmt k None (goto l))) (j ∷ []) ≡ true → each_leads rest (j ∷ []) ≡ false → has (list_labels rest) j ≡ false
    there j q r =
        bool_cases (has (j ∷ []) l) (has (list_labels rest) j ≡ false) (λ z. subst (λ i. has (list_labels rest) i ≡ false) (sym (only j l z)) none)
        (λ z. absurd (true≢false (sym q ∙ last-leads rest k l (j ∷ []) r z)))

    behind : (j : ℕ) → each_leads (and_then_last rest (stmt k None (goto l))) (j ∷ []) ≡ true → has (list_labels (and_then_last rest (stmt k None (goto l)))) j ≡ false
    behind j q = same j (bool_cases (each_leads rest (j ∷ [])) (has (list_labels rest) j ≡ false) (λ r. h.1 j r) (λ r. there j q r))

last-parts : (t : StmtTrees) (k l : ℕ) → StmtsOutward t → StmtsOutward (and_then_last t (stmt k None (goto l)))
last-parts no_stmts k l h = (tt, tt)
last-parts (more_stmts (stmt n label w) rest) k l h = (h.0, last-parts rest k l h.1)

while-parts : (id h k : ℕ) (test : ExprTree) (list : StmtTrees) → IsOutward false list → StmtsOutward list → has (list_labels list) (while_label id) ≡ false → PartsOutward (while_block id h k test list)
while-parts id h k test list o p e = (((never, ((((straight, last-parts list (4097 + k) (while_label id) p), tt), tt), tt)), tt), tt)
  where
    last : StmtTree
    last = stmt (4097 + k) None (goto (while_label id))

    all : StmtTrees
    all = and_then_last list (stmt (4097 + k) None (goto (while_label id)))

    outer : StmtTrees
    outer = more_stmts (stmt (4097 + h) (Some (while_label id)) (one_arm test (and_then_last list (stmt (4097 + k) None (goto (while_label id)))))) no_stmts

    never : unstructured false outer ≡ false → EachOutward outer
    never u = absurd (true≢false (sym (ap (λ b. (((b || false) || false) || false) || false) (goes-last list (4097 + k) (while_label id))) ∙ u))

    ordered : unstructured false all ≡ false → unstructured false list ≡ false
    ordered u =
        let r = (or_parts (list_has (goes_to (labels all)) all) false u).0 in
        let s : list_has (goes_to (labels list)) all ≡ false = sym (ap (λ xs. list_has (goes_to xs) all) (last-labels list (4097 + k) (while_label id))) ∙ r in
        or_from (list_has (goes_to (labels list)) list) false (last-has (goes_to (labels list)) list last s) refl

    straight : unstructured false all ≡ false → EachOutward all
    straight u = last-outward list (4097 + k) (while_label id) (o (ordered u)) e

block_parts : (m : Meant) (h id : ℕ) (arms : ArmTrees) (other : ElseTree) (c : Bool) → WhileFitsBy m.is_while c (block_if arms other)
    → ((j : ℕ) → ArmsOutward (elaborated_arms m j arms)) → ((j : ℕ) → ElseOutward (elaborated_else m j other)) → ((j : ℕ) → has (arms_labels (elaborated_arms m j arms)) (while_label id) ≡ false)
    → PartsOutward (if c then elaborated_while m h id arms else block_if (elaborated_arms m h arms) (elaborated_else m (hidden_arms m h arms) other))
block_parts m h id arms other false t p q r = (p h, q (hidden_arms m h arms))
block_parts m h id no_arms other true t p q r = (tt, tt)
block_parts m h id (more_arms (arm test body) no_arms) no_else true t p q r =
    let list = elaborated_in m (1 + h) body in
    let b = (p (1 + h)).0 in
    while-parts id h (hidden_in m (1 + h) body) test list b.0 b.1 (none_parts (list_labels list) [] (while_label id) (r (1 + h))).0
block_parts m h id (more_arms (arm test body) no_arms) (otherwise list) true t p q r = absurd (t.alone refl)
block_parts m h id (more_arms (arm test body) (more_arms x xs)) other true t p q r = absurd (t.alone refl)

-- ---- plain statements

assigned_parts : (m : Meant) (h : ℕ) (v e : ExprTree) → PartsOutward (assigned m h v e)
assigned_parts m h v (trees.element f es) = go (m.is_function f)
  where
    go : (b : Bool) → PartsOutward (if b then value_block m h v f es else assign v (trees.element f es))
    go true = (((λ u. (λ l q. refl, λ l q. refl, (λ l q. refl, λ l q. refl, (λ l q. refl, λ l q. refl, tt))), (tt, (tt, (tt, tt)))), tt), tt)
    go false = tt
assigned_parts m h v e = tt

plain_parts : (m : Meant) (h id : ℕ) (w : WhatTree) → IsWhat w → PartsOutward (elaborated_what m h id w)
plain_parts m h id (assign v e) f = assigned_parts m h v e
plain_parts m h id (call n es) f = tt
plain_parts m h id (goto k) f = tt
plain_parts m h id continue f = tt
plain_parts m h id return f = tt
plain_parts m h id (stop t) f = tt
plain_parts m h id (print es) f = tt
plain_parts m h id (read es) f = tt
plain_parts m h id (block_if arms other) f = absurd f
plain_parts m h id (logical_if e s) f = absurd f
plain_parts m h id (do_loop d) f = absurd f

module _ (F : List Landing) (G : List Going) (reach : AllReach F G) (bounded : (x : Landing) → Member x F → x.label ≤ 99999) (m : Meant) where
  -- a GO TO that leads out does not lead to what stands since
  pub apart_from : (n : ℕ) (o p : Outline) (ks : List ℕ) (l : ℕ) → ((k : ℕ) → In k o.within → k < o.count) → ((x : Landing) → Member x p.landings → Member x F) → LeadsOut F (l ∷ []) o.within → Labelled n o p l → ⊥
  apart_from n o p ks l path ends h (text s) =
      let low = path s.landing.list (h.all s.landing (ends s.landing s.stands) (s.label ∙ only l h.label h.asked)) in
      let high = s.inside in
      omega (arith, low, high)
  apart_from n o p ks l path ends h (hidden k a e) =
      let same = only l h.label h.asked in
      let few = h.few in
      omega (arith, same, few, e)

  -- the hidden label of a DO WHILE is none of those in it
  none_own : (n id : ℕ) (o p : Outline) → id ≡ n → ((x : Landing) → Member x p.landings → Member x F) → Labelled (n + 1) o p (while_label id) → ⊥
  none_own n id o p g ends (text s) =
      let few = bounded s.landing (ends s.landing s.stands) in
      let same = s.label in
      omega (arith, few, same)
  none_own n id o p g ends (hidden k a e) = omega (arith, a, e, g)

  each_outward : (h n : ℕ) (t : StmtTrees) → AreNumbered n t → ListOrdered n t → WhilesFit m.is_while t → IsStraight (elaborated_in m h t) → (o : Outline) → Inside F G o (outline_in t o) [] (goings_in t)
      → ((x : Landing) → Member x (outline_in t o).landings → Member x F) → EachOutward (elaborated_in m h t)
  each_outward h n no_stmts a f y s o i ends = tt
  each_outward h n (more_stmts (stmt id label w) rest) a f y s o i ends = (
    λ l e. not_so (has (before_labels label (what_labels (elaborated_what m h id w))) l) (λ q. own_not l e (split_labels label (what_labels (elaborated_what m h id w)) l q)),
    λ l e. not_so (has (list_labels (elaborated_in m k rest)) l) (λ q. rest_not l e (list_stands m k (last_of n (stmt id label w)) rest a.behind f.1 y.behind (outline_by label w o) l q)),
    each_outward k (last_of n (stmt id label w)) rest a.behind f.1 y.behind (straight_rest id label (elaborated_what m h id w) (elaborated_in m k rest) s) (outline_by label w o) behind ends,
  )
    where
      k : ℕ
      k = hidden_to m h (stmt id label w)

      here : Inside F G o (outline_by label w o) [] (goings_by w)
      here = first_part F G [] o (outline_by label w o) (outline_in rest (outline_by label w o)) (Own label) (InLabels rest) (goings_by w) (goings_in rest) (goings_by w + goings_in rest) refl i (what_step label w o) (list_step rest (outline_by label w o))

      behind : Inside F G (outline_by label w o) (outline_in rest (outline_by label w o)) [] (goings_in rest)
      behind = second_part F G [] o (outline_by label w o) (outline_in rest (outline_by label w o)) (Own label) (InLabels rest) (goings_by w) (goings_in rest) (goings_by w + goings_in rest) refl i (what_step label w o) (list_step rest (outline_by label w o))

      mine : (l : ℕ) → label ≡ Some l → has (before_labels label (labels (elaborated_in m k rest))) l ≡ true
      mine l e = subst (λ b. has (before_labels b (labels (elaborated_in m k rest))) l ≡ true) (sym e) (or_left (nat_eq l l) (has (labels (elaborated_in m k rest)) l) (nat_eq_same l))

      own_not : (l : ℕ) → what_leads (elaborated_what m h id w) (l ∷ []) ≡ true → (label ≡ Some l) ⊎ (has (what_labels (elaborated_what m h id w)) l ≡ true) → ⊥
      own_not l e (inl q) = s l (mine l q) (or_left (what_leads (elaborated_what m h id w) (l ∷ [])) (each_leads (elaborated_in m k rest) (l ∷ [])) e)
      own_not l e (inr q) =
          apart_from (n + 1) o (outline_by label w o) o.within l i.path (λ x z. ends x (list_keeps rest (outline_by label w o) x z)) (what_out F G reach bounded m h (n + 1) id label w f.0.1 y.first o (l ∷ []) here e)
          (what_stands m h (n + 1) id label w a.first.number a.first.below f.0.1 y.first o l q)

      rest_not : (l : ℕ) → each_leads (elaborated_in m k rest) (l ∷ []) ≡ true → (has (labels rest) l ≡ true) ⊎ Labelled (last_of n (stmt id label w) + 1) (outline_by label w o) (outline_in rest (outline_by label w o)) l → ⊥
      rest_not l e (inl q) = straight_rest id label (elaborated_what m h id w) (elaborated_in m k rest) s l (ap (λ xs. has xs l) (elaborated-labels m k rest) ∙ q) e
      rest_not l e (inr q) =
          apart_from (last_of n (stmt id label w) + 1) (outline_by label w o) (outline_in rest (outline_by label w o)) (outline_by label w o).within l behind.path ends
          (list_out F G reach bounded m k (last_of n (stmt id label w)) rest f.1 y.behind (outline_by label w o) (l ∷ []) behind e) q

  outward : (whole : Bool) (h n : ℕ) (t : StmtTrees) → AreNumbered n t → ListOrdered n t → WhilesFit m.is_while t → (o : Outline) → Inside F G o (outline_in t o) [] (goings_in t) → ((x : Landing) → Member x (outline_in t o).landings → Member x F)
      → IsOutward whole (elaborated_in m h t)
  outward whole h n t a f y o i ends u = each_outward h n t a f y (straight_list whole (elaborated_in m h t) u) o i ends

  mutual
    list_parts : (h n : ℕ) (t : StmtTrees) → AreNumbered n t → ListOrdered n t → WhilesFit m.is_while t → (o : Outline) → Inside F G o (outline_in t o) [] (goings_in t) → ((x : Landing) → Member x (outline_in t o).landings → Member x F) → StmtsOutward (elaborated_in m h t)
    list_parts h n no_stmts a f y o i ends = tt
    list_parts h n (more_stmts (stmt id label w) rest) a f y o i ends =
        let p = outline_by label w o in
        let q = outline_in rest p in
        let s = what_step label w o in
        let t = list_step rest p in
        let k = hidden_to m h (stmt id label w) in (
          what_parts h (n + 1) id label w a.first.number a.first.below f.0.1 y.first o (first_part F G [] o p q (Own label) (InLabels rest) (goings_by w) (goings_in rest) (goings_by w + goings_in rest) refl i s t) (λ x z. ends x (list_keeps rest p x z)),
          list_parts k (last_of n (stmt id label w)) rest a.behind f.1 y.behind p (second_part F G [] o p q (Own label) (InLabels rest) (goings_by w) (goings_in rest) (goings_by w + goings_in rest) refl i s t) ends,
        )

    what_parts : (h n id : ℕ) (label : Option ℕ) (w : WhatTree) → id ≡ n → NumberedBelow n w → BelowOrdered n w → WhileFitsBy m.is_while (m.is_while id) w → (o : Outline) → Inside F G o (outline_by label w o) [] (goings_by w)
        → ((x : Landing) → Member x (outline_by label w o).landings → Member x F) → PartsOutward (elaborated_what m h id w)
    what_parts h n id label (assign v e) g a f y o i ends = assigned_parts m h v e
    what_parts h n id label (block_if arms other) g a f y o i ends =
        let p = lands label o in
        let q = outline_arms arms p in
        let r = outline_else other q in
        let s = arms_step arms p in
        let t = else_step other q in
        let c = goings_arms arms in
        let d = goings_else other in
        let both = step_then p q r Never Never Never c d (λ l x. x) (λ l x. x) s t in
        let j = second_part F G [] o p r (Own label) Never 0 (c + d) (c + d) (omega arith) i (lands_step label o) both in
        block_parts m h id arms other (m.is_while id) y
        (λ k. arms_parts k n arms (block-arms n arms a.parts) f.0 y.parts p (first_part F G [] p q r Never Never c d (c + d) refl j s t) (λ x z. ends x (else_keeps other q x z)))
        (λ k. else_parts k (last_arms n arms) other a.last f.1 y.last q (second_part F G [] p q r Never Never c d (c + d) refl j s t) ends)
        (λ k. not_so (has (arms_labels (elaborated_arms m k arms)) (while_label id))
        (λ e. none_own n id p q g (λ x z. ends x (else_keeps other q x z)) (arms_stand m k n arms (block-arms n arms a.parts) f.0 y.parts p (while_label id) e)))
    what_parts h n id label (logical_if e (stmt number own_label w)) g a f y o i ends = plain_parts m h number w f.1
    what_parts h n id label (do_loop d) g a f y o i ends =
        let p = lands label o in
        loop_parts h n d a f y p (second_part F G [] o p (outline_body d p) (Own label) Never 0 (goings_body d) (goings_body d) (omega arith) i (lands_step label o) (body_step d p)) ends
    what_parts h n id label (call c es) g a f y o i ends = tt
    what_parts h n id label (goto k) g a f y o i ends = tt
    what_parts h n id label continue g a f y o i ends = tt
    what_parts h n id label return g a f y o i ends = tt
    what_parts h n id label (stop t) g a f y o i ends = tt
    what_parts h n id label (print es) g a f y o i ends = tt
    what_parts h n id label (read es) g a f y o i ends = tt

    loop_parts : (h n : ℕ) (d : LoopTree) → NumberedBody n d → LoopOrdered n d → WhilesFitBody m.is_while d → (o : Outline) → Inside F G o (outline_body d o) [] (goings_body d) → ((x : Landing) → Member x (outline_body d o).landings → Member x F) → LoopOutward (elaborated_loop m h d)
    loop_parts h n (loop index first last step body) a f y o i ends =
        (let j = list_part F G [] o (outline_in body (begins o)) body (goings_in body) i (list_step body (begins o)) in (outward false h n body a f y (begins o) j ends, list_parts h n body a f y (begins o) j ends))

    arms_parts : (h n : ℕ) (arms : ArmTrees) → NumberedArms n arms → ArmsOrdered n arms → WhilesFitArms m.is_while arms → (o : Outline) → Inside F G o (outline_arms arms o) [] (goings_arms arms)
        → ((x : Landing) → Member x (outline_arms arms o).landings → Member x F) → ArmsOutward (elaborated_arms m h arms)
    arms_parts h n no_arms a f y o i ends = tt
    arms_parts h n (more_arms (arm test body) rest) a f y o i ends =
        let b = outline_in body (begins o) in
        let p = leaves b in
        let q = outline_arms rest p in
        let s = list_step_in o b (InLabels body) (goings_in body) (list_step body (begins o)) in
        let t = arms_step rest p in
        let c = goings_in body in
        let d = goings_arms rest in
        let j = list_part F G [] o b body c (first_part F G [] o p q Never Never c d (c + d) refl i s t) (list_step body (begins o)) in (
          (outward false h n body a.below f.0 y.below (begins o) j (λ x z. ends x (arms_keeps rest p x z)), list_parts h n body a.below f.0 y.below (begins o) j (λ x z. ends x (arms_keeps rest p x z))),
          arms_parts (hidden_in m h body) (last_in n body) rest a.parts f.1 y.parts p (second_part F G [] o p q Never Never c d (c + d) refl i s t) ends,
        )

    else_parts : (h n : ℕ) (other : ElseTree) → NumberedElse n other → ElseOrdered n other → WhilesFitElse m.is_while other → (o : Outline) → Inside F G o (outline_else other o) [] (goings_else other)
        → ((x : Landing) → Member x (outline_else other o).landings → Member x F) → ElseOutward (elaborated_else m h other)
    else_parts h n no_else a f y o i ends = tt
    else_parts h n (otherwise body) a f y o i ends =
        (let j = list_part F G [] o (outline_in body (begins o)) body (goings_in body) i (list_step body (begins o)) in (outward false h n body a f y (begins o) j ends, list_parts h n body a f y (begins o) j ends))

-- ---- bodies

-- the record of the lists of a body, as for `body_stays` of laws_analyses
pub whole_inside : (t : StmtTrees) → goings_in t ≤ 4096 → Inside (outline_in t nothing_outlined).landings (outline_in t nothing_outlined).goings nothing_outlined (outline_in t nothing_outlined) [] (goings_in t)
whole_inside t few = record {
  later = λ g h. h;
  apart = λ x m h k. m;
  old = λ x m. absurd m;
  path = λ k h. or_split (nat_eq 0 k) false h (λ e. (let q = nat_same 0 k e in omega (arith, q))) (λ e. absurd (true≢false (sym e)));
  some = refl;
  few = omega (arith, few);
  covered = λ x m h. refl;
}

-- t: as it is written
pub body_outward : (m : Meant) (t : StmtTrees) → AreNumbered 0 t → ListOrdered 0 t → WhilesFit m.is_while t → goings_in t ≤ 4096 → AllReach (outline_in t nothing_outlined).landings (outline_in t nothing_outlined).goings
    → ((x : Landing) → Member x (outline_in t nothing_outlined).landings → x.label ≤ 99999) → IsOutward true (elaborated_in m 0 t) × StmtsOutward (elaborated_in m 0 t)
body_outward m t a f y few reach bounded =
    let F = (outline_in t nothing_outlined).landings in
    let G = (outline_in t nothing_outlined).goings in
    (outward F G reach bounded m true 0 0 t a f y nothing_outlined (whole_inside t few) (λ x z. z), list_parts F G reach bounded m 0 0 t a f y nothing_outlined (whole_inside t few) (λ x z. z))
