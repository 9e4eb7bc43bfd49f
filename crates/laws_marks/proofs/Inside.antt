-- A GO TO that leads out of the body of a DO names no label in it, at whatever depth.
use Rattle.std.specs.Prelude.{if◌then◌else◌}
use Rattle.std.proofs.Common.{◌≡◌, ℕ, ◌+◌, ◌≤◌, Bool, true, false, List, [], ◌∷◌, ◌++◌, Option, Some, None, refl, arith}
use Rattle.f77_ast.specs.Trees.{ExprTree, stmt, WhatTree, assign, block_if, logical_if, do_loop, call, goto, continue, return, stop, print, read, arm, ArmTrees, no_arms, more_arms, ElseTree, no_else, otherwise, LoopTree, loop, StmtTrees, no_stmts, more_stmts}
use Rattle.f77_ast.specs.Trees as trees
use Rattle.f77_statements.specs.Phrases.{end_module}
use Rattle.f77_structure.specs.Checks.{fault_of}
use Rattle.f77_structure.specs.declared.blocks.Landing.{Landing}
use Rattle.f77_parser.specs.Statements.{StatementTree, marks_of}
use Rattle.f77_parser.specs.Building.{written_module, build_module}
use Rattle.f77_parser.specs.Elaborated.{Meant, meant_in, value_block, assigned, one_arm, while_label, and_then_last, hidden_to, hidden_in, hidden_arms, elaborated_what, elaborated_while, elaborated_loop, elaborated_arms, elaborated_else, elaborated_in, elaborated}
use Rattle.f77_ast.specs.declared.results.At.{At}
use Rattle.laws_programs.specs.roundtrip_programs.Statements.Phrased.{IsWhat}
use Rattle.laws_programs.specs.roundtrip_programs.Statements.Formed.{Each as EachOf}
use Rattle.laws_programs.specs.roundtrip_programs.ModuleTexts.Folded.{WhileFitsBy, WhilesFitBody, WhilesFitArms, WhilesFitElse, WhilesFit}
use Rattle.laws_programs.specs.roundtrip_programs.ModuleTexts.ModuleLaws.{IsStatement, IsRead}
use Rattle.laws_programs.specs.roundtrip_programs.ModuleTexts.Numbered.{last_of, last_arms, last_in, NumberedBelow, NumberedBody, NumberedArms, NumberedElse, AreNumbered}
use Rattle.laws_programs.proofs.RoundtripPrograms.ModuleTexts.JumpsAgain.{all_reach_there}
use Rattle.laws_programs.proofs.RoundtripPrograms.ModuleTexts.Outlines.{Going, Outline, lands, begins, leaves, nothing_outlined}
use Rattle.laws_programs.proofs.RoundtripPrograms.ModuleTexts.Reached.{AllReach}
use Rattle.laws_programs.proofs.RoundtripPrograms.ModuleTexts.Each.{each-map}
use Rattle.laws_programs.proofs.RoundtripPrograms.ModuleTexts.Built.{written_well}
use Rattle.laws_programs.proofs.RoundtripPrograms.ModuleTexts.TreeOutlines.{outline_by, outline_body, outline_arms, outline_else, outline_in}
use Rattle.laws_programs.proofs.RoundtripPrograms.ModuleTexts.Writing.{few_stand}
use Rattle.preconditions.specs.transformer_algebra.Cells.{has}
use Rattle.loop_marker.specs.out_regions.Leaving.{loop_labels}
use Rattle.laws_programs.proofs.Ordered.{BelowOrdered, LoopOrdered, ArmsOrdered, ElseOrdered, ListOrdered}
use Rattle.call_graph.specs.CallsIn.{Each}
use Rattle.laws_analyses.specs.Statements.Leads.{loop_leads}
use Rattle.laws_analyses.proofs.Insides.{Inside, first_part, second_part, list_part}
use Rattle.laws_analyses.proofs.Members.{Member}
use Rattle.laws_analyses.proofs.WholeJumps.{written_ordered, labels_bounded}
use Rattle.laws_analyses.proofs.Statements.Placing.{each_parts}
use Rattle.laws_analyses.proofs.Sizes.{goings_by, goings_body, goings_arms, goings_else, goings_in, goings_few}
use Rattle.laws_analyses.proofs.Steps.{Never, Own, InLabels, step_then, lands_step, list_step_in, list_step, what_step, body_step, arms_step, else_step}
use Rattle.laws_marks.proofs.InFirsts.{not_so}
use Rattle.laws_marks.proofs.ConflictWhats.{stmt_whats, part_whats, list_whats, arms_whats, else_whats, loop_whats}
use Rattle.laws_marks.proofs.Outward.{loop_out, list_keeps, arms_keeps, else_keeps, body_stands, apart_from, whole_inside}
use Rattle.laws_marks.proofs.DoEffects.{OfDo, DoIs}
use Rattle.call_graph.proofs.EachLaws.{each_joined}
use Rattle.laws_programs.proofs.RoundtripPrograms.ModuleTexts.Counting.{block-arms}

-- of a DO
abbrev pub LeadsBeyond : ℕ → LoopTree → Type 0
LeadsBeyond n d = (l : ℕ) → loop_leads d (l ∷ []) ≡ true → has (loop_labels d) l ≡ false

abbrev Ours : At WhatTree → Type 0
Ours = DoIs LeadsBeyond

-- of an assignment: what stands for it has no DO
assigned_dos : (m : Meant) (h id : ℕ) (v e : ExprTree) → OfDo LeadsBeyond id (assigned m h v e) × Each Ours (part_whats (assigned m h v e))
assigned_dos m h id v (trees.element f es) = go (m.is_function f)
  where
    go : (b : Bool) → OfDo LeadsBeyond id (if b then value_block m h v f es else assign v (trees.element f es)) × Each Ours (part_whats (if b then value_block m h v f es else assign v (trees.element f es)))
    go true = (tt, (tt, (tt, (tt, tt))))
    go false = (tt, tt)
assigned_dos m h id v e = (tt, tt)

plain_dos : (m : Meant) (h id : ℕ) (w : WhatTree) → IsWhat w → OfDo LeadsBeyond id (elaborated_what m h id w) × Each Ours (part_whats (elaborated_what m h id w))
plain_dos m h id (assign v e) f = assigned_dos m h id v e
plain_dos m h id (call n es) f = (tt, tt)
plain_dos m h id (goto k) f = (tt, tt)
plain_dos m h id continue f = (tt, tt)
plain_dos m h id return f = (tt, tt)
plain_dos m h id (stop t) f = (tt, tt)
plain_dos m h id (print es) f = (tt, tt)
plain_dos m h id (read es) f = (tt, tt)
plain_dos m h id (block_if arms other) f = absurd f
plain_dos m h id (logical_if e s) f = absurd f
plain_dos m h id (do_loop d) f = absurd f

last-whats : (t : StmtTrees) (k l : ℕ) → Each Ours (list_whats t) → Each Ours (list_whats (and_then_last t (stmt k None (goto l))))
last-whats no_stmts k l h = (tt, tt)
last-whats (more_stmts s rest) k l h =
    let p = each_parts Ours (stmt_whats s) (list_whats rest) h in each_joined Ours (stmt_whats s) (list_whats (and_then_last rest (stmt k None (goto l)))) p.0 (last-whats rest k l p.1)

-- without the empty lists of whats behind it
padded : (xs : List (At WhatTree)) → Each Ours xs → Each Ours (xs ++ [])
padded xs h = each_joined Ours xs [] h tt

block_dos : (m : Meant) (h id : ℕ) (arms : ArmTrees) (other : ElseTree) (c : Bool) → WhileFitsBy m.is_while c (block_if arms other)
    → ((j : ℕ) → Each Ours (arms_whats (elaborated_arms m j arms))) → ((j : ℕ) → Each Ours (else_whats (elaborated_else m j other)))
    → (let w = if c then elaborated_while m h id arms else block_if (elaborated_arms m h arms) (elaborated_else m (hidden_arms m h arms) other) in OfDo LeadsBeyond id w × Each Ours (part_whats w))
block_dos m h id arms other false t p q = (tt, each_joined Ours (arms_whats (elaborated_arms m h arms)) (else_whats (elaborated_else m (hidden_arms m h arms) other)) (p h) (q (hidden_arms m h arms)))
block_dos m h id no_arms other true t p q = (tt, tt)
block_dos m h id (more_arms (arm test body) no_arms) no_else true t p q = (tt, padded (list_whats outer ++ []) (padded (list_whats outer) (padded (stmt_whats (stmt (4097 + h) (Some (while_label id)) (one_arm test all))) (tt, padded (list_whats all ++ []) (padded (list_whats all) (last-whats list (4097 + hidden_in m (1 + h) body) (while_label id) inside))))))
  where
    list : StmtTrees
    list = elaborated_in m (1 + h) body

    all : StmtTrees
    all = and_then_last list (stmt (4097 + hidden_in m (1 + h) body) None (goto (while_label id)))

    outer : StmtTrees
    outer = more_stmts (stmt (4097 + h) (Some (while_label id)) (one_arm test all)) no_stmts

    inside : Each Ours (list_whats list)
    inside = (each_parts Ours (list_whats list) [] (p (1 + h))).0
block_dos m h id (more_arms (arm test body) no_arms) (otherwise list) true t p q = absurd (t.alone refl)
block_dos m h id (more_arms (arm test body) (more_arms x xs)) other true t p q = absurd (t.alone refl)

-- t: as it is written; then what holds is of the statements that stand for it
module _ (F : List Landing) (G : List Going) (reach : AllReach F G) (bounded : (x : Landing) → Member x F → x.label ≤ 99999) (m : Meant) where
  mutual
    list_dos : (h n : ℕ) (t : StmtTrees) → AreNumbered n t → ListOrdered n t → WhilesFit m.is_while t → (o : Outline) → Inside F G o (outline_in t o) [] (goings_in t) → ((x : Landing) → Member x (outline_in t o).landings → Member x F)
        → Each Ours (list_whats (elaborated_in m h t))
    list_dos h n no_stmts a f y o i ends = tt
    list_dos h n (more_stmts (stmt id label w) rest) a f y o i ends =
        let p = outline_by label w o in
        let q = outline_in rest p in
        let s = what_step label w o in
        let t = list_step rest p in
        let k = hidden_to m h (stmt id label w) in
        each_joined Ours (stmt_whats (stmt id label (elaborated_what m h id w))) (list_whats (elaborated_in m k rest))
        (what_dos h (n + 1) id label w a.first.number a.first.below f.0.1 y.first o (first_part F G [] o p q (Own label) (InLabels rest) (goings_by w) (goings_in rest) (goings_by w + goings_in rest) refl i s t) (λ x z. ends x (list_keeps rest p x z)))
        (list_dos k (last_of n (stmt id label w)) rest a.behind f.1 y.behind p (second_part F G [] o p q (Own label) (InLabels rest) (goings_by w) (goings_in rest) (goings_by w + goings_in rest) refl i s t) ends)

    what_dos : (h n id : ℕ) (label : Option ℕ) (w : WhatTree) → id ≡ n → NumberedBelow n w → BelowOrdered n w → WhileFitsBy m.is_while (m.is_while id) w → (o : Outline) → Inside F G o (outline_by label w o) [] (goings_by w)
        → ((x : Landing) → Member x (outline_by label w o).landings → Member x F) → OfDo LeadsBeyond id (elaborated_what m h id w) × Each Ours (part_whats (elaborated_what m h id w))
    what_dos h n id label (assign v e) g a f y o i ends = assigned_dos m h id v e
    what_dos h n id label (block_if arms other) g a f y o i ends =
        let p = lands label o in
        let q = outline_arms arms p in
        let r = outline_else other q in
        let s = arms_step arms p in
        let t = else_step other q in
        let c = goings_arms arms in
        let d = goings_else other in
        let both = step_then p q r Never Never Never c d (λ l x. x) (λ l x. x) s t in
        let j = second_part F G [] o p r (Own label) Never 0 (c + d) (c + d) (omega arith) i (lands_step label o) both in
        block_dos m h id arms other (m.is_while id) y
        (λ k. arms_dos k n arms (block-arms n arms a.parts) f.0 y.parts p (first_part F G [] p q r Never Never c d (c + d) refl j s t) (λ x z. ends x (else_keeps other q x z)))
        (λ k. else_dos k (last_arms n arms) other a.last f.1 y.last q (second_part F G [] p q r Never Never c d (c + d) refl j s t) ends)
    what_dos h n id label (logical_if e (stmt number own_label w)) g a f y o i ends = (tt, plain_dos m h number w f.1)
    what_dos h n id label (do_loop d) g a f y o i ends =
        let p = lands label o in
        let j = second_part F G [] o p (outline_body d p) (Own label) Never 0 (goings_body d) (goings_body d) (omega arith) i (lands_step label o) (body_step d p) in (
          (λ l z. not_so (has (loop_labels (elaborated_loop m h d)) l)
              (λ e. apart_from F G reach bounded m (n + 1) p (outline_body d p) p.within l j.path ends (loop_out F G reach bounded m h n d f y p (l ∷ []) j z) (body_stands m h n d a f y p l e))),
          loop_dos h n d a f y p j ends,
        )
    what_dos h n id label (call c es) g a f y o i ends = (tt, tt)
    what_dos h n id label (goto k) g a f y o i ends = (tt, tt)
    what_dos h n id label continue g a f y o i ends = (tt, tt)
    what_dos h n id label return g a f y o i ends = (tt, tt)
    what_dos h n id label (stop t) g a f y o i ends = (tt, tt)
    what_dos h n id label (print es) g a f y o i ends = (tt, tt)
    what_dos h n id label (read es) g a f y o i ends = (tt, tt)

    loop_dos : (h n : ℕ) (d : LoopTree) → NumberedBody n d → LoopOrdered n d → WhilesFitBody m.is_while d → (o : Outline) → Inside F G o (outline_body d o) [] (goings_body d) → ((x : Landing) → Member x (outline_body d o).landings → Member x F)
        → Each Ours (loop_whats (elaborated_loop m h d))
    loop_dos h n (loop index first last step body) a f y o i ends = list_dos h n body a f y (begins o) (list_part F G [] o (outline_in body (begins o)) body (goings_in body) i (list_step body (begins o))) ends

    arms_dos : (h n : ℕ) (arms : ArmTrees) → NumberedArms n arms → ArmsOrdered n arms → WhilesFitArms m.is_while arms → (o : Outline) → Inside F G o (outline_arms arms o) [] (goings_arms arms)
        → ((x : Landing) → Member x (outline_arms arms o).landings → Member x F) → Each Ours (arms_whats (elaborated_arms m h arms))
    arms_dos h n no_arms a f y o i ends = tt
    arms_dos h n (more_arms (arm test body) rest) a f y o i ends =
        let b = outline_in body (begins o) in
        let p = leaves b in
        let q = outline_arms rest p in
        let s = list_step_in o b (InLabels body) (goings_in body) (list_step body (begins o)) in
        let t = arms_step rest p in
        let c = goings_in body in
        let d = goings_arms rest in
        let k = hidden_in m h body in
        each_joined Ours (list_whats (elaborated_in m h body)) (arms_whats (elaborated_arms m k rest))
        (list_dos h n body a.below f.0 y.below (begins o) (list_part F G [] o b body c (first_part F G [] o p q Never Never c d (c + d) refl i s t) (list_step body (begins o))) (λ x z. ends x (arms_keeps rest p x z)))
        (arms_dos k (last_in n body) rest a.parts f.1 y.parts p (second_part F G [] o p q Never Never c d (c + d) refl i s t) ends)

    else_dos : (h n : ℕ) (other : ElseTree) → NumberedElse n other → ElseOrdered n other → WhilesFitElse m.is_while other → (o : Outline) → Inside F G o (outline_else other o) [] (goings_else other)
        → ((x : Landing) → Member x (outline_else other o).landings → Member x F) → Each Ours (else_whats (elaborated_else m h other))
    else_dos h n no_else a f y o i ends = tt
    else_dos h n (otherwise body) a f y o i ends = list_dos h n body a f y (begins o) (list_part F G [] o (outline_in body (begins o)) body (goings_in body) i (list_step body (begins o))) ends

-- ---- modules that are read

-- of each DO of a body
abbrev pub AllLeadBeyond : StmtTrees → Type 0
AllLeadBeyond t = Each (DoIs LeadsBeyond) (list_whats t)

pub one_leads : (closing : List (List ℕ)) (begun : List StatementTree) (s : StatementTree) → s.phrase ≡ end_module → EachOf IsRead (begun ++ s ∷ []) → fault_of (marks_of (begun ++ s ∷ [])) ≡ None → AllLeadBeyond (build_module closing (begun ++ s ∷ [])).module_read.body
unfolding build_module elaborated
one_leads closing begun s e r f =
    let ss = begun ++ s ∷ [] in
    let w = (written_module closing ss).module_read in
    let i = each-map IsRead IsStatement ss (λ x h. h.phrase) r in
    let a = written_well closing begun s e i f in
    let t = w.body in
    let F = (outline_in t nothing_outlined).landings in
    let G = (outline_in t nothing_outlined).goings in
    let some = goings_few (meant_in w).is_while t a.body in
    let most = few_stand closing begun s e i f in
    list_dos F G (all_reach_there closing begun s e i f) (labels_bounded closing begun s e r f) (meant_in w) 0 0 t a.body (written_ordered closing begun s e r f) a.whiles nothing_outlined (whole_inside t (omega (arith, some, most))) (λ x z. z)
