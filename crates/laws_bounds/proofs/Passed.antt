-- The lines on references are comment lines that reading drops.
use Rattle.std.proofs.Common.{ℕ, Bool, true, false, List, [], ◌∷◌, ◌++◌, Option, Some, None, refl, ◌∙◌}
use Rattle.std.specs.Prelude.{if◌then◌else◌, not, ◌&&◌, codes}
use Rattle.std.specs.List.{filter, list_all}
use Rattle.std.proofs.lemmas.Bool.{and_from}
use Rattle.std.proofs.lemmas.List.Folds.{list_all-append}
use Rattle.fixed_form.specs.Characters.{is_allowed}
use Rattle.affine_systems.specs.declared.row.Row.{Row}
use Rattle.f77_ast.specs.Plain.{exprs_of}
use Rattle.f77_ast.specs.Trees.{ExprTree, ExprTrees, StmtTree, WhatTree, ArmTrees, ElseTree, LoopTree, StmtTrees}
use Rattle.f77_ast.specs.Trees as tree
use Rattle.f77_ast.specs.DeclTrees.{ParsedTree}
use Rattle.f77_ast.specs.Hidden.{is_hidden}
use Rattle.f77_ast.specs.Shapes.{walk_stmt, walk_what, walk_body, walk_arms, walk_else, walk_list}
use Rattle.f77_printer.specs.ExprText.{expr_text, exprs_text, items_text}
use Rattle.call_graph.specs.CallsIn.{Each}
use Rattle.call_graph.proofs.EachLaws.{each_joined}
use Rattle.preconditions.specs.call_translation.Actuals.{named_cell, one_cell}
use Rattle.preconditions.specs.call_translation.Scopes.{ScopeTree}
use Rattle.laws_programs.specs.SymbolTables.Shapes.{Shaped, AllShaped, ShapedActual, ShapedActuals, ShapedStep, ShapedStmt, ShapedWhat, ShapedArms, ShapedElse, ShapedLoop, ShapedList}
use Rattle.laws_programs.specs.roundtrip_programs.Statements.Formed as formed
use Rattle.laws_programs.specs.roundtrip_programs.Texts.Texts.{IsPassedOver}
use Rattle.laws_programs.proofs.RoundtripPrograms.Cards.TextLines.{allowed_whole}
use Rattle.laws_programs.proofs.RoundtripPrograms.ModuleTexts.Each.{Each-append}
use Rattle.laws_programs.proofs.RoundtripPrograms.Texts.Read.{all-parsed}
use Rattle.laws_programs.proofs.RoundtripPrograms.Texts.Whole.{IsSound, all-sound}
use Rattle.bound_check.specs.References.{elements, all_elements, element, is_array}
use Rattle.bound_check.specs.Safe.{is_safe}
use Rattle.bound_check.specs.CheckLines.{word_line, check_lines_of}
use Rattle.bound_check.specs.Checked.{ChecksTree, both, Knowledge, rows_at, judged, all_judged, items_judged, step_judged, header_judged, leaf_judged, ChecksAt, SeenTree, none, join, own_alone, is_nil, at_statement, statement, the_references, checked_of}
use Rattle.laws_bounds.specs.Faults.{AnyName}
use Rattle.laws_bounds.specs.LinesPass.{ChecksPass, CheckLinesPass}
use Rattle.laws_bounds.proofs.Texts.{IsAllowed, IsTextual, body_texts}

-- ---- references

abbrev IsText : ExprTree → Type 0
IsText e = IsAllowed (expr_text e)

element_by : (b : Bool) (x : List ℕ) (es : ExprTrees) → IsTextual x es → Each IsText (if b then tree.element x es ∷ [] else [])
element_by true x es h = (h, tt)
element_by false x es h = tt

module _ (m : ScopeTree) where
  mutual
    value_elements : (e : ExprTree) → Shaped AnyName IsTextual e → Each IsText (elements e m)
    value_elements (tree.int n) h = tt
    value_elements (tree.log b) h = tt
    value_elements (tree.name x) h = tt
    value_elements (tree.element x es) h = each_joined IsText (all_elements es m) (element m x es) (values_elements es h.1) (element_by (is_array m x) x es h.0)
    value_elements (tree.paren e) h = value_elements e h
    value_elements (tree.unary o e) h = value_elements e h
    value_elements (tree.binary o a b) h = each_joined IsText (elements a m) (elements b m) (value_elements a h.0) (value_elements b h.1)
    value_elements (tree.chars t) h = tt

    values_elements : (es : ExprTrees) → AllShaped AnyName IsTextual es → Each IsText (all_elements es m)
    values_elements tree.no_exprs h = tt
    values_elements (tree.more_exprs e es) h = each_joined IsText (elements e m) (all_elements es m) (value_elements e h.0) (values_elements es h.1)

  actual_elements : (e : ExprTree) → ShapedActual AnyName IsTextual e → Each IsText (elements e m)
  actual_elements (tree.int n) h = tt
  actual_elements (tree.log b) h = tt
  actual_elements (tree.name x) h = tt
  actual_elements (tree.element x es) h = value_elements (tree.element x es) h
  actual_elements (tree.paren e) h = value_elements e h
  actual_elements (tree.unary o e) h = value_elements e h
  actual_elements (tree.binary o a b) h = value_elements (tree.binary o a b) h
  actual_elements (tree.chars t) h = tt

filtered : (p : ExprTree → Bool) (es : List ExprTree) → Each IsText es → Each IsText (filter p es)
filtered p [] h = tt
filtered p (e ∷ es) h = go (p e) (filtered p es h.1)
  where
    go : (b : Bool) → Each IsText (filter p es) → Each IsText (if b then e ∷ filter p es else filter p es)
    go true g = (h.0, g)
    go false g = g

record AreTexts (c : ChecksTree) : Type 0 where
  safe : Each IsText c.safe
  others : Each IsText c.others

abbrev BelowTexts : List ChecksAt → Type 0
BelowTexts cs = Each (λ (c : ChecksAt). AreTexts c.checks) cs

no_texts : AreTexts (record { safe = []; others = [] })
no_texts = record { safe = tt; others = tt }

both_texts : (c d : ChecksTree) → AreTexts c → AreTexts d → AreTexts (both c d)
both_texts c d h g = record { safe = each_joined IsText c.safe d.safe h.safe g.safe; others = each_joined IsText c.others d.others h.others g.others }

module _ (k : Knowledge) where
  judged_by : (rs : List Row) (written : List ℕ) (e : ExprTree) → Each IsText (elements e k.scope) → AreTexts (judged k rs written e)
  judged_by rs written e h = record {
    safe = filtered (is_safe k.scope k.changed written rs) (elements e k.scope) h;
    others = filtered (λ r. not (is_safe k.scope k.changed written rs r)) (elements e k.scope) h;
  }

  judged_texts : (rs : List Row) (written : List ℕ) (e : ExprTree) → Shaped AnyName IsTextual e → AreTexts (judged k rs written e)
  judged_texts rs written e h = judged_by rs written e (value_elements k.scope e h)

  actuals_texts : (rs : List Row) (es : ExprTrees) → ShapedActuals AnyName IsTextual es → AreTexts (all_judged k rs es)
  actuals_texts rs tree.no_exprs h = no_texts
  actuals_texts rs (tree.more_exprs e es) h = both_texts (judged k rs [] e) (all_judged k rs es) (judged_by rs [] e (actual_elements k.scope e h.0)) (actuals_texts rs es h.1)

  values_texts : (rs : List Row) (es : ExprTrees) → AllShaped AnyName IsTextual es → AreTexts (all_judged k rs es)
  values_texts rs tree.no_exprs h = no_texts
  values_texts rs (tree.more_exprs e es) h = both_texts (judged k rs [] e) (all_judged k rs es) (judged_texts rs [] e h.0) (values_texts rs es h.1)

  items_texts : (rs : List Row) (written : List ℕ) (es : ExprTrees) → AllShaped AnyName IsTextual es → AreTexts (items_judged k rs written es)
  items_texts rs written tree.no_exprs h = no_texts
  items_texts rs written (tree.more_exprs e es) h =
      let more = written ++ one_cell (named_cell k.scope.scalars e) in
      both_texts (judged k rs written e) (items_judged k rs more es) (judged_texts rs written e h.0) (items_texts rs more es h.1)

  step_texts : (rs : List Row) (step : Option ExprTree) → ShapedStep AnyName IsTextual step → AreTexts (step_judged k rs step)
  step_texts rs None h = no_texts
  step_texts rs (Some e) h = judged_texts rs [] e h

  header_texts : (rs : List Row) (l : LoopTree) → ShapedLoop AnyName IsTextual l → AreTexts (header_judged k rs l)
  header_texts rs (tree.loop index first last step body) h =
      both_texts (both (judged k rs [] first) (judged k rs [] last)) (step_judged k rs step)
      (both_texts (judged k rs [] first) (judged k rs [] last) (judged_texts rs [] first h.1) (judged_texts rs [] last h.2)) (step_texts rs step h.3)

  -- ---- statements

  record Good (s : SeenTree) : Type 0 where
    own : AreTexts s.own
    below : BelowTexts s.below

  none_good : Good none
  none_good = record { own = no_texts; below = tt }

  join_good : (s t : SeenTree) → Good s → Good t → Good (join s t)
  unfolding join
  join_good s t h g = record { own = both_texts s.own t.own h.own g.own; below = each_joined (λ (c : ChecksAt). AreTexts c.checks) s.below t.below h.below g.below }

  at_good : (n : ℕ) (c : ChecksTree) → AreTexts c → BelowTexts (at_statement n c)
  at_good n c h = go (is_nil c.safe && is_nil c.others)
    where
      go : (b : Bool) → BelowTexts (if b then [] else record { id = n; checks = c } ∷ [])
      go true = tt
      go false = (h, tt)

  statement_good : (lined : Bool) (n : ℕ) (c : ChecksTree) (s : SeenTree) → AreTexts c → Good s → Good (statement lined n c s)
  unfolding statement
  statement_good lined n c s h g = go (lined && not (is_hidden n))
    where
      own : AreTexts (both c s.own)
      own = both_texts c s.own h g.own

      go : (b : Bool) → Good (if b then record { own = record { safe = []; others = [] }; below = at_statement n (both c s.own) ++ s.below } else record { own = both c s.own; below = s.below })
      go true = record { own = no_texts; below = each_joined (λ (a : ChecksAt). AreTexts a.checks) (at_statement n (both c s.own)) s.below (at_good n (both c s.own) own) g.below }
      go false = record { own = own; below = g.below }

  leaf_good : (lined : Bool) (n : ℕ) (w : WhatTree) → AreTexts (leaf_judged k (rows_at k n) w) → Good (statement lined n (leaf_judged k (rows_at k n) w) none)
  leaf_good lined n w h = statement_good lined n (leaf_judged k (rows_at k n) w) none h none_good

  mutual
    stmt_good : (s : StmtTree) → ShapedStmt AnyName IsTextual s → (outer : ℕ) (lined : Bool) → Good (walk_stmt (the_references k) s outer lined)
    stmt_good (tree.stmt n label w) h outer lined = what_good n label w h outer lined

    what_good : (n : ℕ) (label : Option ℕ) (w : WhatTree) → ShapedWhat AnyName IsTextual w → (outer : ℕ) (lined : Bool) → Good (walk_what (the_references k) n label w outer lined)
    what_good n label (tree.assign a b) h outer lined =
        leaf_good lined n (tree.assign a b) (both_texts (judged k (rows_at k n) [] b) (judged k (rows_at k n) [] a) (judged_texts (rows_at k n) [] b h.1) (judged_texts (rows_at k n) [] a h.0))
    what_good n label (tree.block_if arms other) h outer lined =
        statement_good lined n (record { safe = []; others = [] }) (join (walk_arms (the_references k) arms n true) (walk_else (the_references k) other n true)) no_texts
        (join_good (walk_arms (the_references k) arms n true) (walk_else (the_references k) other n true) (arms_good arms h.0 n) (else_good other h.1 n))
    what_good n label (tree.logical_if e s) h outer lined =
        statement_good lined n (judged k (rows_at k n) [] e) (walk_stmt (the_references k) s n false) (judged_texts (rows_at k n) [] e h.0) (stmt_good s h.1 n false)
    what_good n label (tree.do_loop l) h outer lined = statement_good lined n (header_judged k (rows_at k n) l) (walk_body (the_references k) l n true) (header_texts (rows_at k n) l h) (body_good l h n)
    what_good n label (tree.call x es) h outer lined = leaf_good lined n (tree.call x es) (actuals_texts (rows_at k n) es h)
    what_good n label (tree.goto l) h outer lined = leaf_good lined n (tree.goto l) no_texts
    what_good n label tree.continue h outer lined = leaf_good lined n tree.continue no_texts
    what_good n label tree.return h outer lined = leaf_good lined n tree.return no_texts
    what_good n label (tree.stop text) h outer lined = leaf_good lined n (tree.stop text) no_texts
    what_good n label (tree.print es) h outer lined = leaf_good lined n (tree.print es) (values_texts (rows_at k n) es h)
    what_good n label (tree.read es) h outer lined = leaf_good lined n (tree.read es) (items_texts (rows_at k n) [] es h)

    body_good : (l : LoopTree) → ShapedLoop AnyName IsTextual l → (n : ℕ) → Good (walk_body (the_references k) l n true)
    body_good (tree.loop index first last step list) h n = list_good list h.4 n true

    arms_good : (arms : ArmTrees) → ShapedArms AnyName IsTextual arms → (n : ℕ) → Good (walk_arms (the_references k) arms n true)
    arms_good tree.no_arms h n = none_good
    arms_good (tree.more_arms (tree.arm test list) rest) h n =
        let own : Good (own_alone (judged k (rows_at k n) [] test)) = record { own = judged_texts (rows_at k n) [] test h.0.0; below = tt } in
        let here = join_good (own_alone (judged k (rows_at k n) [] test)) (walk_list (the_references k) list n true) own (list_good list h.0.1 n true) in
        join_good (join (own_alone (judged k (rows_at k n) [] test)) (walk_list (the_references k) list n true)) (walk_arms (the_references k) rest n true) here (arms_good rest h.1 n)

    else_good : (other : ElseTree) → ShapedElse AnyName IsTextual other → (n : ℕ) → Good (walk_else (the_references k) other n true)
    else_good tree.no_else h n = none_good
    else_good (tree.otherwise list) h n = list_good list h n true

    list_good : (list : StmtTrees) → ShapedList AnyName IsTextual list → (outer : ℕ) (lined : Bool) → Good (walk_list (the_references k) list outer lined)
    list_good tree.no_stmts h outer lined = none_good
    list_good (tree.more_stmts s rest) h outer lined =
        join_good (walk_stmt (the_references k) s outer lined) (walk_list (the_references k) rest outer lined) (stmt_good s h.0 outer lined) (list_good rest h.1 outer lined)

-- ---- lines

both_allowed : (xs ys : List ℕ) → IsAllowed xs → IsAllowed ys → IsAllowed (xs ++ ys)
both_allowed xs ys h k = list_all-append is_allowed xs ys ∙ and_from (list_all is_allowed xs) (list_all is_allowed ys) h k

items_allowed : (es : List ExprTree) → Each IsText es → IsAllowed (items_text (exprs_of es))
items_allowed [] h = refl
items_allowed (e ∷ es) h = both_allowed (codes "," ++ expr_text e) (items_text (exprs_of es)) (both_allowed (codes ",") (expr_text e) refl h.0) (items_allowed es h.1)

texts_allowed : (es : List ExprTree) → Each IsText es → IsAllowed (exprs_text (exprs_of es))
texts_allowed [] h = refl
texts_allowed (e ∷ es) h = both_allowed (expr_text e) (items_text (exprs_of es)) h.0 (items_allowed es h.1)

safe_passed : (n : ℕ) (text : List ℕ) → IsAllowed text → IsPassedOver (record { before = n; line = codes "C> SAFE " ++ text })
safe_passed n text h =
    let w = allowed_whole (codes "C> SAFE " ++ text) (both_allowed (codes "C> SAFE ") text refl h) in
    record { comment = record { comment = refl; one_line = w.one_line; no_return = w.no_return }; dropped = refl }

check_passed : (n : ℕ) (text : List ℕ) → IsAllowed text → IsPassedOver (record { before = n; line = codes "C> CHECK " ++ text })
check_passed n text h =
    let w = allowed_whole (codes "C> CHECK " ++ text) (both_allowed (codes "C> CHECK ") text refl h) in
    record { comment = record { comment = refl; one_line = w.one_line; no_return = w.no_return }; dropped = refl }

safe_line : (n : ℕ) (es : List ExprTree) → Each IsText es → formed.Each IsPassedOver (word_line n (codes "C> SAFE ") es)
safe_line n [] h = tt
safe_line n (e ∷ es) h = record { first = safe_passed n (exprs_text (exprs_of (e ∷ es))) (texts_allowed (e ∷ es) h); others = tt }

check_line : (n : ℕ) (es : List ExprTree) → Each IsText es → formed.Each IsPassedOver (word_line n (codes "C> CHECK ") es)
check_line n [] h = tt
check_line n (e ∷ es) h = record { first = check_passed n (exprs_text (exprs_of (e ∷ es))) (texts_allowed (e ∷ es) h); others = tt }

lines_passed : (cs : List ChecksAt) → BelowTexts cs → formed.Each IsPassedOver (check_lines_of cs)
lines_passed [] h = tt
lines_passed (c ∷ cs) h =
    let safe = word_line c.id (codes "C> SAFE ") c.checks.safe in
    let others = word_line c.id (codes "C> CHECK ") c.checks.others in
    Each-append IsPassedOver (safe ++ others) (check_lines_of cs) (Each-append IsPassedOver safe others (safe_line c.id c.checks.safe h.0.safe) (check_line c.id c.checks.others h.0.others)) (lines_passed cs h.1)

all_pass : (ps : List ParsedTree) → formed.Each IsSound ps → formed.Each ChecksPass ps
all_pass [] h = tt
all_pass (p ∷ ps) h = record {
  first = λ k. lines_passed (checked_of k p.module_read.body) (list_good k p.module_read.body (body_texts p h.first) 0 true).below;
  others = all_pass ps h.others;
}

pub check_lines_pass : CheckLinesPass
check_lines_pass text ps r = all_pass ps (all-sound ps (all-parsed text ps r))
