-- Each reference on a line SAFE was found safe at a statement that evaluates it and has its lines there.
use Rattle.std.proofs.Common.{◌≡◌, ℕ, List, [], ◌∷◌, ◌++◌, map, Option, Some, None, Bool, true, false, refl}
use Rattle.std.specs.Prelude.{if◌then◌else◌, not, ◌&&◌}
use Rattle.std.specs.List.{filter}
use Rattle.affine_systems.specs.declared.row.Row.{Row}
use Rattle.f77_ast.specs.Trees.{ExprTree, ExprTrees, StmtTree, WhatTree, ArmTrees, ElseTree, LoopTree, StmtTrees}
use Rattle.f77_ast.specs.Trees as tree
use Rattle.f77_ast.specs.Hidden.{is_hidden}
use Rattle.f77_ast.specs.Shapes.{walk_stmt, walk_what, walk_body, walk_arms, walk_else, walk_list}
use Rattle.preconditions.specs.transformer_algebra.Laws.{In, here, there}
use Rattle.preconditions.specs.call_translation.Actuals.{named_cell, one_cell}
use Rattle.preconditions.proofs.TransformerAlgebra.Members.{in_left, in_right}
use Rattle.call_graph.specs.CallsIn.{Each}
use Rattle.call_graph.proofs.EachLaws.{each_more, each_joined}
use Rattle.laws_analyses.proofs.Regions.Numbering.{each_in}
use Rattle.bound_check.specs.References.{elements}
use Rattle.bound_check.specs.Safe.{is_safe}
use Rattle.bound_check.specs.Checked.{ChecksTree, both, Knowledge, rows_at, judged, all_judged, items_judged, step_judged, header_judged, leaf_judged, ChecksAt, SeenTree, none, join, own_alone, is_nil, at_statement, statement, the_references, checked_of}
use Rattle.laws_bounds.specs.Lines.{Evaluated, in_expr, in_exprs, in_items, in_step, in_header, in_tests, evaluated, Statement, line_of, body_all, stmt_all, what_all, list_all, arms_all, else_all, loop_all, IsFoundSafe, SafeLinesAreSafe}

-- ---- lists

each_filtered : (p : ExprTree → Bool) (P : ExprTree → Type 0) (es : List ExprTree) → ((e : ExprTree) → In e es → p e ≡ true → P e) → Each P (filter p es)
each_filtered p P [] h = tt
each_filtered p P (e ∷ es) h = go (p e) refl (each_filtered p P es (λ r i. h r (there i)))
  where
    go : (b : Bool) → p e ≡ b → Each P (filter p es) → Each P (if b then e ∷ filter p es else filter p es)
    go true q ih = (h e here q, ih)
    go false q ih = ih

in_mapped : (f : ExprTree → Evaluated) (es : List ExprTree) (e : ExprTree) → In e es → In (f e) (map f es)
in_mapped f [] e i = elim i [ ]
in_mapped f (d ∷ es) e here = here
in_mapped f (d ∷ es) e (there i) = there (in_mapped f es e i)

module _ (k : Knowledge) where
  -- ---- one statement

  -- a reference among these that is found safe
  record FoundAmong (rs : List Row) (refs : List Evaluated) (e : ExprTree) : Type 0 where
    written : List ℕ
    among : In (record { element = e; written = written }) refs
    safe : is_safe k.scope k.changed written rs e ≡ true

  abbrev AllFound : List Row → List Evaluated → ChecksTree → Type 0
  AllFound rs refs c = Each (FoundAmong rs refs) c.safe

  wider : (rs : List Row) (refs more : List Evaluated) (e : ExprTree) → ((x : Evaluated) → In x refs → In x more) → FoundAmong rs refs e → FoundAmong rs more e
  wider rs refs more e f h = record { written = h.written; among = f (record { element = e; written = h.written }) h.among; safe = h.safe }

  all_wider : (rs : List Row) (refs more : List Evaluated) (c : ChecksTree) → ((x : Evaluated) → In x refs → In x more) → AllFound rs refs c → AllFound rs more c
  all_wider rs refs more c f h = each_more (FoundAmong rs refs) (FoundAmong rs more) c.safe (λ e d. wider rs refs more e f d) h

  both_found : (rs : List Row) (refs more : List Evaluated) (c d : ChecksTree) → AllFound rs refs c → AllFound rs more d → AllFound rs (refs ++ more) (both c d)
  both_found rs refs more c d h g =
      each_joined (FoundAmong rs (refs ++ more)) c.safe d.safe
      (all_wider rs refs (refs ++ more) c (λ x i. in_left x refs more i) h)
      (all_wider rs more (refs ++ more) d (λ x i. in_right x refs more i) g)

  judged_found : (rs : List Row) (written : List ℕ) (e : ExprTree) → AllFound rs (in_expr k.scope written e) (judged k rs written e)
  judged_found rs written e =
      each_filtered (is_safe k.scope k.changed written rs) (FoundAmong rs (in_expr k.scope written e)) (elements e k.scope)
      (λ r i q. record { written = written; among = in_mapped (λ d. record { element = d; written = written }) (elements e k.scope) r i; safe = q })

  exprs_found : (rs : List Row) (es : ExprTrees) → AllFound rs (in_exprs k.scope es) (all_judged k rs es)
  exprs_found rs tree.no_exprs = tt
  exprs_found rs (tree.more_exprs e es) = both_found rs (in_expr k.scope [] e) (in_exprs k.scope es) (judged k rs [] e) (all_judged k rs es) (judged_found rs [] e) (exprs_found rs es)

  items_found : (rs : List Row) (written : List ℕ) (es : ExprTrees) → AllFound rs (in_items k.scope written es) (items_judged k rs written es)
  items_found rs written tree.no_exprs = tt
  items_found rs written (tree.more_exprs e es) =
      let more = written ++ one_cell (named_cell k.scope.scalars e) in
      both_found rs (in_expr k.scope written e) (in_items k.scope more es) (judged k rs written e) (items_judged k rs more es) (judged_found rs written e) (items_found rs more es)

  step_found : (rs : List Row) (step : Option ExprTree) → AllFound rs (in_step k.scope step) (step_judged k rs step)
  step_found rs None = tt
  step_found rs (Some e) = judged_found rs [] e

  header_found : (rs : List Row) (l : LoopTree) → AllFound rs (in_header k.scope l) (header_judged k rs l)
  header_found rs (tree.loop index first last step body) =
      both_found rs (in_expr k.scope [] first ++ in_expr k.scope [] last) (in_step k.scope step) (both (judged k rs [] first) (judged k rs [] last)) (step_judged k rs step)
      (both_found rs (in_expr k.scope [] first) (in_expr k.scope [] last) (judged k rs [] first) (judged k rs [] last) (judged_found rs [] first) (judged_found rs [] last))
      (step_found rs step)

  -- ---- the statements of a body

  module _ (body : StmtTrees) where
    -- those of statements that have their lines at this number
    abbrev AllSafe : ℕ → ChecksTree → Type 0
    AllSafe l c = Each (IsFoundSafe k body l) c.safe

    abbrev LineSafe : ChecksAt → Type 0
    LineSafe c = AllSafe c.id c.checks

    record Good (l : ℕ) (s : SeenTree) : Type 0 where
      own : AllSafe l s.own
      below : Each LineSafe s.below

    -- these are statements of the body
    abbrev Inside : List Statement → Type 0
    Inside ss = (s : Statement) → In s ss → In s (body_all body)

    of_statement : (n l : ℕ) (w : WhatTree) (refs : List Evaluated) (c : ChecksTree) → In (record { number = n; line = l; what = w }) (body_all body) → ((x : Evaluated) → In x refs → In x (evaluated k.scope w)) → AllFound (rows_at k n) refs c → AllSafe l c
    of_statement n l w refs c i f h =
        each_more (FoundAmong (rows_at k n) refs) (IsFoundSafe k body l) c.safe
        (λ e d. record { statement = record { number = n; line = l; what = w }; stands = i; line = refl; written = d.written; is_evaluated = f (record { element = e; written = d.written }) d.among; safe = d.safe }) h

    none_good : (l : ℕ) → Good l none
    none_good l = record { own = tt; below = tt }

    join_good : (l : ℕ) (s t : SeenTree) → Good l s → Good l t → Good l (join s t)
    unfolding join
    join_good l s t h g = record {
      own = each_joined (IsFoundSafe k body l) s.own.safe t.own.safe h.own g.own;
      below = each_joined LineSafe s.below t.below h.below g.below;
    }

    at_good : (n : ℕ) (c : ChecksTree) → AllSafe n c → Each LineSafe (at_statement n c)
    at_good n c h = go (is_nil c.safe && is_nil c.others)
      where
        go : (b : Bool) → Each LineSafe (if b then [] else record { id = n; checks = c } ∷ [])
        go true = tt
        go false = (h, tt)

    statement_good : (around : ℕ) (lined : Bool) (n : ℕ) (c : ChecksTree) (s : SeenTree) → AllSafe (line_of around lined n) c → Good (line_of around lined n) s → Good around (statement lined n c s)
    unfolding statement
    statement_good around lined n c s h g = go (lined && not (is_hidden n)) (each_joined (IsFoundSafe k body (line_of around lined n)) c.safe s.own.safe h g.own)
      where
        go : (b : Bool) → AllSafe (if b then n else around) (both c s.own)
            → Good around (if b then record { own = record { safe = []; others = [] }; below = at_statement n (both c s.own) ++ s.below } else record { own = both c s.own; below = s.below })
        go true own = record { own = tt; below = each_joined LineSafe (at_statement n (both c s.own)) s.below (at_good n (both c s.own) own) g.below }
        go false own = record { own = own; below = g.below }

    -- the rest of the arms are arms of the IF
    abbrev Arms : ℕ → ℕ → WhatTree → ArmTrees → Type 0
    Arms n l w arms = In (record { number = n; line = l; what = w }) (body_all body) × ((x : Evaluated) → In x (in_tests k.scope arms) → In x (evaluated k.scope w))

    leaf_good : (around : ℕ) (lined : Bool) (n : ℕ) (w : WhatTree) → In (record { number = n; line = line_of around lined n; what = w }) (body_all body) → AllFound (rows_at k n) (evaluated k.scope w) (leaf_judged k (rows_at k n) w)
        → Good around (statement lined n (leaf_judged k (rows_at k n) w) none)
    leaf_good around lined n w i h =
        let l = line_of around lined n in
        statement_good around lined n (leaf_judged k (rows_at k n) w) none (of_statement n l w (evaluated k.scope w) (leaf_judged k (rows_at k n) w) i (λ x j. j) h) (none_good l)

    mutual
      stmt_good : (around : ℕ) (lined : Bool) (s : StmtTree) → Inside (stmt_all around lined s) → (outer : ℕ) → Good around (walk_stmt (the_references k) s outer lined)
      stmt_good around lined (tree.stmt n label w) f outer = what_good around lined n label w (f (record { number = n; line = line_of around lined n; what = w }) here) (λ s i. f s (there i)) outer

      what_good : (around : ℕ) (lined : Bool) (n : ℕ) (label : Option ℕ) (w : WhatTree) → In (record { number = n; line = line_of around lined n; what = w }) (body_all body) → Inside (what_all (line_of around lined n) w) → (outer : ℕ)
          → Good around (walk_what (the_references k) n label w outer lined)
      what_good around lined n label (tree.assign a b) i f outer =
          leaf_good around lined n (tree.assign a b) i (both_found (rows_at k n) (in_expr k.scope [] b) (in_expr k.scope [] a) (judged k (rows_at k n) [] b) (judged k (rows_at k n) [] a) (judged_found (rows_at k n) [] b) (judged_found (rows_at k n) [] a))
      what_good around lined n label (tree.block_if arms other) i f outer =
          let l = line_of around lined n in
          let parts = join_good l (walk_arms (the_references k) arms n true) (walk_else (the_references k) other n true)
          (arms_good n l (tree.block_if arms other) arms (i, (λ x j. j)) (λ s j. f s (in_left s (arms_all l arms) (else_all l other) j)))
          (else_good l other (λ s j. f s (in_right s (arms_all l arms) (else_all l other) j)) n) in
          statement_good around lined n (record { safe = []; others = [] }) (join (walk_arms (the_references k) arms n true) (walk_else (the_references k) other n true)) tt parts
      what_good around lined n label (tree.logical_if e s) i f outer =
          let l = line_of around lined n in
          statement_good around lined n (judged k (rows_at k n) [] e) (walk_stmt (the_references k) s n false)
          (of_statement n l (tree.logical_if e s) (in_expr k.scope [] e) (judged k (rows_at k n) [] e) i (λ x j. j) (judged_found (rows_at k n) [] e)) (stmt_good l false s f n)
      what_good around lined n label (tree.do_loop b) i f outer =
          let l = line_of around lined n in
          statement_good around lined n (header_judged k (rows_at k n) b) (walk_body (the_references k) b n true)
          (of_statement n l (tree.do_loop b) (in_header k.scope b) (header_judged k (rows_at k n) b) i (λ x j. j) (header_found (rows_at k n) b)) (body_good l b f n)
      what_good around lined n label (tree.call x es) i f outer = leaf_good around lined n (tree.call x es) i (exprs_found (rows_at k n) es)
      what_good around lined n label (tree.goto t) i f outer = leaf_good around lined n (tree.goto t) i tt
      what_good around lined n label tree.continue i f outer = leaf_good around lined n tree.continue i tt
      what_good around lined n label tree.return i f outer = leaf_good around lined n tree.return i tt
      what_good around lined n label (tree.stop text) i f outer = leaf_good around lined n (tree.stop text) i tt
      what_good around lined n label (tree.print es) i f outer = leaf_good around lined n (tree.print es) i (exprs_found (rows_at k n) es)
      what_good around lined n label (tree.read es) i f outer = leaf_good around lined n (tree.read es) i (items_found (rows_at k n) [] es)

      body_good : (l : ℕ) (b : LoopTree) → Inside (loop_all l b) → (n : ℕ) → Good l (walk_body (the_references k) b n true)
      body_good l (tree.loop index first last step list) f n = list_good l list f n

      arms_good : (n l : ℕ) (w : WhatTree) (arms : ArmTrees) → Arms n l w arms → Inside (arms_all l arms) → Good l (walk_arms (the_references k) arms n true)
      arms_good n l w tree.no_arms a f = none_good l
      arms_good n l w (tree.more_arms (tree.arm test list) rest) a f =
          let own : Good l (own_alone (judged k (rows_at k n) [] test)) = record { own = of_statement n l w (in_expr k.scope [] test) (judged k (rows_at k n) [] test) a.0 (λ x j. a.1 x (in_left x (in_expr k.scope [] test) (in_tests k.scope rest) j)) (judged_found (rows_at k n) [] test); below = tt } in
          let here = join_good l (own_alone (judged k (rows_at k n) [] test)) (walk_list (the_references k) list n true) own (list_good l list (λ s j. f s (in_left s (list_all l list) (arms_all l rest) j)) n) in
          join_good l (join (own_alone (judged k (rows_at k n) [] test)) (walk_list (the_references k) list n true)) (walk_arms (the_references k) rest n true) here
          (arms_good n l w rest (a.0, (λ x j. a.1 x (in_right x (in_expr k.scope [] test) (in_tests k.scope rest) j))) (λ s j. f s (in_right s (list_all l list) (arms_all l rest) j)))

      else_good : (l : ℕ) (other : ElseTree) → Inside (else_all l other) → (n : ℕ) → Good l (walk_else (the_references k) other n true)
      else_good l tree.no_else f n = none_good l
      else_good l (tree.otherwise list) f n = list_good l list f n

      list_good : (l : ℕ) (list : StmtTrees) → Inside (list_all l list) → (outer : ℕ) → Good l (walk_list (the_references k) list outer true)
      list_good l tree.no_stmts f outer = none_good l
      list_good l (tree.more_stmts s rest) f outer =
          join_good l (walk_stmt (the_references k) s outer true) (walk_list (the_references k) rest outer true)
          (stmt_good l true s (λ t i. f t (in_left t (stmt_all l true s) (list_all l rest) i)) outer) (list_good l rest (λ t i. f t (in_right t (stmt_all l true s) (list_all l rest) i)) outer)

pub safe_lines_are_safe : SafeLinesAreSafe
safe_lines_are_safe k body c i e j = each_in (IsFoundSafe k body c.id) c.checks.safe e (each_in (LineSafe k body) (checked_of k body) c (list_good k body 0 body (λ s h. h) 0).below i) j
