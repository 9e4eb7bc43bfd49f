-- Each reference that a statement evaluates stands in an expression that it evaluates, after the items before are read.
use Rattle.std.proofs.Common.{◌≡◌, ℕ, List, [], ◌∷◌, ◌++◌, map, Option, Some, None, refl, sym, ap, ◌∙◌, append_assoc, append-nil}
use Rattle.f77_ast.specs.Trees.{ExprTree, ExprTrees, WhatTree, ArmTrees, LoopTree}
use Rattle.f77_ast.specs.Trees as tree
use Rattle.f77_parser.specs.Elaborated.{and_last}
use Rattle.affine_forms.specs.Scalars.{Scalars}
use Rattle.preconditions.specs.call_translation.Actuals.{named_cell, one_cell}
use Rattle.preconditions.specs.call_translation.Scopes.{ScopeTree}
use Rattle.preconditions.specs.transformer_algebra.Laws.{In, here, there}
use Rattle.preconditions.specs.transformers.Simple.{named_cells}
use Rattle.call_graph.specs.CallsIn.{Each}
use Rattle.call_graph.proofs.EachLaws.{each_more, each_joined}
use Rattle.bound_check.specs.References.{elements}
use Rattle.laws_bounds.specs.Evaluations.{Evaluation, at_start, all_at_start, after_items, after_actuals, tests_of, step_of, header_of, evaluations}
use Rattle.laws_bounds.specs.Lines.{Evaluated, in_expr, in_exprs, in_items, in_step, in_header, in_tests, evaluated}

named_last : (k : Scalars) (es : ExprTrees) (e : ExprTree) → named_cells k (and_last es e) ≡ named_cells k es ++ one_cell (named_cell k e)
named_last k tree.no_exprs e = append-nil (one_cell (named_cell k e))
named_last k (tree.more_exprs d es) e = ap (λ (cs : List ℕ). one_cell (named_cell k d) ++ cs) (named_last k es e) ∙ sym (append_assoc (one_cell (named_cell k d)) (named_cells k es) (one_cell (named_cell k e)))

module _ (m : ScopeTree) where
  -- one of these evaluations is of an expression with the reference
  pub record StandsIn (vs : List Evaluation) (r : Evaluated) : Type 0 where
    pub evaluation : Evaluation
    pub among : In evaluation vs
    pub refers : In r.element (elements evaluation.expression m)
    pub written : r.written ≡ named_cells m.scalars evaluation.items

  wider : (vs ws : List Evaluation) → ((v : Evaluation) → In v vs → In v ws) → (rs : List Evaluated) → Each (StandsIn vs) rs → Each (StandsIn ws) rs
  wider vs ws f rs h = each_more (StandsIn vs) (StandsIn ws) rs (λ r s. record { evaluation = s.evaluation; among = f s.evaluation s.among; refers = s.refers; written = s.written }) h

  later : (v : Evaluation) (vs : List Evaluation) (rs : List Evaluated) → Each (StandsIn vs) rs → Each (StandsIn (v ∷ vs)) rs
  later v vs rs h = wider vs (v ∷ vs) (λ u i. there i) rs h

  module _ (vs : List Evaluation) (v : Evaluation) (i : In v vs) (written : List ℕ) (e : written ≡ named_cells m.scalars v.items) where
    mapped : (es : List ExprTree) → ((r : ExprTree) → In r es → In r (elements v.expression m)) → Each (StandsIn vs) (map (λ r. record { element = r; written = written }) es)
    mapped [] f = tt
    mapped (d ∷ es) f = (record { evaluation = v; among = i; refers = f d here; written = e }, mapped es (λ r j. f r (there j)))

    of_expr : Each (StandsIn vs) (in_expr m written v.expression)
    of_expr = mapped (elements v.expression m) (λ r j. j)

  one : (e : ExprTree) (vs : List Evaluation) → Each (StandsIn (at_start e ∷ vs)) (in_expr m [] e)
  one e vs = of_expr (at_start e ∷ vs) (at_start e) here [] refl

  joined : (vs : List Evaluation) (rs ss : List Evaluated) → Each (StandsIn vs) rs → Each (StandsIn vs) ss → Each (StandsIn vs) (rs ++ ss)
  joined vs rs ss h g = each_joined (StandsIn vs) rs ss h g

  of_exprs : (es : ExprTrees) → Each (StandsIn (all_at_start es)) (in_exprs m es)
  of_exprs tree.no_exprs = tt
  of_exprs (tree.more_exprs e es) = joined (at_start e ∷ all_at_start es) (in_expr m [] e) (in_exprs m es) (one e (all_at_start es)) (later (at_start e) (all_at_start es) (in_exprs m es) (of_exprs es))

  of_actuals : (done es : ExprTrees) → Each (StandsIn (after_actuals done es)) (in_exprs m es)
  of_actuals done tree.no_exprs = tt
  of_actuals done (tree.more_exprs e es) =
      let v : Evaluation = record { expression = e; items = tree.no_exprs; actuals = done } in
      let vs = after_actuals (and_last done e) es in
      joined (v ∷ vs) (in_expr m [] e) (in_exprs m es) (of_expr (v ∷ vs) v here [] refl) (later v vs (in_exprs m es) (of_actuals (and_last done e) es))

  of_items : (done es : ExprTrees) (written : List ℕ) → written ≡ named_cells m.scalars done → Each (StandsIn (after_items done es)) (in_items m written es)
  of_items done tree.no_exprs written q = tt
  of_items done (tree.more_exprs e es) written q =
      let v : Evaluation = record { expression = e; items = done; actuals = tree.no_exprs } in
      let vs = after_items (and_last done e) es in
      let more = written ++ one_cell (named_cell m.scalars e) in
      let next : more ≡ named_cells m.scalars (and_last done e) = ap (λ (cs : List ℕ). cs ++ one_cell (named_cell m.scalars e)) q ∙ sym (named_last m.scalars done e) in
      joined (v ∷ vs) (in_expr m written e) (in_items m more es) (of_expr (v ∷ vs) v here written q) (later v vs (in_items m more es) (of_items (and_last done e) es more next))

  of_step : (step : Option ExprTree) → Each (StandsIn (step_of step)) (in_step m step)
  of_step None = tt
  of_step (Some e) = one e []

  of_header : (l : LoopTree) → Each (StandsIn (header_of l)) (in_header m l)
  of_header (tree.loop index first last step body) =
      let vs = at_start last ∷ step_of step in
      joined (at_start first ∷ vs) (in_expr m [] first ++ in_expr m [] last) (in_step m step)
      (joined (at_start first ∷ vs) (in_expr m [] first) (in_expr m [] last) (one first vs) (later (at_start first) vs (in_expr m [] last) (one last (step_of step))))
      (later (at_start first) vs (in_step m step) (later (at_start last) (step_of step) (in_step m step) (of_step step)))

  of_tests : (arms : ArmTrees) → Each (StandsIn (tests_of arms)) (in_tests m arms)
  of_tests tree.no_arms = tt
  of_tests (tree.more_arms (tree.arm test body) rest) =
      joined (at_start test ∷ tests_of rest) (in_expr m [] test) (in_tests m rest) (one test (tests_of rest)) (later (at_start test) (tests_of rest) (in_tests m rest) (of_tests rest))

  pub all_stand : (w : WhatTree) → Each (StandsIn (evaluations w)) (evaluated m w)
  all_stand (tree.assign a b) = joined (at_start b ∷ at_start a ∷ []) (in_expr m [] b) (in_expr m [] a) (one b (at_start a ∷ [])) (later (at_start b) (at_start a ∷ []) (in_expr m [] a) (one a []))
  all_stand (tree.block_if arms other) = of_tests arms
  all_stand (tree.logical_if e s) = one e []
  all_stand (tree.do_loop l) = of_header l
  all_stand (tree.call x es) = of_actuals tree.no_exprs es
  all_stand (tree.goto l) = tt
  all_stand tree.continue = tt
  all_stand tree.return = tt
  all_stand (tree.stop text) = tt
  all_stand (tree.print es) = of_exprs es
  all_stand (tree.read es) = of_items tree.no_exprs es [] refl
