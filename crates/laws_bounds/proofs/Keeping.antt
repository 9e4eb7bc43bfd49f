-- Where a statement evaluates its expressions the analysed scalars have the numbers of the arrival, but for those that items before are set to.
use Rattle.std.proofs.Common.{◌≡◌, ℕ, ◌<◌, List, [], ◌∷◌, Option, Some, None, Bool, true, false, refl, sym, ap, ◌∙◌, ◌||◌}
use Rattle.std.proofs.lemmas.Bool.{and_parts, and_from}
use Rattle.f77_ast.specs.Trees.{ExprTree, ExprTrees, WhatTree, ArmTrees, LoopTree}
use Rattle.f77_ast.specs.Trees as tree
use Rattle.f77_ast.specs.Store.{Content, Store, put, undefined}
use Rattle.f77_ast.specs.Runs.{Answer, Gave, Event, Read, Whole, run, first_of, rest_of}
use Rattle.f77_ast.specs.Steps.{Steps, Done, Breaks, Look, Set, Hold, Forget, Show, Take, Arrive}
use Rattle.f77_ast.specs.Places.{Variable}
use Rattle.f77_ast.specs.Plans.{Flow, Normal, Ends, first}
use Rattle.f77_ast.specs.Writes.{Locks, items_read}
use Rattle.f77_ast.specs.Calls.{actuals}
use Rattle.f77_ast.specs.Executions.{AtEndOf, run_of, Claim}
use Rattle.f77_ast.proofs.StepLaws.{Leads, leads_then}
use Rattle.f77_parser.specs.Elaborated.{and_last}
use Rattle.affine_forms.specs.Conditions.{no_rows}
use Rattle.affine_forms.specs.Scalars.{is_cell}
use Rattle.affine_forms.specs.Claims.{unit_in}
use Rattle.preconditions.specs.transformer_algebra.Cells.{has}
use Rattle.preconditions.specs.transformer_algebra.Transformers.{apply}
use Rattle.preconditions.specs.transformers.Simple.{named_cells, reading}
use Rattle.preconditions.proofs.TransformerAlgebra.CellLaws.{has-joined}
use Rattle.call_graph.specs.CallsIn.{Each}
use Rattle.laws_analyses.specs.Statements.Activation.{Fit, Ended}
use Rattle.laws_analyses.specs.Statements.Targets.{is_target, are_targets, has_targets}
use Rattle.laws_analyses.proofs.Statements.Ends.{more}
use Rattle.laws_analyses.proofs.Statements.Simple.{read_good}
use Rattle.laws_analyses.specs.Regions.Settings.{Setting, scene, Sound, actual_plain, actuals_plain, has_plain}
use Rattle.laws_analyses.proofs.Regions.Actuals.{AllOffer, actuals_hold}
use Rattle.laws_analyses.proofs.Regions.Rules.{Post}
use Rattle.laws_analyses.proofs.Regions.Storing.{Holding}
use Rattle.laws_bounds.specs.Claims.{SameBut}
use Rattle.laws_bounds.specs.Evaluations.{Evaluation, at_start, all_at_start, after_items, after_actuals, tests_of, step_of, header_of, evaluations, ComesTo}

-- ---- steps

-- what holds where a plan of these steps alone ends holds where they end
ends_back : {A : Type 0} (t : Steps A) (s : Store) (i : List Content) (Q : Flow → Store → Type 0) → AtEndOf (run_of (first t (λ o. Ends Normal)) s i) (λ f z j. Q f z) → Leads t s i (λ o z j. Q Normal z)
ends_back (Done a) s i Q h = h
ends_back (Breaks b) s i Q h = tt
ends_back (Look u k) s i Q h = ends_back (k (s u)) s i Q h
ends_back (Set u c t) s i Q h = ends_back t (put s u c) i Q h
ends_back (Hold u c t) s i Q h = ends_back t (put s u c) i Q h
ends_back (Forget u t) s i Q h = ends_back t (put s u (undefined (s u))) i Q h
ends_back (Show xs t) s i Q h = ends_back t s i Q h
ends_back (Take k) s i Q h = ends_back (k (first_of i)) s (rest_of i) Q h
ends_back (Arrive p t) s i Q h = ends_back t s i Q h

holding_leads : {A : Type 0} (t : Steps A) (s : Store) (i : List Content) (Q : Post A) (R : Store → Type 0) → ((a : Answer A) (z : Store) (es : List Event) → Q a z es → R z) → Holding t s Q → Leads t s i (λ a z j. R z)
holding_leads (Done a) s i Q R m h = m (Gave a) s [] h
holding_leads (Breaks b) s i Q R m h = tt
holding_leads (Look u k) s i Q R m h = holding_leads (k (s u)) s i (λ a z es. Q a z (Read u (s u) ∷ es)) R (λ a z es q. m a z (Read u (s u) ∷ es) q) h
holding_leads (Set u c t) s i Q R m h = absurd h
holding_leads (Hold u c t) s i Q R m h = holding_leads t (put s u c) i Q R m h
holding_leads (Forget u t) s i Q R m h = absurd h
holding_leads (Show xs t) s i Q R m h = absurd h
holding_leads (Take k) s i Q R m h = absurd h
holding_leads (Arrive p t) s i Q R m h = absurd h

-- ---- one more

targets_last : (scalar : List ℕ → Bool) (es : ExprTrees) (e : ExprTree) → are_targets scalar es ≡ true → is_target scalar e ≡ true → are_targets scalar (and_last es e) ≡ true
targets_last scalar tree.no_exprs e h t = and_from (is_target scalar e) true t refl
targets_last scalar (tree.more_exprs d es) e h t =
    let p = and_parts (is_target scalar d) (are_targets scalar es) h in and_from (is_target scalar d) (are_targets scalar (and_last es e)) p.0 (targets_last scalar es e p.1 t)

plain_last : (scalar : List ℕ → Bool) (es : ExprTrees) (e : ExprTree) → actuals_plain scalar es ≡ true → actual_plain scalar e ≡ true → actuals_plain scalar (and_last es e) ≡ true
plain_last scalar tree.no_exprs e h t = and_from (actual_plain scalar e) true t refl
plain_last scalar (tree.more_exprs d es) e h t =
    let p = and_parts (actual_plain scalar d) (actuals_plain scalar es) h in and_from (actual_plain scalar d) (actuals_plain scalar (and_last es e)) p.0 (plain_last scalar es e p.1 t)

out_joined : (cs : List ℕ) (c : ℕ) → has cs c ≡ false → (has cs c || false) ≡ false
out_joined cs c h = ap (λ b. b || false) h

-- ---- a statement

module _ (C : Claim) (k : Setting) (sound : Sound k) (locked : Locks) (still : ℕ → Bool) (fit : Fit k.sc.names k.scalar k.at (scene k) locked still) (n : ℕ) (solid : (x : List ℕ) (v : ℕ) → k.sc.names x ≡ Variable v → k.scalar x ≡ true → 0 < (k.at v).extent)
    (apart : (i c : ℕ) → is_cell k.m.tracked c ≡ true → k.sc.own_unit n i ≡ unit_in k.at c → ⊥) (z : Store) (i : List Content) where
  abbrev pub Keeps : Evaluation → Type 0
  Keeps v = ComesTo k.sc.names k.at locked (k.sc.own_unit n) v z i (λ y. SameBut k.m k.at (named_cells k.m.scalars v.items) z y)

  start_keeps : (e : ExprTree) → Keeps (at_start e)
  start_keeps e c t h = refl

  all_start : (es : ExprTrees) → Each Keeps (all_at_start es)
  all_start tree.no_exprs = tt
  all_start (tree.more_exprs e es) = (start_keeps e, all_start es)

  -- ---- READ

  read_keeps : (done : ExprTrees) → are_targets k.scalar done ≡ true → Leads (items_read done k.sc.names k.at locked) z i (λ o y j. SameBut k.m k.at (named_cells k.m.scalars done) z y)
  read_keeps done d =
      more_so (ends_back (items_read done k.sc.names k.at locked) z i (Ended (scene k) (reading k.m.scalars done) (apply (reading k.m.scalars done) no_rows) (λ x. false) false false still z)
      ((read_good C k.sc.names k.m k.scalar k.at k.far k.place sound.names_fit locked still fit (λ x. false) false false no_rows z (λ p st. tt) done d).ending i))
    where
      more_so : Leads (items_read done k.sc.names k.at locked) z i (λ o y j. Ended (scene k) (reading k.m.scalars done) (apply (reading k.m.scalars done) no_rows) (λ x. false) false false still z Normal y) → Leads (items_read done k.sc.names k.at locked) z i (λ o y j. SameBut k.m k.at (named_cells k.m.scalars done) z y)
      more_so h =
          more (run (items_read done k.sc.names k.at locked) (Whole z) i) (λ o y j. Ended (scene k) (reading k.m.scalars done) (apply (reading k.m.scalars done) no_rows) (λ x. false) false false still z Normal y) (λ o y j. SameBut k.m k.at (named_cells k.m.scalars done) z y)
          (λ o y j e c t q. e.does.kept.cells c t (has-joined (named_cells k.m.scalars done) [] c ∙ out_joined (named_cells k.m.scalars done) c q)) h

  items_keep : (done es : ExprTrees) → are_targets k.scalar done ≡ true → are_targets k.scalar es ≡ true → Each Keeps (after_items done es)
  items_keep done tree.no_exprs d t = tt
  items_keep done (tree.more_exprs e es) d t =
      let p = and_parts (is_target k.scalar e) (are_targets k.scalar es) t in (
        leads_then (items_read done k.sc.names k.at locked) (λ o. actuals tree.no_exprs 0 k.sc.names k.at (k.sc.own_unit n)) z i (λ xs y j. SameBut k.m k.at (named_cells k.m.scalars done) z y) (read_keeps done d),
        items_keep (and_last done e) es (targets_last k.scalar done e d p.0) p.1,
      )

  -- ---- CALL

  call_keeps : (done : ExprTrees) → actuals_plain k.scalar done ≡ true → Leads (actuals done 0 k.sc.names k.at (k.sc.own_unit n)) z i (λ xs y j. SameBut k.m k.at [] z y)
  call_keeps done d =
      holding_leads (actuals done 0 k.sc.names k.at (k.sc.own_unit n)) z i (AllOffer k sound solid (k.sc.own_unit n) apart z done 0) (λ y. SameBut k.m k.at [] z y) (λ a y es q c t h. sym (q.0 c t))
      (actuals_hold k sound solid (k.sc.own_unit n) apart z done 0 z (λ c t. refl) d)

  actuals_keep : (done es : ExprTrees) → actuals_plain k.scalar done ≡ true → actuals_plain k.scalar es ≡ true → Each Keeps (after_actuals done es)
  actuals_keep done tree.no_exprs d t = tt
  actuals_keep done (tree.more_exprs e es) d t =
      let p = and_parts (actual_plain k.scalar e) (actuals_plain k.scalar es) t in (call_keeps done d, actuals_keep (and_last done e) es (plain_last k.scalar done e d p.0) p.1)

  -- ---- all forms

  tests_keep : (arms : ArmTrees) → Each Keeps (tests_of arms)
  tests_keep tree.no_arms = tt
  tests_keep (tree.more_arms (tree.arm test body) rest) = (start_keeps test, tests_keep rest)

  step_keeps : (step : Option ExprTree) → Each Keeps (step_of step)
  step_keeps None = tt
  step_keeps (Some e) = (start_keeps e, tt)

  header_keeps : (l : LoopTree) → Each Keeps (header_of l)
  header_keeps (tree.loop index first last step body) = (start_keeps first, (start_keeps last, step_keeps step))

  pub evaluations_keep : (w : WhatTree) → has_targets k.scalar w ≡ true → has_plain k.scalar w ≡ true → Each Keeps (evaluations w)
  evaluations_keep (tree.assign a b) t p = (start_keeps b, (start_keeps a, tt))
  evaluations_keep (tree.block_if arms other) t p = tests_keep arms
  evaluations_keep (tree.logical_if e s) t p = (start_keeps e, tt)
  evaluations_keep (tree.do_loop l) t p = header_keeps l
  evaluations_keep (tree.call x es) t p = actuals_keep tree.no_exprs es refl p
  evaluations_keep (tree.goto l) t p = tt
  evaluations_keep tree.continue t p = tt
  evaluations_keep tree.return t p = tt
  evaluations_keep (tree.stop text) t p = tt
  evaluations_keep (tree.print es) t p = all_start es
  evaluations_keep (tree.read es) t p = items_keep tree.no_exprs es refl t
