-- A CALL over executions.
use Rattle.std.proofs.Common.{◌≡◌, ℕ, List, Option, Some, None, Bool, false, sym, ◌∙◌, subst}
use Rattle.affine_systems.specs.declared.row.System.{System}
use Rattle.f77_ast.specs.Trees.{ExprTrees}
use Rattle.f77_ast.specs.Store.{Store}
use Rattle.f77_ast.specs.Runs.{run, Whole}
use Rattle.f77_ast.specs.Places.{Place, Places}
use Rattle.f77_ast.specs.Writes.{Locks}
use Rattle.f77_ast.specs.Plans.{Flow, Normal, Jump, Returned, Stopped, Ends, ◌▹◌}
use Rattle.f77_ast.specs.Calls.{Actual, Meaning, actuals, places_of, own_units, lock_own, forget_all, after_call, call_plan}
use Rattle.f77_ast.specs.Programs.{no_module}
use Rattle.f77_ast.specs.Executions.{Claim}
use Rattle.f77_ast.proofs.StepLaws.{leads_true}
use Rattle.affine_forms.specs.Claims.{numbers_of}
use Rattle.preconditions.specs.transformer_algebra.declared.transformer.Transformer.{Transformer}
use Rattle.preconditions.specs.transformer_algebra.Transformers.{apply}
use Rattle.preconditions.specs.transformer_algebra.Claims.{Scene, HoldsAt, Does}
use Rattle.preconditions.proofs.TransformerAlgebra.RuleLaws.{holds_apply}
use Rattle.preconditions.specs.call_translation.Summary.{call_transformer}
use Rattle.preconditions.specs.call_translation.Sites.{HoldingSite}
use Rattle.preconditions.specs.transformers.Given.{Callees}
use Rattle.laws_analyses.specs.Statements.Good.{Good}
use Rattle.laws_analyses.proofs.Statements.Ends.{more, both}
use Rattle.laws_analyses.proofs.Statements.Rules.{good_ends, good_breaks, good_more, good_then, good_first, good_forget_all}
use Rattle.laws_analyses.specs.Statements.Activation.{Still, Done, Ended}
use Rattle.laws_analyses.specs.Calls.Scenes.{outside}
use Rattle.laws_analyses.proofs.Calls.AllLaws.{call_rules_hold}
use Rattle.laws_analyses.specs.Calls.Actuals.{AreOffered}
use Rattle.laws_analyses.proofs.Calls.OfferLaws.{offer_actuals}
use Rattle.laws_analyses.specs.Calls.Parts.{Blocks, Part, summary, places_in, scene_in, still_in, Sane}
use Rattle.laws_analyses.specs.Calls.Sites.{Site, Covers, CoversFrom, lookup, CallEnded, Spec, CalleeOk}
use Rattle.laws_analyses.proofs.Calls.Bound.{Made}
use Rattle.laws_analyses.proofs.Calls.Enter.{Fits}
use Rattle.laws_analyses.proofs.Calls.Actuals.{StandFor, actuals_leads}
use Rattle.laws_analyses.proofs.Calls.CallFacts.{activation, actuals_fit, entered, entry_there, same_there, keeps_still, runs}

module _ (C : Claim) (b : Blocks) (cs : Callees) (sites : List ℕ → List HoldingSite) (h : Part) (sane_h : Sane b h) (psm : List Place) (at : Places) (made : Made h.routine.dummies psm (places_in h psm) at) (x : List ℕ) (es : ExprTrees) (P : System) (n : ℕ) (locked : Locks) (still : ℕ → Bool) (fits : Fits b h psm at locked still) (z : Store) (hp : HoldsAt (scene_in b h psm at) P (numbers_of z)) where
  abbrev eh : Scene
  eh = scene_in b h psm at

  abbrev t : Transformer
  t = call_transformer h.scope (cs x) es

  abbrev Q : Flow → Store → Type 0
  Q = Ended eh t (apply t P) (λ ls. false) false false still z

  -- a CALL of no module
  none_good : (meaning : Meaning) → meaning ≡ no_module → Good C (call_plan (actuals es 0 h.routine.names at (h.routine.own_unit n)) meaning locked) z Q
  none_good meaning e =
      good_first C (actuals es 0 h.routine.names at (h.routine.own_unit n)) _ z Q (λ i.
      more (run (actuals es 0 h.routine.names at (h.routine.own_unit n)) (Whole z) i) (λ xs s j. Unit {0}) _
      (λ xs s j u. subst (λ m. Good C (m (places_of xs) (lock_own locked (own_units xs)) ▹ after_call (own_units xs)) s Q) (sym e) (good_breaks C _ s Q))
      (leads_true (actuals es 0 h.routine.names at (h.routine.own_unit n)) z i))

  module _ (k : Part) (sane_k : Sane b k) (site : Site b cs sites h k x es P) (meaning : Meaning) (spec : Spec C b cs k meaning) where
    module _ (s : Store) (xs : List Actual) (off : AreOffered (activation b cs sites h sane_h psm at made k sane_k x es P site n locked still fits z hp) es 0 z s xs) (st : StandFor h.routine.names at (h.routine.own_unit n) es 0 xs) where
      abbrev ps : List Place
      ps = places_of xs

      abbrev passed : Locks
      passed = lock_own locked (own_units xs)

      -- after it, the units of expressions become undefined
      left_good : (y : Store) → Does (outside k.scope.symbols (scene_in b k ps (places_in k ps))) (summary cs k) (numbers_of s) (numbers_of y) × Still (still_in k ps passed) s y → Good C (forget_all (own_units xs) (Ends Normal)) y Q
      left_good y d =
          good_forget_all C (own_units xs) (Ends Normal) y Q (λ w e.
          good_ends C Normal w Q (done w e))
        where
          done : (w : Store) → ((u : ℕ) → (w u).number ≡ (y u).number) → Done eh (call_transformer h.scope (cs x) es) (apply (call_transformer h.scope (cs x) es) P) still z w
          done w e =
              let r = runs b cs sites h sane_h psm at made k sane_k x es P site n locked still fits z hp s xs off st y d.1 w e in
              let does : Does eh (call_transformer h.scope (cs x) es) (numbers_of z) (numbers_of w) =
              subst (λ o. Does eh (call_transformer h.scope o es) (numbers_of z) (numbers_of w)) (sym site.summary_known)
              (call_rules_hold.call_does h.scope es (record { symbols = k.scope.symbols; value = summary cs k }) eh (scene_in b k ps (places_in k ps)) (numbers_of z) (numbers_of s) (numbers_of y) (numbers_of w) r d.0) in
              record {
                does = does;
                after = holds_apply eh (call_transformer h.scope (cs x) es) P (numbers_of z) (numbers_of w) hp does;
                steady = λ u f. e u ∙ (d.1 u (keeps_still b cs sites h sane_h psm at made k sane_k x es P site n locked still fits z hp s xs off st u f) ∙ same_there b cs sites h sane_h psm at made k sane_k x es P site n locked still fits z hp s xs off st u (fits.hidden u f));
              }

      next : (f : Flow) (y : Store) → CallEnded b cs k ps passed s f y → Good C (after_call (own_units xs) f) y Q
      next Normal y d = left_good y d
      next (Jump l) y d = absurd d
      next Returned y d = absurd d
      next Stopped y d = good_ends C Stopped y Q tt

      called_good : Good C (meaning ps passed ▹ after_call (own_units xs)) s Q
      called_good =
          good_then C (meaning ps passed) (after_call (own_units xs)) s Q
          (good_more C (meaning ps passed) s (CallEnded b cs k ps passed s) (λ f y. Good C (after_call (own_units xs) f) y Q) next
          (spec ps passed s (entered b cs sites h sane_h psm at made k sane_k x es P site n locked still fits z hp s xs off st) (entry_there b cs sites h sane_h psm at made k sane_k x es P site n locked still fits z hp s xs off st)))

    some_good : Good C (call_plan (actuals es 0 h.routine.names at (h.routine.own_unit n)) meaning locked) z Q
    some_good =
        good_first C (actuals es 0 h.routine.names at (h.routine.own_unit n)) _ z Q (λ i.
        both (run (actuals es 0 h.routine.names at (h.routine.own_unit n)) (Whole z) i) (λ xs s j. (j ≡ i) × AreOffered (activation b cs sites h sane_h psm at made k sane_k x es P site n locked still fits z hp) es 0 z s xs) (λ xs s j. StandFor h.routine.names at (h.routine.own_unit n) es 0 xs) _
        (λ xs s j o st. called_good s xs o.1 st)
        (offer_actuals (activation b cs sites h sane_h psm at made k sane_k x es P site n locked still fits z hp) (actuals_fit b cs sites h sane_h psm at made k sane_k x es P site n locked still fits z hp) es z i)
        (actuals_leads h.routine.names at (h.routine.own_unit n) es 0 z i site.offered))

  pub call_good : (below : List Part) (meaning : Meaning) → CalleeOk C b cs (lookup below x) meaning → Covers b cs sites below h x es P → Good C (call_plan (actuals es 0 h.routine.names at (h.routine.own_unit n)) meaning locked) z Q
  call_good below meaning ok cov = go (lookup below x) ok cov
    where
      go : (o : Option Part) → CalleeOk C b cs o meaning → CoversFrom b cs sites h x es P o → Good C (call_plan (actuals es 0 h.routine.names at (h.routine.own_unit n)) meaning locked) z Q
      go None k c = none_good meaning k
      go (Some k) q c = some_good k q.0 c meaning q.1
