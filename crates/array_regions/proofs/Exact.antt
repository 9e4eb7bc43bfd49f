-- What exact regions have no more of.
use Rattle.std.proofs.Common.{◌≡◌, ⊎_elim, ◌⊎◌, ℕ, suc, ℤ, pos, negsuc, List, [], ◌∷◌, ◌++◌, Option, Some, None, Bool, true, false, not, ◌&&◌, arith, refl, sym, ◌∙◌, true≢false}
use Rattle.std.specs.Prelude.{is_some}
use Rattle.std.specs.List.{AllByRecursion}
use Rattle.std.proofs.lemmas.Bool.{and_parts, or_parts, not-true}
use Rattle.std.proofs.lemmas.Int.{ints}
use Rattle.affine_systems.specs.declared.row.Var.{Var}
use Rattle.affine_systems.specs.declared.row.Var.TheVariants.{Phi}
use Rattle.affine_systems.specs.declared.row.System.{System}
use Rattle.affine_systems.specs.Points.{Point, Holds, HoldsAll}
use Rattle.affine_systems.specs.Rows.{system}
use Rattle.affine_systems.specs.Calls.{meet}
use Rattle.affine_systems.proofs.CallLaws.{append_all, meet_back}
use Rattle.affine_systems.proofs.ElimLaws.{value-combined}
use Rattle.affine_systems.proofs.TidyLaws.{tidy_back}
use Rattle.transformers.specs.transformer_algebra.Renaming.{of_rows}
use Rattle.f77_ast.specs.Trees.{ExprTree, ExprTrees, ArmTree, ArmTrees}
use Rattle.f77_ast.specs.Trees as tree
use Rattle.f77_ast.specs.Symbols.{BoundTree}
use Rattle.affine_forms.specs.declared.affine.Affine.{Affine}
use Rattle.affine_forms.specs.Claims.{form_value}
use Rattle.affine_forms.specs.Comparisons.{var_form, same_row}
use Rattle.affine_forms.specs.Conditions.{condition_of}
use Rattle.affine_forms.specs.Forms.{affine_of}
use Rattle.transformers.specs.call_translation.Scopes.{ScopeTree}
use Rattle.region_translation.specs.region_sets.declared.region.Region.{Region}
use Rattle.hull_projection.specs.Unions.{HoldsSome}
use Rattle.region_translation.specs.region_sets.Regions.{any_weak}
use Rattle.region_translation.proofs.RegionSets.BackLaws.{meet_weak}
use Rattle.array_regions.specs.declared.arms.Reached.{Reached}
use Rattle.array_regions.specs.Arms.{if_true, if_false, into_arm, past_arm, past_arms, met_pieces, under_tests, all_met, tests_reads}
use Rattle.array_regions.specs.Reads.{reads}
use Rattle.array_regions.specs.Rows.{dimension_rows, subscript_rows, all_affine}
use Rattle.array_regions.specs.Laws.{IsFalseAt, OnlyWhereFalse, LaterParts, LaterPartsAreExact, IsValue, AreValues, ElementsAreExact}
use Rattle.fx_lists.proofs.Lists.{each_append}
use Rattle.affine_forms.proofs.RowValues.{same_back}

-- ---- parts of an IF

module _ (m : ScopeTree) (e : ExprTree) where
  -- what is reached just so is reached only where the test is false
  abbrev Past : Reached → Type 0
  Past w = w.exact ≡ true → w.system.weak ≡ false → (p : Point) → HoldsAll p w.system.rows → IsFalseAt m e p

  past_it : (w : Reached) → Past (if_false m e w)
  past_it w t v p h =
      let c = condition_of m.scalars e in
      let q = and_parts w.exact c.no_exact t in
      let z = meet_weak w.system c.no v in
      record { exact = q.1; whole = z.1; point = (meet_back p w.system c.no v h).1 }

  past_false : (d : ExprTree) (w : Reached) → Past w → Past (if_false m d w)
  past_false d w o t v p h =
      let c = condition_of m.scalars d in
      let q = and_parts w.exact c.no_exact t in
      let z = meet_weak w.system c.no v in
      o q.0 z.0 p (meet_back p w.system c.no v h).0

  past_true : (d : ExprTree) (w : Reached) → Past w → Past (if_true m d w)
  past_true d w o t v p h =
      let c = condition_of m.scalars d in
      let q = and_parts w.exact c.yes_exact t in
      let z = meet_weak w.system c.yes v in
      o q.0 z.0 p (meet_back p w.system c.yes v h).0

  past_into : (b : ArmTree) (w : Reached) → Past w → Past (into_arm b m w)
  past_into (tree.arm d body) w o = past_true d w o

  past_all : (arms : ArmTrees) (w : Reached) → Past w → Past (past_arms arms m w)
  past_all tree.no_arms w o = o
  past_all (tree.more_arms (tree.arm d body) rest) w o = past_all rest (if_false m d w) (past_false d w o)

  -- regions of what is reached so
  some_met : (w : Reached) → Past w → w.exact ≡ true → (ss : List System) (p : Point) → any_weak (met_pieces w.system ss) ≡ false → HoldsSome p (met_pieces w.system ss) → IsFalseAt m e p
  some_met w o t [] p v h = absurd h
  some_met w o t (s ∷ ss) p v h =
      let q = or_parts (meet s w.system).weak (any_weak (met_pieces w.system ss)) v in
      ⊎_elim (λ g. o t (meet_weak s w.system q.0).1 p (meet_back p s w.system q.0 g).1) (λ g. some_met w o t ss p q.1 g) h

  one_met : (w : Reached) → Past w → (r : Region) → OnlyWhereFalse m e (under_tests w r)
  one_met w o r t p g =
      let q = and_parts (r.exact && w.exact) (not (any_weak (met_pieces w.system r.pieces))) t in
      let z = and_parts r.exact w.exact q.0 in
      some_met w o z.1 r.pieces p (not-true (any_weak (met_pieces w.system r.pieces)) q.1) g

  all_met_so : (w : Reached) → Past w → (rs : List Region) → AllByRecursion (OnlyWhereFalse m e) (all_met w rs)
  all_met_so w o [] = tt
  all_met_so w o (r ∷ rs) = (one_met w o r, all_met_so w o rs)

  tests_so : (arms : ArmTrees) (w : Reached) → Past w → AllByRecursion (OnlyWhereFalse m e) (tests_reads arms m w)
  tests_so tree.no_arms w o = tt
  tests_so (tree.more_arms (tree.arm d body) rest) w o =
      each_append (OnlyWhereFalse m e) (all_met w (reads d m)) (tests_reads rest m (if_false m d w)) (all_met_so w o (reads d m)) (tests_so rest (if_false m d w) (past_false d w o))

pub later_parts_are_exact : LaterPartsAreExact
later_parts_are_exact m (tree.arm e body) rest w =
    let past = past_it m e w in
    let all = past_all m e rest (if_false m e w) past in
    record {
      tests = record { below = tests_reads rest m (if_false m e w); parts = refl; each = tests_so m e rest (if_false m e w) past };
      later = λ b rs. all_met_so m e (into_arm b m (past_arms rest m (if_false m e w))) (past_into m e b (past_arms rest m (if_false m e w)) all) rs;
      behind = λ rs. all_met_so m e (past_arms rest m (if_false m e w)) all rs;
    }

-- ---- elements

pub var_value : (v : Var) (p : Point) → form_value p (var_form v) ≡ p v
var_value v p = omega (arith, ints)

only_one : {A : Type 0} → A ⊎ ⊥ → A
only_one g = ⊎_elim (λ x. x) (λ x. absurd x) g

module _ (m : ScopeTree) (p : Point) where
  value_back : (k : ℕ) (b : BoundTree) (f : Option Affine) → is_some f ≡ true → HoldsAll p (dimension_rows m.scalars.value f b k) → IsValue p k f
  value_back k b None a h = absurd (true≢false (sym a))
  value_back k b (Some f) a h = sym (var_value (Phi k) p) ∙ same_back (var_form (Phi k)) f p h.0

  values_back : (k : ℕ) (es : ExprTrees) (bs : List BoundTree) → all_affine m es bs ≡ true → HoldsAll p (subscript_rows m k es bs) → AreValues m k es bs p
  values_back k tree.no_exprs bs a h = tt
  values_back k (tree.more_exprs e es) [] a h = tt
  values_back k (tree.more_exprs e es) (b ∷ bs) a h =
      let q = (append_all p (dimension_rows m.scalars.value (affine_of m.scalars e) b k) (subscript_rows m (suc k) es bs)).1 h in
      let r = and_parts (is_some (affine_of m.scalars e)) (all_affine m es bs) a in
      (value_back k b (affine_of m.scalars e) r.0 q.0, values_back (suc k) es bs r.1 q.1)

pub elements_are_exact : ElementsAreExact
elements_are_exact m a n es bs t p g =
    let s = system (subscript_rows m 1 es bs) false in
    let q = and_parts (all_affine m es bs) (not (of_rows (subscript_rows m 1 es bs)).weak) t in
    values_back m p 1 es bs q.0 (tidy_back p s (not-true (of_rows (subscript_rows m 1 es bs)).weak q.1) (only_one g))
