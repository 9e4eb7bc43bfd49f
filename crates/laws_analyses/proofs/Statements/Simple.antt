-- Statements without parts.
use Rattle.std.proofs.Common.{◌≡◌, ℕ, List, [], ◌∷◌, ◌++◌, ◌||◌, ◌&&◌, Option, Some, None, Bool, true, false, refl, sym, ap, ◌∙◌, subst, arith, ℤ, nat_eq, true≢false}
use Rattle.std.specs.Prelude.{if◌then◌else◌}
use Rattle.std.proofs.lemmas.Int.{ints}
use Rattle.std.proofs.lemmas.Bool.{or_parts, and_parts}
use Rattle.affine_systems.specs.declared.row.Var.{Var}
use Rattle.affine_systems.specs.declared.row.Var.TheVariants.{Exit}
use Rattle.affine_systems.specs.declared.row.System.{System}
use Rattle.affine_systems.specs.Points.{Point, HoldsAll}
use Rattle.preconditions.proofs.TransformerAlgebra.KeepLaws.{of_rows_holds}
use Rattle.f77_ast.specs.Trees.{ExprTree, ExprTrees}
use Rattle.f77_ast.specs.Trees as tree
use Rattle.f77_ast.specs.Store.{Content, content, Store, put, same_tag}
use Rattle.f77_ast.specs.Faults.{Fault, Input}
use Rattle.f77_ast.specs.Runs.{first_of, rest_of, run, Whole}
use Rattle.f77_ast.specs.Places.{Names, Places}
use Rattle.f77_ast.specs.Values.{fault, value, Target, target, all_shown}
use Rattle.f77_ast.specs.Writes.{Locks, written, write, assigned as assigned_steps, is_value, taken, items_read}
use Rattle.f77_ast.specs.Plans.{Flow, Normal, Jump, Returned, Stopped, Plan, Ends, Show as ShowPlan, first}
use Rattle.f77_ast.specs.Executions.{Claim}
use Rattle.f77_ast.proofs.StepLaws.{Leads, leads_then}
use Rattle.f77_ast.specs.declared.variable.Unit.{Unit as BlockUnit}
use Rattle.affine_forms.specs.declared.affine.Affine.{Affine}
use Rattle.affine_forms.specs.Comparisons.{var_form, same_row}
use Rattle.affine_forms.specs.Conditions.{no_rows}
use Rattle.affine_forms.specs.Forms.{affine_of}
use Rattle.affine_forms.specs.Scalars.{is_cell}
use Rattle.affine_forms.specs.Claims.{form_value, numbers_of}
use Rattle.affine_forms.proofs.RowLaws.{same_holds}
use Rattle.affine_forms.proofs.ValueLaws.{value_leads}
use Rattle.preconditions.specs.transformer_algebra.declared.transformer.Transformer.{Transformer}
use Rattle.preconditions.specs.transformer_algebra.Cells.{has, joined_cells}
use Rattle.preconditions.specs.transformer_algebra.Transformers.{exit_system, assign, identity_transformer, forgotten, apply}
use Rattle.preconditions.specs.transformer_algebra.Claims.{Scene, AtStart, HoldsAt, Kept, Does, Wrote, Means}
use Rattle.preconditions.proofs.TransformerAlgebra.CellLaws.{left_out}
use Rattle.preconditions.proofs.TransformerAlgebra.RuleLaws.{holds_apply, does_test}
use Rattle.preconditions.specs.call_translation.Scopes.{ScopeTree}
use Rattle.preconditions.specs.call_translation.Actuals.{named_cell, one_cell}
use Rattle.preconditions.specs.transformers.Simple.{becomes, assignment, named_cells, reading}
use Rattle.laws_analyses.specs.Statements.Good.{Good}
use Rattle.laws_analyses.proofs.Statements.Ends.{more}
use Rattle.laws_analyses.proofs.Statements.Rules.{good_ends, good_first, good_show}
use Rattle.laws_analyses.proofs.Statements.Evaluations.{target_leads, all_shown_leads}
use Rattle.laws_analyses.specs.Statements.Targets.{is_target, are_targets}
use Rattle.laws_analyses.specs.Statements.Activation.{NamesFit, scene_at, Fit, Still, Stayed, Done, Ended}
use Rattle.laws_analyses.proofs.Statements.Writes.{Hit, hit_of, hit_still, hit_kept, hit_wrote}
use Rattle.preconditions.proofs.TransformerAlgebra.LoopLaws.{var_value}
use Rattle.fx_lists.proofs.Numbers.{nat_eq_same}

pub write_leads : (locked : Locks) (u : ℕ) (c : Content) (s : Store) (i : List Content) (Q : Unit {0} → Store → List Content → Type 0) → (locked u ≡ None → Q tt (put s u c) i) → Leads (write locked u c) s i Q
write_leads locked u c s i Q h = go (locked u) refl
  where
    go : (o : Option Fault) → locked u ≡ o → Leads (written o u c) s i Q
    go None e = h e
    go (Some g) e = tt

taken_leads : (locked : Locks) (t : Target) (o : Option Content) (s : Store) (j : List Content) (Q : Unit {0} → Store → List Content → Type 0) → ((c : Content) → locked t.unit ≡ None → Q tt (put s t.unit c) j) → Leads (taken locked t o) s j Q
taken_leads locked t None s j Q h = tt
taken_leads locked t (Some c) s j Q h = go (same_tag t.tag c.tag) (is_value t.tag c.number)
  where
    go : (a b : Bool) → Leads (if a && b then write locked t.unit c else fault Input) s j Q
    go true true = write_leads locked t.unit c s j Q (h c)
    go true false = tt
    go false b = tt

-- ---- on numbers

module _ (e : Scene) where
  exit_holds : (d : ℕ) (f : Option Affine) (x : ℕ → ℤ) (n : ℤ) → Means e f x n → (p : Point) → AtStart e x p → p (Exit d) ≡ n → HoldsAll p (exit_system d f).rows
  exit_holds d None x n h p st q = tt
  exit_holds d (Some f) x n h p st q = of_rows_holds (same_row (var_form (Exit d)) f ∷ []) p (same_holds (var_form (Exit d)) f p (var_value (Exit d) p n q ∙ sym (h p st)), tt)

  pub does_assigned : (d : ℕ) (f : Option Affine) (n : ℤ) (x y : ℕ → ℤ) → e.tracked d ≡ true → Means e f x n → Wrote e d n x y → Does e (assign d f) x y
  does_assigned d f n x y t h wr = record {
    relates = λ p st en. exit_holds d f x n h p st (en d t (ap (λ b. b || false) (nat_eq_same d)) ∙ wr.there);
    kept = record { cells = λ g r k. wr.cells g r (or_parts (nat_eq d g) false k).0; foreign = λ b r k. wr.foreign b r };
  }

  pub does_unchanging : (x y : ℕ → ℤ) → Kept e [] [] x y → Does e identity_transformer x y
  does_unchanging x y k = record { relates = λ p st en. tt; kept = k }

  pub same_kept : (t : Transformer) (x : ℕ → ℤ) → Kept e t.cells t.foreign x x
  same_kept t x = record { cells = λ g r k. refl; foreign = λ b r k. refl }

module _ (C : Claim) (w : Names) (m : ScopeTree) (scalar : List ℕ → Bool) (at : Places) (far : BlockUnit → Bool) (place : BlockUnit → ℕ) (nf : NamesFit w m) (locked : Locks) (still : ℕ → Bool) (fit : Fit w scalar at (scene_at m at far place) locked still) where
  abbrev e : Scene
  e = scene_at m at far place

  module _ (goes : List ℕ → Bool) (ret own : Bool) (P : System) (z : Store) (hp : HoldsAt e P (numbers_of z)) where
    abbrev E : Transformer → Flow → Store → Type 0
    E t = Ended e t (apply t P) goes ret own still z

    done_of : (t : Transformer) (y : Store) → Does e t (numbers_of z) (numbers_of y) → Still still z y → Done e t (apply t P) still z y
    done_of t y d st = record { does = d; after = holds_apply e t P (numbers_of z) (numbers_of y) hp d; steady = st }

    pub idle_done : Done e identity_transformer (apply identity_transformer P) still z z
    idle_done = done_of identity_transformer z (does_test e no_rows (numbers_of z) (λ p st. tt)) (λ u f. refl)

    pub idle_good : Good C (Ends Normal) z (E identity_transformer)
    idle_good = good_ends C Normal z (E identity_transformer) idle_done

    pub nowhere_stayed : (t : Transformer) → Stayed e t still z z
    nowhere_stayed t = record { kept = same_kept e t (numbers_of z); steady = λ u f. refl }

    -- ---- assignment

    pub assign_good : (a b : ExprTree) → is_target scalar a ≡ true → Good C (first (assigned_steps a b w at locked) (λ o. Ends Normal)) z (E (assignment m.scalars a b))
    assign_good a b k =
        good_first C (assigned_steps a b w at locked) (λ o. Ends Normal) z (E t) (λ i.
        leads_then (value b w at) _ z i _ (value_leads w m.scalars (is_cell m.tracked) at z i nf.agrees b _ (λ c h.
        leads_then (target a w at) _ z i _ (target_leads w at z i a _ (λ u q.
        write_leads locked u.unit (content u.tag c.number) z i _ (λ free. good_ends C Normal (put z u.unit (content u.tag c.number)) (E t) (done c.number h.1 u free (hit_of w m scalar at far place nf locked still fit a u k q))))))))
      where
        t : Transformer
        t = assignment m.scalars a b

        done : (n : ℤ) → Means e (affine_of m.scalars b) (numbers_of z) n → (u : Target) → locked u.unit ≡ None → Hit w m scalar at far place nf locked still fit a u.unit → let r = assignment m.scalars a b in Done e r (apply r P) still z (put z u.unit (content u.tag n))
        done n h u free hit =
            let y = put z u.unit (content u.tag n) in
            let r = assignment m.scalars a b in
            done_of r y (go (named_cell m.scalars a) refl) (hit_still w m scalar at far place nf locked still fit a z (content u.tag n) u.unit hit free)
          where
            go : (o : Option ℕ) → named_cell m.scalars a ≡ o → Does e (becomes o (affine_of m.scalars b)) (numbers_of z) (numbers_of (put z u.unit (content u.tag n)))
            go None q = does_unchanging e (numbers_of z) (numbers_of (put z u.unit (content u.tag n))) (subst (λ o. Kept e (one_cell o) [] (numbers_of z) (numbers_of (put z u.unit (content u.tag n)))) q (hit_kept w m scalar at far place nf locked still fit a z (content u.tag n) u.unit hit free))
            go (Some d) q = does_assigned e d (affine_of m.scalars b) n (numbers_of z) (numbers_of (put z u.unit (content u.tag n))) (hit.back d q).1 h (hit_wrote w m scalar at far place nf locked still fit a z (content u.tag n) u.unit hit free d q)

    -- ---- PRINT

    pub print_good : (es : ExprTrees) → Good C (first (all_shown es w at) (λ xs. ShowPlan xs (Ends Normal))) z (E identity_transformer)
    print_good es = good_first C (all_shown es w at) (λ xs. ShowPlan xs (Ends Normal)) z (E identity_transformer) (λ i. all_shown_leads w at z i es _ (λ xs. good_show C xs (Ends Normal) z (E identity_transformer) idle_good))

  -- ---- READ

  pub record ReadSo (es : ExprTrees) (s z : Store) : Type 0 where
    pub kept : Kept e (named_cells m.scalars es) [] (numbers_of s) (numbers_of z)
    pub steady : Still still s z

  has_out : (as' bs : List ℕ) (c : ℕ) → has (as' ++ bs) c ≡ false → (has as' c ≡ false) × (has bs c ≡ false)
  has_out [] bs c h = (refl, h)
  has_out (a ∷ as') bs c h = go (nat_eq a c) h (λ k. has_out as' bs c k)
    where
      go : (b : Bool) → (b || has (as' ++ bs) c) ≡ false → (has (as' ++ bs) c ≡ false → (has as' c ≡ false) × (has bs c ≡ false)) → ((b || has as' c) ≡ false) × (has bs c ≡ false)
      go true k ih = absurd (true≢false k)
      go false k ih = ih k

  read_more : (a : ExprTree) (es : ExprTrees) (s y z : Store) → Kept e (one_cell (named_cell m.scalars a)) [] (numbers_of s) (numbers_of y) → Still still s y → ReadSo es y z → ReadSo (tree.more_exprs a es) s z
  read_more a es s y z k st h = record {
    kept = record {
      cells = λ c t q. (let o = has_out (one_cell (named_cell m.scalars a)) (named_cells m.scalars es) c q in h.kept.cells c t o.1 ∙ k.cells c t o.0);
      foreign = λ b f q. h.kept.foreign b f (λ n. n) ∙ k.foreign b f (λ n. n);
    };
    steady = λ u f. h.steady u f ∙ st u f;
  }

  items_leads : (es : ExprTrees) → are_targets scalar es ≡ true → (s : Store) (i : List Content) → Leads (items_read es w at locked) s i (λ o z j. ReadSo es s z)
  items_leads tree.no_exprs k s i = record { kept = record { cells = λ c t q. refl; foreign = λ b f q. refl }; steady = λ u f. refl }
  items_leads (tree.more_exprs a es) k s i =
      leads_then (target a w at) _ s i _ (target_leads w at s i a _ (λ t q.
      leads_then (taken locked t (first_of i)) _ s (rest_of i) _ (taken_leads locked t (first_of i) s (rest_of i) _ (λ c free.
      (let hit = hit_of w m scalar at far place nf locked still fit a t (and_parts (is_target scalar a) (are_targets scalar es) k).0 q in
      more (run (items_read es w at locked) (Whole (put s t.unit c)) (rest_of i)) (λ o z j. ReadSo es (put s t.unit c) z) (λ o z j. ReadSo (tree.more_exprs a es) s z)
      (λ o z j h. read_more a es s (put s t.unit c) z (hit_kept w m scalar at far place nf locked still fit a s c t.unit hit free) (hit_still w m scalar at far place nf locked still fit a s c t.unit hit free) h)
      (items_leads es (and_parts (is_target scalar a) (are_targets scalar es) k).1 (put s t.unit c) (rest_of i)))))))

  module _ (goes : List ℕ → Bool) (ret own : Bool) (P : System) (z : Store) (hp : HoldsAt e P (numbers_of z)) where
    pub read_good : (es : ExprTrees) → are_targets scalar es ≡ true → Good C (first (items_read es w at locked) (λ o. Ends Normal)) z (Ended e (reading m.scalars es) (apply (reading m.scalars es) P) goes ret own still z)
    read_good es k =
        let t = reading m.scalars es in
        good_first C (items_read es w at locked) (λ o. Ends Normal) z (Ended e t (apply t P) goes ret own still z) (λ i.
        more (run (items_read es w at locked) (Whole z) i) (λ o y j. ReadSo es z y) _
        (λ o y j h. good_ends C Normal y (Ended e t (apply t P) goes ret own still z) (done_of goes ret own P z hp t y (does y h) h.steady))
        (items_leads es k z i))
      where
        does : (y : Store) → ReadSo es z y → Does e (reading m.scalars es) (numbers_of z) (numbers_of y)
        does y h = record {
          relates = λ p st en. tt;
          kept = record { cells = λ c t q. h.kept.cells c t (left_out (named_cells m.scalars es) [] c q); foreign = λ b f q. h.kept.foreign b f q };
        }
