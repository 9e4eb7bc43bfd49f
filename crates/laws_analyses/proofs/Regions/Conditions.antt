-- What the sides of a condition say no more of than they should: where one is exact, a point of it has the truth of that side.
use Rattle.std.proofs.Common.{◌≡◌, ℕ, List, [], ◌∷◌, Option, Some, None, Bool, true, false, not, ◌&&◌, ◌||◌, ℤ, pos, negsuc, ◌+ℤ◌, ◌≤ℤ◌, arith, refl, sym, ap, ap₂, ◌∙◌, subst, true≢false}
use Rattle.std.specs.Prelude.{int_lt, int_le}
use Rattle.std.specs.Ordering.{int_eq}
use Rattle.std.proofs.lemmas.Int.{ints}
use Rattle.std.proofs.lemmas.Bool.{and_parts}
use Rattle.std.proofs.lemmas.Bool.Decides.{Decides-int_eq}
use Rattle.affine_systems.specs.declared.row.Row.{Row}
use Rattle.affine_systems.specs.declared.row.System.{System}
use Rattle.affine_systems.specs.Points.{Point, Holds, HoldsAll}
use Rattle.affine_systems.specs.Rows.{system}
use Rattle.affine_systems.proofs.CallLaws.{meet_back}
use Rattle.affine_systems.proofs.ElimLaws.{value-combined}
use Rattle.affine_systems.proofs.TidyLaws.{tidy_back}
use Rattle.f77_ast.specs.declared.expr.UnaryOp.TheVariants.{Plus, Minus, Not}
use Rattle.f77_ast.specs.declared.expr.BinaryOp.{BinaryOp}
use Rattle.f77_ast.specs.declared.expr.BinaryOp.TheVariants.{Add, Sub, Mul, Div, Pow, Eq, Ne, Lt, Le, Gt, Ge, And, Or, Eqv, Neqv}
use Rattle.f77_ast.specs.Trees.{ExprTree}
use Rattle.f77_ast.specs.Trees as tree
use Rattle.f77_ast.specs.Store.{Log, Content, content, Store, truth}
use Rattle.f77_ast.specs.Numbers.{is_true, unary_number, unary_tag, binary_number, binary_tag}
use Rattle.f77_ast.specs.Places.{Names, Places}
use Rattle.f77_ast.specs.Values.{value}
use Rattle.f77_ast.proofs.StepLaws.{Leads, leads_then}
use Rattle.f77_ast.specs.declared.constant.Constant.{Constant as Known}
use Rattle.f77_ast.specs.declared.constant.Constant.TheVariants as known
use Rattle.f77_ast.specs.Constants.{named_const_value}
use Rattle.affine_forms.specs.declared.affine.Affine.{Affine}
use Rattle.affine_forms.specs.declared.conditions.Condition.{Condition}
use Rattle.affine_forms.specs.Scalars.{Scalars}
use Rattle.affine_forms.specs.Forms.{affine_of}
use Rattle.affine_forms.specs.Comparisons.{at_most_row, below_row, same_row, one_row}
use Rattle.affine_forms.specs.Conditions.{condition_of, infeasible, of_truth, constant_condition, unknown, negation, both, either, comparison, comparison_of_forms}
use Rattle.affine_forms.specs.Claims.{AtStart, Means, form_value, unit_in, numbers_of, Agrees}
use Rattle.affine_forms.proofs.ValueLaws.{HasConstantValue, given_leads, value_leads}
use Rattle.in_out_regions.proofs.RegionSets.BackLaws.{meet_weak}
use Rattle.affine_forms.proofs.ConditionLaws.{truth_of}
use Rattle.in_out_regions.proofs.RegionSets.LoopLaws.{at_most_back}
use Rattle.f77_ast.proofs.Shared.{truth_true}
use Rattle.affine_forms.proofs.RowValues.{same_back}
use Rattle.fx_lists.proofs.Numbers.{at_most_is as most_back}

less_back : (m n : ℤ) → (m +ℤ pos 1) ≤ℤ n → int_lt m n ≡ true
less_back m n e = grind (arith, ints)

less_not : (m n : ℤ) → n ≤ℤ m → int_lt m n ≡ false
less_not m n e = grind (arith, ints)

most_not : (m n : ℤ) → (n +ℤ pos 1) ≤ℤ m → int_le m n ≡ false
most_not m n e = grind (arith, ints)

same_is : (m n : ℤ) → m ≡ n → int_eq m n ≡ true
same_is m n e = (Decides-int_eq m n).1 e

pub below_back : (f g : Affine) (p : Point) → Holds p (below_row f g) → (form_value p f +ℤ pos 1) ≤ℤ form_value p g
below_back f g p h = let v = value-combined p (pos 1) f.terms (negsuc 0) g.terms in omega (arith, ints, v, h)

one_back : (r : Row) (p : Point) → (one_row r).weak ≡ false → HoldsAll p (one_row r).rows → Holds p r
one_back r p w h = (tidy_back p (system (r ∷ []) false) w h).0

module _ (tracked : ℕ → Bool) (unit : ℕ → ℕ) (x : ℕ → ℤ) where
  -- only where the truth is b do points of the system have these numbers
  abbrev pub Only : System → Type 0 → Type 0
  Only s A = s.weak ≡ false → (p : Point) → AtStart tracked unit x p → HoldsAll p s.rows → A

  pub record Tells (c : Condition) (b : Bool) : Type 0 where
    pub yes : c.yes_exact ≡ true → Only c.yes (b ≡ true)
    pub no : c.no_exact ≡ true → Only c.no (b ≡ false)

  tells_unknown : (b : Bool) → Tells unknown b
  tells_unknown b = record { yes = λ e. absurd (true≢false (sym e)); no = λ e. absurd (true≢false (sym e)) }

  no_point : (p : Point) → HoldsAll p infeasible.rows → ⊥
  no_point p h = let k = h.0 in omega (arith, ints, k)

  tells_truth : (b : Bool) → Tells (of_truth b) b
  tells_truth true = record { yes = λ e w p st h. refl; no = λ e w p st h. absurd (no_point p h) }
  tells_truth false = record { yes = λ e w p st h. absurd (no_point p h); no = λ e w p st h. refl }

  tells_turned : (c : Condition) (a b : Bool) → b ≡ not a → Tells c a → Tells (negation c) b
  tells_turned c a b e t = record { yes = λ k w p st h. e ∙ ap not (t.no k w p st h); no = λ k w p st h. e ∙ ap not (t.yes k w p st h) }

  tells_both : (c d : Condition) (a b r : Bool) → r ≡ (a && b) → Tells c a → Tells d b → Tells (both c d) r
  tells_both c d a b r e s t = record {
    yes = λ k w p st h. (let q = and_parts c.yes_exact d.yes_exact k in let v = meet_weak c.yes d.yes w in let z = meet_back p c.yes d.yes w h in e ∙ ap₂ (λ i j. i && j) (s.yes q.0 v.0 p st z.0) (t.yes q.1 v.1 p st z.1));
    no = λ k. absurd (true≢false (sym k));
  }

  tells_either : (c d : Condition) (a b r : Bool) → r ≡ (a || b) → Tells c a → Tells d b → Tells (either c d) r
  tells_either c d a b r e s t = record {
    yes = λ k. absurd (true≢false (sym k));
    no = λ k w p st h. (let q = and_parts c.no_exact d.no_exact k in let v = meet_weak c.no d.no w in let z = meet_back p c.no d.no w h in e ∙ ap₂ (λ i j. i || j) (s.no q.0 v.0 p st z.0) (t.no q.1 v.1 p st z.1));
  }

  module _ (f g : Affine) (m n : ℤ) (fm : Means tracked unit (Some f) x m) (gn : Means tracked unit (Some g) x n) where
    most : (p : Point) → AtStart tracked unit x p → form_value p f ≤ℤ form_value p g → m ≤ℤ n
    most p st h = let u = fm p st in let v = gn p st in omega (arith, ints, u, v, h)

    most_turned : (p : Point) → AtStart tracked unit x p → form_value p g ≤ℤ form_value p f → n ≤ℤ m
    most_turned p st h = let u = fm p st in let v = gn p st in omega (arith, ints, u, v, h)

    less : (p : Point) → AtStart tracked unit x p → (form_value p f +ℤ pos 1) ≤ℤ form_value p g → (m +ℤ pos 1) ≤ℤ n
    less p st h = let u = fm p st in let v = gn p st in omega (arith, ints, u, v, h)

    less_turned : (p : Point) → AtStart tracked unit x p → (form_value p g +ℤ pos 1) ≤ℤ form_value p f → (n +ℤ pos 1) ≤ℤ m
    less_turned p st h = let u = fm p st in let v = gn p st in omega (arith, ints, u, v, h)

    same : (p : Point) → AtStart tracked unit x p → form_value p f ≡ form_value p g → m ≡ n
    same p st h = sym (fm p st) ∙ h ∙ gn p st

    tells_compared : (o : BinaryOp) (k : ℤ) → binary_number o m n ≡ Some k → Tells (comparison o f g) (is_true k)
    tells_compared Lt k e =
        let t = truth_of (int_lt m n) k e in
        record {
          yes = λ z w p st h. t ∙ less_back m n (less p st (below_back f g p (one_back (below_row f g) p w h)));
          no = λ z w p st h. t ∙ less_not m n (most_turned p st (at_most_back g f p (one_back (at_most_row g f) p w h)));
        }
    tells_compared Le k e =
        let t = truth_of (int_le m n) k e in
        record {
          yes = λ z w p st h. t ∙ most_back m n (most p st (at_most_back f g p (one_back (at_most_row f g) p w h)));
          no = λ z w p st h. t ∙ most_not m n (less_turned p st (below_back g f p (one_back (below_row g f) p w h)));
        }
    tells_compared Gt k e =
        let t = truth_of (int_lt n m) k e in
        record {
          yes = λ z w p st h. t ∙ less_back n m (less_turned p st (below_back g f p (one_back (below_row g f) p w h)));
          no = λ z w p st h. t ∙ less_not n m (most p st (at_most_back f g p (one_back (at_most_row f g) p w h)));
        }
    tells_compared Ge k e =
        let t = truth_of (int_le n m) k e in
        record {
          yes = λ z w p st h. t ∙ most_back n m (most_turned p st (at_most_back g f p (one_back (at_most_row g f) p w h)));
          no = λ z w p st h. t ∙ most_not n m (less p st (below_back f g p (one_back (below_row f g) p w h)));
        }
    tells_compared Eq k e =
        let t = truth_of (int_eq m n) k e in
        record {
          yes = λ z w p st h. t ∙ same_is m n (same p st (same_back f g p (one_back (same_row f g) p w h)));
          no = λ z. absurd (true≢false (sym z));
        }
    tells_compared Ne k e =
        let t = truth_of (not (int_eq m n)) k e in
        record {
          yes = λ z. absurd (true≢false (sym z));
          no = λ z w p st h. t ∙ ap not (same_is m n (same p st (same_back f g p (one_back (same_row f g) p w h))));
        }
    tells_compared Add k e = tells_unknown (is_true k)
    tells_compared Sub k e = tells_unknown (is_true k)
    tells_compared Mul k e = tells_unknown (is_true k)
    tells_compared Div k e = tells_unknown (is_true k)
    tells_compared Pow k e = tells_unknown (is_true k)
    tells_compared And k e = tells_unknown (is_true k)
    tells_compared Or k e = tells_unknown (is_true k)
    tells_compared Eqv k e = tells_unknown (is_true k)
    tells_compared Neqv k e = tells_unknown (is_true k)

  tells_forms : (o : BinaryOp) (f g : Option Affine) (m n k : ℤ) → binary_number o m n ≡ Some k → Means tracked unit f x m → Means tracked unit g x n → Tells (comparison_of_forms o f g) (is_true k)
  tells_forms o (Some f) (Some g) m n k e h q = tells_compared f g m n h q o k e
  tells_forms o (Some f) None m n k e h q = tells_unknown (is_true k)
  tells_forms o None g m n k e h q = tells_unknown (is_true k)

module _ (w : Names) (k : Scalars) (tracked : ℕ → Bool) (at : Places) (s : Store) (i : List Content) (agrees : Agrees w k tracked) where
  abbrev C : ExprTree → ℤ → Type 0
  C e n = Tells tracked (unit_in at) (numbers_of s) (condition_of k e) (is_true n)

  nothing_known : (e : ExprTree) (Q : Content → Store → List Content → Type 0) → ((c : Content) → Tells tracked (unit_in at) (numbers_of s) unknown (is_true c.number) → Q c s i) → Leads (value e w at) s i Q
  nothing_known e Q go = value_leads w k tracked at s i agrees e Q (λ c h. go c (tells_unknown tracked (unit_in at) (numbers_of s) (is_true c.number)))

  name_tells : (v : Option Known) (n : ℤ) → HasConstantValue (named_const_value v) n → Tells tracked (unit_in at) (numbers_of s) (constant_condition v) (is_true n)
  name_tells None n h = tells_unknown tracked (unit_in at) (numbers_of s) (is_true n)
  name_tells (Some (known.Int m)) n h = tells_unknown tracked (unit_in at) (numbers_of s) (is_true n)
  name_tells (Some (known.Log b)) n h =
      let e : b ≡ is_true n = sym (ap is_true h ∙ truth_true b) in
      subst (λ t. Tells tracked (unit_in at) (numbers_of s) (of_truth b) t) e (tells_truth tracked (unit_in at) (numbers_of s) b)

  by_forms : (o : BinaryOp) (a b : ExprTree) (Q : Content → Store → List Content → Type 0) → ((c : Content) → Tells tracked (unit_in at) (numbers_of s) (comparison_of_forms o (affine_of k a) (affine_of k b)) (is_true c.number) → Q c s i) → Leads (value (tree.binary o a b) w at) s i Q
  by_forms o a b Q go =
      leads_then (value a w at) _ s i Q (value_leads w k tracked at s i agrees a _ (λ c h. leads_then (value b w at) _ s i Q (value_leads w k tracked at s i agrees b _ (λ d j. given_leads w k tracked at s i agrees (binary_tag o) (binary_number o c.number d.number) Q (λ n q. go (content (binary_tag o) n)
      (tells_forms tracked (unit_in at) (numbers_of s) o (affine_of k a) (affine_of k b) c.number d.number n q h.1 j.1))))))

  pub tells_leads : (e : ExprTree) (Q : Content → Store → List Content → Type 0) → ((c : Content) → C e c.number → Q c s i) → Leads (value e w at) s i Q
  tells_leads (tree.int n) Q go = nothing_known (tree.int n) Q go
  tells_leads (tree.log b) Q go = go (content Log (truth b)) (subst (λ t. Tells tracked (unit_in at) (numbers_of s) (of_truth b) t) (sym (truth_true b)) (tells_truth tracked (unit_in at) (numbers_of s) b))
  tells_leads (tree.name x) Q go = value_leads w k tracked at s i agrees (tree.name x) Q (λ c h. go c (name_tells (k.value x) c.number h.0))
  tells_leads (tree.element x es) Q go = nothing_known (tree.element x es) Q go
  tells_leads (tree.paren e) Q go = tells_leads e Q go
  tells_leads (tree.unary Plus e) Q go = nothing_known (tree.unary Plus e) Q go
  tells_leads (tree.unary Minus e) Q go = nothing_known (tree.unary Minus e) Q go
  tells_leads (tree.unary Not e) Q go =
      leads_then (value e w at) _ s i Q (tells_leads e _ (λ c h. given_leads w k tracked at s i agrees (unary_tag Not) (unary_number Not c.number) Q (λ n q. go (content (unary_tag Not) n)
      (tells_turned tracked (unit_in at) (numbers_of s) (condition_of k e) (is_true c.number) (is_true n) (truth_of (not (is_true c.number)) n q) h))))
  tells_leads (tree.binary And a b) Q go =
      leads_then (value a w at) _ s i Q (tells_leads a _ (λ c h. leads_then (value b w at) _ s i Q (tells_leads b _ (λ d j. given_leads w k tracked at s i agrees (binary_tag And) (binary_number And c.number d.number) Q (λ n q. go (content (binary_tag And) n)
      (tells_both tracked (unit_in at) (numbers_of s) (condition_of k a) (condition_of k b) (is_true c.number) (is_true d.number) (is_true n) (truth_of (is_true c.number && is_true d.number) n q) h j))))))
  tells_leads (tree.binary Or a b) Q go =
      leads_then (value a w at) _ s i Q (tells_leads a _ (λ c h. leads_then (value b w at) _ s i Q (tells_leads b _ (λ d j. given_leads w k tracked at s i agrees (binary_tag Or) (binary_number Or c.number d.number) Q (λ n q. go (content (binary_tag Or) n)
      (tells_either tracked (unit_in at) (numbers_of s) (condition_of k a) (condition_of k b) (is_true c.number) (is_true d.number) (is_true n) (truth_of (is_true c.number || is_true d.number) n q) h j))))))
  tells_leads (tree.binary Eq a b) Q go = by_forms Eq a b Q go
  tells_leads (tree.binary Ne a b) Q go = by_forms Ne a b Q go
  tells_leads (tree.binary Lt a b) Q go = by_forms Lt a b Q go
  tells_leads (tree.binary Le a b) Q go = by_forms Le a b Q go
  tells_leads (tree.binary Gt a b) Q go = by_forms Gt a b Q go
  tells_leads (tree.binary Ge a b) Q go = by_forms Ge a b Q go
  tells_leads (tree.binary Add a b) Q go = by_forms Add a b Q go
  tells_leads (tree.binary Sub a b) Q go = by_forms Sub a b Q go
  tells_leads (tree.binary Mul a b) Q go = by_forms Mul a b Q go
  tells_leads (tree.binary Div a b) Q go = by_forms Div a b Q go
  tells_leads (tree.binary Pow a b) Q go = by_forms Pow a b Q go
  tells_leads (tree.binary Eqv a b) Q go = by_forms Eqv a b Q go
  tells_leads (tree.binary Neqv a b) Q go = by_forms Neqv a b Q go
  tells_leads (tree.chars x) Q go = tt
