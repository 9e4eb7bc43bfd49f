-- What conditions say of the values of LOGICAL expressions.
use Rattle.std.proofs.Common.{◌≡◌, ℕ, List, [], ◌∷◌, Option, Some, None, Bool, true, false, not, ◌&&◌, ◌||◌, ℤ, pos, ◌+ℤ◌, ◌≤ℤ◌, arith, sym, ap, ◌∙◌, subst, true≢false}
use Rattle.std.specs.Prelude.{int_lt, int_le}
use Rattle.std.specs.Ordering.{int_eq}
use Rattle.std.proofs.lemmas.Int.{ints}
use Rattle.std.proofs.lemmas.Bool.{and_parts, or_parts}
use Rattle.affine_systems.specs.declared.row.Row.{Row}
use Rattle.affine_systems.specs.declared.row.System.{System}
use Rattle.affine_systems.specs.Points.{Point, HoldsAll}
use Rattle.affine_systems.specs.Calls.{meet}
use Rattle.affine_systems.proofs.CallLaws.{meet_holds}
use Rattle.f77_ast.specs.declared.expr.UnaryOp.{UnaryOp}
use Rattle.f77_ast.specs.declared.expr.UnaryOp.TheVariants.{Plus, Minus, Not}
use Rattle.f77_ast.specs.declared.expr.BinaryOp.{BinaryOp}
use Rattle.f77_ast.specs.declared.expr.BinaryOp.TheVariants.{Add, Sub, Mul, Div, Pow, Eq, Ne, Lt, Le, Gt, Ge, And, Or, Eqv, Neqv}
use Rattle.f77_ast.specs.Trees.{ExprTree}
use Rattle.f77_ast.specs.Trees as tree
use Rattle.f77_ast.specs.Store.{Int, Log, Content, content, Store, truth}
use Rattle.f77_ast.specs.Steps.{Done, ◌>>=◌}
use Rattle.f77_ast.specs.Numbers.{is_true, unary_number, unary_tag, binary_number, binary_tag}
use Rattle.f77_ast.specs.Places.{Meant, Names, Places}
use Rattle.f77_ast.specs.Values.{value}
use Rattle.f77_ast.proofs.StepLaws.{Leads, leads_then}
use Rattle.f77_ast.specs.declared.constant.Constant.{Constant as Known}
use Rattle.f77_ast.specs.declared.constant.Constant.TheVariants as known
use Rattle.f77_ast.specs.Constants.{named_const_value}
use Rattle.affine_forms.specs.declared.affine.Affine.{Affine}
use Rattle.affine_forms.specs.declared.conditions.Condition.{Condition}
use Rattle.affine_forms.specs.Scalars.{Scalars}
use Rattle.affine_forms.specs.Forms.{affine_of}
use Rattle.affine_forms.specs.Comparisons.{at_most_row, below_row, same_row}
use Rattle.affine_forms.specs.Conditions.{condition_of, no_rows, infeasible, of_truth, constant_condition, unknown, negation, both, either, comparison, comparison_of_forms}
use Rattle.affine_forms.specs.Claims.{AtStart, HoldsAt, Means, form_value, unit_in, numbers_of, Agrees, Says, FormsHold, ConditionsHold}
use Rattle.affine_forms.proofs.RowLaws.{at_most_holds, below_holds, same_holds, one_holds}
use Rattle.affine_forms.proofs.ValueLaws.{HasConstantValue, given_leads, value_leads}
use Rattle.fx_lists.proofs.Numbers.{less_false, less_true, is_number, at_most_true}
use Rattle.f77_ast.proofs.Shared.{truth_true}

most_false : (m n : ℤ) → int_le m n ≡ false → (n +ℤ pos 1) ≤ℤ m
most_false m n e = grind (arith, ints)

not_is : (a b : Bool) → not a ≡ b → a ≡ not b
not_is true b e = ap not e
not_is false b e = ap not e

-- the truth of what an operator gives
pub truth_of : (b : Bool) (n : ℤ) → Some (truth b) ≡ Some n → is_true n ≡ b
truth_of b n e = let q : truth b ≡ n = cc in ap is_true (sym q) ∙ truth_true b

module _ (tracked : ℕ → Bool) (unit : ℕ → ℕ) (x : ℕ → ℤ) where
  abbrev S : Condition → Bool → Type 0
  S c b = Says tracked unit c.yes c.no x b

  pub says_unknown : (b : Bool) → S unknown b
  says_unknown b = record { true_side = λ e p a. tt; false_side = λ e p a. tt }

  says_truth : (b : Bool) → S (of_truth b) b
  says_truth true = record { true_side = λ e p a. tt; false_side = λ e. absurd (true≢false e) }
  says_truth false = record { true_side = λ e. absurd (true≢false (sym e)); false_side = λ e p a. tt }

  says_turned : (c : Condition) (a b : Bool) → not a ≡ b → S c a → S (negation c) b
  says_turned c a b e s = record { true_side = λ t. s.false_side (not_is a b e ∙ ap not t); false_side = λ f. s.true_side (not_is a b e ∙ ap not f) }

  says_both : (c d : Condition) (a b r : Bool) → r ≡ (a && b) → S c a → S d b → S (both c d) r
  says_both c d a b r e s t = record {
    true_side = λ h p st. (let q = and_parts a b (sym e ∙ h) in meet_holds p c.yes d.yes (s.true_side q.0 p st, t.true_side q.1 p st));
    false_side = λ h p st. tt;
  }

  says_either : (c d : Condition) (a b r : Bool) → r ≡ (a || b) → S c a → S d b → S (either c d) r
  says_either c d a b r e s t = record {
    true_side = λ h p st. tt;
    false_side = λ h p st. (let q = or_parts a b (sym e ∙ h) in meet_holds p c.no d.no (s.false_side q.0 p st, t.false_side q.1 p st));
  }

  module _ (f g : Affine) (m n : ℤ) (fm : Means tracked unit (Some f) x m) (gn : Means tracked unit (Some g) x n) where
    most : m ≤ℤ n → (p : Point) → AtStart tracked unit x p → form_value p f ≤ℤ form_value p g
    most h p st = let u = fm p st in let v = gn p st in omega (arith, ints, u, v, h)

    most_back : n ≤ℤ m → (p : Point) → AtStart tracked unit x p → form_value p g ≤ℤ form_value p f
    most_back h p st = let u = fm p st in let v = gn p st in omega (arith, ints, u, v, h)

    less : (m +ℤ pos 1) ≤ℤ n → (p : Point) → AtStart tracked unit x p → (form_value p f +ℤ pos 1) ≤ℤ form_value p g
    less h p st = let u = fm p st in let v = gn p st in omega (arith, ints, u, v, h)

    less_back : (n +ℤ pos 1) ≤ℤ m → (p : Point) → AtStart tracked unit x p → (form_value p g +ℤ pos 1) ≤ℤ form_value p f
    less_back h p st = let u = fm p st in let v = gn p st in omega (arith, ints, u, v, h)

    same : m ≡ n → (p : Point) → AtStart tracked unit x p → form_value p f ≡ form_value p g
    same h p st = fm p st ∙ h ∙ sym (gn p st)

    says_compared : (o : BinaryOp) (k : ℤ) → binary_number o m n ≡ Some k → S (comparison o f g) (is_true k)
    says_compared Lt k e =
        let t = truth_of (int_lt m n) k e in
        record {
          true_side = λ h p st. one_holds (below_row f g) p (below_holds f g p (less (less_true m n (sym t ∙ h)) p st));
          false_side = λ h p st. one_holds (at_most_row g f) p (at_most_holds g f p (most_back (less_false m n (sym t ∙ h)) p st));
        }
    says_compared Le k e =
        let t = truth_of (int_le m n) k e in
        record {
          true_side = λ h p st. one_holds (at_most_row f g) p (at_most_holds f g p (most (at_most_true m n (sym t ∙ h)) p st));
          false_side = λ h p st. one_holds (below_row g f) p (below_holds g f p (less_back (most_false m n (sym t ∙ h)) p st));
        }
    says_compared Gt k e =
        let t = truth_of (int_lt n m) k e in
        record {
          true_side = λ h p st. one_holds (below_row g f) p (below_holds g f p (less_back (less_true n m (sym t ∙ h)) p st));
          false_side = λ h p st. one_holds (at_most_row f g) p (at_most_holds f g p (most (less_false n m (sym t ∙ h)) p st));
        }
    says_compared Ge k e =
        let t = truth_of (int_le n m) k e in
        record {
          true_side = λ h p st. one_holds (at_most_row g f) p (at_most_holds g f p (most_back (at_most_true n m (sym t ∙ h)) p st));
          false_side = λ h p st. one_holds (below_row f g) p (below_holds f g p (less (most_false n m (sym t ∙ h)) p st));
        }
    says_compared Eq k e =
        let t = truth_of (int_eq m n) k e in
        record {
          true_side = λ h p st. one_holds (same_row f g) p (same_holds f g p (same (is_number m n (sym t ∙ h)) p st));
          false_side = λ h p st. tt;
        }
    says_compared Ne k e =
        let t = truth_of (not (int_eq m n)) k e in
        record {
          true_side = λ h p st. tt;
          false_side = λ h p st. one_holds (same_row f g) p (same_holds f g p (same (is_number m n (not_is (int_eq m n) false (sym t ∙ h))) p st));
        }
    says_compared Add k e = says_unknown (is_true k)
    says_compared Sub k e = says_unknown (is_true k)
    says_compared Mul k e = says_unknown (is_true k)
    says_compared Div k e = says_unknown (is_true k)
    says_compared Pow k e = says_unknown (is_true k)
    says_compared And k e = says_unknown (is_true k)
    says_compared Or k e = says_unknown (is_true k)
    says_compared Eqv k e = says_unknown (is_true k)
    says_compared Neqv k e = says_unknown (is_true k)

  says_forms : (o : BinaryOp) (f g : Option Affine) (m n k : ℤ) → binary_number o m n ≡ Some k → Means tracked unit f x m → Means tracked unit g x n → S (comparison_of_forms o f g) (is_true k)
  says_forms o (Some f) (Some g) m n k e h q = says_compared f g m n h q o k e
  says_forms o (Some f) None m n k e h q = says_unknown (is_true k)
  says_forms o None g m n k e h q = says_unknown (is_true k)

module _ (w : Names) (k : Scalars) (tracked : ℕ → Bool) (at : Places) (s : Store) (i : List Content) (agrees : Agrees w k tracked) where
  abbrev C : ExprTree → ℤ → Type 0
  C e n = S tracked (unit_in at) (numbers_of s) (condition_of k e) (is_true n)

  nothing_known : (e : ExprTree) (Q : Content → Store → List Content → Type 0) → ((c : Content) → S tracked (unit_in at) (numbers_of s) unknown (is_true c.number) → Q c s i) → Leads (value e w at) s i Q
  nothing_known e Q go = value_leads w k tracked at s i agrees e Q (λ c h. go c (says_unknown tracked (unit_in at) (numbers_of s) (is_true c.number)))

  -- of a name whose value is the constant that the table gives it
  name_says : (v : Option Known) (n : ℤ) → HasConstantValue (named_const_value v) n → S tracked (unit_in at) (numbers_of s) (constant_condition v) (is_true n)
  name_says None n h = says_unknown tracked (unit_in at) (numbers_of s) (is_true n)
  name_says (Some (known.Int m)) n h = says_unknown tracked (unit_in at) (numbers_of s) (is_true n)
  name_says (Some (known.Log b)) n h =
      let e : b ≡ is_true n = sym (ap is_true h ∙ truth_true b) in
      subst (λ t. S tracked (unit_in at) (numbers_of s) (of_truth b) t) e (says_truth tracked (unit_in at) (numbers_of s) b)

  by_forms : (o : BinaryOp) (a b : ExprTree) (Q : Content → Store → List Content → Type 0) → ((c : Content) → S tracked (unit_in at) (numbers_of s) (comparison_of_forms o (affine_of k a) (affine_of k b)) (is_true c.number) → Q c s i) → Leads (value (tree.binary o a b) w at) s i Q
  by_forms o a b Q go =
      leads_then (value a w at) _ s i Q (value_leads w k tracked at s i agrees a _ (λ c h. leads_then (value b w at) _ s i Q (value_leads w k tracked at s i agrees b _ (λ d j. given_leads w k tracked at s i agrees (binary_tag o) (binary_number o c.number d.number) Q (λ n q. go (content (binary_tag o) n)
      (says_forms tracked (unit_in at) (numbers_of s) o (affine_of k a) (affine_of k b) c.number d.number n q h.1 j.1))))))

  pub condition_leads : (e : ExprTree) (Q : Content → Store → List Content → Type 0) → ((c : Content) → C e c.number → Q c s i) → Leads (value e w at) s i Q
  condition_leads (tree.int n) Q go = nothing_known (tree.int n) Q go
  condition_leads (tree.log b) Q go = go (content Log (truth b)) (subst (λ t. S tracked (unit_in at) (numbers_of s) (of_truth b) t) (sym (truth_true b)) (says_truth tracked (unit_in at) (numbers_of s) b))
  condition_leads (tree.name x) Q go = value_leads w k tracked at s i agrees (tree.name x) Q (λ c h. go c (name_says (k.value x) c.number h.0))
  condition_leads (tree.element x es) Q go = nothing_known (tree.element x es) Q go
  condition_leads (tree.paren e) Q go = condition_leads e Q go
  condition_leads (tree.unary Plus e) Q go = nothing_known (tree.unary Plus e) Q go
  condition_leads (tree.unary Minus e) Q go = nothing_known (tree.unary Minus e) Q go
  condition_leads (tree.unary Not e) Q go =
      leads_then (value e w at) _ s i Q (condition_leads e _ (λ c h. given_leads w k tracked at s i agrees (unary_tag Not) (unary_number Not c.number) Q (λ n q. go (content (unary_tag Not) n)
      (says_turned tracked (unit_in at) (numbers_of s) (condition_of k e) (is_true c.number) (is_true n) (sym (truth_of (not (is_true c.number)) n q)) h))))
  condition_leads (tree.binary And a b) Q go =
      leads_then (value a w at) _ s i Q (condition_leads a _ (λ c h. leads_then (value b w at) _ s i Q (condition_leads b _ (λ d j. given_leads w k tracked at s i agrees (binary_tag And) (binary_number And c.number d.number) Q (λ n q. go (content (binary_tag And) n)
      (says_both tracked (unit_in at) (numbers_of s) (condition_of k a) (condition_of k b) (is_true c.number) (is_true d.number) (is_true n) (truth_of (is_true c.number && is_true d.number) n q) h j))))))
  condition_leads (tree.binary Or a b) Q go =
      leads_then (value a w at) _ s i Q (condition_leads a _ (λ c h. leads_then (value b w at) _ s i Q (condition_leads b _ (λ d j. given_leads w k tracked at s i agrees (binary_tag Or) (binary_number Or c.number d.number) Q (λ n q. go (content (binary_tag Or) n)
      (says_either tracked (unit_in at) (numbers_of s) (condition_of k a) (condition_of k b) (is_true c.number) (is_true d.number) (is_true n) (truth_of (is_true c.number || is_true d.number) n q) h j))))))
  condition_leads (tree.binary Eq a b) Q go = by_forms Eq a b Q go
  condition_leads (tree.binary Ne a b) Q go = by_forms Ne a b Q go
  condition_leads (tree.binary Lt a b) Q go = by_forms Lt a b Q go
  condition_leads (tree.binary Le a b) Q go = by_forms Le a b Q go
  condition_leads (tree.binary Gt a b) Q go = by_forms Gt a b Q go
  condition_leads (tree.binary Ge a b) Q go = by_forms Ge a b Q go
  condition_leads (tree.binary Add a b) Q go = by_forms Add a b Q go
  condition_leads (tree.binary Sub a b) Q go = by_forms Sub a b Q go
  condition_leads (tree.binary Mul a b) Q go = by_forms Mul a b Q go
  condition_leads (tree.binary Div a b) Q go = by_forms Div a b Q go
  condition_leads (tree.binary Pow a b) Q go = by_forms Pow a b Q go
  condition_leads (tree.binary Eqv a b) Q go = by_forms Eqv a b Q go
  condition_leads (tree.binary Neqv a b) Q go = by_forms Neqv a b Q go
  condition_leads (tree.chars x) Q go = tt

pub forms_hold : FormsHold
forms_hold w k tracked at s i agrees e = value_leads w k tracked at s i agrees e _ (λ c h. h.1)

pub conditions_hold : ConditionsHold
conditions_hold w k tracked at s i agrees e = condition_leads w k tracked at s i agrees e _ (λ c h. h)
