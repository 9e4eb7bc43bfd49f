-- What expressions lead to: their values are those of their constants and of their forms.
use Rattle.std.proofs.Common.{◌≡◌, ℕ, List, [], ◌∷◌, Option, Some, None, Bool, true, false, ℤ, pos, arith, refl, sym, ap, ◌∙◌, subst, not, ◌&&◌, ◌||◌, true≢false}
use Rattle.std.specs.Prelude.{if◌then◌else◌, int_lt, int_le}
use Rattle.std.specs.Ordering.{int_eq}
use Rattle.std.proofs.lemmas.Int.{ints}
use Rattle.affine_systems.proofs.Basics.{if_cases}
use Rattle.f77_ast.specs.declared.expr.UnaryOp.{UnaryOp}
use Rattle.f77_ast.specs.declared.expr.UnaryOp.TheVariants.{Plus, Minus, Not}
use Rattle.f77_ast.specs.declared.expr.BinaryOp.{BinaryOp}
use Rattle.f77_ast.specs.declared.expr.BinaryOp.TheVariants.{Add, Sub, Mul, Div, Pow, Eq, Ne, Lt, Le, Gt, Ge, And, Or, Eqv, Neqv}
use Rattle.f77_ast.specs.Trees.{ExprTree, ExprTrees}
use Rattle.f77_ast.specs.Trees as tree
use Rattle.f77_ast.specs.Store.{Tag, Int, Log, Content, content, Store, same_tag, truth}
use Rattle.f77_ast.specs.Steps.{Done, ◌>>=◌}
use Rattle.f77_ast.specs.Numbers.{is_true, same_truth, unary_number, unary_tag, binary_number, binary_tag, Intrinsic, intrinsic_named, intrinsic_number}
use Rattle.f77_ast.specs.Places.{Meant, Constant, Variable, Function, Names, Places, element_in}
use Rattle.f77_ast.specs.Values.{fault, given, read_unit, unit_after, element_unit, name_value, intrinsic_value, element_value, value, values}
use Rattle.f77_ast.proofs.StepLaws.{Leads, leads_then}
use Rattle.f77_ast.specs.declared.constant.Constant.{Constant as Known}
use Rattle.f77_ast.specs.declared.constant.Constant.TheVariants as known
use Rattle.f77_ast.specs.declared.constant.ConstantValue.{ConstantValue}
use Rattle.f77_ast.specs.declared.constant.ConstantValue.TheVariants.{Is, Faults, Varies}
use Rattle.f77_ast.specs.Constants.{number_of, is_logical, turns_logical, joins_logical, gives_logical, const_value_as, unary_of, unary_const_value, binary_of, binary_const_value, named_const_value, const_value}
use Rattle.affine_forms.specs.declared.affine.Affine.{Affine}
use Rattle.affine_forms.specs.Scalars.{Scalars}
use Rattle.affine_forms.specs.Forms.{affine_of, cell_form, name_form, constant_or, unary_form, binary_form}
use Rattle.affine_forms.specs.Claims.{AtStart, Means, unit_in, numbers_of, content_of, Agrees}
use Rattle.affine_forms.proofs.FormLaws.{number_means, unary_means, binary_means}
use Rattle.f77_ast.proofs.Shared.{truth_true}

-- ---- values of constant expressions

-- a value is that of the constant expression, where it is one
abbrev pub HasConstantValue : ConstantValue → ℤ → Type 0
HasConstantValue (Is d) n = n ≡ number_of d
HasConstantValue Faults n = Unit {0}
HasConstantValue Varies n = Unit {0}

-- the number of a LOGICAL value is that of its truth
truthful : (b : Bool) (n : ℤ) → Some (truth b) ≡ Some n → truth (is_true n) ≡ n
truthful b n e = let q : truth b ≡ n = cc in subst (λ m. truth (is_true m) ≡ m) q (ap truth (truth_true b))

const_value_as_worthy : (l : Bool) (n : ℤ) → (l ≡ true → truth (is_true n) ≡ n) → HasConstantValue (const_value_as l (Some n)) n
const_value_as_worthy true n h = sym (h refl)
const_value_as_worthy false n h = refl

unary_truthful : (o : UnaryOp) (m n : ℤ) → unary_number o m ≡ Some n → turns_logical o ≡ true → truth (is_true n) ≡ n
unary_truthful Plus m n e l = absurd (true≢false (sym l))
unary_truthful Minus m n e l = absurd (true≢false (sym l))
unary_truthful Not m n e l = truthful (not (is_true m)) n e

binary_truthful : (o : BinaryOp) (m k n : ℤ) → binary_number o m k ≡ Some n → gives_logical o ≡ true → truth (is_true n) ≡ n
binary_truthful Add m k n e l = absurd (true≢false (sym l))
binary_truthful Sub m k n e l = absurd (true≢false (sym l))
binary_truthful Mul m k n e l = absurd (true≢false (sym l))
binary_truthful Div m k n e l = absurd (true≢false (sym l))
binary_truthful Pow m k n e l = absurd (true≢false (sym l))
binary_truthful Eq m k n e l = truthful (int_eq m k) n e
binary_truthful Ne m k n e l = truthful (not (int_eq m k)) n e
binary_truthful Lt m k n e l = truthful (int_lt m k) n e
binary_truthful Le m k n e l = truthful (int_le m k) n e
binary_truthful Gt m k n e l = truthful (int_lt k m) n e
binary_truthful Ge m k n e l = truthful (int_le k m) n e
binary_truthful And m k n e l = truthful (is_true m && is_true k) n e
binary_truthful Or m k n e l = truthful (is_true m || is_true k) n e
binary_truthful Eqv m k n e l = truthful (same_truth (is_true m) (is_true k)) n e
binary_truthful Neqv m k n e l = truthful (not (same_truth (is_true m) (is_true k))) n e

unary_of_worthy : (o : UnaryOp) (c : Known) (m n : ℤ) → unary_number o m ≡ Some n → m ≡ number_of c → HasConstantValue (unary_of o c) n
unary_of_worthy o c m n e h =
    if_cases (λ w. HasConstantValue w n) (same_truth (is_logical c) (turns_logical o)) (const_value_as (turns_logical o) (unary_number o (number_of c))) Faults
    (λ q. let r : unary_number o (number_of c) ≡ Some n = ap (unary_number o) (sym h) ∙ e in
    subst (λ v. HasConstantValue (const_value_as (turns_logical o) v) n) (sym r) (const_value_as_worthy (turns_logical o) n (unary_truthful o m n e)))
    (λ q. tt)

unary_worthy : (o : UnaryOp) (w : ConstantValue) (m n : ℤ) → unary_number o m ≡ Some n → HasConstantValue w m → HasConstantValue (unary_const_value o w) n
unary_worthy o (Is c) m n e h = unary_of_worthy o c m n e h
unary_worthy o Faults m n e h = tt
unary_worthy o Varies m n e h = tt

binary_of_worthy : (o : BinaryOp) (c d : Known) (m k n : ℤ) → binary_number o m k ≡ Some n → m ≡ number_of c → k ≡ number_of d → HasConstantValue (binary_of o c d) n
binary_of_worthy o c d m k n e h i =
    if_cases (λ w. HasConstantValue w n) (same_truth (is_logical c) (joins_logical o) && same_truth (is_logical d) (joins_logical o)) (const_value_as (gives_logical o) (binary_number o (number_of c) (number_of d))) Faults
    (λ q. let r : binary_number o (number_of c) (number_of d) ≡ Some n = ap (λ v. binary_number o v (number_of d)) (sym h) ∙ (ap (binary_number o m) (sym i) ∙ e) in
    subst (λ v. HasConstantValue (const_value_as (gives_logical o) v) n) (sym r) (const_value_as_worthy (gives_logical o) n (binary_truthful o m k n e)))
    (λ q. tt)

binary_worthy : (o : BinaryOp) (w v : ConstantValue) (m k n : ℤ) → binary_number o m k ≡ Some n → HasConstantValue w m → HasConstantValue v k → HasConstantValue (binary_const_value o w v) n
binary_worthy o Varies v m k n e h i = tt
binary_worthy o Faults Varies m k n e h i = tt
binary_worthy o Faults Faults m k n e h i = tt
binary_worthy o Faults (Is d) m k n e h i = tt
binary_worthy o (Is c) Varies m k n e h i = tt
binary_worthy o (Is c) Faults m k n e h i = tt
binary_worthy o (Is c) (Is d) m k n e h i = binary_of_worthy o c d m k n e h i

content_number : (c : Known) → (content_of c).number ≡ number_of c
content_number (known.Int n) = refl
content_number (known.Log b) = refl

module _ (w : Names) (k : Scalars) (tracked : ℕ → Bool) (at : Places) (s : Store) (i : List Content) (agrees : Agrees w k tracked) where
  abbrev M : Option Affine → ℤ → Type 0
  M f n = Means tracked (unit_in at) f (numbers_of s) n

  -- what a value is known to be
  abbrev pub Known_as : ExprTree → ℤ → Type 0
  Known_as e n = HasConstantValue (const_value k.value e) n × M (affine_of k e) n

  constant_means : (v : ConstantValue) (f : Option Affine) (n : ℤ) → HasConstantValue v n → M f n → M (constant_or v f) n
  constant_means (Is (known.Int m)) f n h g = number_means tracked (unit_in at) (numbers_of s) m n h
  constant_means (Is (known.Log b)) f n h g = g
  constant_means Faults f n h g = g
  constant_means Varies f n h g = g

  both_known : (v : ConstantValue) (f : Option Affine) (n : ℤ) → HasConstantValue v n → M f n → HasConstantValue v n × M (constant_or v f) n
  both_known v f n h g = (h, constant_means v f n h g)

  pub given_leads : (t : Tag) (o : Option ℤ) (Q : Content → Store → List Content → Type 0) → ((n : ℤ) → o ≡ Some n → Q (content t n) s i) → Leads (given t o) s i Q
  given_leads t (Some n) Q go = go n refl
  given_leads t None Q go = tt

  read_leads : (t : Tag) (u : ℕ) (Q : Content → Store → List Content → Type 0) → Q (s u) s i → Leads (read_unit t u) s i Q
  read_leads t u Q h = if_cases (λ j. Leads j s i Q) (same_tag t (s u).tag) (Done (s u)) (fault _) (λ e. h) (λ e. tt)

  -- what the value of a name is
  abbrev IsRead : Meant → Content → Type 0
  IsRead (Constant d) c = c ≡ d
  IsRead (Variable v) c = c ≡ s (at v).first
  IsRead Function c = ⊥

  name_leads : (m : Meant) (Q : Content → Store → List Content → Type 0) → ((c : Content) → IsRead m c → Q c s i) → Leads (name_value m at) s i Q
  name_leads (Constant d) Q go = go d refl
  name_leads (Variable v) Q go = read_leads (at v).tag (at v).first Q (go (s (at v).first) refl)
  name_leads Function Q go = tt

  -- what has a value is no function
  no_function : (x : List ℕ) (c : Content) → IsRead (w x) c → w x ≡ Function → ⊥
  no_function x c r e = subst (λ (m : Meant). IsRead m c) e r

  name_worthy : (x : List ℕ) (c : Content) → IsRead (w x) c → (o : Option Known) → k.value x ≡ o → HasConstantValue (named_const_value o) c.number
  name_worthy x c r None e = tt
  name_worthy x c r (Some d) e =
      let q : c ≡ content_of d = subst (λ (m : Meant). IsRead m c) (agrees.constants x d e (no_function x c r)) r in
      ap (λ (b : Content). b.number) q ∙ content_number d

  cell_means : (x : List ℕ) (c : Content) → IsRead (w x) c → (o : Option ℕ) → k.cell x ≡ o → M (cell_form o) c.number
  cell_means x c r None e = tt
  cell_means x c r (Some v) e =
      let a = agrees.cells x v e in
      let q : c ≡ s (at v).first = subst (λ (m : Meant). IsRead m c) (a.0 (no_function x c r)) r in
      let n : c.number ≡ (s (at v).first).number = ap (λ (b : Content). b.number) q in
      λ p st. (let h = st v a.1 in omega (arith, ints, h, n))

  name_known : (x : List ℕ) (c : Content) → IsRead (w x) c → Known_as (tree.name x) c.number
  name_known x c r = both_known (named_const_value (k.value x)) (name_form k x) c.number (name_worthy x c r (k.value x) refl) (cell_means x c r (k.cell x) refl)

  unit_leads : (u : ℕ) (o : Option ℕ) (Q : ℕ → Store → List Content → Type 0) → ((n : ℕ) → Q n s i) → Leads (unit_after u o) s i Q
  unit_leads u None Q go = tt
  unit_leads u (Some j) Q go = go _

  intrinsic_leads : (f : Option Intrinsic) (ns : List ℤ) (Q : Content → Store → List Content → Type 0) → ((c : Content) → Q c s i) → Leads (intrinsic_value f ns) s i Q
  intrinsic_leads None ns Q go = tt
  intrinsic_leads (Some f) ns Q go = given_leads Int (intrinsic_number f ns) Q (λ n e. go (content Int n))

  element_leads : (m : Meant) (x : List ℕ) (ns : List ℤ) (Q : Content → Store → List Content → Type 0) → ((c : Content) → Q c s i) → Leads (element_value m x at ns) s i Q
  element_leads (Constant c) x ns Q go = tt
  element_leads (Variable v) x ns Q go = leads_then (element_unit (at v) ns) (read_unit (at v).tag) s i Q (unit_leads (at v).first (element_in (at v) ns) _ (λ u. read_leads (at v).tag u Q (go (s u))))
  element_leads Function x ns Q go = intrinsic_leads (intrinsic_named x) ns Q go

  mutual
    pub value_leads : (e : ExprTree) (Q : Content → Store → List Content → Type 0) → ((c : Content) → Known_as e c.number → Q c s i) → Leads (value e w at) s i Q
    value_leads (tree.int n) Q go = go (content Int n) (refl, number_means tracked (unit_in at) (numbers_of s) n n refl)
    value_leads (tree.log b) Q go = go (content Log (truth b)) (refl, tt)
    value_leads (tree.name x) Q go = name_leads (w x) Q (λ c r. go c (name_known x c r))
    value_leads (tree.element x es) Q go = leads_then (values es w at) (element_value (w x) x at) s i Q (values_leads es _ (λ ns. element_leads (w x) x ns Q (λ c. go c (tt, tt))))
    value_leads (tree.paren e) Q go = value_leads e Q (λ c h. go c (both_known (const_value k.value e) (affine_of k e) c.number h.0 h.1))
    value_leads (tree.unary o e) Q go =
        leads_then (value e w at) _ s i Q (value_leads e _ (λ c h. given_leads (unary_tag o) (unary_number o c.number) Q (λ n q. go (content (unary_tag o) n)
        (both_known (unary_const_value o (const_value k.value e)) (unary_form o (affine_of k e)) n (unary_worthy o (const_value k.value e) c.number n q h.0) (unary_means tracked (unit_in at) (numbers_of s) o (affine_of k e) c.number n q h.1)))))
    value_leads (tree.binary o a b) Q go =
        leads_then (value a w at) _ s i Q (value_leads a _ (λ c h. leads_then (value b w at) _ s i Q (value_leads b _ (λ d j. given_leads (binary_tag o) (binary_number o c.number d.number) Q (λ n q. go (content (binary_tag o) n)
        (both_known (binary_const_value o (const_value k.value a) (const_value k.value b)) (binary_form o (affine_of k a) (affine_of k b)) n
        (binary_worthy o (const_value k.value a) (const_value k.value b) c.number d.number n q h.0 j.0)
        (binary_means tracked (unit_in at) (numbers_of s) o (affine_of k a) (affine_of k b) c.number d.number n q h.1 j.1)))))))
    value_leads (tree.chars x) Q go = tt

    values_leads : (es : ExprTrees) (Q : List ℤ → Store → List Content → Type 0) → ((ns : List ℤ) → Q ns s i) → Leads (values es w at) s i Q
    values_leads tree.no_exprs Q go = go []
    values_leads (tree.more_exprs e es) Q go = leads_then (value e w at) _ s i Q (value_leads e _ (λ c h. leads_then (values es w at) _ s i Q (values_leads es _ (λ ns. go (c.number ∷ ns)))))
