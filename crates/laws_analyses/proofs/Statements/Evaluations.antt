-- What evaluating leads to: the store and the input stay, and left sides name units of their variables.
use Rattle.std.proofs.Common.{◌≡◌, ℕ, ◌+◌, ◌<◌, List, [], ◌∷◌, Option, Some, None, Bool, true, false, refl, sym, ap, ◌∙◌, subst, arith, ℤ, nat_lt}
use Rattle.std.specs.Prelude.{if◌then◌else◌}
use Rattle.std.proofs.lemmas.Bool.Decides.{nat_tests}
use Rattle.f77_ast.specs.Trees.{ExprTree, ExprTrees}
use Rattle.f77_ast.specs.Trees as tree
use Rattle.f77_ast.specs.Store.{Tag, Int, Log, Content, content, Store, same_tag, truth}
use Rattle.f77_ast.specs.Faults.{Unset}
use Rattle.f77_ast.specs.Steps.{Shown, Value, Text, Done, ◌>>=◌}
use Rattle.f77_ast.specs.Numbers.{unary_number, unary_tag, binary_number, binary_tag, Intrinsic, intrinsic_named, intrinsic_number}
use Rattle.f77_ast.specs.Places.{Meant, Constant, Variable, Function, Names, Place, Places, position, within, element_in}
use Rattle.f77_ast.specs.Values.{fault, given, of_type, read_unit, unit_after, element_unit, name_value, intrinsic_value, element_value, value, values, Target, to, name_target, element_target, target, shown, all_shown}
use Rattle.f77_ast.proofs.StepLaws.{Leads, leads_then}
use Rattle.laws_analyses.specs.Statements.Evaluations.{AreMany, NamedUnit, ElementUnit, IsUnit, ValuesStay, TargetsLie, ShownStay}

module _ (w : Names) (at : Places) (s : Store) (i : List Content) where
  given_leads : (t : Tag) (o : Option ℤ) (Q : Content → Store → List Content → Type 0) → ((c : Content) → Q c s i) → Leads (given t o) s i Q
  given_leads t None Q go = tt
  given_leads t (Some n) Q go = go (content t n)

  typed_leads : (t : Tag) (c : Content) (Q : Content → Store → List Content → Type 0) → Q c s i → Leads (of_type t c) s i Q
  typed_leads t c Q h = pick (same_tag t c.tag)
    where
      pick : (b : Bool) → Leads (if b then Done c else fault Unset) s i Q
      pick true = h
      pick false = tt

  read_leads : (t : Tag) (u : ℕ) (Q : Content → Store → List Content → Type 0) → ((c : Content) → Q c s i) → Leads (read_unit t u) s i Q
  read_leads t u Q go = typed_leads t (s u) Q (go (s u))

  name_leads : (m : Meant) (Q : Content → Store → List Content → Type 0) → ((c : Content) → Q c s i) → Leads (name_value m at) s i Q
  name_leads (Constant d) Q go = go d
  name_leads (Variable v) Q go = read_leads (at v).tag (at v).first Q go
  name_leads Function Q go = tt

  pub unit_leads : (p : Place) (ns : List ℤ) (Q : ℕ → Store → List Content → Type 0) → ((k : ℕ) → element_in p ns ≡ Some k → Q (p.first + k) s i) → Leads (element_unit p ns) s i Q
  unit_leads p ns Q go = pick (element_in p ns) refl
    where
      pick : (o : Option ℕ) → element_in p ns ≡ o → Leads (unit_after p.first o) s i Q
      pick None e = tt
      pick (Some k) e = go k e

  intrinsic_leads : (f : Option Intrinsic) (ns : List ℤ) (Q : Content → Store → List Content → Type 0) → ((c : Content) → Q c s i) → Leads (intrinsic_value f ns) s i Q
  intrinsic_leads None ns Q go = tt
  intrinsic_leads (Some f) ns Q go = given_leads Int (intrinsic_number f ns) Q go

  element_leads : (m : Meant) (x : List ℕ) (ns : List ℤ) (Q : Content → Store → List Content → Type 0) → ((c : Content) → Q c s i) → Leads (element_value m x at ns) s i Q
  element_leads (Constant c) x ns Q go = tt
  element_leads (Variable v) x ns Q go = leads_then (element_unit (at v) ns) (read_unit (at v).tag) s i Q (unit_leads (at v) ns _ (λ k e. read_leads (at v).tag ((at v).first + k) Q go))
  element_leads Function x ns Q go = intrinsic_leads (intrinsic_named x) ns Q go

  mutual
    pub value_leads : (e : ExprTree) (Q : Content → Store → List Content → Type 0) → ((c : Content) → Q c s i) → Leads (value e w at) s i Q
    value_leads (tree.int n) Q go = go (content Int n)
    value_leads (tree.log b) Q go = go (content Log (truth b))
    value_leads (tree.name x) Q go = name_leads (w x) Q go
    value_leads (tree.element x es) Q go = leads_then (values es w at) (element_value (w x) x at) s i Q (values_leads es _ (λ ns m. element_leads (w x) x ns Q go))
    value_leads (tree.paren e) Q go = value_leads e Q go
    value_leads (tree.unary o e) Q go = leads_then (value e w at) _ s i Q (value_leads e _ (λ c. given_leads (unary_tag o) (unary_number o c.number) Q go))
    value_leads (tree.binary o a b) Q go =
        leads_then (value a w at) _ s i Q (value_leads a _ (λ c. leads_then (value b w at) _ s i Q (value_leads b _ (λ d. given_leads (binary_tag o) (binary_number o c.number d.number) Q go))))
    value_leads (tree.chars x) Q go = tt

    pub values_leads : (es : ExprTrees) (Q : List ℤ → Store → List Content → Type 0) → ((ns : List ℤ) → AreMany es ns → Q ns s i) → Leads (values es w at) s i Q
    values_leads tree.no_exprs Q go = go [] tt
    values_leads (tree.more_exprs e es) Q go = leads_then (value e w at) _ s i Q (value_leads e _ (λ c. leads_then (values es w at) _ s i Q (values_leads es _ (λ ns m. go (c.number ∷ ns) m))))

  within_is : (p : Place) (o : Option ℕ) (k : ℕ) → within p o ≡ Some k → k < p.extent
  within_is p None k e = absurd (grind arith)
  within_is p (Some j) k e = pick (nat_lt j p.extent) refl e
    where
      pick : (b : Bool) → nat_lt j p.extent ≡ b → (if b then Some j else None) ≡ Some k → k < p.extent
      pick true q h = let d : j ≡ k = cc in subst (λ x. x < p.extent) d (grind (arith, nat_tests))
      pick false q h = absurd (grind arith)

  name_unit : (x : List ℕ) (m : Meant) → w x ≡ m → (Q : Target → Store → List Content → Type 0) → ((t : Target) → NamedUnit w at x t → Q t s i) → Leads (name_target m at) s i Q
  name_unit x (Constant c) e Q go = tt
  name_unit x (Variable v) e Q go = go (to (at v).first (at v).tag) (record { variable = v; names = e; unit = refl })
  name_unit x Function e Q go = tt

  element_unit_of : (x : List ℕ) (es : ExprTrees) (ns : List ℤ) → AreMany es ns → (m : Meant) → w x ≡ m → (Q : Target → Store → List Content → Type 0) → ((t : Target) → ElementUnit w at x es t → Q t s i) → Leads (element_target m at ns) s i Q
  element_unit_of x es ns many (Constant c) e Q go = tt
  element_unit_of x es ns many (Variable v) e Q go =
      leads_then (element_unit (at v) ns) (λ u. Done (to u (at v).tag)) s i Q
      (unit_leads (at v) ns _ (λ k f. go (to ((at v).first + k) (at v).tag) (record { variable = v; names = e; subscripts = ns; many = many; offset = k; found = f; inside = within_is (at v) (position (at v).dims ns) k f; unit = refl })))
  element_unit_of x es ns many Function e Q go = tt

  pub target_leads : (e : ExprTree) (Q : Target → Store → List Content → Type 0) → ((t : Target) → IsUnit e w at t → Q t s i) → Leads (target e w at) s i Q
  target_leads (tree.int n) Q go = tt
  target_leads (tree.log b) Q go = tt
  target_leads (tree.name x) Q go = name_unit x (w x) refl Q go
  target_leads (tree.element x es) Q go = leads_then (values es w at) (element_target (w x) at) s i Q (values_leads es _ (λ ns m. element_unit_of x es ns m (w x) refl Q go))
  target_leads (tree.paren e) Q go = tt
  target_leads (tree.unary o e) Q go = tt
  target_leads (tree.binary o a b) Q go = tt
  target_leads (tree.chars x) Q go = tt

  shown_value : (e : ExprTree) (Q : Shown → Store → List Content → Type 0) → ((x : Shown) → Q x s i) → Leads (value e w at >>= λ c. Done (Value c)) s i Q
  shown_value e Q go = leads_then (value e w at) (λ c. Done (Value c)) s i Q (value_leads e _ (λ c. go (Value c)))

  shown_leads : (e : ExprTree) (Q : Shown → Store → List Content → Type 0) → ((x : Shown) → Q x s i) → Leads (shown e w at) s i Q
  shown_leads (tree.chars x) Q go = go (Text x)
  shown_leads (tree.int n) Q go = shown_value (tree.int n) Q go
  shown_leads (tree.log b) Q go = shown_value (tree.log b) Q go
  shown_leads (tree.name x) Q go = shown_value (tree.name x) Q go
  shown_leads (tree.element x es) Q go = shown_value (tree.element x es) Q go
  shown_leads (tree.paren e) Q go = shown_value (tree.paren e) Q go
  shown_leads (tree.unary o e) Q go = shown_value (tree.unary o e) Q go
  shown_leads (tree.binary o a b) Q go = shown_value (tree.binary o a b) Q go

  pub all_shown_leads : (es : ExprTrees) (Q : List Shown → Store → List Content → Type 0) → ((xs : List Shown) → Q xs s i) → Leads (all_shown es w at) s i Q
  all_shown_leads tree.no_exprs Q go = go []
  all_shown_leads (tree.more_exprs e es) Q go = leads_then (shown e w at) _ s i Q (shown_leads e _ (λ x. leads_then (all_shown es w at) _ s i Q (all_shown_leads es _ (λ xs. go (x ∷ xs)))))

pub values_stay : ValuesStay
values_stay e w at s i = value_leads w at s i e (λ c z j. (z ≡ s) × (j ≡ i)) (λ c. (refl, refl))

pub targets_lie : TargetsLie
targets_lie e w at s i = target_leads w at s i e (λ t z j. (z ≡ s) × (j ≡ i) × IsUnit e w at t) (λ t h. (refl, refl, h))

pub shown_stay : ShownStay
shown_stay es w at s i = all_shown_leads w at s i es (λ xs z j. (z ≡ s) × (j ≡ i)) (λ xs. (refl, refl))
