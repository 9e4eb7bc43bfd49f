-- An expression each of whose references stays inside is evaluated without a fault of subscripts.
use Rattle.std.proofs.Common.{◌≡◌, ℕ, ◌+◌, List, [], ◌∷◌, ◌++◌, Option, Some, None, Bool, true, false, refl, sym, ap, subst, true≢false, ℤ}
use Rattle.std.specs.Prelude.{if◌then◌else◌, IsSome}
use Rattle.f77_ast.specs.Trees.{ExprTree, ExprTrees}
use Rattle.f77_ast.specs.Trees as tree
use Rattle.f77_ast.specs.Store.{Tag, Int, Content, Store, put, undefined, same_tag}
use Rattle.f77_ast.specs.Faults.{Fault, Arithmetic, Unset, Bounds}
use Rattle.f77_ast.specs.Steps.{Break, Faulty, Value, Steps, Done, Breaks, Look, Set, Hold, Forget, Show, Take, Arrive, ◌>>=◌}
use Rattle.f77_ast.specs.Runs.{Answer, Gave, Broke, Whole, run, first_of, rest_of}
use Rattle.f77_ast.specs.Numbers.{unary_number, unary_tag, binary_number, binary_tag, Intrinsic, intrinsic_named, intrinsic_number}
use Rattle.f77_ast.specs.Places.{Meant, Constant, Variable, Function, Names, Place, Places, element_in}
use Rattle.f77_ast.specs.Values.{fault, given, read_unit, unit_after, element_unit, name_value, intrinsic_value, element_value, value, values, to, name_target, element_target, target, shown}
use Rattle.f77_ast.specs.Calls.{stored, rest_after, name_actual, element_actual, actual}
use Rattle.f77_ast.proofs.StepLaws.{Leads}
use Rattle.preconditions.specs.transformer_algebra.Laws.{In, here}
use Rattle.preconditions.specs.call_translation.Scopes.{ScopeTree}
use Rattle.preconditions.proofs.TransformerAlgebra.Members.{in_left, in_right}
use Rattle.laws_programs.specs.SymbolTables.Shapes.{Shaped, AllShaped}
use Rattle.laws_analyses.proofs.Statements.Ends.{both}
use Rattle.laws_analyses.proofs.Statements.Evaluations.{value_leads, values_leads}
use Rattle.bound_check.specs.References.{element, elements, all_elements}
use Rattle.laws_bounds.specs.Claims.{AreOfElement, StaysInside}
use Rattle.laws_bounds.specs.Faults.{NoBounds, AnyName, IsArrayIndexed, InsideNeverFaults}

-- ---- steps

gave_not : {A : Type 0} (a : A) → ◌≡◌ {A = Answer A} (Gave a) (Broke (Faulty Bounds)) → ⊥
gave_not a e = cc

abbrev broke : (A : Type 0) → Break → Answer A
broke A b = Broke b

other_not : {A : Type 0} (f : Fault) → (f ≡ Bounds → ⊥) → broke A (Faulty f) ≡ broke A (Faulty Bounds) → ⊥
other_not f n e = n (let same : f ≡ Bounds = cc in same)

unset_not : Unset ≡ Bounds → ⊥
unset_not e = cc

arithmetic_not : Arithmetic ≡ Bounds → ⊥
arithmetic_not e = cc

break_of : {A B : Type 0} (b : Break) → broke A b ≡ broke A (Faulty Bounds) → broke B b ≡ broke B (Faulty Bounds)
break_of {B = B} b e = let same : b ≡ Faulty Bounds = cc in ap (broke B) same

none_then : {A B : Type 0} (t : Steps A) (f : A → Steps B) (z : Store) (i : List Content) → NoBounds t z i → Leads t z i (λ a y j. NoBounds (f a) y j) → NoBounds (t >>= f) z i
none_then (Done a) f z i n h = h
none_then (Breaks b) f z i n h = λ e. n (break_of b e)
none_then (Look u k) f z i n h = none_then (k (z u)) f z i n h
none_then (Set u c t) f z i n h = none_then t f (put z u c) i n h
none_then (Hold u c t) f z i n h = none_then t f (put z u c) i n h
none_then (Forget u t) f z i n h = none_then t f (put z u (undefined (z u))) i n h
none_then (Show xs t) f z i n h = none_then t f z i n h
none_then (Take k) f z i n h = none_then (k (first_of i)) f z (rest_of i) n h
none_then (Arrive p t) f z i n h = none_then t f z i n h

module _ (m : ScopeTree) (w : Names) (at : Places) (z : Store) (i : List Content) where
  given_none : (t : Tag) (o : Option ℤ) → NoBounds (given t o) z i
  given_none t None = other_not Arithmetic arithmetic_not
  given_none t (Some n) = gave_not _

  read_none : (t : Tag) (u : ℕ) → NoBounds (read_unit t u) z i
  read_none t u = pick (same_tag t (z u).tag)
    where
      pick : (b : Bool) → NoBounds (if b then Done (z u) else fault Unset) z i
      pick true = gave_not (z u)
      pick false = other_not Unset unset_not

  name_none : (k : Meant) → NoBounds (name_value k at) z i
  name_none (Constant c) = gave_not c
  name_none (Variable v) = read_none (at v).tag (at v).first
  name_none Function = other_not Unset unset_not

  intrinsic_none : (f : Option Intrinsic) (ns : List ℤ) → NoBounds (intrinsic_value f ns) z i
  intrinsic_none None ns = other_not Unset unset_not
  intrinsic_none (Some f) ns = given_none Int (intrinsic_number f ns)

  -- with subscripts of an element
  unit_none : {B : Type 0} (p : Place) (ns : List ℤ) (f : ℕ → Steps B) → ((u : ℕ) → NoBounds (f u) z i) → IsSome (element_in p ns) → NoBounds (element_unit p ns >>= f) z i
  unit_none p ns f go h = pick (element_in p ns) h
    where
      pick : (o : Option ℕ) → IsSome o → NoBounds (unit_after p.first o >>= f) z i
      pick None q = absurd (true≢false (sym q))
      pick (Some k) q = go (p.first + k)

  -- after subscripts, which leave the store and the input
  after_any : {B : Type 0} (es : ExprTrees) (f : List ℤ → Steps B) → ((ns : List ℤ) → NoBounds (f ns) z i) → Leads (values es w at) z i (λ ns y j. NoBounds (f ns) y j)
  after_any es f go = values_leads w at z i es (λ ns y j. NoBounds (f ns) y j) (λ ns k. go ns)

  after_inside : {B : Type 0} (es : ExprTrees) (v : ℕ) (f : List ℤ → Steps B) → AreOfElement (Variable v) es w at z → ((ns : List ℤ) → IsSome (element_in (at v) ns) → NoBounds (f ns) z i) → Leads (values es w at) z i (λ ns y j. NoBounds (f ns) y j)
  after_inside es v f h go =
      both (run (values es w at) (Whole z) i) (λ ns y j. (y ≡ z) × (j ≡ i)) (λ ns y j. IsSome (element_in (at v) ns)) (λ ns y j. NoBounds (f ns) y j)
      (λ ns y j p q. subst (λ x. NoBounds (f ns) x j) (sym p.0) (subst (λ k. NoBounds (f ns) z k) (sym p.1) (go ns q)))
      (values_leads w at z i es (λ ns y j. (y ≡ z) × (j ≡ i)) (λ ns k. (refl, refl))) (h i)

  -- ---- an element that stays inside, where its subscripts do not fault

  pub element_value_none : (x : List ℕ) (es : ExprTrees) → AreOfElement (w x) es w at z → NoBounds (values es w at) z i → NoBounds (value (tree.element x es) w at) z i
  element_value_none x es h n = none_then (values es w at) (element_value (w x) x at) z i n (go (w x) h)
    where
      go : (k : Meant) → AreOfElement k es w at z → Leads (values es w at) z i (λ ns y j. NoBounds (element_value k x at ns) y j)
      go (Constant c) q = after_any es (element_value (Constant c) x at) (λ ns. other_not Unset unset_not)
      go Function q = after_any es (element_value Function x at) (λ ns. intrinsic_none (intrinsic_named x) ns)
      go (Variable v) q = after_inside es v (element_value (Variable v) x at) q (λ ns r. unit_none (at v) ns (read_unit (at v).tag) (λ u. read_none (at v).tag u) r)

  pub element_target_none : (x : List ℕ) (es : ExprTrees) → AreOfElement (w x) es w at z → NoBounds (values es w at) z i → NoBounds (target (tree.element x es) w at) z i
  element_target_none x es h n = none_then (values es w at) (element_target (w x) at) z i n (go (w x) h)
    where
      go : (k : Meant) → AreOfElement k es w at z → Leads (values es w at) z i (λ ns y j. NoBounds (element_target k at ns) y j)
      go (Constant c) q = after_any es (element_target (Constant c) at) (λ ns. other_not Unset unset_not)
      go Function q = after_any es (element_target Function at) (λ ns. other_not Unset unset_not)
      go (Variable v) q = after_inside es v (element_target (Variable v) at) q (λ ns r. unit_none (at v) ns (λ u. Done (to u (at v).tag)) (λ u. gave_not _) r)

  pub element_shown_none : (x : List ℕ) (es : ExprTrees) → AreOfElement (w x) es w at z → NoBounds (values es w at) z i → NoBounds (shown (tree.element x es) w at) z i
  element_shown_none x es h n =
      none_then (value (tree.element x es) w at) (λ c. Done (Value c)) z i (element_value_none x es h n) (value_leads w at z i (tree.element x es) _ (λ c. gave_not _))

  rest_none : (p : Place) (ns : List ℤ) → IsSome (element_in p ns) → NoBounds (rest_after p (element_in p ns)) z i
  rest_none p ns h = pick (element_in p ns) h
    where
      pick : (o : Option ℕ) → IsSome o → NoBounds (rest_after p o) z i
      pick None q = absurd (true≢false (sym q))
      pick (Some k) q = gave_not _

  pub element_actual_none : (u : ℕ) (x : List ℕ) (es : ExprTrees) → AreOfElement (w x) es w at z → NoBounds (values es w at) z i → NoBounds (actual (tree.element x es) w at u) z i
  element_actual_none u x es h n = go (w x) h
    where
      go : (k : Meant) → AreOfElement k es w at z → NoBounds (element_actual k (tree.element x es) es w at u) z i
      go (Constant c) q = other_not Unset unset_not
      go Function q = none_then (value (tree.element x es) w at) (stored u) z i (element_value_none x es h n) (value_leads w at z i (tree.element x es) _ (λ c. gave_not _))
      go (Variable v) q = none_then (values es w at) (λ ns. rest_after (at v) (element_in (at v) ns)) z i n (after_inside es v (λ ns. rest_after (at v) (element_in (at v) ns)) q (λ ns r. rest_none (at v) ns r))

  -- ---- expressions each of whose references stays inside

  abbrev Inside : ExprTree → Type 0
  Inside e = (r : ExprTree) → In r (elements e m) → StaysInside r w at z

  -- an element of an array is one of its references
  itself : (x : List ℕ) (es : ExprTrees) → IsArrayIndexed m w x es → Inside (tree.element x es) → AreOfElement (w x) es w at z
  itself x es a f = go (w x) refl
    where
      go : (k : Meant) → w x ≡ k → AreOfElement k es w at z
      go (Constant c) e = tt
      go Function e = tt
      go (Variable v) e =
          subst (λ k. AreOfElement k es w at z) e
          (f (tree.element x es) (in_right (tree.element x es) (all_elements es m) (element m x es) (subst (λ b. In (tree.element x es) (if b then tree.element x es ∷ [] else [])) (sym (a v e)) here)))

  mutual
    value_none : (e : ExprTree) → Shaped AnyName (IsArrayIndexed m w) e → Inside e → NoBounds (value e w at) z i
    value_none (tree.int n) s f = gave_not _
    value_none (tree.log b) s f = gave_not _
    value_none (tree.name x) s f = name_none (w x)
    value_none (tree.element x es) s f = element_value_none x es (itself x es s.0 f) (values_none es s.1 (λ r j. f r (in_left r (all_elements es m) (element m x es) j)))
    value_none (tree.paren e) s f = value_none e s f
    value_none (tree.unary o e) s f = none_then (value e w at) (λ c. given (unary_tag o) (unary_number o c.number)) z i (value_none e s f) (value_leads w at z i e _ (λ c. given_none (unary_tag o) (unary_number o c.number)))
    value_none (tree.binary o a b) s f =
        none_then (value a w at) (λ c. value b w at >>= λ d. given (binary_tag o) (binary_number o c.number d.number)) z i (value_none a s.0 (λ r j. f r (in_left r (elements a m) (elements b m) j)))
        (value_leads w at z i a _ (λ c. none_then (value b w at) (λ d. given (binary_tag o) (binary_number o c.number d.number)) z i (value_none b s.1 (λ r j. f r (in_right r (elements a m) (elements b m) j)))
        (value_leads w at z i b _ (λ d. given_none (binary_tag o) (binary_number o c.number d.number)))))
    value_none (tree.chars x) s f = other_not Unset unset_not

    values_none : (es : ExprTrees) → AllShaped AnyName (IsArrayIndexed m w) es → ((r : ExprTree) → In r (all_elements es m) → StaysInside r w at z) → NoBounds (values es w at) z i
    values_none tree.no_exprs s f = gave_not _
    values_none (tree.more_exprs e es) s f =
        none_then (value e w at) (λ c. values es w at >>= λ ns. Done (c.number ∷ ns)) z i (value_none e s.0 (λ r j. f r (in_left r (elements e m) (all_elements es m) j)))
        (value_leads w at z i e _ (λ c. none_then (values es w at) (λ ns. Done (c.number ∷ ns)) z i (values_none es s.1 (λ r j. f r (in_right r (elements e m) (all_elements es m) j)))
        (after_any es (λ ns. Done (c.number ∷ ns)) (λ ns. gave_not _))))

  -- ---- left sides, items and actual arguments

  to_none : (k : Meant) → NoBounds (name_target k at) z i
  to_none (Constant c) = other_not Unset unset_not
  to_none (Variable v) = gave_not _
  to_none Function = other_not Unset unset_not

  target_none : (e : ExprTree) → Shaped AnyName (IsArrayIndexed m w) e → Inside e → NoBounds (target e w at) z i
  target_none (tree.int n) s f = other_not Unset unset_not
  target_none (tree.log b) s f = other_not Unset unset_not
  target_none (tree.name x) s f = to_none (w x)
  target_none (tree.element x es) s f = element_target_none x es (itself x es s.0 f) (values_none es s.1 (λ r j. f r (in_left r (all_elements es m) (element m x es) j)))
  target_none (tree.paren e) s f = other_not Unset unset_not
  target_none (tree.unary o e) s f = other_not Unset unset_not
  target_none (tree.binary o a b) s f = other_not Unset unset_not
  target_none (tree.chars x) s f = other_not Unset unset_not

  value_shown : (e : ExprTree) → Shaped AnyName (IsArrayIndexed m w) e → Inside e → NoBounds (value e w at >>= λ c. Done (Value c)) z i
  value_shown e s f = none_then (value e w at) (λ c. Done (Value c)) z i (value_none e s f) (value_leads w at z i e _ (λ c. gave_not _))

  shown_none : (e : ExprTree) → Shaped AnyName (IsArrayIndexed m w) e → Inside e → NoBounds (shown e w at) z i
  shown_none (tree.int n) s f = value_shown (tree.int n) s f
  shown_none (tree.log b) s f = value_shown (tree.log b) s f
  shown_none (tree.name x) s f = value_shown (tree.name x) s f
  shown_none (tree.element x es) s f = value_shown (tree.element x es) s f
  shown_none (tree.paren e) s f = value_shown (tree.paren e) s f
  shown_none (tree.unary o e) s f = value_shown (tree.unary o e) s f
  shown_none (tree.binary o a b) s f = value_shown (tree.binary o a b) s f
  shown_none (tree.chars x) s f = gave_not _

  -- u: the unit of an actual
  module _ (u : ℕ) where
    value_stored : (e : ExprTree) → Shaped AnyName (IsArrayIndexed m w) e → Inside e → NoBounds (value e w at >>= stored u) z i
    value_stored e s f = none_then (value e w at) (stored u) z i (value_none e s f) (value_leads w at z i e _ (λ c. gave_not _))

    passed_none : (k : Meant) → NoBounds (name_actual k at u) z i
    passed_none (Constant c) = gave_not _
    passed_none (Variable v) = gave_not _
    passed_none Function = other_not Unset unset_not

    actual_none : (e : ExprTree) → Shaped AnyName (IsArrayIndexed m w) e → Inside e → NoBounds (actual e w at u) z i
    actual_none (tree.int n) s f = value_stored (tree.int n) s f
    actual_none (tree.log b) s f = value_stored (tree.log b) s f
    actual_none (tree.name x) s f = passed_none (w x)
    actual_none (tree.element x es) s f = element_actual_none u x es (itself x es s.0 f) (values_none es s.1 (λ r j. f r (in_left r (all_elements es m) (element m x es) j)))
    actual_none (tree.paren e) s f = value_stored (tree.paren e) s f
    actual_none (tree.unary o e) s f = value_stored (tree.unary o e) s f
    actual_none (tree.binary o a b) s f = value_stored (tree.binary o a b) s f
    actual_none (tree.chars x) s f = other_not Unset unset_not

pub inside_never_faults : InsideNeverFaults
inside_never_faults m w at z e s f = record {
  as_value = λ i. value_none m w at z i e s f;
  as_target = λ i. target_none m w at z i e s f;
  as_shown = λ i. shown_none m w at z i e s f;
  as_actual = λ u i. actual_none m w at z i u e s f;
}
