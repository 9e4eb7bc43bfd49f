-- What expressions, left sides and items read.
use Rattle.std.proofs.Common.{◌≡◌, inl, inr, ℕ, ◌+◌, ◌≤◌, ◌<◌, Bool, true, false, List, [], ◌∷◌, Option, Some, None, ℤ, refl, sym, ◌∙◌, subst, arith}
use Rattle.std.specs.Prelude.{if◌then◌else◌, nat_lt}
use Rattle.std.proofs.lemmas.Bool.{ltb-true}
use Rattle.f77_ast.specs.Trees.{ExprTree, ExprTrees}
use Rattle.f77_ast.specs.Trees as tree
use Rattle.f77_ast.specs.Store.{Tag, Content, same_tag}
use Rattle.f77_ast.specs.Steps.{Done, ◌>>=◌}
use Rattle.f77_ast.specs.Numbers.{unary_number, unary_tag, binary_number, binary_tag, Intrinsic, intrinsic_named, intrinsic_number}
use Rattle.f77_ast.specs.Store.{Int}
use Rattle.f77_ast.specs.Places.{Meant, Constant, Variable, Function, Place, Places, position, within, element_in}
use Rattle.f77_ast.specs.Faults.{Unset}
use Rattle.f77_ast.specs.Values.{fault, given, read_unit, of_type, unit_after, name_value, intrinsic_value, element_value, value, values}
use Rattle.f77_ast.specs.declared.variable.Variable.{Variable as Named}
use Rattle.f77_ast.specs.declared.variable.Variable.TheVariants.{Own}
use Rattle.f77_ast.specs.Symbols.{SymbolTree}
use Rattle.f77_ast.specs.Variables.{union}
use Rattle.call_graph.specs.declared.graph.Graph.{Graph}
use Rattle.call_graph.specs.Actuals.{symbol_with_name as symbol_of, is_array}
use Rattle.f77_meaning.specs.Modules.{Known, names}
use Rattle.effects.specs.Names.{own, one, array}
use Rattle.effects.specs.Reads.{reads, with_reads}
use Rattle.laws_programs.specs.Effects.Trees.{StandsBare, StandsIndexed, IsShaped, AreShaped}
use Rattle.laws_programs.proofs.Effects.Named.{Stands}
use Rattle.laws_programs.proofs.Effects.Kept.{kept_reads}
use Rattle.laws_programs.proofs.Effects.Access.{Access, Reading, Allowed}
use Rattle.laws_programs.proofs.Effects.Fine.{Doing, doing_bind}
use Rattle.laws_programs.proofs.Effects.Orders.{given_does}
use Rattle.laws_programs.proofs.Effects.Meant.{StandsFor, meant}
use Rattle.laws_programs.proofs.Effects.Units.{within_bounds, known_variable, ScalarsReach, Lets, lets_first, lets_second}
use Rattle.fx_lists.proofs.Every.{Anything}

-- ---- names

-- the variable of a name stands among those that the name brings
pub stands_own : (ss : List SymbolTree) (x : List ℕ) (n : ℕ) → StandsFor ss x n → Stands (Own n) (own x ss)
stands_own ss x n m = subst (λ o. Stands (Own n) (one o)) (sym m.is_number) (inl refl)

pub stands_array : (ss : List SymbolTree) (x : List ℕ) (n : ℕ) → StandsFor ss x n → is_array (symbol_of ss x) ≡ true → Stands (Own n) (array x ss)
stands_array ss x n m a = subst (λ b. Stands (Own n) (if b then own x ss else [])) (sym a) (stands_own ss x n m)

pub of_type_does : (A : Allowed) (t : Tag) (c : Content) → Doing (of_type t c) A Anything
of_type_does A t c = go (same_tag t c.tag)
  where
    go : (b : Bool) → Doing (if b then Done c else fault Unset) A Anything
    go true = tt
    go false = tt

-- an element in bounds is a unit of its array
pub in_extent : (p : Place) (ns : List ℤ) (k : ℕ) → element_in p ns ≡ Some k → k < p.extent
in_extent p ns k e = at (position p.dims ns) e
  where
    test : (j : ℕ) (b : Bool) → nat_lt j p.extent ≡ b → (if b then Some j else None) ≡ Some k → k < p.extent
    test j true q h = let same : j ≡ k = cc in subst (λ z. z < p.extent) same (ltb-true j p.extent q)
    test j false q h = cc

    at : (o : Option ℕ) → within p o ≡ Some k → k < p.extent
    at None h = cc
    at (Some j) h = test j (nat_lt j p.extent) refl h

module _ (ks : List Known) (g : Graph) (k : Known) (at : Places) (scalars : ScalarsReach k at) where
  -- the unit of a scalar, and those of the elements of an array, wherever the variables of the list may be accessed
  pub scalar_let : (access : ℕ → Access) (A : Allowed) (x : List ℕ) (n : ℕ) → names k.symbols x ≡ Variable n → StandsBare x k.symbols → Lets ks g k at access A (own x k.symbols) → A (access (at n).first)
  scalar_let access A x n e bare lets =
      let m = meant k.symbols x n e in
      let none : is_array (Some m.symbol) ≡ false = subst (λ o. is_array o ≡ false) m.is_named bare in
      let reach : 1 ≤ (at n).extent = scalars n m.symbol m.is_symbol m.is_variable none in
      lets (Own n) (at n).first (stands_own k.symbols x n m)
      (m.symbol, m.is_symbol, known_variable k.symbols n m.symbol m.symbol.place m.is_variable m.is_first, within_bounds (at n) (at n).first (omega arith) (omega (arith, reach)))

  pub not_function : (x : List ℕ) (n : ℕ) → names k.symbols x ≡ Variable n → StandsIndexed x k.symbols → is_array (symbol_of k.symbols x) ≡ true
  not_function x n e (inl a) = a
  not_function x n e (inr f) = let z : Variable n ≡ Function = sym e ∙ f in cc

  pub element_let : (access : ℕ → Access) (A : Allowed) (x : List ℕ) (n : ℕ) (ns : List ℤ) (j : ℕ) → names k.symbols x ≡ Variable n → StandsIndexed x k.symbols → element_in (at n) ns ≡ Some j → Lets ks g k at access A (array x k.symbols) → A (access ((at n).first + j))
  element_let access A x n ns j e indexed h lets =
      let m = meant k.symbols x n e in
      let below = in_extent (at n) ns j h in
      lets (Own n) ((at n).first + j) (stands_array k.symbols x n m (not_function x n e indexed))
      (m.symbol, m.is_symbol, known_variable k.symbols n m.symbol m.symbol.place m.is_variable m.is_first, within_bounds (at n) ((at n).first + j) (omega arith) (omega (arith, below)))

  name_does : (A : Allowed) (x : List ℕ) (m : Meant) → names k.symbols x ≡ m → StandsBare x k.symbols → Lets ks g k at Reading A (own x k.symbols) → Doing (name_value m at) A Anything
  name_does A x (Constant c) e bare lets = tt
  name_does A x (Variable n) e bare lets = (scalar_let Reading A x n e bare lets, λ c. of_type_does A (at n).tag c)
  name_does A x Function e bare lets = tt

  pub intrinsic_does : (A : Allowed) (o : Option Intrinsic) (ns : List ℤ) → Doing (intrinsic_value o ns) A Anything
  intrinsic_does A None ns = tt
  intrinsic_does A (Some f) ns = given_does A Int (intrinsic_number f ns)

  element_does : (A : Allowed) (x : List ℕ) (m : Meant) (ns : List ℤ) → names k.symbols x ≡ m → StandsIndexed x k.symbols → Lets ks g k at Reading A (array x k.symbols) → Doing (element_value m x at ns) A Anything
  element_does A x (Constant c) ns e indexed lets = tt
  element_does A x (Variable n) ns e indexed lets = go (element_in (at n) ns) refl
    where
      go : (o : Option ℕ) → element_in (at n) ns ≡ o → Doing (unit_after (at n).first o >>= read_unit (at n).tag) A Anything
      go None h = tt
      go (Some j) h = (element_let Reading A x n ns j e indexed h lets, λ c. of_type_does A (at n).tag c)
  element_does A x Function ns e indexed lets = intrinsic_does A (intrinsic_named x) ns

  mutual
    pub value_does : (e : ExprTree) (A : Allowed) → IsShaped e k.symbols → Lets ks g k at Reading A (reads e k.symbols) → Doing (value e (names k.symbols) at) A Anything
    value_does (tree.int n) A h lets = tt
    value_does (tree.log b) A h lets = tt
    value_does (tree.name x) A h lets = name_does A x (names k.symbols x) refl h lets
    value_does (tree.element x es) A h lets =
        doing_bind (values es (names k.symbols) at) (element_value (names k.symbols x) x at) A Anything Anything
        (values_does es A [] h.1 (lets_first ks g k at Reading A (with_reads es k.symbols []) (array x k.symbols) lets))
        (λ ns o. element_does A x (names k.symbols x) ns refl h.0 (lets_second ks g k at Reading A (with_reads es k.symbols []) (array x k.symbols) lets))
    value_does (tree.paren e) A h lets = value_does e A h lets
    value_does (tree.unary o e) A h lets =
        doing_bind (value e (names k.symbols) at) (λ c. given (unary_tag o) (unary_number o c.number)) A Anything Anything (value_does e A h lets) (λ c z. given_does A (unary_tag o) (unary_number o c.number))
    value_does (tree.binary o a b) A h lets =
        doing_bind (value a (names k.symbols) at) (λ c. value b (names k.symbols) at >>= λ d. given (binary_tag o) (binary_number o c.number d.number)) A Anything Anything (value_does a A h.0 (lets_first ks g k at Reading A (reads a k.symbols) (reads b k.symbols) lets)) (λ c z.
        doing_bind (value b (names k.symbols) at) (λ d. given (binary_tag o) (binary_number o c.number d.number)) A Anything Anything (value_does b A h.1 (lets_second ks g k at Reading A (reads a k.symbols) (reads b k.symbols) lets)) (λ d y.
        given_does A (binary_tag o) (binary_number o c.number d.number)))
    value_does (tree.chars x) A h lets = tt

    pub values_does : (es : ExprTrees) (A : Allowed) (vs : List Named) → AreShaped es k.symbols → Lets ks g k at Reading A (with_reads es k.symbols vs) → Doing (values es (names k.symbols) at) A Anything
    values_does tree.no_exprs A vs h lets = tt
    values_does (tree.more_exprs e es) A vs h lets =
        let here : Lets ks g k at Reading A (union vs (reads e k.symbols)) = λ v u s m. lets v u (kept_reads k.symbols v es (union vs (reads e k.symbols)) s) m in
        doing_bind (value e (names k.symbols) at) (λ c. values es (names k.symbols) at >>= λ ns. Done (c.number ∷ ns)) A Anything Anything (value_does e A h.0 (lets_second ks g k at Reading A vs (reads e k.symbols) here)) (λ c z.
        doing_bind (values es (names k.symbols) at) (λ ns. Done (c.number ∷ ns)) A Anything Anything (values_does es A (union vs (reads e k.symbols)) h.1 lets) (λ ns y. tt))
