-- What actuals offer: units of their own, or units of what they name.
use Rattle.std.proofs.Common.{◌≡◌, ◌⊎◌, inl, inr, ℕ, zero, suc, ◌+◌, ◌-◌, ◌≤◌, ◌<◌, Bool, true, false, List, [], ◌∷◌, length, Option, Some, None, ℤ, refl, sym, ap, ◌∙◌, subst, arith}
use Rattle.std.specs.Prelude.{if◌then◌else◌, slice_get}
use Rattle.f77_ast.specs.Trees.{ExprTree, ExprTrees}
use Rattle.f77_ast.specs.Trees as tree
use Rattle.f77_ast.specs.Steps.{Done, ◌>>=◌}
use Rattle.f77_ast.specs.Numbers.{intrinsic_named}
use Rattle.f77_ast.specs.Places.{Meant, Constant, Variable, Function, Place, Places, element_in}
use Rattle.f77_ast.specs.Values.{value, values, element_value}
use Rattle.f77_ast.specs.Calls.{Actual, stored, rest_after, name_actual, element_actual, actual, actuals, places_of, in_place, first_place, other_places}
use Rattle.f77_ast.specs.declared.variable.Variable.{Variable as Named}
use Rattle.f77_ast.specs.declared.variable.Variable.TheVariants.{Own}
use Rattle.f77_ast.specs.Symbols.{SymbolTree}
use Rattle.f77_ast.specs.Shared.{symbol_at}
use Rattle.f77_ast.specs.Variables.{union}
use Rattle.call_graph.specs.declared.graph.Graph.{Graph}
use Rattle.call_graph.specs.declared.actuals.Offer.TheVariants.{Array}
use Rattle.call_graph.specs.Actuals.{has_bounds, place_offer, name_offer, offer_of, actual_of, actuals_of}
use Rattle.f77_meaning.specs.Areas.{is_own_unit}
use Rattle.f77_meaning.specs.Modules.{Known, names}
use Rattle.f77_meaning.specs.Linked.{numbering}
use Rattle.effects.specs.Names.{variable_named}
use Rattle.effects.specs.Reads.{with_reads, actual_reads, with_actuals}
use Rattle.effects.specs.Callee.{actual_variable}
use Rattle.laws_programs.specs.Effects.Trees.{StandsIndexed, IsActual, AreActuals}
use Rattle.laws_programs.proofs.Effects.Named.{Stands}
use Rattle.laws_programs.proofs.Effects.Kept.{kept_actuals}
use Rattle.laws_programs.proofs.Effects.Access.{Reading, Allowed}
use Rattle.laws_programs.proofs.Effects.Fine.{Doing, doing_bind}
use Rattle.laws_programs.proofs.Effects.Meant.{StandsFor, meant}
use Rattle.laws_programs.proofs.Effects.Units.{within_bounds, IsKnownBy, known_variable, ScalarsReach, Lets, lets_second}
use Rattle.laws_programs.proofs.Effects.Values.{stands_own, stands_array, in_extent, not_function, intrinsic_does, value_does, values_does}
use Rattle.f77_meaning.proofs.ModuleLaws.{in_laid as in_bounds}
use Rattle.fx_lists.proofs.Every.{Anything}

-- a part of what a variable of the caller reaches, which is not empty unless a whole array is offered
pub record IsLent (k : Known) (at : Places) (e : ExprTree) (p : Place) : Type 0 where
  pub number : ℕ
  pub symbol : SymbolTree
  pub is_named : Stands (Own number) (variable_named e k.symbols)
  pub is_symbol : symbol_at k.symbols number ≡ Some symbol
  pub is_known : IsKnownBy k.symbols number symbol symbol.place
  pub within : (u : ℕ) → in_place p u ≡ true → in_place (at number) u ≡ true
  pub reaches : (offer_of e k.symbols ≡ Array → ⊥) → 1 ≤ p.extent

module _ (ks : List Known) (g : Graph) (k : Known) (at : Places) where
  abbrev pub IsOwn : Place → Type 0
  IsOwn p = (p.extent ≡ 1) × (is_own_unit (numbering ks g) p.first ≡ true)

  abbrev pub Offers : ExprTree → Actual → Type 0
  Offers e x = IsOwn x.place ⊎ IsLent k at e x.place

  abbrev pub AllOffer : ExprTrees → List Actual → Type 0
  AllOffer tree.no_exprs [] = Unit {0}
  AllOffer tree.no_exprs (x ∷ xs) = ⊥
  AllOffer (tree.more_exprs e es) [] = ⊥
  AllOffer (tree.more_exprs e es) (x ∷ xs) = Offers e x × AllOffer es xs

  -- ---- each actual

  module _ (scalars : ScalarsReach k at) where
    stored_does : (e f : ExprTree) (A : Allowed) (u : ℕ) → is_own_unit (numbering ks g) u ≡ true → Doing (value e (names k.symbols) at) A Anything → Doing (value e (names k.symbols) at >>= stored u) A (Offers f)
    stored_does e f A u own h = doing_bind (value e (names k.symbols) at) (stored u) A Anything (Offers f) h (λ c z. inl (refl, own))

    whole_or_not : (x : List ℕ) (n : ℕ) (m : StandsFor k.symbols x n) → (offer_of (tree.name x) k.symbols ≡ Array → ⊥) → 1 ≤ (at n).extent
    whole_or_not x n m not_array = go (has_bounds m.symbol.bounds) refl
      where
        go : (b : Bool) → has_bounds m.symbol.bounds ≡ b → 1 ≤ (at n).extent
        go true q = absurd (not_array (ap name_offer m.is_named ∙ ap (λ c. if c then Array else place_offer m.symbol.place) q))
        go false q = scalars n m.symbol m.is_symbol m.is_variable q

    name_offers : (A : Allowed) (x : List ℕ) (m : Meant) (u : ℕ) → names k.symbols x ≡ m → is_own_unit (numbering ks g) u ≡ true → Doing (name_actual m at u) A (Offers (tree.name x))
    name_offers A x (Constant c) u e own = inl (refl, own)
    name_offers A x (Variable n) u e own =
        let m = meant k.symbols x n e in
        inr (record {
          number = n;
          symbol = m.symbol;
          is_named = stands_own k.symbols x n m;
          is_symbol = m.is_symbol;
          is_known = known_variable k.symbols n m.symbol m.symbol.place m.is_variable m.is_first;
          within = λ v h. h;
          reaches = whole_or_not x n m;
        })
    name_offers A x Function u e own = tt

    rest_within : (p : Place) (j u : ℕ) → j < p.extent → in_place (record { first = p.first + j; extent = p.extent - j; tag = p.tag; dims = [] }) u ≡ true → in_place p u ≡ true
    rest_within p j u below h =
        let b = in_bounds (record { first = p.first + j; extent = p.extent - j; tag = p.tag; dims = [] }) u h in
        within_bounds p u (omega (arith, b.0)) (omega (arith, b.1, below))

    rest_offers : (A : Allowed) (x : List ℕ) (es : ExprTrees) (n : ℕ) (ns : List ℤ) → names k.symbols x ≡ Variable n → StandsIndexed x k.symbols → Doing (rest_after (at n) (element_in (at n) ns)) A (Offers (tree.element x es))
    rest_offers A x es n ns e indexed = go (element_in (at n) ns) refl
      where
        go : (o : Option ℕ) → element_in (at n) ns ≡ o → Doing (rest_after (at n) o) A (Offers (tree.element x es))
        go None h = tt
        go (Some j) h =
            let m = meant k.symbols x n e in
            let below = in_extent (at n) ns j h in
            inr (record {
              number = n;
              symbol = m.symbol;
              is_named = stands_array k.symbols x n m (not_function ks g k at scalars x n e indexed);
              is_symbol = m.is_symbol;
              is_known = known_variable k.symbols n m.symbol m.symbol.place m.is_variable m.is_first;
              within = λ v i. rest_within (at n) j v below i;
              reaches = λ z. omega (arith, below);
            })

    function_does : (A : Allowed) (x : List ℕ) (ns : List ℤ) → names k.symbols x ≡ Function → Doing (element_value (names k.symbols x) x at ns) A Anything
    function_does A x ns e = subst (λ m. Doing (element_value m x at ns) A Anything) (sym e) (intrinsic_does ks g k at scalars A (intrinsic_named x) ns)

    element_offers : (A : Allowed) (x : List ℕ) (es : ExprTrees) (m : Meant) (u : ℕ) → names k.symbols x ≡ m → is_own_unit (numbering ks g) u ≡ true → IsActual (tree.element x es) k.symbols → Lets ks g k at Reading A (with_reads es k.symbols []) →
        Doing (element_actual m (tree.element x es) es (names k.symbols) at u) A (Offers (tree.element x es))
    element_offers A x es (Constant c) u e own h lets = tt
    element_offers A x es (Variable n) u e own h lets =
        doing_bind (values es (names k.symbols) at) (λ ns. rest_after (at n) (element_in (at n) ns)) A Anything (Offers (tree.element x es)) (values_does ks g k at scalars es A [] h.1 lets)
        (λ ns z. rest_offers A x es n ns e h.0)
    element_offers A x es Function u e own h lets =
        stored_does (tree.element x es) (tree.element x es) A u own
        (doing_bind (values es (names k.symbols) at) (element_value (names k.symbols x) x at) A Anything Anything (values_does ks g k at scalars es A [] h.1 lets) (λ ns z. function_does A x ns e))

    actual_does : (e : ExprTree) (A : Allowed) (u : ℕ) → is_own_unit (numbering ks g) u ≡ true → IsActual e k.symbols → Lets ks g k at Reading A (actual_reads e k.symbols) → Doing (actual e (names k.symbols) at u) A (Offers e)
    actual_does (tree.name x) A u own h lets = name_offers A x (names k.symbols x) u refl own
    actual_does (tree.element x es) A u own h lets = element_offers A x es (names k.symbols x) u refl own h lets
    actual_does (tree.int n) A u own h lets = stored_does (tree.int n) (tree.int n) A u own (value_does ks g k at scalars (tree.int n) A h lets)
    actual_does (tree.log b) A u own h lets = stored_does (tree.log b) (tree.log b) A u own (value_does ks g k at scalars (tree.log b) A h lets)
    actual_does (tree.paren e) A u own h lets = stored_does (tree.paren e) (tree.paren e) A u own (value_does ks g k at scalars (tree.paren e) A h lets)
    actual_does (tree.unary o e) A u own h lets = stored_does (tree.unary o e) (tree.unary o e) A u own (value_does ks g k at scalars (tree.unary o e) A h lets)
    actual_does (tree.binary o a b) A u own h lets = stored_does (tree.binary o a b) (tree.binary o a b) A u own (value_does ks g k at scalars (tree.binary o a b) A h lets)
    actual_does (tree.chars x) A u own h lets = tt

    pub actuals_do : (es : ExprTrees) (n : ℕ) (A : Allowed) (unit : ℕ → ℕ) (vs : List Named) → ((j : ℕ) → is_own_unit (numbering ks g) (unit j) ≡ true) → AreActuals es k.symbols → Lets ks g k at Reading A (with_actuals es k.symbols vs) →
        Doing (actuals es n (names k.symbols) at unit) A (AllOffer es)
    actuals_do tree.no_exprs n A unit vs own h lets = tt
    actuals_do (tree.more_exprs e es) n A unit vs own h lets =
        let here : Lets ks g k at Reading A (union vs (actual_reads e k.symbols)) = λ v u s m. lets v u (kept_actuals k.symbols v es (union vs (actual_reads e k.symbols)) s) m in
        let rest = actuals_do es (suc n) A unit (union vs (actual_reads e k.symbols)) own h.1 lets in
        doing_bind (actual e (names k.symbols) at (unit n)) (λ x. actuals es (suc n) (names k.symbols) at unit >>= λ xs. Done (x ∷ xs)) A (Offers e) (AllOffer (tree.more_exprs e es))
        (actual_does e A (unit n) (own n) h.0 (lets_second ks g k at Reading A vs (actual_reads e k.symbols) here)) (λ x o.
        doing_bind (actuals es (suc n) (names k.symbols) at unit) (λ xs. Done (x ∷ xs)) A (AllOffer es) (AllOffer (tree.more_exprs e es)) rest (λ xs p. (o, p)))

-- ---- by place

abbrev pub others_after : ℕ → List Place → List Place
others_after zero ps = ps
others_after (suc c) ps = other_places (others_after c ps)

pub others_shift : (c : ℕ) (ps : List Place) → other_places (others_after c ps) ≡ others_after c (other_places ps)
others_shift zero ps = refl
others_shift (suc c) ps = ap other_places (others_shift c ps)

-- the actual at a place, from 0
pub record OfferAt (ks : List Known) (g : Graph) (k : Known) (at : Places) (es : ExprTrees) (ps : List Place) (c : ℕ) : Type 0 where
  pub expr : ExprTree
  pub place : Place
  pub offers : IsOwn ks g k at place ⊎ IsLent k at expr place
  pub names_it : actual_variable es c k.symbols ≡ variable_named expr k.symbols
  pub is_place : first_place (others_after c ps) ≡ place
  pub is_actual : slice_get (actuals_of es k.symbols) c ≡ Some (actual_of expr k.symbols)

pub offer_at : (ks : List Known) (g : Graph) (k : Known) (at : Places) (c : ℕ) (es : ExprTrees) (xs : List Actual) → AllOffer ks g k at es xs → c < length (actuals_of es k.symbols) → OfferAt ks g k at es (places_of xs) c
offer_at ks g k at c tree.no_exprs xs h below = absurd (omega (arith, below))
offer_at ks g k at c (tree.more_exprs e es) [] h below = absurd h
offer_at ks g k at zero (tree.more_exprs e es) (x ∷ xs) h below = record { expr = e; place = x.place; offers = h.0; names_it = refl; is_place = refl; is_actual = refl }
offer_at ks g k at (suc c) (tree.more_exprs e es) (x ∷ xs) h below =
    let r = offer_at ks g k at c es xs h.1 (omega (arith, below)) in
    record {
      expr = r.expr;
      place = r.place;
      offers = r.offers;
      names_it = r.names_it;
      is_place = ap first_place (others_shift c (places_of (x ∷ xs))) ∙ r.is_place;
      is_actual = r.is_actual;
    }
