-- Which actual goes to which dummy.
use Rattle.std.proofs.Common.{◌≡◌, ℕ, zero, suc, ◌-◌, Bool, true, false, not, List, [], ◌∷◌, length, map, Option, Some, None, refl, sym, ap, ◌∙◌, arith}
use Rattle.std.specs.Prelude.{if◌then◌else◌, bytes_eq, nat_eq, is_some, ◌&&◌, slice_get}
use Rattle.std.proofs.lemmas.Bool.{and_parts, not-true}
use Rattle.f77_ast.specs.declared.decl.Scalar.{Scalar}
use Rattle.f77_ast.specs.declared.decl.Scalar.TheVariants as scalar
use Rattle.f77_ast.specs.Trees.{ExprTree, ExprTrees}
use Rattle.f77_ast.specs.Trees as tree
use Rattle.f77_ast.specs.Store.{content}
use Rattle.f77_ast.specs.Numbers.{intrinsic_named}
use Rattle.f77_ast.specs.Steps.{◌>>=◌}
use Rattle.f77_ast.specs.Places.{Meant, Constant, Variable, Function, Places}
use Rattle.f77_ast.specs.Values.{value, name_value}
use Rattle.f77_ast.specs.Calls.{stored, actual, name_actual, element_actual}
use Rattle.f77_ast.specs.declared.symbol.Place.{Place}
use Rattle.f77_ast.specs.declared.symbol.Place.TheVariants as place
use Rattle.f77_ast.specs.Symbols.{BoundTree, SymbolTree, number_from}
use Rattle.f77_ast.specs.Shared.{symbol_at}
use Rattle.tracked_cells.specs.Standing.{has_bounds}
use Rattle.call_graph.specs.declared.actuals.Offer.TheVariants as offer
use Rattle.call_graph.specs.Actuals.{symbol_with_name, is_array, is_scalar_of, suits, fits, actual_of, actuals_of, all_fit, type_of, type_of_symbol, element_type, name_offer, place_offer, element_offer, offer_of}
use Rattle.f77_meaning.specs.Modules.{tag_of, is_function, meant_by, meant_at, meant_in, symbol_names, names}
use Rattle.laws_programs.specs.SymbolTables.Laws.{NoDummies, DummiesFirst}
use Rattle.laws_programs.specs.Storage.Calls.{IsNamed, IsMisread, indexed, constant_array, Takes, takes_scalar, takes_array, takes_element, takes_value, misread, Args}
use Rattle.f77_ast.proofs.NumberedNames.{number_from-least}
use Rattle.f77_ast.proofs.StorageLaws.{at_number}

-- ---- the symbol of a name

-- the number of a name, where it has a symbol
record Numbered (n : ℕ) (ss : List SymbolTree) (x : List ℕ) (s : SymbolTree) : Type 0 where
  number : ℕ
  is_number : number_from n (symbol_names ss) x ≡ Some number
  is_symbol : slice_get ss (number - n) ≡ Some s

numbered : (n : ℕ) (ss : List SymbolTree) (x : List ℕ) (s : SymbolTree) → symbol_with_name ss x ≡ Some s → Numbered n ss x s
numbered n [] x s e = cc
numbered n (y ∷ ss) x s e = go (bytes_eq x y.name) refl e (numbered (suc n) ss x s)
  where
    go : (b : Bool) → bytes_eq x y.name ≡ b → (if b then Some y else symbol_with_name ss x) ≡ Some s → (symbol_with_name ss x ≡ Some s → Numbered (suc n) ss x s) → Numbered n (y ∷ ss) x s
    go true t h ih =
        let none : n - n ≡ zero = omega arith in
        record { number = n; is_number = ap (λ b. if b then Some n else number_from (suc n) (symbol_names ss) x) t; is_symbol = ap (slice_get (y ∷ ss)) none ∙ h }
    go false t h ih =
        let r = ih h in
        let least = number_from-least (suc n) r.number (symbol_names ss) x r.is_number in
        let less : r.number - n ≡ suc (r.number - suc n) = omega (arith, least) in
        record { number = r.number; is_number = ap (λ b. if b then Some n else number_from (suc n) (symbol_names ss) x) t ∙ r.is_number; is_symbol = ap (slice_get (y ∷ ss)) less ∙ r.is_symbol }

no_number : (n : ℕ) (ss : List SymbolTree) (x : List ℕ) → symbol_with_name ss x ≡ None → number_from n (symbol_names ss) x ≡ None
no_number n [] x e = refl
no_number n (y ∷ ss) x e = go (bytes_eq x y.name) e (no_number (suc n) ss x)
  where
    go : (b : Bool) → (if b then Some y else symbol_with_name ss x) ≡ None → (symbol_with_name ss x ≡ None → number_from (suc n) (symbol_names ss) x ≡ None) → (if b then Some n else number_from (suc n) (symbol_names ss) x) ≡ None
    go true h ih = cc
    go false h ih = ih h

-- what a name with a symbol stands for
pub record Meaning (ss : List SymbolTree) (x : List ℕ) (s : SymbolTree) : Type 0 where
  pub number : ℕ
  pub is_symbol : symbol_at ss number ≡ Some s
  pub meant : names ss x ≡ meant_at number (Some s)

pub meaning : (ss : List SymbolTree) (x : List ℕ) (s : SymbolTree) → symbol_with_name ss x ≡ Some s → Meaning ss x s
meaning ss x s e =
    let r = numbered 1 ss x s e in
    let is = at_number ss r.number s (number_from-least 1 r.number (symbol_names ss) x r.is_number) r.is_symbol in
    record { number = r.number; is_symbol = is; meant = ap (meant_in ss) r.is_number ∙ ap (meant_at r.number) is }

pub no_meaning : (ss : List SymbolTree) (x : List ℕ) → symbol_with_name ss x ≡ None → names ss x ≡ Function
no_meaning ss x e = ap (meant_in ss) (no_number 1 ss x e)

-- a variable, a constant, or a function
data Kind (ss : List SymbolTree) (x : List ℕ) (s : SymbolTree) : Type 0 where
  a_variable : (v : ℕ) → IsNamed ss x v s → place_offer s.place ≡ offer.Variable → Kind ss x s
  a_constant : (c : _) → names ss x ≡ Constant c → place_offer s.place ≡ offer.Value → Kind ss x s
  a_function : names ss x ≡ Function → is_function s ≡ true → Kind ss x s

kind : (ss : List SymbolTree) (x : List ℕ) (s : SymbolTree) → symbol_with_name ss x ≡ Some s → Kind ss x s
kind ss x s e = go (is_function s) refl
  where
    m : Meaning ss x s
    m = meaning ss x s e

    by_place : (p : Place) → s.place ≡ p → is_function s ≡ false → Kind ss x s
    by_place (place.Local g o) q f = a_variable m.number (record { meant = m.meant ∙ ap (λ b. if b then Function else meant_by s.scalar m.number s.place) f ∙ ap (meant_by s.scalar m.number) q; is_symbol = m.is_symbol }) (ap place_offer q)
    by_place (place.Dummy k) q f = a_variable m.number (record { meant = m.meant ∙ ap (λ b. if b then Function else meant_by s.scalar m.number s.place) f ∙ ap (meant_by s.scalar m.number) q; is_symbol = m.is_symbol }) (ap place_offer q)
    by_place (place.Block b o) q f = a_variable m.number (record { meant = m.meant ∙ ap (λ b. if b then Function else meant_by s.scalar m.number s.place) f ∙ ap (meant_by s.scalar m.number) q; is_symbol = m.is_symbol }) (ap place_offer q)
    by_place (place.Constant v) q f = a_constant (content (tag_of s.scalar) v) (m.meant ∙ ap (λ b. if b then Function else meant_by s.scalar m.number s.place) f ∙ ap (meant_by s.scalar m.number) q) (ap place_offer q)

    go : (b : Bool) → is_function s ≡ b → Kind ss x s
    go true f = a_function (m.meant ∙ ap (λ b. if b then Function else meant_by s.scalar m.number s.place) f) f
    go false f = by_place s.place refl f

array_no_function : (s : SymbolTree) → has_bounds s.bounds ≡ true → is_function s ≡ true → ⊥
array_no_function s h f = let z : not (has_bounds s.bounds) ≡ false = ap not h in let y = (and_parts (not (has_bounds s.bounds)) (is_some (intrinsic_named s.name)) f).0 in cc

-- ---- one actual

same_scalar : (a d : Scalar) → is_scalar_of a d ≡ true → a ≡ d
same_scalar scalar.Int scalar.Int h = refl
same_scalar scalar.Int scalar.Log h = cc
same_scalar scalar.Log scalar.Int h = cc
same_scalar scalar.Log scalar.Log h = refl

pub no_bounds : (bs : List BoundTree) → has_bounds bs ≡ false → bs ≡ []
no_bounds [] h = refl
no_bounds (b ∷ bs) h = cc

-- a bare name that stands for no variable is evaluated
bare_value : (m : Meant) (at : Places) (u : ℕ) → ((v : ℕ) → m ≡ Variable v → ⊥) → name_actual m at u ≡ (name_value m at >>= stored u)
bare_value (Constant c) at u h = refl
bare_value (Variable v) at u h = absurd (h v refl)
bare_value Function at u h = refl

module _ (ss : List SymbolTree) (d : SymbolTree) where
  name_takes : (x : List ℕ) → fits (actual_of (tree.name x) ss) d ≡ true → Takes ss (tree.name x) d
  name_takes x h = go (symbol_with_name ss x) refl (parts.0) (parts.1)
    where
      parts : (is_scalar_of (type_of (tree.name x) ss) d.scalar ≡ true) × (suits (offer_of (tree.name x) ss) (has_bounds d.bounds) ≡ true)
      parts = and_parts (is_scalar_of (type_of (tree.name x) ss) d.scalar) (suits (offer_of (tree.name x) ss) (has_bounds d.bounds)) h

      by_value : has_bounds d.bounds ≡ false → ((v : ℕ) → names ss x ≡ Variable v → ⊥) → Takes ss (tree.name x) d
      by_value b n = takes_value (no_bounds d.bounds b) (λ at u. bare_value (names ss x) at u n)

      bare : (s : SymbolTree) → symbol_with_name ss x ≡ Some s → has_bounds s.bounds ≡ false → s.scalar ≡ d.scalar → suits (place_offer s.place) (has_bounds d.bounds) ≡ true → Kind ss x s → Takes ss (tree.name x) d
      bare s e b t f (a_variable v n o) = takes_scalar x v s refl n (no_bounds s.bounds b) (no_bounds d.bounds (not-true (has_bounds d.bounds) (ap (λ q. suits q (has_bounds d.bounds)) (sym o) ∙ f))) t
      bare s e b t f (a_constant c n o) = by_value (not-true (has_bounds d.bounds) (ap (λ q. suits q (has_bounds d.bounds)) (sym o) ∙ f)) (λ v q. let z : Constant c ≡ Variable v = sym n ∙ q in cc)
      bare s e b t f (a_function n o) = by_value (scalar_taken s.place f) (λ v q. let z : Function ≡ Variable v = sym n ∙ q in cc)
        where
          scalar_taken : (p : Place) → suits (place_offer p) (has_bounds d.bounds) ≡ true → has_bounds d.bounds ≡ false
          scalar_taken (place.Local g o) k = not-true (has_bounds d.bounds) k
          scalar_taken (place.Dummy i) k = not-true (has_bounds d.bounds) k
          scalar_taken (place.Block y o) k = not-true (has_bounds d.bounds) k
          scalar_taken (place.Constant v) k = not-true (has_bounds d.bounds) k

      whole : (s : SymbolTree) → symbol_with_name ss x ≡ Some s → has_bounds s.bounds ≡ true → s.scalar ≡ d.scalar → has_bounds d.bounds ≡ true → Kind ss x s → Takes ss (tree.name x) d
      whole s e b t f (a_variable v n o) = takes_array x v s refl n b f t
      whole s e b t f (a_constant c n o) = misread (constant_array x c (ap is_array e ∙ b) n)
      whole s e b t f (a_function n o) = absurd (array_no_function s b o)

      of_symbol : (s : SymbolTree) → symbol_with_name ss x ≡ Some s → s.scalar ≡ d.scalar → (b : Bool) → has_bounds s.bounds ≡ b → suits (if b then offer.Array else place_offer s.place) (has_bounds d.bounds) ≡ true → Takes ss (tree.name x) d
      of_symbol s e t true b f = whole s e b t f (kind ss x s e)
      of_symbol s e t false b f = bare s e b t f (kind ss x s e)

      go : (o : Option SymbolTree) → symbol_with_name ss x ≡ o → is_scalar_of (type_of_symbol o) d.scalar ≡ true → suits (name_offer o) (has_bounds d.bounds) ≡ true → Takes ss (tree.name x) d
      go None e t f = by_value (not-true (has_bounds d.bounds) f) (λ v q. let z : Function ≡ Variable v = sym (no_meaning ss x e) ∙ q in cc)
      go (Some s) e t f = of_symbol s e (same_scalar s.scalar d.scalar t) (has_bounds s.bounds) refl f

  function_value : (x : List ℕ) (es : ExprTrees) → names ss x ≡ Function → (at : Places) (u : ℕ) → actual (tree.element x es) (names ss) at u ≡ (value (tree.element x es) (names ss) at >>= stored u)
  function_value x es f at u = ap (λ m. element_actual m (tree.element x es) es (names ss) at u) f

  element_takes : (x : List ℕ) (es : ExprTrees) → fits (actual_of (tree.element x es) ss) d ≡ true → Takes ss (tree.element x es) d
  element_takes x es h = go (symbol_with_name ss x) refl (parts.0) (parts.1)
    where
      parts : (is_scalar_of (element_type (symbol_with_name ss x)) d.scalar ≡ true) × (suits (element_offer (symbol_with_name ss x)) (has_bounds d.bounds) ≡ true)
      parts = and_parts (is_scalar_of (element_type (symbol_with_name ss x)) d.scalar) (suits (element_offer (symbol_with_name ss x)) (has_bounds d.bounds)) h

      of_scalar : (s : SymbolTree) → symbol_with_name ss x ≡ Some s → has_bounds s.bounds ≡ false → has_bounds d.bounds ≡ false → Kind ss x s → Takes ss (tree.element x es) d
      of_scalar s e b f (a_variable v n o) = misread (indexed x es refl (ap is_array e ∙ b) (λ q. let z : Variable v ≡ Function = sym n.meant ∙ q in cc))
      of_scalar s e b f (a_constant c n o) = misread (indexed x es refl (ap is_array e ∙ b) (λ q. let z : Constant c ≡ Function = sym n ∙ q in cc))
      of_scalar s e b f (a_function n o) = takes_value (no_bounds d.bounds f) (function_value x es n)

      of_array : (s : SymbolTree) → symbol_with_name ss x ≡ Some s → has_bounds s.bounds ≡ true → s.scalar ≡ d.scalar → Kind ss x s → Takes ss (tree.element x es) d
      of_array s e b t (a_variable v n o) = takes_element x es v s refl n b t
      of_array s e b t (a_constant c n o) = misread (constant_array x c (ap is_array e ∙ b) n)
      of_array s e b t (a_function n o) = absurd (array_no_function s b o)

      of_symbol : (s : SymbolTree) → symbol_with_name ss x ≡ Some s → (b : Bool) → has_bounds s.bounds ≡ b → is_scalar_of (if b then s.scalar else scalar.Int) d.scalar ≡ true → suits (if b then offer.Element else offer.Value) (has_bounds d.bounds) ≡ true → Takes ss (tree.element x es) d
      of_symbol s e true b t f = of_array s e b (same_scalar s.scalar d.scalar t) (kind ss x s e)
      of_symbol s e false b t f = of_scalar s e b (not-true (has_bounds d.bounds) f) (kind ss x s e)

      go : (o : Option SymbolTree) → symbol_with_name ss x ≡ o → is_scalar_of (element_type o) d.scalar ≡ true → suits (element_offer o) (has_bounds d.bounds) ≡ true → Takes ss (tree.element x es) d
      go None e t f = takes_value (no_bounds d.bounds (not-true (has_bounds d.bounds) f)) (function_value x es (no_meaning ss x e))
      go (Some s) e t f = of_symbol s e (has_bounds s.bounds) refl t f

  value_taken : (e : ExprTree) → offer_of e ss ≡ offer.Value → fits (actual_of e ss) d ≡ true → d.bounds ≡ []
  value_taken e o h =
      let f = (and_parts (is_scalar_of (type_of e ss) d.scalar) (suits (offer_of e ss) (has_bounds d.bounds)) h).1 in
      no_bounds d.bounds (not-true (has_bounds d.bounds) (ap (λ q. suits q (has_bounds d.bounds)) (sym o) ∙ f))

  pub takes : (e : ExprTree) → fits (actual_of e ss) d ≡ true → Takes ss e d
  takes (tree.int n) h = takes_value (value_taken (tree.int n) refl h) (λ at u. refl)
  takes (tree.log b) h = takes_value (value_taken (tree.log b) refl h) (λ at u. refl)
  takes (tree.name x) h = name_takes x h
  takes (tree.element x es) h = element_takes x es h
  takes (tree.paren e) h = takes_value (value_taken (tree.paren e) refl h) (λ at u. refl)
  takes (tree.unary o e) h = takes_value (value_taken (tree.unary o e) refl h) (λ at u. refl)
  takes (tree.binary o a b) h = takes_value (value_taken (tree.binary o a b) refl h) (λ at u. refl)
  takes (tree.chars x) h = takes_value (value_taken (tree.chars x) refl h) (λ at u. refl)

-- ---- all actuals

pub args_from : (ss : List SymbolTree) (es : ExprTrees) (m n : ℕ) (ds : List SymbolTree) → DummiesFirst m n ds → length (actuals_of es ss) ≡ n → all_fit (actuals_of es ss) ds ≡ true → Args ss es m ds
args_from ss tree.no_exprs m zero ds f c h = f
args_from ss tree.no_exprs m (suc n) ds f c h = absurd (omega (arith, c))
args_from ss (tree.more_exprs e es) m zero ds f c h = absurd (omega (arith, c))
args_from ss (tree.more_exprs e es) m (suc n) [] f c h = f
args_from ss (tree.more_exprs e es) m (suc n) (d ∷ ds) f c h =
    let p = and_parts (fits (actual_of e ss) d) (all_fit (actuals_of es ss) ds) h in
    (f.0, takes ss d e p.0, args_from ss es (suc m) n ds f.1 (omega (arith, c)) p.1)
