-- A variable of a block that is like one of another module takes as many units, from the same one on.
use Rattle.std.proofs.Common.{◌≡◌, ℕ, zero, suc, ◌-◌, ◌≤◌, Bool, true, false, List, [], ◌∷◌, Option, Some, None, ℤ, refl, sym, ap, ◌∙◌, arith}
use Rattle.std.specs.Prelude.{if◌then◌else◌, ◌&&◌, ◌*◌, bytes_eq, nat_eq, slice_get}
use Rattle.std.proofs.lemmas.Bool.{and_parts, eqb-true}
use Rattle.std.proofs.lemmas.Bool.Decides.{Decides-int_eq}
use Rattle.std.proofs.lemmas.Slice.Eq.{bytes_eq-Decides}
use Rattle.f77_ast.specs.Trees.{ExprTree}
use Rattle.f77_ast.specs.declared.constant.Constant.{Constant}
use Rattle.f77_ast.specs.declared.constant.Constant.TheVariants as constant
use Rattle.f77_ast.specs.declared.constant.ConstantValue.{ConstantValue}
use Rattle.f77_ast.specs.declared.constant.ConstantValue.TheVariants.{Is, Faults, Varies}
use Rattle.f77_ast.specs.Constants.{const_value}
use Rattle.f77_ast.specs.declared.symbol.Place.{Place}
use Rattle.f77_ast.specs.declared.symbol.Place.TheVariants as place
use Rattle.f77_ast.specs.Symbols.{BoundTree, SymbolTree, value_in}
use Rattle.f77_ast.specs.Units.{span_units, span_to, bound_units, bounds_units, units_in}
use Rattle.effects.specs.Callee.{is_number, same_number, same_high, same_bound, same_bounds, same_scalar, is_at, is_like, first_like}

-- ---- the same constant bounds

pub is_that : (m : ℤ) (w : ConstantValue) → is_number m w ≡ true → w ≡ Is (constant.Int m)
is_that m (Is (constant.Int n)) e = ap (λ z. Is (constant.Int z)) (sym ((Decides-int_eq m n).0 e))
is_that m (Is (constant.Log b)) e = cc
is_that m Faults e = cc
is_that m Varies e = cc

pub same_const_value : (v w : ConstantValue) → same_number v w ≡ true → v ≡ w
same_const_value (Is (constant.Int m)) w e = sym (is_that m w e)
same_const_value (Is (constant.Log b)) w e = cc
same_const_value Faults w e = cc
same_const_value Varies w e = cc

module _ (f h : List ℕ → Option Constant) where
  same_span : (v w : ConstantValue) (a b : Option ExprTree) → v ≡ w → same_high f a h b ≡ true → span_to f v a ≡ span_to h w b
  same_span v w None b e s = cc
  same_span v w (Some a) None e s = cc
  same_span v w (Some a) (Some b) e s = λ i. span_units (e i) (same_const_value (const_value f a) (const_value h b) s i)

  same_units : (a b : BoundTree) → same_bound f a h b ≡ true → bound_units f a ≡ bound_units h b
  same_units a b e =
      let p = and_parts (same_number (const_value f a.low) (const_value h b.low)) (same_high f a.high h b.high) e in
      same_span (const_value f a.low) (const_value h b.low) a.high b.high (same_const_value (const_value f a.low) (const_value h b.low) p.0) p.1

  same_size : (as' bs : List BoundTree) → same_bounds f as' h bs ≡ true → bounds_units f as' ≡ bounds_units h bs
  same_size [] [] s = refl
  same_size [] (b ∷ bs) s = cc
  same_size (a ∷ as') [] s = cc
  same_size (a ∷ as') (b ∷ bs) s =
      let p = and_parts (same_bound f a h b) (same_bounds f as' h bs) s in
      λ i. same_units a b p.0 i * same_size as' bs p.1 i

-- ---- the first that is like it

pub at_block : (b : List ℕ) (o : ℕ) (p : Place) → is_at b o p ≡ true → p ≡ place.Block b o
at_block b o (place.Local g n) e = cc
at_block b o (place.Dummy m) e = cc
at_block b o (place.Block c n) e =
    let p = and_parts (bytes_eq b c) (nat_eq o n) e in
    λ i. place.Block (sym ((bytes_eq-Decides b c).0 p.0) i) (sym (eqb-true o n p.1) i)
at_block b o (place.Constant v) e = cc

-- such a symbol of the caller
pub record IsLikeIt (b : List ℕ) (o : ℕ) (cs : List SymbolTree) (s : SymbolTree) (ss : List SymbolTree) (t : SymbolTree) : Type 0 where
  pub lies : t.place ≡ place.Block b o
  pub size : units_in cs s ≡ units_in ss t

pub alike : (b : List ℕ) (o : ℕ) (cs : List SymbolTree) (s : SymbolTree) (ss : List SymbolTree) (t : SymbolTree) → is_like b o cs s ss t ≡ true → IsLikeIt b o cs s ss t
alike b o cs s ss t e =
    let p = and_parts (is_at b o t.place && same_scalar s.scalar t.scalar) (same_bounds (value_in cs) s.bounds (value_in ss) t.bounds) e in
    let q = and_parts (is_at b o t.place) (same_scalar s.scalar t.scalar) p.0 in
    record { lies = at_block b o t.place q.0; size = same_size (value_in cs) (value_in ss) s.bounds t.bounds p.1 }

pub like_found : (n j : ℕ) (ts : List SymbolTree) (b : List ℕ) (o : ℕ) (cs : List SymbolTree) (s : SymbolTree) (ss : List SymbolTree) → first_like n ts b o cs s ss ≡ Some j →
    (t : SymbolTree) × (n ≤ j) × (slice_get ts (j - n) ≡ Some t) × IsLikeIt b o cs s ss t
like_found n j [] b o cs s ss e = cc
like_found n j (t ∷ ts) b o cs s ss e = go (is_like b o cs s ss t) refl e (like_found (suc n) j ts b o cs s ss)
  where
    go : (c : Bool) → is_like b o cs s ss t ≡ c → (if c then Some n else first_like (suc n) ts b o cs s ss) ≡ Some j →
        (first_like (suc n) ts b o cs s ss ≡ Some j → (r : SymbolTree) × (suc n ≤ j) × (slice_get ts (j - suc n) ≡ Some r) × IsLikeIt b o cs s ss r) →
        (r : SymbolTree) × (n ≤ j) × (slice_get (t ∷ ts) (j - n) ≡ Some r) × IsLikeIt b o cs s ss r
    go true q h ih =
        let same : n ≡ j = cc in
        let z : j - n ≡ zero = omega arith in
        (t, omega arith, ap (slice_get (t ∷ ts)) z, alike b o cs s ss t q)
    go false q h ih =
        let r = ih h in
        let low = r.1 in
        let z : j - n ≡ suc (j - suc n) = omega (arith, low) in
        (r.0, omega (arith, low), ap (slice_get (t ∷ ts)) z ∙ r.2, r.3)
