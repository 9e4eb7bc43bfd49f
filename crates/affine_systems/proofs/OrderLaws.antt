-- What the order of rows says of two rows.
use Rattle.std.proofs.Common.{◌≡◌, ℕ, Bool, true, false, ◌<◌, List, [], ◌∷◌, length, ℤ, ◌<ℤ◌, refl, Ordering}
use Rattle.std.specs.declared.cmp.Ordering.TheVariants.{Less, Equal, Greater}
use Rattle.std.specs.Ordering.{ordering_then, nat_cmp, int_cmp, is_eq, MatchOrdering}
use Rattle.std.proofs.lemmas.Cmp.{ranked, int_ranked}
use Rattle.affine_systems.specs.declared.row.Var.{Var}
use Rattle.affine_systems.specs.declared.row.Term.{Term}
use Rattle.affine_systems.specs.declared.row.Row.{Row}
use Rattle.affine_systems.specs.Terms.{kind, number, term}
use Rattle.affine_systems.specs.Rows.{var_cmp, vars_cmp, factors_cmp, equal_cmp, shape_cmp, same_shape}
use Rattle.affine_systems.proofs.TermLaws.{same_parts}

-- both are equal where the one after the other is
then-equal : (a b : Ordering) → is_eq (ordering_then a b) ≡ true → (is_eq a ≡ true) × (is_eq b ≡ true)
then-equal Less b e = cc
then-equal Equal b e = (refl, e)
then-equal Greater b e = cc

nat_cmp-equal : (x y : ℕ) → is_eq (nat_cmp x y) ≡ true → x ≡ y
nat_cmp-equal x y = go (nat_cmp x y) (ranked x y (nat_cmp x y) refl) where
  go : (o : Ordering) → MatchOrdering o (x < y) (x ≡ y) (y < x) → is_eq o ≡ true → x ≡ y
  go Less m e = cc
  go Equal m e = m
  go Greater m e = cc

int_cmp-equal : (x y : ℤ) → is_eq (int_cmp x y) ≡ true → x ≡ y
int_cmp-equal x y = go (int_cmp x y) (int_ranked x y (int_cmp x y) refl) where
  go : (o : Ordering) → MatchOrdering o (x <ℤ y) (x ≡ y) (y <ℤ x) → is_eq o ≡ true → x ≡ y
  go Less m e = cc
  go Equal m e = m
  go Greater m e = cc

pub var_cmp-equal : (v w : Var) → is_eq (var_cmp v w) ≡ true → v ≡ w
var_cmp-equal v w e =
    let h = then-equal (nat_cmp (kind v) (kind w)) (nat_cmp (number v) (number w)) e in
    same_parts v w (nat_cmp-equal (kind v) (kind w) h.0) (nat_cmp-equal (number v) (number w) h.1)

equal_cmp-equal : (a b : Bool) → is_eq (equal_cmp a b) ≡ true → a ≡ b
equal_cmp-equal true true e = refl
equal_cmp-equal true false e = cc
equal_cmp-equal false true e = cc
equal_cmp-equal false false e = refl

terms-equal : (ts us : List Term) → is_eq (vars_cmp ts us) ≡ true → is_eq (factors_cmp ts us) ≡ true → ts ≡ us
terms-equal [] [] e f = refl
terms-equal [] (u ∷ us) e f = cc
terms-equal (t ∷ ts) [] e f = cc
terms-equal (t ∷ ts) (u ∷ us) e f =
    let h = then-equal (var_cmp t.var u.var) (vars_cmp ts us) e in
    let k = then-equal (int_cmp t.factor u.factor) (factors_cmp ts us) f in
    same (var_cmp-equal t.var u.var h.0) (int_cmp-equal t.factor u.factor k.0) (terms-equal ts us h.1 k.1)
  where
    same : t.var ≡ u.var → t.factor ≡ u.factor → ts ≡ us → (t ∷ ts) ≡ (u ∷ us)
    same e f g i = term (e i) (f i) ∷ g i

pub same_shape-true : (r s : Row) → same_shape r s ≡ true → (r.equal ≡ s.equal) × (r.terms ≡ s.terms)
unfolding shape_cmp
same_shape-true r s e =
    let h = then-equal (equal_cmp r.equal s.equal) (ordering_then (nat_cmp (length r.terms) (length s.terms)) (ordering_then (vars_cmp r.terms s.terms) (factors_cmp r.terms s.terms))) e in
    let k = then-equal (nat_cmp (length r.terms) (length s.terms)) (ordering_then (vars_cmp r.terms s.terms) (factors_cmp r.terms s.terms)) h.1 in
    let l = then-equal (vars_cmp r.terms s.terms) (factors_cmp r.terms s.terms) k.1 in
    (equal_cmp-equal r.equal s.equal h.0, terms-equal r.terms s.terms l.0 l.1)
