-- What affine forms say of values.
use Rattle.std.proofs.Common.{◌≡◌, ℕ, Bool, true, [], Option, Some, None, ℤ, pos, negsuc, ◌+ℤ◌, ◌-ℤ◌, ◌*ℤ◌, neg_ℤ, arith, refl, ap, ◌∙◌, subst, ◌&&◌}
use Rattle.std.specs.Prelude.{if◌then◌else◌}
use Rattle.std.proofs.lemmas.Int.{ints}
use Rattle.affine_systems.specs.Terms.{has_no_terms}
use Rattle.affine_systems.specs.Normal.{is_small, are_small}
use Rattle.affine_systems.specs.Points.{Point, value}
use Rattle.affine_systems.proofs.Basics.{if_cases, distributes, mul_comm}
use Rattle.affine_systems.proofs.TermLaws.{value-add_terms}
use Rattle.affine_systems.proofs.TidyLaws.{has_no_terms-true}
use Rattle.affine_systems.proofs.ElimLaws.{value-combined}
use Rattle.f77_ast.specs.declared.expr.UnaryOp.{UnaryOp}
use Rattle.f77_ast.specs.declared.expr.UnaryOp.TheVariants.{Plus, Minus, Not}
use Rattle.f77_ast.specs.declared.expr.BinaryOp.{BinaryOp}
use Rattle.f77_ast.specs.declared.expr.BinaryOp.TheVariants.{Add, Sub, Mul, Div, Pow, Eq, Ne, Lt, Le, Gt, Ge, And, Or, Eqv, Neqv}
use Rattle.f77_ast.specs.Numbers.{unary_number, binary_number}
use Rattle.affine_forms.specs.declared.affine.Affine.{Affine}
use Rattle.affine_forms.specs.Forms.{affine, limited, plus, times, sum_of, product, product_of, times_of, unary_form, binary_form, number_form}
use Rattle.affine_forms.specs.Claims.{AtStart, form_value, Means}
use Rattle.f77_ast.proofs.KeptNumbers.{kept_is}

module _ (tracked : ℕ → Bool) (unit : ℕ → ℕ) (x : ℕ → ℤ) where
  abbrev M : Option Affine → ℤ → Type 0
  M f n = Means tracked unit f x n

  pub limited_means : (f : Affine) (n : ℤ) → M (Some f) n → M (limited f) n
  limited_means f n h = if_cases (λ o. M o n) (is_small f.constant && are_small f.terms) (Some f) None (λ e. h) (λ e. tt)

  pub plus_means : (f : Affine) (k : ℤ) (g : Affine) (m n : ℤ) → M (Some f) m → M (Some g) n → M (plus f k g) (m +ℤ (k *ℤ n))
  plus_means f k g m n h q =
      limited_means _ (m +ℤ (k *ℤ n))
      (λ p a. let v = value-combined p (pos 1) f.terms k g.terms in
      let d = distributes k (value p g.terms) g.constant in
      let u = ap (λ z. k *ℤ z) (q p a) in
      let y = h p a in
      omega (arith, ints, v, d, u, y))

  -- a number that is m wherever the store's numbers stand
  times_means : (k m : ℤ) (f : Affine) (n : ℤ) → ((p : Point) → AtStart tracked unit x p → k ≡ m) → M (Some f) n → M (times k f) (m *ℤ n)
  times_means k m f n e h =
      limited_means _ (m *ℤ n)
      (λ p a. let v = value-add_terms p k f.terms [] in
      let d = distributes k (value p f.terms) f.constant in
      let u : k *ℤ (value p f.terms +ℤ f.constant) ≡ m *ℤ n = ap (λ z. k *ℤ z) (h p a) ∙ ap (λ z. z *ℤ n) (e p a) in
      omega (arith, ints, v, d, u))

  -- a form without terms is its constant
  constant_is : (f : Affine) (n : ℤ) (p : Point) → has_no_terms f.terms ≡ true → form_value p f ≡ n → f.constant ≡ n
  constant_is f n p e h = let v = ap (value p) (has_no_terms-true f.terms e) in omega (arith, ints, v)

  product_means : (f g : Affine) (m n : ℤ) → M (Some f) m → M (Some g) n → M (product f g) (m *ℤ n)
  product_means f g m n h q =
      if_cases (λ o. M o (m *ℤ n)) (has_no_terms f.terms) (times f.constant g) (if has_no_terms g.terms then times g.constant f else None)
      (λ e. times_means f.constant m g n (λ p a. constant_is f m p e (h p a)) q)
      (λ e. if_cases (λ o. M o (m *ℤ n)) (has_no_terms g.terms) (times g.constant f) None
      (λ e'. subst (M (times g.constant f)) (mul_comm n m) (times_means g.constant n f m (λ p a. constant_is g n p e' (q p a)) h))
      (λ e'. tt))

  sum_means : (f g : Option Affine) (k m n : ℤ) → M f m → M g n → M (sum_of f k g) (m +ℤ (k *ℤ n))
  sum_means (Some f) (Some g) k m n h q = plus_means f k g m n h q
  sum_means (Some f) None k m n h q = tt
  sum_means None g k m n h q = tt

  product_of_means : (f g : Option Affine) (m n : ℤ) → M f m → M g n → M (product_of f g) (m *ℤ n)
  product_of_means (Some f) (Some g) m n h q = product_means f g m n h q
  product_of_means (Some f) None m n h q = tt
  product_of_means None g m n h q = tt

  negative_means : (f : Option Affine) (n : ℤ) → M f n → M (times_of (negsuc 0) f) (neg_ℤ n)
  negative_means (Some f) n h = let e : negsuc 0 *ℤ n ≡ neg_ℤ n = omega (arith, ints) in subst (M (times (negsuc 0) f)) e (times_means (negsuc 0) (negsuc 0) f n (λ p a. refl) h)
  negative_means None n h = tt

  -- the form of an operation has its result
  pub unary_means : (o : UnaryOp) (f : Option Affine) (n k : ℤ) → unary_number o n ≡ Some k → M f n → M (unary_form o f) k
  unary_means Plus f n k e h = let q : n ≡ k = cc in subst (M f) q h
  unary_means Minus f n k e h = subst (M (times_of (negsuc 0) f)) (kept_is (neg_ℤ n) k e) (negative_means f n h)
  unary_means Not f n k e h = tt

  pub binary_means : (o : BinaryOp) (f g : Option Affine) (m n k : ℤ) → binary_number o m n ≡ Some k → M f m → M g n → M (binary_form o f g) k
  binary_means Add f g m n k e h q =
      let w : m +ℤ (pos 1 *ℤ n) ≡ m +ℤ n = omega (arith, ints) in subst (M (sum_of f (pos 1) g)) (w ∙ kept_is (m +ℤ n) k e) (sum_means f g (pos 1) m n h q)
  binary_means Sub f g m n k e h q =
      let w : m +ℤ (negsuc 0 *ℤ n) ≡ m -ℤ n = omega (arith, ints) in subst (M (sum_of f (negsuc 0) g)) (w ∙ kept_is (m -ℤ n) k e) (sum_means f g (negsuc 0) m n h q)
  binary_means Mul f g m n k e h q = subst (M (product_of f g)) (kept_is (m *ℤ n) k e) (product_of_means f g m n h q)
  binary_means Div f g m n k e h q = tt
  binary_means Pow f g m n k e h q = tt
  binary_means Eq f g m n k e h q = tt
  binary_means Ne f g m n k e h q = tt
  binary_means Lt f g m n k e h q = tt
  binary_means Le f g m n k e h q = tt
  binary_means Gt f g m n k e h q = tt
  binary_means Ge f g m n k e h q = tt
  binary_means And f g m n k e h q = tt
  binary_means Or f g m n k e h q = tt
  binary_means Eqv f g m n k e h q = tt
  binary_means Neqv f g m n k e h q = tt

  pub number_means : (m n : ℤ) → n ≡ m → M (number_form m) n
  number_means m n e = limited_means (affine [] m) n (λ p a. omega (arith, ints, e))
