-- The values of terms.
use Rattle.std.proofs.Common.{◌≡◌, true, List, [], ◌∷◌, ℤ, pos, ◌+ℤ◌, ◌*ℤ◌, arith, ap, refl, subst, ◌∙◌, int_eq}
use Rattle.std.specs.Prelude.{if◌then◌else◌, nat_eq}
use Rattle.std.proofs.lemmas.Int.{ints}
use Rattle.std.proofs.lemmas.Bool.Decides.{Decides-eqb}
use Rattle.std.proofs.lemmas.Bool.{and_parts}
use Rattle.affine_systems.specs.declared.row.Var.{Var}
use Rattle.affine_systems.specs.declared.row.Term.{Term}
use Rattle.affine_systems.specs.declared.row.Var.TheVariants.{Cell, Exit, Phi, Aux}
use Rattle.affine_systems.specs.Terms.{kind, number, var_eq, var_lt, term, term_before, add_term, add_terms}
use Rattle.affine_systems.specs.Points.{Point, value}
use Rattle.affine_systems.proofs.Basics.{if_cases, distributes, distributes_right, mul_assoc}
use Rattle.fx_lists.proofs.Numbers.{is_number, same_is}

pub same_parts : (v w : Var) → kind v ≡ kind w → number v ≡ number w → v ≡ w
same_parts (Cell m) (Cell n) e f = ap Cell f
same_parts (Exit m) (Exit n) e f = ap Exit f
same_parts (Phi m) (Phi n) e f = ap Phi f
same_parts (Aux m) (Aux n) e f = ap Aux f
same_parts (Cell m) (Exit n) e f = absurd (omega arith)
same_parts (Cell m) (Phi n) e f = absurd (omega arith)
same_parts (Cell m) (Aux n) e f = absurd (omega arith)
same_parts (Exit m) (Cell n) e f = absurd (omega arith)
same_parts (Exit m) (Phi n) e f = absurd (omega arith)
same_parts (Exit m) (Aux n) e f = absurd (omega arith)
same_parts (Phi m) (Cell n) e f = absurd (omega arith)
same_parts (Phi m) (Exit n) e f = absurd (omega arith)
same_parts (Phi m) (Aux n) e f = absurd (omega arith)
same_parts (Aux m) (Cell n) e f = absurd (omega arith)
same_parts (Aux m) (Exit n) e f = absurd (omega arith)
same_parts (Aux m) (Phi n) e f = absurd (omega arith)

pub var_eq-true : (v w : Var) → var_eq v w ≡ true → v ≡ w
unfolding var_eq
var_eq-true v w e =
    let h = and_parts (nat_eq (kind v) (kind w)) (nat_eq (number v) (number w)) e in
    same_parts v w (same_is (kind v) (kind w) h.0) (same_is (number v) (number w) h.1)

pub value-term_before : (p : Point) (v : Var) (f : ℤ) (ts : List Term) → value p (term_before v f ts) ≡ (f *ℤ p v) +ℤ value p ts
value-term_before p v f ts =
    if_cases (λ us. value p us ≡ (f *ℤ p v) +ℤ value p ts) (int_eq f (pos 0)) ts (term v f ∷ ts)
    (λ e. let z : f ≡ pos 0 = is_number f (pos 0) e in rw z (omega (arith, ints)))
    (λ e. refl)

pub value-add_term : (p : Point) (v : Var) (f : ℤ) (ts : List Term) → value p (add_term v f ts) ≡ (f *ℤ p v) +ℤ value p ts
value-add_term p v f [] = value-term_before p v f []
value-add_term p v f (t ∷ ts) =
    let P = λ (us : List Term). value p us ≡ (f *ℤ p v) +ℤ ((t.factor *ℤ p t.var) +ℤ value p ts) in
    if_cases P (var_eq v t.var) (term_before v (f +ℤ t.factor) ts) (if var_lt v t.var then term_before v f (t ∷ ts) else t ∷ add_term v f ts)
    (λ e. let z : p v ≡ p t.var = ap p (var_eq-true v t.var e) in
    let d = distributes_right f t.factor (p v) in
    let k : t.factor *ℤ p v ≡ t.factor *ℤ p t.var = ap (λ x. t.factor *ℤ x) z in
    value-term_before p v (f +ℤ t.factor) ts ∙ omega (arith, ints, d, k))
    (λ e. if_cases P (var_lt v t.var) (term_before v f (t ∷ ts)) (t ∷ add_term v f ts)
    (λ l. value-term_before p v f (t ∷ ts))
    (λ l. let ih = value-add_term p v f ts in omega (arith, ints, ih)))

pub value-add_terms : (p : Point) (c : ℤ) (ts us : List Term) → value p (add_terms c ts us) ≡ (c *ℤ value p ts) +ℤ value p us
value-add_terms p c [] us = omega (arith, ints)
value-add_terms p c (t ∷ ts) us =
    value-add_term p t.var (c *ℤ t.factor) (add_terms c ts us)
    ∙ (let ih = value-add_terms p c ts us in
    let d = distributes c (t.factor *ℤ p t.var) (value p ts) in
    let a = mul_assoc c t.factor (p t.var) in
    omega (arith, ints, ih, d, a))

var_eq-itself : (v : Var) → var_eq v v ≡ true
unfolding var_eq
var_eq-itself (Cell n) = (Decides-eqb n n).1 refl
var_eq-itself (Exit n) = (Decides-eqb n n).1 refl
var_eq-itself (Phi n) = (Decides-eqb n n).1 refl
var_eq-itself (Aux n) = (Decides-eqb n n).1 refl

pub true-var_eq : (v w : Var) → v ≡ w → var_eq v w ≡ true
true-var_eq v w e = subst (λ (u : Var). var_eq v u ≡ true) e (var_eq-itself v)
