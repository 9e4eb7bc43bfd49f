-- Points with numbers at fresh variables, and rows without them.
use Rattle.std.proofs.Common.{◌≡◌, ℕ, zero, suc, ◌+◌, ◌<◌, Bool, true, false, List, [], ◌∷◌, ◌++◌, map, length, ℤ, pos, ◌-ℤ◌, ◌*ℤ◌, ◌+ℤ◌, arith, ap, refl, sym, subst, ◌∙◌, ⊎_elim}
use Rattle.std.proofs.lemmas.Int.{ints}
use Rattle.std.proofs.lemmas.Bool.Decides.{Decides-eqb}
use Rattle.std.proofs.lemmas.Bool.{cases_Bool}
use Rattle.affine_systems.specs.declared.row.Var.{Var}
use Rattle.affine_systems.specs.declared.row.Var.TheVariants.{Aux}
use Rattle.affine_systems.specs.declared.row.Term.{Term}
use Rattle.affine_systems.specs.declared.row.Row.{Row}
use Rattle.affine_systems.specs.Terms.{var_eq, number}
use Rattle.affine_systems.specs.Points.{Point, value, Meets, HoldsAll, moved, only, factor_of}
use Rattle.hull_projection.specs.Hull.{place_of}
use Rattle.hull_projection.specs.Laws.{IsOneOf}
use Rattle.affine_systems.proofs.TermLaws.{var_eq-true, true-var_eq}
use Rattle.affine_systems.proofs.ExactLaws.{value-moved}
use Rattle.affine_systems.proofs.LackLaws.{RowsNil, factor-only}
use Rattle.hull_projection.proofs.VarLaws.{TermsIn, RowsIn, IsOld, old_more}
use Rattle.fx_lists.proofs.Booleans.{clash}

abbrev pub with_aux : Point → ℕ → List ℤ → Point
with_aux p n [] = p
with_aux p n (x ∷ xs) = moved (with_aux p (suc n) xs) (Aux n) x

pub aux_eq : (m n : ℕ) → m ≡ n → var_eq (Aux m) (Aux n) ≡ true
unfolding var_eq
aux_eq m n e = (Decides-eqb m n).1 e

pub aux_apart : (m n : ℕ) → m < n → var_eq (Aux m) (Aux n) ≡ false
aux_apart m n l = go (var_eq (Aux m) (Aux n)) refl where
  go : (b : Bool) → var_eq (Aux m) (Aux n) ≡ b → var_eq (Aux m) (Aux n) ≡ false
  go true e = let k : m ≡ n = ap number (var_eq-true (Aux m) (Aux n) e) in absurd (omega (arith, k, l))
  go false e = e

pub old_apart : (n : ℕ) (v : Var) → IsOld n v → var_eq (Aux n) v ≡ false
old_apart n v o = go (var_eq (Aux n) v) refl where
  go : (b : Bool) → var_eq (Aux n) v ≡ b → var_eq (Aux n) v ≡ false
  go true e = let k : IsOld n (Aux n) = subst (IsOld n) (sym (var_eq-true (Aux n) v e)) o in absurd (omega (arith, k))
  go false e = e

pub with_aux_old : (p : Point) (n : ℕ) (xs : List ℤ) (v : Var) → IsOld n v → with_aux p n xs v ≡ p v
with_aux_old p n [] v o = refl
with_aux_old p n (x ∷ xs) v o = rw (old_apart n v o) (with_aux_old p (suc n) xs v (old_more n (suc n) v (omega arith) o))

abbrev pub lift : Point → (Var → ℤ) → ℤ → ℕ → List Var → Point
lift p f z n xs = with_aux p n (map f xs ++ z ∷ [])

pub lift_at : (p : Point) (f : Var → ℤ) (z : ℤ) (n : ℕ) (xs : List Var) (v : Var) → IsOneOf v xs → (m : ℕ) → m ≡ n + place_of v xs → lift p f z n xs (Aux m) ≡ f v
lift_at p f z n [] v h m e = absurd h
lift_at p f z n (w ∷ ws) v h m e =
    ⊎_elim
    (λ t. let a : place_of v (w ∷ ws) ≡ 0 = rw t refl in
    let k : n ≡ m = omega (arith, a, e) in
    rw (aux_eq n m k) (ap f (sym (var_eq-true v w t))))
    (λ t. let a : place_of v (w ∷ ws) ≡ suc (place_of v ws) = rw t refl in
    let k : m ≡ suc n + place_of v ws = omega (arith, a, e) in
    let l : n < m = omega (arith, k) in
    let i : IsOneOf v ws = ⊎_elim (λ s. clash (var_eq v w) (true-var_eq v w s) t) (λ s. s) h in
    rw (aux_apart n m l) (lift_at p f z (suc n) ws v i m k))
    (cases_Bool (var_eq v w))

pub lift_last : (p : Point) (f : Var → ℤ) (z : ℤ) (n : ℕ) (xs : List Var) (m : ℕ) → m ≡ n + length xs → lift p f z n xs (Aux m) ≡ z
lift_last p f z n [] m e = let k : n ≡ m = omega (arith, e) in rw (aux_eq n m k) refl
lift_last p f z n (w ∷ ws) m e =
    let l : n < m = omega (arith, e) in
    let k : m ≡ suc n + length ws = omega (arith, e) in
    rw (aux_apart n m l) (lift_last p f z (suc n) ws m k)

-- rows without those variables
abbrev pub AllLack : ℕ → ℕ → List Row → Type 0
AllLack n zero rs = Unit {0}
AllLack n (suc k) rs = RowsNil (only (Aux n)) rs × AllLack (suc n) k rs

pub moves_back : (p : Point) (v : Var) (x : ℤ) (rs : List Row) → RowsNil (only v) rs → HoldsAll (moved p v x) rs → HoldsAll p rs
moves_back p v x [] n h = tt
moves_back p v x (r ∷ rs) n h =
    let m = value-moved p v x r.terms in
    let z : factor_of v r.terms ≡ pos 0 = factor-only v r.terms ∙ n.0 in
    let k : factor_of v r.terms *ℤ (x -ℤ p v) ≡ pos 0 *ℤ (x -ℤ p v) = ap (λ y. y *ℤ (x -ℤ p v)) z in
    let e : value (moved p v x) r.terms ≡ value p r.terms = omega (arith, ints, m, k) in
    (subst (λ (y : ℤ). Meets r.equal y r.bound) e h.0, moves_back p v x rs n.1 h.1)

pub with_aux_back : (p : Point) (n : ℕ) (xs : List ℤ) (rs : List Row) → AllLack n (length xs) rs → HoldsAll (with_aux p n xs) rs → HoldsAll p rs
with_aux_back p n [] rs l h = h
with_aux_back p n (x ∷ xs) rs l h = with_aux_back p (suc n) xs rs l.1 (moves_back (with_aux p (suc n) xs) (Aux n) x rs l.0 h)

-- ---- points that agree on the variables of rows

abbrev pub Agree : Point → Point → List Term → Type 0
Agree p q [] = Unit {0}
Agree p q (t ∷ ts) = (p t.var ≡ q t.var) × Agree p q ts

pub value-agrees : (p q : Point) (ts : List Term) → Agree p q ts → value p ts ≡ value q ts
value-agrees p q [] h = refl
value-agrees p q (t ∷ ts) h =
    let ih = value-agrees p q ts h.1 in
    let k : t.factor *ℤ p t.var ≡ t.factor *ℤ q t.var = ap (λ x. t.factor *ℤ x) h.0 in
    omega (arith, ints, ih, k)

pub agree_from : (p q : Point) (xs : List Var) (ts : List Term) → ((v : Var) → IsOneOf v xs → p v ≡ q v) → TermsIn xs ts → Agree p q ts
agree_from p q xs [] f h = tt
agree_from p q xs (t ∷ ts) f h = (f t.var h.0, agree_from p q xs ts f h.1)

pub agree_hold : (p q : Point) (xs : List Var) (rs : List Row) → ((v : Var) → IsOneOf v xs → p v ≡ q v) → RowsIn xs rs → HoldsAll p rs → HoldsAll q rs
agree_hold p q xs [] f i h = tt
agree_hold p q xs (r ∷ rs) f i h =
    (subst (λ (x : ℤ). Meets r.equal x r.bound) (value-agrees p q r.terms (agree_from p q xs r.terms f i.0)) h.0, agree_hold p q xs rs f i.1 h.1)

pub value-zero : (ts : List Term) → value (λ v. pos 0) ts ≡ pos 0
value-zero [] = refl
value-zero (t ∷ ts) = let ih = value-zero ts in omega (arith, ints, ih)

pub value-append : (p : Point) (ts us : List Term) → value p (ts ++ us) ≡ value p ts +ℤ value p us
value-append p [] us = omega (arith, ints)
value-append p (t ∷ ts) us = let ih = value-append p ts us in omega (arith, ints, ih)
