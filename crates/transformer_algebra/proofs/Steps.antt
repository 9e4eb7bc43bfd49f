-- Steps of the loops: terms added in order, namings looked up, and rows renamed one after the other.
use Rattle.std.proofs.Common.{◌≡◌, Bool, ℕ, zero, suc, ◌+◌, ◌-◌, ◌*◌, ◌<◌, ◌≤◌, ◌^◌, true, false, List, [], ◌∷◌, ◌++◌, length, take, drop, get_or, drop-cons, drop_of_length-le, take_all, take-append-drop, length-drop, add-one, append_assoc, append-nil, map, ℤ, pos, ◌+ℤ◌, unsigned_abs, arith, ap, ap₂, refl, sym, subst, ◌∙◌}
use Rattle.std.specs.Prelude.{if◌then◌else◌}
use Rattle.std.specs.Ordering.{int_eq}
use Rattle.std.proofs.lemmas.List.{take_more}
use Rattle.affine_systems.specs.declared.row.Var.{Var}
use Rattle.affine_systems.specs.declared.row.Term.{Term}
use Rattle.affine_systems.specs.declared.row.Row.{Row}
use Rattle.affine_systems.specs.Terms.{Ascends, var_eq, var_lt, term, term_before, add_term, renamed_terms}
use Rattle.affine_systems.specs.Rows.{row, AllRows, renamed_row}
use Rattle.affine_systems.specs.Given.{FactorsBelow, AreSmall, IsSmallRow, IsGiven}
use Rattle.affine_systems.proofs.Basics.{if_cases}
use Rattle.affine_systems.proofs.FitLaws.{abs_sum, more_factors}
use Rattle.affine_systems.proofs.AscendLaws.{ascends-renamed}
use Rattle.transformer_algebra.specs.declared.naming.Naming.{Naming}
use Rattle.transformer_algebra.specs.Renaming.{renamed_by}
use Rattle.transformer_algebra.specs.Fresh.{above_terms, above_rows}
use Rattle.affine_systems.proofs.Merges.{factors-drop, factor_at}
use Rattle.affine_systems.proofs.Three.{below-term_before as before_below}

-- ---- a term added

-- v comes behind the terms before the place
abbrev pub IsPassed : Var → ℤ → List Term → ℕ → Type 0
IsPassed v f ts i = take i ts ++ add_term v f (drop i ts) ≡ add_term v f ts

at_place : (ts : List Term) (i : ℕ) (t : Term) → i < length ts → t ≡ get_or ts i t → drop i ts ≡ t ∷ drop (suc i) ts
at_place ts i t l g = drop-cons ts i t l ∙ ap (λ (u : Term). u ∷ drop (suc i) ts) (sym g)

pub term-passed : (v : Var) (f : ℤ) (ts : List Term) (i : ℕ) (t : Term) → i < length ts → t ≡ get_or ts i t → var_eq v t.var ≡ false → var_lt v t.var ≡ false → IsPassed v f ts i → IsPassed v f ts (i + 1)
term-passed v f ts i t l g a b h =
    let x : add_term v f (drop i ts) ≡ t ∷ add_term v f (drop (suc i) ts) = ap (add_term v f) (at_place ts i t l g) ∙ rw (a, b) refl in
    let y : take (i + 1) ts ≡ take i ts ++ t ∷ [] = take_more ts i t l ∙ ap (λ (u : Term). take i ts ++ u ∷ []) (sym g) in
    ap₂ (λ (us : List Term) n. us ++ add_term v f (drop n ts)) y (add-one i)
    ∙ (append_assoc (take i ts) (t ∷ []) (add_term v f (drop (suc i) ts)) ∙ (ap (λ (us : List Term). take i ts ++ us) (sym x) ∙ h))

pub term-same : (v : Var) (f : ℤ) (ts : List Term) (i : ℕ) (t : Term) → i < length ts → t ≡ get_or ts i t → var_eq v t.var ≡ true → IsPassed v f ts i → take i ts ++ term_before v (f +ℤ t.factor) (drop (suc i) ts) ≡ add_term v f ts
term-same v f ts i t l g a h =
    let x : add_term v f (drop i ts) ≡ term_before v (f +ℤ t.factor) (drop (suc i) ts) = ap (add_term v f) (at_place ts i t l g) ∙ rw a refl in
    ap (λ (us : List Term). take i ts ++ us) (sym x) ∙ h

pub term-ahead : (v : Var) (f : ℤ) (ts : List Term) (i : ℕ) (t : Term) → i < length ts → t ≡ get_or ts i t → var_eq v t.var ≡ false → var_lt v t.var ≡ true → IsPassed v f ts i → take i ts ++ term_before v f (drop i ts) ≡ add_term v f ts
term-ahead v f ts i t l g a b h =
    let x : add_term v f (drop i ts) ≡ term_before v f (drop i ts) = ap (add_term v f) (at_place ts i t l g) ∙ (rw (a, b) refl ∙ ap (term_before v f) (sym (at_place ts i t l g))) in
    ap (λ (us : List Term). take i ts ++ us) (sym x) ∙ h

pub term-last : (v : Var) (f : ℤ) (ts : List Term) (i : ℕ) → length ts ≤ i → IsPassed v f ts i → ts ++ term_before v f [] ≡ add_term v f ts
term-last v f ts i l h = ap₂ (λ (us vs : List Term). us ++ add_term v f vs) (sym (take_all i ts l)) (sym (drop_of_length-le ts l)) ∙ h

-- a term that is not there
pub inserted-none : (v : Var) (f : ℤ) (ts : List Term) (i : ℕ) → f ≡ pos 0 → ts ≡ take i ts ++ term_before v f (drop i ts)
inserted-none v f ts i e = sym (take-append-drop i ts) ∙ ap (λ (us : List Term). take i ts ++ us) (subst (λ z. drop i ts ≡ term_before v z (drop i ts)) (sym e) refl)

-- ---- how large factors get

add_below : (m n : ℕ) (v : Var) (f : ℤ) (ts : List Term) → unsigned_abs f < m → FactorsBelow n ts → FactorsBelow (n + m) (add_term v f ts)
add_below m n v f [] h k = before_below (n + m) v f [] (omega (arith, h)) tt
add_below m n v f (t ∷ ts) h k =
    let rest = more_factors n (n + m) ts (omega arith) k.1 in
    let s = abs_sum f t.factor in
    let a = k.0 in
    if_cases (FactorsBelow (n + m)) (var_eq v t.var) (term_before v (f +ℤ t.factor) ts) (if var_lt v t.var then term_before v f (t ∷ ts) else t ∷ add_term v f ts)
    (λ e. before_below (n + m) v (f +ℤ t.factor) ts (omega (arith, h, s, a)) rest)
    (λ e. if_cases (FactorsBelow (n + m)) (var_lt v t.var) (term_before v f (t ∷ ts)) (t ∷ add_term v f ts)
    (λ g. before_below (n + m) v f (t ∷ ts) (omega (arith, h)) (omega (arith, a), rest))
    (λ g. (omega (arith, a), add_below m n v f ts h k.1)))

-- of so many terms
pub renamed_below : (m : ℕ) (g : Var → Var) (ts : List Term) → FactorsBelow m ts → FactorsBelow (length ts * m) (renamed_terms g ts)
renamed_below m g [] h = tt
renamed_below m g (t ∷ ts) h =
    subst (λ n. FactorsBelow n (renamed_terms g (t ∷ ts))) (omega arith) (add_below m (length ts * m) (g t.var) t.factor (renamed_terms g ts) h.0 (renamed_below m g ts h.1))

-- ---- terms renamed from the last to the first

pub renamed-more : (g : Var → Var) (ts out new : List Term) (i : ℕ) (d : Term) → i < length ts → out ≡ renamed_terms g (drop (i + 1) ts) → new ≡ add_term (g (get_or ts i d).var) (get_or ts i d).factor out → new ≡ renamed_terms g (drop i ts)
renamed-more g ts out new i d l e h =
    h ∙ (ap (add_term (g (get_or ts i d).var) (get_or ts i d).factor) (e ∙ ap (λ n. renamed_terms g (drop n ts)) (add-one i)) ∙ ap (renamed_terms g) (sym (drop-cons ts i d l)))

-- ---- a term taken out, and put in with another factor

cut_take : (ts : List Term) (i : ℕ) (us : List Term) → i ≤ length ts → take i (take i ts ++ us) ≡ take i ts
cut_take ts zero us h = refl
cut_take [] (suc i) us h = absurd (omega (arith, h))
cut_take (t ∷ ts) (suc i) us h = ap (λ (vs : List Term). t ∷ vs) (cut_take ts i us (omega (arith, h)))

cut_drop : (ts : List Term) (i : ℕ) (us : List Term) → i ≤ length ts → drop i (take i ts ++ us) ≡ us
cut_drop ts zero us h = refl
cut_drop [] (suc i) us h = absurd (omega (arith, h))
cut_drop (t ∷ ts) (suc i) us h = cut_drop ts i us (omega (arith, h))

pub term-changed : (v : Var) (f s : ℤ) (ts rs given : List Term) (i : ℕ) (t : Term) → i < length ts → t ≡ get_or ts i t → var_eq v t.var ≡ true → rs ≡ take i ts ++ drop (suc i) ts → s ≡ f +ℤ t.factor → ts ≡ given → IsPassed v f ts i → take i rs ++ term_before v s (drop i rs) ≡ add_term v f given
term-changed v f s ts rs given i t l g a r q o h =
    let k : i ≤ length ts = omega (arith, l) in
    let x : take i rs ≡ take i ts = ap (take i) r ∙ cut_take ts i (drop (suc i) ts) k in
    let y : drop i rs ≡ drop (suc i) ts = ap (drop i) r ∙ cut_drop ts i (drop (suc i) ts) k in
    ap₂ (λ (us vs : List Term). us ++ term_before v s vs) x y
    ∙ (ap (λ z. take i ts ++ term_before v z (drop (suc i) ts)) q ∙ (term-same v f ts i t l g a h ∙ ap (add_term v f) o))

pub term-put : (v : Var) (f : ℤ) (ts given : List Term) (i : ℕ) (t : Term) → i < length ts → t ≡ get_or ts i t → var_eq v t.var ≡ false → var_lt v t.var ≡ true → ts ≡ given → IsPassed v f ts i → take i ts ++ term_before v f (drop i ts) ≡ add_term v f given
term-put v f ts given i t l g a b o h = term-ahead v f ts i t l g a b h ∙ ap (add_term v f) o

-- ---- renamed terms of a slice, which has fewer than 2^64

pub renamed_given : (g : Var → Var) (ts out : List Term) (i : ℕ) → FactorsBelow (2 ^ 62) ts → length ts < 2 ^ 64 → out ≡ renamed_terms g (drop i ts) → FactorsBelow (2 ^ 126) out
renamed_given g ts out i h l e =
    let k = renamed_below (2 ^ 62) g (drop i ts) (factors-drop (2 ^ 62) ts i h) in
    let d : length (drop i ts) ≤ length ts = simp length-drop (omega arith) in
    subst (FactorsBelow (2 ^ 126)) (sym e) (more_factors (length (drop i ts) * 2 ^ 62) (2 ^ 126) (renamed_terms g (drop i ts)) (omega (arith, d, l)) k)

pub row_given : (g : Var → Var) (ts out : List Term) (b : ℤ) (e : Bool) → out ≡ renamed_terms g ts → FactorsBelow (2 ^ 126) out → unsigned_abs b < 2 ^ 126 → IsGiven (row e out b)
row_given g ts out b e q h k = (subst Ascends (sym q) (ascends-renamed g ts), k, h)
