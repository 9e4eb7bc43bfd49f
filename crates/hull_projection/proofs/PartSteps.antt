-- Steps of the difference: parts that are added, and the hull of many.
use Rattle.std.proofs.Common.{◌≡◌, ℕ, zero, suc, ◌+◌, ◌<◌, ◌≤◌, Bool, true, false, List, [], ◌∷◌, ◌++◌, map, length, drop, get_or, drop-cons, drop_of_length-le, add-one, append_assoc, append-nil, arith, ap, ap₂, refl, sym, subst, ◌∙◌}
use Rattle.std.specs.Prelude.{if◌then◌else◌}
use Rattle.affine_systems.specs.declared.row.Row.{Row}
use Rattle.affine_systems.specs.declared.row.System.{System}
use Rattle.affine_systems.specs.Rows.{AllRows}
use Rattle.affine_systems.specs.Given.{IsSmallRow, Fits}
use Rattle.affine_systems.specs.Calls.{push_row}
use Rattle.hull_projection.specs.Refute.{refuted, above, below, negations}
use Rattle.hull_projection.specs.Clean.{clean}
use Rattle.hull_projection.specs.Hull.{hull}
use Rattle.hull_projection.specs.Minus.{AllFit, all_negations, part_before, parts, hull_all}

pub all_fit_push : (ss new : List System) (s : System) → AllFit ss → Fits s → new ≡ ss ++ s ∷ [] → AllFit new
all_fit_push ss new s h k e = subst AllFit (sym e) (go ss h) where
  go : (ts : List System) → AllFit ts → AllFit (ts ++ s ∷ [])
  go [] h = (k, tt)
  go (t ∷ ts) h = (h.0, go ts h.1)

pub part-out : (out : List System) (a s : System) (n : Row) → s ≡ push_row a n → refuted s.rows ≡ true → out ≡ out ++ parts a (n ∷ [])
part-out out a s n e r =
    let f : refuted (push_row a n).rows ≡ true = ap (λ (t : System). refuted t.rows) (sym e) ∙ r in
    sym (ap (λ b. out ++ (if b then [] else push_row a n ∷ [])) f ∙ append-nil out)

pub part-in : (out new : List System) (a s : System) (n : Row) → s ≡ push_row a n → refuted s.rows ≡ false → new ≡ out ++ s ∷ [] → new ≡ out ++ parts a (n ∷ [])
part-in out new a s n e r p =
    let f : refuted (push_row a n).rows ≡ false = ap (λ (t : System). refuted t.rows) (sym e) ∙ r in
    p ∙ (ap (λ (t : System). out ++ t ∷ []) e ∙ sym (ap (λ b. out ++ (if b then [] else push_row a n ∷ [])) f))

pub ruleset part_steps = (all_fit_push, part-out, part-in)

part_before-append : (s : System) (us vs : List System) → part_before s (us ++ vs) ≡ part_before s us ++ vs
part_before-append s us vs = go (refuted s.rows) where
  go : (b : Bool) → (if b then us ++ vs else s ∷ (us ++ vs)) ≡ (if b then us else s ∷ us) ++ vs
  go true = refl
  go false = refl

parts-append : (a : System) (ns ms : List Row) → parts a (ns ++ ms) ≡ parts a ns ++ parts a ms
parts-append a [] ms = refl
parts-append a (n ∷ ns) ms =
    ap (part_before (push_row a n)) (parts-append a ns ms) ∙ part_before-append (push_row a n) (parts a ns) (parts a ms)

pub parts-one : (out new : List System) (a : System) (r s : Row) → r.equal ≡ false → s ≡ above r → new ≡ out ++ parts a (s ∷ []) → new ≡ out ++ parts a (negations r)
parts-one out new a r s q e n = n ∙ (ap (λ (x : Row). out ++ parts a (x ∷ [])) e ∙ ap (λ b. out ++ parts a (if b then above r ∷ below r ∷ [] else above r ∷ [])) (sym q))

pub parts-two : (out one new : List System) (a : System) (r s t : Row) → r.equal ≡ true → s ≡ above r → t ≡ below r → one ≡ out ++ parts a (s ∷ []) → new ≡ one ++ parts a (t ∷ []) → new ≡ out ++ parts a (negations r)
parts-two out one new a r s t q e f m n =
    n ∙ (ap₂ (λ (us : List System) (x : Row). us ++ parts a (x ∷ [])) (m ∙ ap (λ (x : Row). out ++ parts a (x ∷ [])) e) f
    ∙ (append_assoc out (parts a (above r ∷ [])) (parts a (below r ∷ []))
    ∙ (ap (λ (us : List System). out ++ us) (sym (parts-append a (above r ∷ []) (below r ∷ []))) ∙ ap (λ b. out ++ parts a (if b then above r ∷ below r ∷ [] else above r ∷ [])) (sym q))))

pub parts-more : (out new goal : List System) (a : System) (rs : List Row) (k : ℕ) (r : Row) → k < length rs → r ≡ get_or rs k r → new ≡ out ++ parts a (negations r) → out ++ parts a (all_negations (drop k rs)) ≡ goal → new ++ parts a (all_negations (drop (k + 1) rs)) ≡ goal
parts-more out new goal a rs k r l g n h =
    let x : drop k rs ≡ r ∷ drop (suc k) rs = drop-cons rs k r l ∙ ap (λ (s : Row). s ∷ drop (suc k) rs) (sym g) in
    ap₂ (λ (us : List System) m. us ++ parts a (all_negations (drop m rs))) n (add-one k)
    ∙ (append_assoc out (parts a (negations r)) (parts a (all_negations (drop (suc k) rs)))
    ∙ (ap (λ (us : List System). out ++ us) (sym (parts-append a (negations r) (all_negations (drop (suc k) rs))) ∙ sym (ap (λ (ss : List Row). parts a (all_negations ss)) x)) ∙ h))

pub parts-end : (out goal : List System) (a : System) (rs : List Row) (k : ℕ) → length rs ≤ k → out ++ parts a (all_negations (drop k rs)) ≡ goal → out ≡ goal
parts-end out goal a rs k l h = sym (append-nil out) ∙ (ap (λ (ss : List Row). out ++ parts a (all_negations ss)) (sym (drop_of_length-le rs l)) ∙ h)

pub small_row_at : (rs : List Row) (k : ℕ) (r : Row) → AllRows IsSmallRow rs → k < length rs → r ≡ get_or rs k r → IsSmallRow r
small_row_at [] k r h l g = absurd (omega (arith, l))
small_row_at (s ∷ ss) zero r h l g = subst IsSmallRow (sym g) h.0
small_row_at (s ∷ ss) (suc k) r h l g = small_row_at ss k r h.1 (omega (arith, l)) g

pub ruleset parts_steps = (parts-one, parts-two, parts-more, parts-end, small_row_at)

pub hulls-more : (s t goal : System) (ss : List System) (k : ℕ) (u : System) → k < length ss → u ≡ get_or ss k u → t ≡ hull s u → hull_all s (drop k ss) ≡ goal → hull_all t (drop (k + 1) ss) ≡ goal
hulls-more s t goal ss k u l g e h =
    let x : drop k ss ≡ u ∷ drop (suc k) ss = drop-cons ss k u l ∙ ap (λ (v : System). v ∷ drop (suc k) ss) (sym g) in
    ap₂ (λ (v : System) m. hull_all v (drop m ss)) e (add-one k) ∙ (sym (ap (hull_all s) x) ∙ h)

pub hulls-end : (s goal : System) (ss : List System) (k : ℕ) → length ss ≤ k → hull_all s (drop k ss) ≡ goal → s ≡ goal
hulls-end s goal ss k l h = sym (ap (hull_all s) (drop_of_length-le ss l)) ∙ h

pub fit_at : (ss : List System) (k : ℕ) (s : System) → AllFit ss → k < length ss → s ≡ get_or ss k s → Fits s
fit_at [] k s h l g = absurd (omega (arith, l))
fit_at (t ∷ ts) zero s h l g = subst Fits (sym g) h.0
fit_at (t ∷ ts) (suc k) s h l g = fit_at ts k s h.1 (omega (arith, l)) g

pub ruleset hulls_steps = (hulls-more, hulls-end, fit_at)

pub cleaned-more : (out new goal ss : List System) (k : ℕ) (s t : System) → k < length ss → s ≡ get_or ss k s → t ≡ clean s → new ≡ out ++ t ∷ [] → out ++ map clean (drop k ss) ≡ goal → new ++ map clean (drop (k + 1) ss) ≡ goal
cleaned-more out new goal ss k s t l g e n h =
    let x : drop k ss ≡ s ∷ drop (suc k) ss = drop-cons ss k s l ∙ ap (λ (v : System). v ∷ drop (suc k) ss) (sym g) in
    ap₂ (λ (us : List System) m. us ++ map clean (drop m ss)) (n ∙ ap (λ (v : System). out ++ v ∷ []) e) (add-one k)
    ∙ (append_assoc out (clean s ∷ []) (map clean (drop (suc k) ss)) ∙ (ap (λ (vs : List System). out ++ map clean vs) (sym x) ∙ h))

pub cleaned-end : (out goal ss : List System) (k : ℕ) → length ss ≤ k → out ++ map clean (drop k ss) ≡ goal → out ≡ goal
cleaned-end out goal ss k l h = sym (append-nil out) ∙ (ap (λ (vs : List System). out ++ map clean vs) (sym (drop_of_length-le ss l)) ∙ h)

pub ruleset cleaned_steps = (cleaned-more, cleaned-end, fit_at, all_fit_push)
