-- Ascending terms, combined from the front.
use Rattle.std.proofs.Common.{◌≡◌, ℕ, zero, suc, ◌+◌, ◌<◌, ◌≤◌, Bool, true, false, List, [], ◌∷◌, ◌++◌, length, take, take_all, length-drop, ◌-◌, drop, get_or, add-one, drop-cons, drop_of_length-le, append-nil, append_assoc, ◌⊎◌, inl, inr, ap₂, unsigned_abs, ◌^◌, ℤ, pos, ◌+ℤ◌, ◌*ℤ◌, arith, ap, refl, sym, subst, ◌∙◌, int_eq, Ordering}
use Rattle.std.specs.Prelude.{if◌then◌else◌}
use Rattle.std.specs.declared.cmp.Ordering.TheVariants.{Less, Equal, Greater}
use Rattle.std.specs.Ordering.{ordering_then, nat_cmp, is_eq, MatchOrdering}
use Rattle.std.proofs.lemmas.Int.{ints}
use Rattle.std.proofs.lemmas.Cmp.{ranked}
use Rattle.affine_systems.specs.declared.row.Var.{Var}
use Rattle.affine_systems.specs.declared.row.Term.{Term}
use Rattle.affine_systems.specs.Terms.{kind, number, var_eq, var_lt, term, term_before, add_term, add_terms, IsBefore, Ascends}
use Rattle.affine_systems.specs.Rows.{combined_terms, var_cmp}
use Rattle.affine_systems.specs.Points.{factor_of}
use Rattle.affine_systems.specs.Given.{FactorsBelow, AreSmall}
use Rattle.affine_systems.proofs.TermLaws.{true-var_eq}
use Rattle.affine_systems.proofs.OrderLaws.{var_cmp-equal}
use Rattle.affine_systems.proofs.AscendLaws.{parts_lt, var_lt-apart, var_lt-one_way, var_eq-sym, before_later, before-add_terms, factor_of-first, factor_of-there, factor_of-before, factor_of-nil, ComesBefore}
use Rattle.fx_lists.proofs.Numbers.{is_number}

-- ---- what a comparison says

pub order_less : (v w : Var) → var_cmp v w ≡ Less → var_lt v w ≡ true
order_less v w e = parts_lt v w (go (nat_cmp (kind v) (kind w)) (ranked (kind v) (kind w) (nat_cmp (kind v) (kind w)) refl) e) where
  numbers : kind v ≡ kind w → (o : Ordering) → MatchOrdering o (number v < number w) (number v ≡ number w) (number w < number v) → o ≡ Less → ComesBefore v w
  numbers k Less m f = inr (k, m)
  numbers k Equal m f = cc
  numbers k Greater m f = cc

  go : (o : Ordering) → MatchOrdering o (kind v < kind w) (kind v ≡ kind w) (kind w < kind v) → ordering_then o (nat_cmp (number v) (number w)) ≡ Less → ComesBefore v w
  go Less m f = inl m
  go Equal m f = numbers m (nat_cmp (number v) (number w)) (ranked (number v) (number w) (nat_cmp (number v) (number w)) refl) f
  go Greater m f = cc

pub order_greater : (v w : Var) → var_cmp v w ≡ Greater → var_lt w v ≡ true
order_greater v w e = parts_lt w v (go (nat_cmp (kind v) (kind w)) (ranked (kind v) (kind w) (nat_cmp (kind v) (kind w)) refl) e) where
  numbers : kind v ≡ kind w → (o : Ordering) → MatchOrdering o (number v < number w) (number v ≡ number w) (number w < number v) → o ≡ Greater → ComesBefore w v
  numbers k Less m f = cc
  numbers k Equal m f = cc
  numbers k Greater m f = inr (sym k, m)

  go : (o : Ordering) → MatchOrdering o (kind v < kind w) (kind v ≡ kind w) (kind w < kind v) → ordering_then o (nat_cmp (number v) (number w)) ≡ Greater → ComesBefore w v
  go Less m f = cc
  go Equal m f = numbers m (nat_cmp (number v) (number w)) (ranked (number v) (number w) (nat_cmp (number v) (number w)) refl) f
  go Greater m f = inl m

pub order_equal : (v w : Var) → var_cmp v w ≡ Equal → v ≡ w
order_equal v w e = var_cmp-equal v w (ap is_eq e)

-- ---- parts of ascending terms

pub ascends-drop : (ts : List Term) (i : ℕ) → Ascends ts → Ascends (drop i ts)
ascends-drop [] zero a = tt
ascends-drop [] (suc i) a = tt
ascends-drop (t ∷ ts) zero a = a
ascends-drop (t ∷ ts) (suc i) a = ascends-drop ts i a.2

pub factors-drop : (n : ℕ) (ts : List Term) (i : ℕ) → FactorsBelow n ts → FactorsBelow n (drop i ts)
factors-drop n [] zero h = tt
factors-drop n [] (suc i) h = tt
factors-drop n (t ∷ ts) zero h = h
factors-drop n (t ∷ ts) (suc i) h = factors-drop n ts i h.1

pub small-drop : (ts : List Term) (i : ℕ) → AreSmall ts → AreSmall (drop i ts)
small-drop ts i h = (ascends-drop ts i h.0, factors-drop (2 ^ 62) ts i h.1)

pub factor_at : (n : ℕ) (ts : List Term) (i : ℕ) (d : Term) → FactorsBelow n ts → i < length ts → unsigned_abs (get_or ts i d).factor < n
factor_at n [] i d h l = absurd (omega arith)
factor_at n (t ∷ ts) zero d h l = h.0
factor_at n (t ∷ ts) (suc i) d h l = factor_at n ts i d h.1 (omega arith)

pub small_at : (ts : List Term) (i : ℕ) (d : Term) → AreSmall ts → i < length ts → unsigned_abs (get_or ts i d).factor < 2 ^ 62
small_at ts i d h l = factor_at (2 ^ 62) ts i d h.1 l

-- ---- the factor of a variable, from a place on

pub factor_of-skip : (v : Var) (ts : List Term) (i : ℕ) (d : Term) → i < length ts → var_cmp (get_or ts i d).var v ≡ Less → factor_of v (drop i ts) ≡ factor_of v (drop (i + 1) ts)
factor_of-skip v ts i d l o =
    let t = get_or ts i d in
    rw (add-one, drop-cons ts i d) (factor_of-there v t (drop (suc i) ts) (var_eq-sym t.var v (var_lt-apart t.var v (order_less t.var v o))))

pub factor_of-found : (v : Var) (ts : List Term) (i : ℕ) (d : Term) → i < length ts → Ascends ts → var_cmp (get_or ts i d).var v ≡ Equal → factor_of v (drop i ts) ≡ (get_or ts i d).factor
factor_of-found v ts i d l a o =
    let t = get_or ts i d in
    let e : drop i ts ≡ t ∷ drop (suc i) ts = drop-cons ts i d l in
    let b : Ascends (t ∷ drop (suc i) ts) = subst Ascends e (ascends-drop ts i a) in
    ap (factor_of v) e ∙ factor_of-first v t (drop (suc i) ts) b (true-var_eq v t.var (sym (order_equal t.var v o)))

pub factor_of-passed : (v : Var) (ts : List Term) (i : ℕ) (d : Term) → i < length ts → Ascends ts → var_cmp (get_or ts i d).var v ≡ Greater → factor_of v (drop i ts) ≡ pos 0
factor_of-passed v ts i d l a o =
    let t = get_or ts i d in
    let e : drop i ts ≡ t ∷ drop (suc i) ts = drop-cons ts i d l in
    let b : Ascends (t ∷ drop (suc i) ts) = subst Ascends e (ascends-drop ts i a) in
    let g = order_greater t.var v o in
    ap (factor_of v) e ∙ factor_of-before v (t ∷ drop (suc i) ts) (g, before_later v t.var (drop (suc i) ts) g b.1)

pub factor_of-end : (v : Var) (ts : List Term) (i : ℕ) → length ts ≤ i → factor_of v (drop i ts) ≡ pos 0
factor_of-end v ts i l = ap (factor_of v) (drop_of_length-le ts l) ∙ factor_of-nil v

-- ---- a term at the front

add_term-front : (v : Var) (f : ℤ) (ts : List Term) → IsBefore v ts → add_term v f ts ≡ term_before v f ts
add_term-front v f [] h = refl
add_term-front v f (t ∷ ts) h = rw (var_lt-apart v t.var h.0) (rw h.0 refl)

-- a term added behind another
add_term-behind : (w : Var) (g : ℤ) (v : Var) (f : ℤ) (ts : List Term) → var_lt w v ≡ true → IsBefore w ts → add_term v f (term_before w g ts) ≡ term_before w g (add_term v f ts)
add_term-behind w g v f ts l h =
    let e = var_eq-sym w v (var_lt-apart w v l) in
    let o = var_lt-one_way w v l in
    go (int_eq g (pos 0)) e o
  where
    go : (b : Bool) → var_eq v w ≡ false → var_lt v w ≡ false → add_term v f (if b then ts else term w g ∷ ts) ≡ (if b then add_term v f ts else term w g ∷ add_term v f ts)
    go true e o = refl
    go false e o = rw e (rw o refl)

add_terms-behind : (w : Var) (g c : ℤ) (ts us : List Term) → IsBefore w ts → IsBefore w us → add_terms c ts (term_before w g us) ≡ term_before w g (add_terms c ts us)
add_terms-behind w g c [] us h k = refl
add_terms-behind w g c (t ∷ ts) us h k =
    ap (add_term t.var (c *ℤ t.factor)) (add_terms-behind w g c ts us h.1 k)
    ∙ add_term-behind w g t.var (c *ℤ t.factor) (add_terms c ts us) h.0 (before-add_terms w c ts us h.1 k)

-- a term added to one with its variable
add_term-same : (v : Var) (f g : ℤ) (ts : List Term) → IsBefore v ts → add_term v f (term_before v g ts) ≡ term_before v (f +ℤ g) ts
add_term-same v f g ts h = go (int_eq g (pos 0)) refl where
  go : (b : Bool) → int_eq g (pos 0) ≡ b → add_term v f (if b then ts else term v g ∷ ts) ≡ term_before v (f +ℤ g) ts
  go true e =
      let z = is_number g (pos 0) e in
      let s : f ≡ f +ℤ g = omega (arith, ints, z) in
      add_term-front v f ts h ∙ ap (λ x. term_before v x ts) s
  go false e = rw (true-var_eq v v refl) refl

scaled-first : (c : ℤ) (t : Term) (ts us : List Term) → IsBefore t.var ts → IsBefore t.var us → add_terms c (t ∷ ts) us ≡ term_before t.var (c *ℤ t.factor) (add_terms c ts us)
scaled-first c t ts us h k = add_term-front t.var (c *ℤ t.factor) (add_terms c ts us) (before-add_terms t.var c ts us h k)

before-scaled : (w : Var) (c : ℤ) (us : List Term) → IsBefore w us → IsBefore w (add_terms c us [])
before-scaled w c us h = before-add_terms w c us [] h tt

combined-less : (p : ℤ) (t : Term) (ts : List Term) (q : ℤ) (u : Term) (us : List Term) → Ascends (t ∷ ts) → Ascends (u ∷ us) → var_lt t.var u.var ≡ true → combined_terms p (t ∷ ts) q (u ∷ us) ≡ term_before t.var (p *ℤ t.factor) (combined_terms p ts q (u ∷ us))
combined-less p t ts q u us a b l =
    scaled-first p t ts (add_terms q (u ∷ us) []) a.1 (before-scaled t.var q (u ∷ us) (l, before_later t.var u.var us l b.1))

combined-greater : (p : ℤ) (t : Term) (ts : List Term) (q : ℤ) (u : Term) (us : List Term) → Ascends (t ∷ ts) → Ascends (u ∷ us) → var_lt u.var t.var ≡ true → combined_terms p (t ∷ ts) q (u ∷ us) ≡ term_before u.var (q *ℤ u.factor) (combined_terms p (t ∷ ts) q us)
combined-greater p t ts q u us a b l =
    ap (add_terms p (t ∷ ts)) (scaled-first q u us [] b.1 tt)
    ∙ add_terms-behind u.var (q *ℤ u.factor) p (t ∷ ts) (add_terms q us []) (l, before_later u.var t.var ts l a.1) (before-scaled u.var q us b.1)

combined-equal : (p : ℤ) (t : Term) (ts : List Term) (q : ℤ) (u : Term) (us : List Term) → Ascends (t ∷ ts) → Ascends (u ∷ us) → t.var ≡ u.var → combined_terms p (t ∷ ts) q (u ∷ us) ≡ term_before t.var ((p *ℤ t.factor) +ℤ (q *ℤ u.factor)) (combined_terms p ts q us)
combined-equal p t ts q u us a b e =
    let c : IsBefore t.var us = subst (λ (v : Var). IsBefore v us) (sym e) b.1 in
    let x = scaled-first q u us [] b.1 tt ∙ ap (λ v. term_before v (q *ℤ u.factor) (add_terms q us [])) (sym e) in
    ap (add_terms p (t ∷ ts)) x
    ∙ (ap (add_term t.var (p *ℤ t.factor)) (add_terms-behind t.var (q *ℤ u.factor) p ts (add_terms q us []) a.1 (before-scaled t.var q us c))
    ∙ add_term-same t.var (p *ℤ t.factor) (q *ℤ u.factor) (combined_terms p ts q us) (before-add_terms t.var p ts (add_terms q us []) a.1 (before-scaled t.var q us c)))

-- ---- steps of the loops

pub pushed : (out : List Term) (v : Var) (f : ℤ) (ts : List Term) → out ++ term_before v f ts ≡ (out ++ term_before v f []) ++ ts
pushed out v f ts = go (int_eq f (pos 0)) where
  go : (b : Bool) → out ++ (if b then ts else term v f ∷ ts) ≡ (out ++ (if b then [] else term v f ∷ [])) ++ ts
  go true = ap (λ us. us ++ ts) (sym (append-nil out))
  go false = sym (append_assoc out (term v f ∷ []) ts)

pub scaled_more : (out new : List Term) (c : ℤ) (ts goal : List Term) (i : ℕ) (d : Term) → i < length ts → Ascends ts → new ≡ out ++ term_before (get_or ts i d).var (c *ℤ (get_or ts i d).factor) [] → out ++ add_terms c (drop i ts) [] ≡ goal → new ++ add_terms c (drop (i + 1) ts) [] ≡ goal
scaled_more out new c ts goal i d l a n h =
    let t = get_or ts i d in
    let e : drop i ts ≡ t ∷ drop (suc i) ts = drop-cons ts i d l in
    let b : Ascends (t ∷ drop (suc i) ts) = subst Ascends e (ascends-drop ts i a) in
    rw add-one (ap (λ us. us ++ add_terms c (drop (suc i) ts) []) n
    ∙ (sym (pushed out t.var (c *ℤ t.factor) (add_terms c (drop (suc i) ts) []))
    ∙ (ap (λ us. out ++ us) (sym (scaled-first c t (drop (suc i) ts) [] b.1 tt) ∙ ap (λ us. add_terms c us []) (sym e)) ∙ h)))

pub scaled_all : (out : List Term) (c : ℤ) (ts goal : List Term) (i : ℕ) → length ts ≤ i → out ++ add_terms c (drop i ts) [] ≡ goal → out ≡ goal
scaled_all out c ts goal i l h = sym (append-nil out) ∙ (ap (λ us. out ++ add_terms c us []) (sym (drop_of_length-le ts l)) ∙ h)

-- the terms of both from two places on
abbrev pub rest_of : ℤ → List Term → ℕ → ℤ → List Term → ℕ → List Term
rest_of p ts i q us j = combined_terms p (drop i ts) q (drop j us)

stepped : (out new : List Term) (v : Var) (f : ℤ) (xs ys goal : List Term) → new ≡ out ++ term_before v f [] → xs ≡ term_before v f ys → out ++ xs ≡ goal → new ++ ys ≡ goal
stepped out new v f xs ys goal n e h = ap (λ us. us ++ ys) n ∙ (sym (pushed out v f ys) ∙ (ap (λ us. out ++ us) (sym e) ∙ h))

pub merge_less : (out new : List Term) (p : ℤ) (ts : List Term) (q : ℤ) (us goal : List Term) (i j : ℕ) (d e : Term) → i < length ts → j < length us → Ascends ts → Ascends us → var_cmp (get_or ts i d).var (get_or us j e).var ≡ Less → new ≡ out ++ term_before (get_or ts i d).var (p *ℤ (get_or ts i d).factor) [] → out ++ rest_of p ts i q us j ≡ goal → new ++ rest_of p ts (i + 1) q us j ≡ goal
merge_less out new p ts q us goal i j d e l m a b o n h =
    let t = get_or ts i d in
    let u = get_or us j e in
    let x : drop i ts ≡ t ∷ drop (suc i) ts = drop-cons ts i d l in
    let y : drop j us ≡ u ∷ drop (suc j) us = drop-cons us j e m in
    let a' : Ascends (t ∷ drop (suc i) ts) = subst Ascends x (ascends-drop ts i a) in
    let b' : Ascends (u ∷ drop (suc j) us) = subst Ascends y (ascends-drop us j b) in
    let k = combined-less p t (drop (suc i) ts) q u (drop (suc j) us) a' b' (order_less t.var u.var o) in
    rw add-one (stepped out new t.var (p *ℤ t.factor) (rest_of p ts i q us j) (rest_of p ts (suc i) q us j) goal n
    (ap₂ (λ (vs ws : List Term). combined_terms p vs q ws) x y ∙ (k ∙ ap (λ ws. term_before t.var (p *ℤ t.factor) (combined_terms p (drop (suc i) ts) q ws)) (sym y))) h)

pub merge_greater : (out new : List Term) (p : ℤ) (ts : List Term) (q : ℤ) (us goal : List Term) (i j : ℕ) (d e : Term) → i < length ts → j < length us → Ascends ts → Ascends us → var_cmp (get_or ts i d).var (get_or us j e).var ≡ Greater → new ≡ out ++ term_before (get_or us j e).var (q *ℤ (get_or us j e).factor) [] → out ++ rest_of p ts i q us j ≡ goal → new ++ rest_of p ts i q us (j + 1) ≡ goal
merge_greater out new p ts q us goal i j d e l m a b o n h =
    let t = get_or ts i d in
    let u = get_or us j e in
    let x : drop i ts ≡ t ∷ drop (suc i) ts = drop-cons ts i d l in
    let y : drop j us ≡ u ∷ drop (suc j) us = drop-cons us j e m in
    let a' : Ascends (t ∷ drop (suc i) ts) = subst Ascends x (ascends-drop ts i a) in
    let b' : Ascends (u ∷ drop (suc j) us) = subst Ascends y (ascends-drop us j b) in
    let k = combined-greater p t (drop (suc i) ts) q u (drop (suc j) us) a' b' (order_greater t.var u.var o) in
    rw add-one (stepped out new u.var (q *ℤ u.factor) (rest_of p ts i q us j) (rest_of p ts i q us (suc j)) goal n
    (ap₂ (λ (vs ws : List Term). combined_terms p vs q ws) x y ∙ (k ∙ ap (λ vs. term_before u.var (q *ℤ u.factor) (combined_terms p vs q (drop (suc j) us))) (sym x))) h)

pub merge_equal : (out new : List Term) (p : ℤ) (ts : List Term) (q : ℤ) (us goal : List Term) (i j : ℕ) (d e : Term) → i < length ts → j < length us → Ascends ts → Ascends us → var_cmp (get_or ts i d).var (get_or us j e).var ≡ Equal → new ≡ out ++ term_before (get_or ts i d).var ((p *ℤ (get_or ts i d).factor) +ℤ (q *ℤ (get_or us j e).factor)) [] → out ++ rest_of p ts i q us j ≡ goal → new ++ rest_of p ts (i + 1) q us (j + 1) ≡ goal
merge_equal out new p ts q us goal i j d e l m a b o n h =
    let t = get_or ts i d in
    let u = get_or us j e in
    let x : drop i ts ≡ t ∷ drop (suc i) ts = drop-cons ts i d l in
    let y : drop j us ≡ u ∷ drop (suc j) us = drop-cons us j e m in
    let a' : Ascends (t ∷ drop (suc i) ts) = subst Ascends x (ascends-drop ts i a) in
    let b' : Ascends (u ∷ drop (suc j) us) = subst Ascends y (ascends-drop us j b) in
    let f = (p *ℤ t.factor) +ℤ (q *ℤ u.factor) in
    let k = combined-equal p t (drop (suc i) ts) q u (drop (suc j) us) a' b' (order_equal t.var u.var o) in
    rw (add-one i, add-one j) (stepped out new t.var f (rest_of p ts i q us j) (rest_of p ts (suc i) q us (suc j)) goal n
    (ap₂ (λ (vs ws : List Term). combined_terms p vs q ws) x y ∙ k) h)

-- one of the lists is done
pub merge_end : (out one new : List Term) (p : ℤ) (ts : List Term) (q : ℤ) (us goal : List Term) (i j : ℕ) → (length ts ≤ i) ⊎ (length us ≤ j) → one ≡ out ++ add_terms p (drop i ts) [] → new ≡ one ++ add_terms q (drop j us) [] → out ++ rest_of p ts i q us j ≡ goal → new ≡ goal
merge_end out one new p ts q us goal i j (inl l) n m h =
    let x : drop i ts ≡ [] = drop_of_length-le ts l in
    m ∙ (ap (λ vs. vs ++ add_terms q (drop j us) []) (n ∙ (ap (λ vs. out ++ add_terms p vs []) x ∙ append-nil out))
    ∙ (ap (λ vs. out ++ combined_terms p vs q (drop j us)) (sym x) ∙ h))
merge_end out one new p ts q us goal i j (inr l) n m h =
    let y : drop j us ≡ [] = drop_of_length-le us l in
    m ∙ (ap (λ vs. one ++ add_terms q vs []) y ∙ (append-nil one ∙ (n
    ∙ (ap (λ vs. out ++ add_terms p (drop i ts) (add_terms q vs [])) (sym y) ∙ h))))

-- what is pushed, before what the rest comes to
pub record IsMerged (out : List Term) (p : ℤ) (ts : List Term) (i : ℕ) (q : ℤ) (us : List Term) (j : ℕ) (goal : List Term) : Type 0 where
  pub within_first : i ≤ length ts
  pub within_second : j ≤ length us
  pub merged : out ++ rest_of p ts i q us j ≡ goal

-- a slice from a place to the end
pub slice_rest : (ts : List Term) (i : ℕ) → take (length ts - i) (drop i ts) ≡ drop i ts
slice_rest ts i = take_all (length ts - i) (drop i ts) (omega (arith, length-drop i ts))
