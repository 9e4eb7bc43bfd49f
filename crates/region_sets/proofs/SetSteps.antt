-- A region put into a set in order.
use Rattle.std.proofs.Common.{◌≡◌, ℕ, zero, suc, ◌+◌, ◌-◌, ◌<◌, ◌≤◌, List, [], ◌∷◌, ◌++◌, length, take, drop, get_or, drop-cons, drop_of_length-le, take_all, take-append-drop, add-one, append_assoc, append-nil, ap, ap₂, refl, sym, ◌∙◌, arith, Ordering, set, subst, Bool}
use Rattle.std.specs.Prelude.{◌&&◌, insert}
use Rattle.std.specs.declared.cmp.Ordering.TheVariants.{Less, Equal, Greater}
use Rattle.std.specs.Ordering.{nat_cmp, ordering_then, ordering_reverse}
use Rattle.std.specs.Cmp.{IsTotalOrder}
use Rattle.std.proofs.lemmas.Cmp.{on_total, then_total, lists_total, nat_cmp_total}
use Rattle.f77_ast.specs.declared.variable.Variable.{Variable}
use Rattle.f77_ast.specs.declared.variable.Variable.TheVariants.{Own, Block, Saved}
use Rattle.f77_ast.specs.Variables.{variable_text, text_cmp, variable_cmp}
use Rattle.std.proofs.lemmas.List.{take_more, take-set, drop-set, get_or_default}
use Rattle.affine_systems.specs.declared.row.System.{System}
use Rattle.region_sets.specs.declared.region.Region.{Region}
use Rattle.region_sets.specs.Regions.{RegionFits, remade}
use Rattle.region_sets.specs.Sets.{SetFits, ComeBefore, access_number, region_cmp, with_pieces, with_region, all_trimmed}
use Rattle.region_sets.specs.Trim.{trim}
use Rattle.region_sets.specs.Unite.{unite}
use Rattle.region_sets.proofs.Steps.{set-push}
use Rattle.fx_lists.proofs.Orders.{then_nothing}

-- the region comes behind those before the place
abbrev pub IsBehind : Region → List Region → ℕ → Type 0
IsBehind r qs i = take i qs ++ with_region r (drop i qs) ≡ with_region r qs

pub region-passed : (r : Region) (qs : List Region) (i : ℕ) (d : Region) → i < length qs → region_cmp r (get_or qs i d) ≡ Greater → IsBehind r qs i → IsBehind r qs (i + 1)
region-passed r qs i d l e h =
    let x : with_region r (drop i qs) ≡ get_or qs i d ∷ with_region r (drop (suc i) qs) = ap (with_region r) (drop-cons qs i d l) ∙ rw e refl in
    let y : take (i + 1) qs ≡ take i qs ++ get_or qs i d ∷ [] = take_more qs i d l in
    ap₂ (λ (us : List Region) n. us ++ with_region r (drop n qs)) y (add-one i)
    ∙ (append_assoc (take i qs) (get_or qs i d ∷ []) (with_region r (drop (suc i) qs)) ∙ (ap (λ (us : List Region). take i qs ++ us) (sym x) ∙ h))

pub region-before : (r : Region) (qs : List Region) (i : ℕ) (d : Region) → i < length qs → region_cmp r (get_or qs i d) ≡ Less → IsBehind r qs i → insert qs i r ≡ with_region r qs
region-before r qs i d l e h =
    let x : with_region r (drop i qs) ≡ r ∷ drop i qs = ap (with_region r) (drop-cons qs i d l) ∙ (rw e refl ∙ ap (λ (us : List Region). r ∷ us) (sym (drop-cons qs i d l))) in
    ap (λ (us : List Region). take i qs ++ us) (sym x) ∙ h

pub region-last : (r : Region) (qs : List Region) (i : ℕ) → length qs ≤ i → IsBehind r qs i → qs ++ r ∷ [] ≡ with_region r qs
region-last r qs i l h = ap₂ (λ (us vs : List Region). us ++ with_region r vs) (sym (take_all i qs l)) (sym (drop_of_length-le qs l)) ∙ h

pub region-same : (r : Region) (qs : List Region) (i : ℕ) (d : Region) → i < length qs → region_cmp r (get_or qs i d) ≡ Equal → IsBehind r qs i → set qs i (unite (get_or qs i d) r) ≡ with_region r qs
region-same r qs i d l e h =
    let v = unite (get_or qs i d) r in
    let x : with_region r (drop i qs) ≡ v ∷ drop (i + 1) qs = ap (with_region r) (drop-cons qs i d l) ∙ (rw e refl ∙ ap (λ n. v ∷ drop n qs) (sym (add-one i))) in
    sym (take-append-drop i (set qs i v)) ∙ (ap₂ (λ (us vs : List Region). us ++ vs) (take-set qs i v) (drop-set qs i v l) ∙ (ap (λ (us : List Region). take i qs ++ us) (sym x) ∙ h))

-- ---- the regions before a place come before a region

come_append : (r : Region) (qs : List Region) (q : Region) → ComeBefore r qs → region_cmp r q ≡ Greater → ComeBefore r (qs ++ q ∷ [])
come_append r [] q h e = (e, tt)
come_append r (p ∷ qs) q h e = (h.0, come_append r qs q h.1 e)

pub come_behind : (r : Region) (qs : List Region) (i : ℕ) → ComeBefore r (take i qs) → IsBehind r qs i
come_behind r [] zero h = refl
come_behind r [] (suc i) h = refl
come_behind r (q ∷ qs) zero h = refl
come_behind r (q ∷ qs) (suc i) h =
    let x : with_region r (q ∷ qs) ≡ q ∷ with_region r qs = rw h.0 refl in
    ap (λ (us : List Region). q ∷ us) (come_behind r qs i h.1) ∙ sym x

pub come_more : (r : Region) (qs : List Region) (i : ℕ) (d : Region) → i < length qs → region_cmp r (get_or qs i d) ≡ Greater → ComeBefore r (take i qs) → ComeBefore r (take (i + 1) qs)
come_more r qs i d l e h = subst (ComeBefore r) (sym (take_more qs i d l)) (come_append r (take i qs) (get_or qs i d) h e)

pub come_insert : (r : Region) (qs : List Region) (i : ℕ) → i ≤ length qs → ComeBefore r (take i qs) → ComeBefore r (take i (insert qs i r))
come_insert r [] zero l h = tt
come_insert r [] (suc i) l h = absurd (omega (arith, l))
come_insert r (q ∷ qs) zero l h = tt
come_insert r (q ∷ qs) (suc i) l h = (h.0, come_insert r qs i (omega (arith, l)) h.1)

pub come_set : (r v : Region) (qs : List Region) (i : ℕ) → ComeBefore r (take i qs) → ComeBefore r (take i (set qs i v))
come_set r v qs i h = subst (ComeBefore r) (sym (take-set qs i v)) h

pub come_last : (r : Region) (qs : List Region) (i : ℕ) → length qs ≤ i → ComeBefore r (take i qs) → ComeBefore r (take (length qs) (qs ++ r ∷ []))
come_last r [] i l h = tt
come_last r (q ∷ qs) zero l h = absurd (omega (arith, l))
come_last r (q ∷ qs) (suc i) l h = (h.0, come_last r qs i (omega (arith, l)) h.1)

pub come_same : (r s : Region) (qs : List Region) (e : Bool) (ss : List System) → s ≡ remade r e ss → ComeBefore r qs → ComeBefore s qs
come_same r s qs e ss f h = subst (λ (t : Region). ComeBefore t qs) (sym f) (go qs h) where
  go : (qs : List Region) → ComeBefore r qs → ComeBefore (remade r e ss) qs
  go [] h = tt
  go (q ∷ qs) h = (h.0, go qs h.1)

pub come_back : (r s : Region) (qs : List Region) (e : Bool) (ss : List System) → s ≡ remade r e ss → ComeBefore s qs → ComeBefore r qs
come_back r s qs e ss f h = go qs (subst (λ (t : Region). ComeBefore t qs) f h) where
  go : (qs : List Region) → ComeBefore (remade r e ss) qs → ComeBefore r qs
  go [] h = tt
  go (q ∷ qs) h = (h.0, go qs h.1)

-- ---- the order of regions

-- own symbols come before others
abbrev kind_number : Variable → ℕ
kind_number (Own n) = 0
kind_number (Block b) = 1
kind_number (Saved s x) = 1

abbrev own_number : Variable → ℕ
own_number (Own n) = n
own_number (Block b) = 0
own_number (Saved s x) = 0

abbrev parts_cmp : Variable → Variable → Ordering
parts_cmp v w = ordering_then (nat_cmp (kind_number v) (kind_number w)) (ordering_then (nat_cmp (own_number v) (own_number w)) (text_cmp (variable_text v) (variable_text w)))

by_parts : (v w : Variable) → variable_cmp v w ≡ parts_cmp v w
by_parts (Own m) (Own n) = sym (then_nothing (nat_cmp m n))
by_parts (Own m) (Block c) = refl
by_parts (Own m) (Saved t y) = refl
by_parts (Block b) (Own n) = refl
by_parts (Block b) (Block c) = refl
by_parts (Block b) (Saved t y) = refl
by_parts (Saved s x) (Own n) = refl
by_parts (Saved s x) (Block c) = refl
by_parts (Saved s x) (Saved t y) = refl

parts_total : IsTotalOrder parts_cmp
parts_total =
    then_total (on_total kind_number nat_cmp_total)
    (then_total (on_total own_number nat_cmp_total) (on_total variable_text (lists_total nat_cmp_total)))

abbrev key_cmp : Region → Region → Ordering
key_cmp a b = ordering_then (nat_cmp (access_number a.kind) (access_number b.kind)) (parts_cmp a.variable b.variable)

key_total : IsTotalOrder key_cmp
key_total = then_total (on_total (λ (r : Region). access_number r.kind) nat_cmp_total) (on_total (λ (r : Region). r.variable) parts_total)

by_key : (a b : Region) → region_cmp a b ≡ key_cmp a b
by_key a b = ap (ordering_then (nat_cmp (access_number a.kind) (access_number b.kind))) (by_parts a.variable b.variable)

reverse_greater : (o : Ordering) → o ≡ Greater → ordering_reverse o ≡ Less
reverse_greater Less e = cc
reverse_greater Equal e = cc
reverse_greater Greater e = refl

-- what comes before a region comes before one after it
after_chain : (p r q : Region) → region_cmp p r ≡ Less → region_cmp p q ≡ Greater → region_cmp r q ≡ Greater
after_chain p r q l g =
    let a : key_cmp q p ≡ Less = key_total.antisymm q p ∙ reverse_greater (key_cmp p q) (sym (by_key p q) ∙ g) in
    let b : key_cmp q r ≡ Less = key_total.trans q p r a (sym (by_key p r) ∙ l) in
    by_key r q ∙ (key_total.antisymm r q ∙ ap ordering_reverse b)

pub come_chain : (p r : Region) (qs : List Region) → region_cmp p r ≡ Less → ComeBefore p qs → ComeBefore r qs
come_chain p r [] l h = tt
come_chain p r (q ∷ qs) l h = (after_chain p r q l h.0, come_chain p r qs l h.1)

pub come_none : (r : Region) (qs : List Region) → ComeBefore r (take 0 qs)
come_none r [] = tt
come_none r (q ∷ qs) = tt

-- ---- the regions of a set fit

pub set-at : (qs : List Region) (i : ℕ) (d : Region) → i < length qs → SetFits qs → RegionFits (get_or qs i d)
set-at [] i d l h = absurd (omega (arith, l))
set-at (q ∷ qs) zero d l h = h.0
set-at (q ∷ qs) (suc i) d l h = set-at qs i d (omega (arith, l)) h.1

pub gather_fits : (rs : List Region) (i : ℕ) (r : Region) → i < length rs → r ≡ get_or rs i r → SetFits rs → RegionFits r
gather_fits rs i r l e h = subst RegionFits (sym e) (set-at rs i r l h)

set-append : (qs us : List Region) → SetFits qs → SetFits us → SetFits (qs ++ us)
set-append [] us h k = k
set-append (q ∷ qs) us h k = (h.0, set-append qs us h.1 k)

set-take : (qs : List Region) (i : ℕ) → SetFits qs → SetFits (take i qs)
set-take qs zero h = tt
set-take [] (suc i) h = tt
set-take (q ∷ qs) (suc i) h = (h.0, set-take qs i h.1)

set-drop : (qs : List Region) (i : ℕ) → SetFits qs → SetFits (drop i qs)
set-drop qs zero h = h
set-drop [] (suc i) h = tt
set-drop (q ∷ qs) (suc i) h = set-drop qs i h.1

pub set-insert : (qs : List Region) (i : ℕ) (r : Region) → SetFits qs → RegionFits r → SetFits (insert qs i r)
set-insert qs i r h f = set-append (take i qs) (r ∷ drop i qs) (set-take qs i h) (f, set-drop qs i h)

pub set-set : (qs : List Region) (i : ℕ) (r : Region) → SetFits qs → RegionFits r → SetFits (set qs i r)
set-set [] i r h f = h
set-set (q ∷ qs) zero r h f = (f, h.1)
set-set (q ∷ qs) (suc i) r h f = (h.0, set-set qs i r h.1 f)

pub ruleset region_loop = (come_behind, come_more, come_insert, come_set, come_last, region-passed, region-before, region-last, region-same, set-at, set-insert, set-set, set-push)

pub trimmed_more : (r : Region) (rs : List Region) → all_trimmed (r ∷ rs) ≡ all_trimmed (r ∷ []) ++ all_trimmed rs
trimmed_more r rs = go (r.exact && (trim r.pieces).exact) (trim r.pieces).pieces
  where
    go : (e : Bool) (ss : List System) → with_pieces r e ss (λ s. s ∷ all_trimmed rs) (all_trimmed rs) ≡ with_pieces r e ss (λ s. s ∷ all_trimmed []) (all_trimmed []) ++ all_trimmed rs
    go e [] = refl
    go e (s ∷ ss) = refl

pub ruleset trimmed_loop = (trimmed_more, set-push, append_assoc, append-nil)
