-- Elements of lists in each other's place, and rooms that stay.
use Rattle.std.proofs.Common.{◌≡◌, ◌∙◌, ℕ, suc, ◌+◌, ◌-◌, ◌≤◌, ◌<◌, add-one, List, [], ◌∷◌, ◌++◌, length, take, drop, get_or, set, arith, append_assoc, ap, ap₂, sym, refl, subst}
use Rattle.std.proofs.lemmas.List.{map-set, get_or-map, length-map, take-map, drop-map, map-append, take-append-le, drop-set, take-set, take_at, length-append, length-take-le, length-drop}
use Rattle.std.proofs.lemmas.List.Edits.{swap_is}
use Rattle.std.proofs.lemmas.List.Elements.{All-set, All-append, All-take, All-drop, All-cons, All-nil, All-head, All-tail}
use Rattle.std.specs.List.{swap}
use Rattle.affine_systems.specs.declared.items.Item.{Item}
use Rattle.work_area.specs.declared.slot.Slot.{Slot}
use Rattle.work_area.specs.Slots.{item_in, items_in, room, HaveRoom, KeepsRoom}

pub length-items_in : (ss : List Slot) → length (items_in ss) ≡ length ss
length-items_in ss = length-map ss item_in

pub item_at : (ss : List Slot) (k : ℕ) (d : Slot) (e : Item) → k < length ss → get_or (items_in ss) k e ≡ item_in (get_or ss k d)
item_at ss k d e l = get_or-map item_in ss k d e l

pub items_in-set : (ss : List Slot) (k : ℕ) (s : Slot) → items_in (set ss k s) ≡ set (items_in ss) k (item_in s)
items_in-set ss k s = map-set item_in ss k s

pub items_in-swap : (ss : List Slot) (i j : ℕ) (d : Slot) → i < length ss → j < length ss → items_in (swap ss i j) ≡ swap (items_in ss) i j
items_in-swap ss i j d l m =
    let e = item_in d in
    let a = length-items_in ss in
    ap items_in (sym (swap_is ss i j d l m))
    ∙ (items_in-set (set ss i (get_or ss j d)) j (get_or ss i d)
    ∙ (ap₂ (λ (xs : List Item) (x : Item). set xs j x) (items_in-set ss i (get_or ss j d) ∙ ap (set (items_in ss) i) (sym (item_at ss j d e m))) (sym (item_at ss i d e l))
    ∙ swap_is (items_in ss) i j e (omega (arith, a)) (omega (arith, a))))

-- ---- rooms

pub keeps_same : (old new : List Slot) → new ≡ old → KeepsRoom old new
keeps_same old new e = record { kept = λ n h. subst (HaveRoom n) (sym e) h }

pub keeps_more : (a b c : List Slot) → KeepsRoom a b → KeepsRoom b c → KeepsRoom a c
keeps_more a b c f g = record { kept = λ n h. g.kept n (f.kept n h) }

pub keeps_set : (ss new : List Slot) (k : ℕ) (s d : Slot) → k < length ss → room (get_or ss k d) ≤ room s → new ≡ set ss k s → KeepsRoom ss new
keeps_set ss new k s d l r e = record { kept = λ n h. subst (HaveRoom n) (sym e) (All-set (λ (t : Slot). n ≤ room t) ss k s (let g = h k d l in omega (arith, g, r)) h) }

pub keeps_swap : (ss new : List Slot) (i j : ℕ) (d : Slot) → i < length ss → j < length ss → new ≡ swap ss i j → KeepsRoom ss new
keeps_swap ss new i j d l m e = record {
  kept = λ n h. subst (HaveRoom n) (swap_is ss i j d l m ∙ sym e)
      (All-set (λ (t : Slot). n ≤ room t) (set ss i (get_or ss j d)) j (get_or ss i d) (h i d l) (All-set (λ (t : Slot). n ≤ room t) ss i (get_or ss j d) (h j d m) h));
}

-- ---- what is read at a place

pub item_read : (ss : List Slot) (k : ℕ) (r : Slot) (e : Item) → k < length ss → r ≡ get_or ss k r → get_or (items_in ss) k e ≡ item_in r
item_read ss k r e l h = item_at ss k r e l ∙ ap item_in (sym h)

pub keeps_put : (ss : List Slot) (k : ℕ) (old new : Slot) → k < length ss → old ≡ get_or ss k old → room old ≤ room new → KeepsRoom ss (set ss k new)
keeps_put ss k old new l h r = keeps_set ss (set ss k new) k new old l (subst (λ s. room s ≤ room new) h r) refl

-- ---- a part of a list from its front on

pub items_in-take : (ss : List Slot) (n : ℕ) → items_in (take n ss) ≡ take n (items_in ss)
items_in-take ss n = sym (take-map item_in n ss)

pub items_in-drop : (ss : List Slot) (n : ℕ) → items_in (drop n ss) ≡ drop n (items_in ss)
items_in-drop ss n = sym (drop-map item_in n ss)

pub front_items : (xs ys : List Slot) (n : ℕ) → n ≤ length xs → take n (items_in (xs ++ ys)) ≡ take n (items_in xs)
front_items xs ys n l = ap (take n) (map-append item_in xs ys) ∙ take-append-le n (items_in xs) (items_in ys) (omega (arith, l, length-items_in xs))

pub keeps_front : (ss xs : List Slot) (n : ℕ) → KeepsRoom (take n ss) xs → KeepsRoom ss (xs ++ drop n ss)
keeps_front ss xs n k = record { kept = λ m h. All-append (λ (t : Slot). m ≤ room t) xs (drop n ss) (k.kept m (All-take (λ (t : Slot). m ≤ room t) n ss h)) (All-drop (λ (t : Slot). m ≤ room t) n ss h) }

-- ---- a place beside others

pub one_has : (n : ℕ) (s : Slot) → n ≤ room s → HaveRoom n (s ∷ [])
one_has n s h = All-cons (λ (t : Slot). n ≤ room t) s [] h (All-nil (λ (t : Slot). n ≤ room t))

pub first_has : (n : ℕ) (s : Slot) (ss : List Slot) → HaveRoom n (s ∷ ss) → n ≤ room s
first_has n s ss h = All-head (λ (t : Slot). n ≤ room t) s ss h

pub rest_has : (n : ℕ) (s : Slot) (ss : List Slot) → HaveRoom n (s ∷ ss) → HaveRoom n ss
rest_has n s ss h = All-tail (λ (t : Slot). n ≤ room t) s ss h

pub both_have : (n : ℕ) (s : Slot) (ss : List Slot) → n ≤ room s → HaveRoom n ss → HaveRoom n (s ∷ ss)
both_have n s ss h k = All-cons (λ (t : Slot). n ≤ room t) s ss h k

-- the first is written, then both change places
pub keeps_traded : (s t u new other : Slot) → room s ≤ room u → new ≡ t → other ≡ u → KeepsRoom (s ∷ t ∷ []) (new ∷ other ∷ [])
keeps_traded s t u new other r e f = record {
  kept = λ n h.
      let a : n ≤ room s = first_has n s (t ∷ []) h in
      let b : n ≤ room t = first_has n t [] (rest_has n s (t ∷ []) h) in
      both_have n new (other ∷ []) (subst (λ x. n ≤ room x) (sym e) b) (one_has n other (subst (λ x. n ≤ room x) (sym f) (omega (arith, a, r))));
}

-- one of the others, and the place beside them
pub keeps_one : (s : Slot) (ss : List Slot) (k : ℕ) (s' t' d : Slot) → k < length ss → KeepsRoom (s ∷ get_or ss k d ∷ []) (s' ∷ t' ∷ []) → KeepsRoom (s ∷ ss) (s' ∷ set ss k t')
keeps_one s ss k s' t' d l f = record {
  kept = λ n h.
      let g = f.kept n (both_have n s (get_or ss k d ∷ []) (first_has n s ss h) (one_has n (get_or ss k d) (rest_has n s ss h k d l))) in
      both_have n s' (set ss k t') (first_has n s' (t' ∷ []) g) (All-set (λ (t : Slot). n ≤ room t) ss k t' (first_has n t' [] (rest_has n s' (t' ∷ []) g)) (rest_has n s ss h));
}

-- ---- rows turned round

turned_have : (n k : ℕ) (ss : List Slot) → HaveRoom n ss → HaveRoom n (drop k ss ++ take k ss)
turned_have n k ss h = All-append (λ (t : Slot). n ≤ room t) (drop k ss) (take k ss) (All-drop (λ (t : Slot). n ≤ room t) k ss h) (All-take (λ (t : Slot). n ≤ room t) k ss h)

-- the last comes first, and then changes place with the one beside them
pub keeps_put_first : (p : Slot) (ss turned : List Slot) (k : ℕ) (x y d : Slot) → 0 < length turned → turned ≡ drop k ss ++ take k ss → x ≡ p → y ≡ get_or turned 0 d → KeepsRoom (p ∷ ss) (y ∷ set turned 0 x)
keeps_put_first p ss turned k x y d l e f g = record {
  kept = λ n h.
      let t : HaveRoom n turned = subst (HaveRoom n) (sym e) (turned_have n k ss (rest_has n p ss h)) in
      both_have n y (set turned 0 x) (subst (λ s. n ≤ room s) (sym g) (t 0 d l)) (All-set (λ (s : Slot). n ≤ room s) turned 0 x (subst (λ s. n ≤ room s) (sym f) (first_has n p ss h)) t);
}

-- one changes place with the one beside them, and then those from it on are turned round
pub keeps_taken_out : (p : Slot) (ss turned : List Slot) (at j k m : ℕ) (x y d : Slot) → at < length ss → x ≡ p → y ≡ get_or ss at d → turned ≡ drop j (take k (drop at (set ss at x))) ++ take j (take k (drop at (set ss at x))) → KeepsRoom (p ∷ ss) (y ∷ (take at (set ss at x) ++ (turned ++ drop m (drop at (set ss at x)))))
keeps_taken_out p ss turned at j k m x y d l e f g = record {
  kept = λ n h.
      let P : Slot → Type 0 = λ s. n ≤ room s in
      let a : HaveRoom n (set ss at x) = All-set P ss at x (subst P (sym e) (first_has n p ss h)) (rest_has n p ss h) in
      let b : HaveRoom n turned = subst (HaveRoom n) (sym g) (turned_have n j (take k (drop at (set ss at x))) (All-take P k (drop at (set ss at x)) (All-drop P at (set ss at x) a))) in
      both_have n y (take at (set ss at x) ++ (turned ++ drop m (drop at (set ss at x)))) (subst P (sym f) (rest_has n p ss h at d l))
      (All-append P (take at (set ss at x)) (turned ++ drop m (drop at (set ss at x))) (All-take P at (set ss at x) a) (All-append P turned (drop m (drop at (set ss at x))) b (All-drop P m (drop at (set ss at x)) (All-drop P at (set ss at x) a))));
}

pub taken_out : (is js turned rest : List Item) (at : ℕ) (x : Item) → at < length is → js ≡ set is at x → turned ≡ drop 1 (drop at js) ++ take 1 (drop at js) → take (length is - 1) (take at js ++ (turned ++ rest)) ≡ take at is ++ drop (suc at) is
taken_out is js turned rest at x l e t =
    let a : drop at js ≡ x ∷ drop (at + 1) is = ap (drop at) e ∙ drop-set is at x l in
    let b : turned ≡ drop (suc at) is ++ x ∷ [] = t ∙ (ap (λ us. drop 1 us ++ take 1 us) a ∙ ap (λ m. drop m is ++ x ∷ []) (add-one at)) in
    let c : take at js ≡ take at is = ap (take at) e ∙ take-set is at x in
    let f : take at js ++ (turned ++ rest) ≡ (take at is ++ drop (suc at) is) ++ (x ∷ rest)
    = ap₂ (λ us vs. us ++ (vs ++ rest)) c b ∙ (ap (λ us. take at is ++ us) (append_assoc (drop (suc at) is) (x ∷ []) rest) ∙ sym (append_assoc (take at is) (drop (suc at) is) (x ∷ rest))) in
    ap (take (length is - 1)) f ∙ take_at (take at is ++ drop (suc at) is) (x ∷ rest) (length is - 1) (omega (arith, l, length-append (take at is) (drop (suc at) is), length-take-le at is (omega (arith, l)), length-drop (suc at) is))

-- two places beside others, of which a part is looked at
pub front_rooms : (n m : ℕ) (s p : Slot) (ss : List Slot) → HaveRoom n (s ∷ p ∷ ss) → HaveRoom n (s ∷ p ∷ take m ss)
front_rooms n m s p ss h =
    let k = rest_has n s (p ∷ ss) h in
    both_have n s (p ∷ take m ss) (first_has n s (p ∷ ss) h) (both_have n p (take m ss) (first_has n p ss k) (All-take (λ (t : Slot). n ≤ room t) m ss (rest_has n p ss k)))

pub keeps_front_rooms : (s p s' p' : Slot) (ss new : List Slot) (m : ℕ) → KeepsRoom (s ∷ p ∷ take m ss) (s' ∷ p' ∷ new) → KeepsRoom (s ∷ p ∷ ss) (s' ∷ p' ∷ (new ++ drop m ss))
keeps_front_rooms s p s' p' ss new m k = record {
  kept = λ n h.
      let a = k.kept n (front_rooms n m s p ss h) in
      let r = rest_has n s' (p' ∷ new) a in
      let o = rest_has n p ss (rest_has n s (p ∷ ss) h) in
      both_have n s' (p' ∷ (new ++ drop m ss)) (first_has n s' (p' ∷ new) a) (both_have n p' (new ++ drop m ss) (first_has n p' new r) (All-append (λ (t : Slot). n ≤ room t) new (drop m ss) (rest_has n p' new r) (All-drop (λ (t : Slot). n ≤ room t) m ss o)));
}

-- one is taken out, the others are changed, and it is put first
pub out_rooms : (n m : ℕ) (s p p' : Slot) (ss out : List Slot) → KeepsRoom (p ∷ ss) (p' ∷ out) → HaveRoom n (s ∷ p ∷ ss) → HaveRoom n (s ∷ take m out)
out_rooms n m s p p' ss out k h =
    let a = k.kept n (rest_has n s (p ∷ ss) h) in
    both_have n s (take m out) (first_has n s (p ∷ ss) h) (All-take (λ (t : Slot). n ≤ room t) m out (rest_has n p' out a))

pub keeps_pivot : (s p s' p' p'' : Slot) (ss out new all : List Slot) (m : ℕ) → KeepsRoom (p ∷ ss) (p' ∷ out) → KeepsRoom (s ∷ take m out) (s' ∷ new) → KeepsRoom (p' ∷ (new ++ drop m out)) (p'' ∷ all) → KeepsRoom (s ∷ p ∷ ss) (s' ∷ p'' ∷ all)
keeps_pivot s p s' p' p'' ss out new all m f g k = record {
  kept = λ n h.
      let P : Slot → Type 0 = λ t. n ≤ room t in
      let a = f.kept n (rest_has n s (p ∷ ss) h) in
      let c = g.kept n (out_rooms n m s p p' ss out f h) in
      let d = k.kept n (both_have n p' (new ++ drop m out) (first_has n p' out a) (All-append P new (drop m out) (rest_has n s' new c) (All-drop P m out (rest_has n p' out a)))) in
      both_have n s' (p'' ∷ all) (first_has n s' new c) d;
}

-- one is taken out, and the others are changed
pub keeps_cancelled : (s p s' p' : Slot) (ss out new : List Slot) (m : ℕ) → KeepsRoom (p ∷ ss) (p' ∷ out) → KeepsRoom (s ∷ take m out) (s' ∷ new) → KeepsRoom (s ∷ p ∷ ss) (s' ∷ p' ∷ (new ++ drop m out))
keeps_cancelled s p s' p' ss out new m f g = record {
  kept = λ n h.
      let P : Slot → Type 0 = λ t. n ≤ room t in
      let a = f.kept n (rest_has n s (p ∷ ss) h) in
      let c = g.kept n (out_rooms n m s p p' ss out f h) in
      both_have n s' (p' ∷ (new ++ drop m out)) (first_has n s' new c) (both_have n p' (new ++ drop m out) (first_has n p' out a) (All-append P new (drop m out) (rest_has n s' new c) (All-drop P m out (rest_has n p' out a))));
}

-- one changes place with the one beside them
pub keeps_exchanged : (p : Slot) (ss : List Slot) (k : ℕ) (x y d : Slot) → k < length ss → x ≡ p → y ≡ get_or ss k d → KeepsRoom (p ∷ ss) (y ∷ set ss k x)
keeps_exchanged p ss k x y d l e f = record {
  kept = λ n h.
      let o = rest_has n p ss h in
      both_have n y (set ss k x) (subst (λ s. n ≤ room s) (sym f) (o k d l)) (All-set (λ (t : Slot). n ≤ room t) ss k x (subst (λ s. n ≤ room s) (sym e) (first_has n p ss h)) o);
}

-- those from a place on are changed, with the one beside them
pub keeps_inserted : (p p' : Slot) (ss new : List Slot) (at n m : ℕ) → KeepsRoom (p ∷ take n (drop at ss)) (p' ∷ new) → KeepsRoom (p ∷ ss) (p' ∷ (take at ss ++ (new ++ drop m (drop at ss))))
keeps_inserted p p' ss new at n m f = record {
  kept = λ k h.
      let P : Slot → Type 0 = λ t. k ≤ room t in
      let o = rest_has k p ss h in
      let b = All-drop P at ss o in
      let a = f.kept k (both_have k p (take n (drop at ss)) (first_has k p ss h) (All-take P n (drop at ss) b)) in
      both_have k p' (take at ss ++ (new ++ drop m (drop at ss))) (first_has k p' new a)
      (All-append P (take at ss) (new ++ drop m (drop at ss)) (All-take P at ss o) (All-append P new (drop m (drop at ss)) (rest_has k p' new a) (All-drop P m (drop at ss) b)));
}

-- the leading ones are changed, with the one beside them
pub keeps_front_one : (p p' : Slot) (ss new : List Slot) (m : ℕ) → KeepsRoom (p ∷ take m ss) (p' ∷ new) → KeepsRoom (p ∷ ss) (p' ∷ (new ++ drop m ss))
keeps_front_one p p' ss new m f = record {
  kept = λ k h.
      let P : Slot → Type 0 = λ t. k ≤ room t in
      let o = rest_has k p ss h in
      let a = f.kept k (both_have k p (take m ss) (first_has k p ss h) (All-take P m ss o)) in
      both_have k p' (new ++ drop m ss) (first_has k p' new a) (All-append P new (drop m ss) (rest_has k p' new a) (All-drop P m ss o));
}

-- one place alone is written
pub keeps_beside : (p p' : Slot) (ss : List Slot) → room p ≤ room p' → KeepsRoom (p ∷ ss) (p' ∷ ss)
keeps_beside p p' ss l = record { kept = λ k h. let a = first_has k p ss h in both_have k p' ss (omega (arith, a, l)) (rest_has k p ss h) }
