-- Steps of loops that take items from the end of a list.
use Rattle.std.proofs.Common.{◌≡◌, ℕ, Bool, true, false, List, [], ◌∷◌, ◌++◌, ◌||◌, reverse, length, get_or, drop, drop-cons, drop_of_length-le, add-one, ◌<◌, ◌≤◌, ◌+◌, zero, suc, max, take, take_all, pos, ◌+ℤ◌, ◌<ℤ◌, int_lt, int_eq, ap₂, arith, ap, refl, subst, sym, ◌∙◌, append_assoc}
use Rattle.std.proofs.lemmas.List.{reverse-append, take_more}
use Rattle.std.proofs.lemmas.Int.{ints}
use Rattle.affine_systems.specs.declared.row.Row.{Row}
use Rattle.affine_systems.specs.declared.items.Item.{Item}
use Rattle.affine_systems.specs.Rows.{same_shape}
use Rattle.affine_systems.specs.Items.{joined, item, AllItems, next_made, false_item}
use Rattle.affine_systems.specs.Normal.{Normal, Kept, Always, Never, TooBig, normal, Answers}
use Rattle.affine_systems.specs.Tidy.{with_normal, normal_items, is_too_big, any_too_big, stronger, one_each_after, are_opposite, merged_row, against, face_opposite, faced_all}
use Rattle.affine_systems.specs.Given.{ItemsSmall, IsSmallRow}
use Rattle.std.specs.Prelude.{if◌then◌else◌}
use Rattle.std.specs.List.{list_any}
use Rattle.std.proofs.lemmas.Bool.{false_from_ne_true}
use Rattle.affine_systems.specs.declared.row.Norm.TheVariants as answer
use Rattle.fx_lists.proofs.Numbers.{is_number}

pub popped : {X : Type 0} (xs ys : List X) (x : X) → xs ≡ ys ++ x ∷ [] → reverse xs ≡ x ∷ reverse ys
popped xs ys x e = ap reverse e ∙ reverse-append ys (x ∷ [])

pub one_each_merges : (out goal xs ys : List Item) (last i next : Item) → xs ≡ ys ++ i ∷ [] → same_shape last.row i.row ≡ true → next ≡ stronger last i → out ++ one_each_after last (reverse xs) ≡ goal → out ++ one_each_after next (reverse ys) ≡ goal
one_each_merges out goal xs ys last i next e s n h =
    let k : one_each_after last (i ∷ reverse ys) ≡ one_each_after (stronger last i) (reverse ys) = rw s refl in
    ap (λ j. out ++ one_each_after j (reverse ys)) n ∙ (ap (λ js. out ++ js) (sym k ∙ ap (one_each_after last) (sym (popped xs ys i e))) ∙ h)

pub one_each_goes_on : (out new goal xs ys : List Item) (last i next done : Item) → xs ≡ ys ++ i ∷ [] → same_shape last.row i.row ≡ false → next ≡ i → done ≡ last → new ≡ out ++ done ∷ [] → out ++ one_each_after last (reverse xs) ≡ goal → new ++ one_each_after next (reverse ys) ≡ goal
one_each_goes_on out new goal xs ys last i next done e s n d m h =
    let k : one_each_after last (i ∷ reverse ys) ≡ last ∷ one_each_after i (reverse ys) = rw s refl in
    let a : new ++ one_each_after next (reverse ys) ≡ (out ++ last ∷ []) ++ one_each_after i (reverse ys)
    = λ t. (m ∙ ap (λ j. out ++ j ∷ []) d) t ++ one_each_after (n t) (reverse ys) in
    a ∙ (append_assoc out (last ∷ []) (one_each_after i (reverse ys)) ∙ (ap (λ js. out ++ js) (sym k ∙ ap (one_each_after last) (sym (popped xs ys i e))) ∙ h))

-- ---- normal rows

pub answers_kept : (n : Normal) (old new : Row) → Answers n answer.Kept old new → n ≡ Kept new
answers_kept (Kept r) old new a = ap Kept (sym a.1)
answers_kept Always old new a = let e = a.0 in cc
answers_kept Never old new a = let e = a.0 in cc
answers_kept TooBig old new a = let e = a.0 in cc

pub answers_true : (n : Normal) (old new : Row) → Answers n answer.True old new → n ≡ Always
answers_true (Kept r) old new a = let e = a.0 in cc
answers_true Always old new a = refl
answers_true Never old new a = let e = a.0 in cc
answers_true TooBig old new a = let e = a.0 in cc

pub answers_false : (n : Normal) (old new : Row) → Answers n answer.False old new → n ≡ Never
answers_false (Kept r) old new a = let e = a.0 in cc
answers_false Always old new a = let e = a.0 in cc
answers_false Never old new a = refl
answers_false TooBig old new a = let e = a.0 in cc

pub answers_too_big : (n : Normal) (old new : Row) → Answers n answer.TooBig old new → n ≡ TooBig
answers_too_big (Kept r) old new a = let e = a.0 in cc
answers_too_big Always old new a = let e = a.0 in cc
answers_too_big Never old new a = let e = a.0 in cc
answers_too_big TooBig old new a = refl

-- what is left to normalise, before what is done
pub record IsNormalised (q : Bool) (left out : List Item) (lost : Bool) (all : List Item) : Type 0 where
  pub kept : normal_items q left ++ reverse out ≡ normal_items q all
  pub losing : (any_too_big q left || lost) ≡ any_too_big q all

with_normal-append : (i : Item) (n : Normal) (xs ys : List Item) → with_normal i n (xs ++ ys) ≡ with_normal i n xs ++ ys
with_normal-append i (Kept r) xs ys = refl
with_normal-append i Always xs ys = refl
with_normal-append i Never xs ys = refl
with_normal-append i TooBig xs ys = refl

pub normal_items-push : (q : Bool) (xs : List Item) (i : Item) → normal_items q (xs ++ i ∷ []) ≡ normal_items q xs ++ with_normal i (normal q i.row) []
normal_items-push q [] i = refl
normal_items-push q (x ∷ xs) i =
    ap (with_normal x (normal q x.row)) (normal_items-push q xs i) ∙ with_normal-append x (normal q x.row) (normal_items q xs) (with_normal i (normal q i.row) [])

any-push : {X : Type 0} (p : X → Bool) (xs : List X) (x : X) (l : Bool) → (list_any p (xs ++ x ∷ []) || l) ≡ (list_any p xs || (p x || l))
any-push p [] x l = go (p x) l where
  go : (a b : Bool) → ((a || false) || b) ≡ (a || b)
  go true b = refl
  go false b = refl
any-push p (y ∷ ys) x l = go (p y) (list_any p (ys ++ x ∷ [])) l (list_any p ys || (p x || l)) (list_any p ys) (p x) refl (any-push p ys x l) where
  go : (a b c d e f : Bool) → d ≡ (e || (f || c)) → (b || c) ≡ d → ((a || b) || c) ≡ ((a || e) || (f || c))
  go true b c d e f g h = refl
  go false b c d e f g h = h ∙ g

pub normalised_step : (q : Bool) (left more out new all : List Item) (lost after : Bool) (i : Item) (n : Normal) → left ≡ more ++ i ∷ [] → normal q i.row ≡ n → reverse new ≡ with_normal i n [] ++ reverse out → after ≡ (is_too_big n || lost) → IsNormalised q left out lost all → IsNormalised q more new after all
normalised_step q left more out new all lost after i n e m r t h = record {
  kept = ap (λ js. normal_items q more ++ js) r
      ∙ (sym (append_assoc (normal_items q more) (with_normal i n []) (reverse out))
      ∙ (ap (λ js. js ++ reverse out) (ap (λ k. normal_items q more ++ with_normal i k []) (sym m) ∙ (sym (normal_items-push q more i) ∙ ap (normal_items q) (sym e))) ∙ h.kept));
  losing = ap (λ b. any_too_big q more || b) (t ∙ ap (λ k. is_too_big k || lost) (sym m))
      ∙ (sym (any-push (λ (j : Item). is_too_big (normal q j.row)) more i lost) ∙ (ap (λ js. any_too_big q js || lost) (sym e) ∙ h.losing));
}

pub reverse_pushed : {X : Type 0} (out new : List X) (x : X) → new ≡ out ++ x ∷ [] → reverse new ≡ x ∷ reverse out
reverse_pushed out new x e = popped new out x e

pub normalised_end : (q : Bool) (left out all : List Item) (lost : Bool) → left ≡ [] → IsNormalised q left out lost all → (reverse out ≡ normal_items q all) × (lost ≡ any_too_big q all)
normalised_end q left out all lost e h =
    (ap (λ js. normal_items q js ++ reverse out) (sym e) ∙ h.kept, ap (λ js. any_too_big q js || lost) (sym e) ∙ h.losing)

-- a list whose last element is taken away where it has none
pub emptied : {X : Type 0} (xs ys : List X) → xs ≡ ys ++ [] → length ys ≡ 0 → xs ≡ []
emptied xs [] e h = e
emptied xs (y ∷ ys) e h = absurd (omega arith)

-- ---- an item against its opposite

pub faced-passed : (n : ℕ) (i : Item) (js : List Item) (k : ℕ) (d : Item) → k < length js → are_opposite i.row (get_or js k d).row ≡ false → face_opposite n i (drop k js) ≡ face_opposite n i (drop (k + 1) js)
faced-passed n i js k d h e = rw (add-one k) (ap (face_opposite n i) (drop-cons js k d h) ∙ rw e refl)

pub faced-found : (n : ℕ) (i : Item) (js : List Item) (k : ℕ) (d : Item) → k < length js → are_opposite i.row (get_or js k d).row ≡ true → face_opposite n i (drop k js) ≡ against n i (get_or js k d)
faced-found n i js k d h e = ap (face_opposite n i) (drop-cons js k d h) ∙ rw e refl

pub faced-end : (n : ℕ) (i : Item) (js : List Item) (k : ℕ) → length js ≤ k → face_opposite n i (drop k js) ≡ i
faced-end n i js k h = ap (face_opposite n i) (drop_of_length-le js h)

pub ruleset faced_loop = (faced-passed, faced-found, faced-end)

pub item_at : (P : Item → Type 0) (is : List Item) (k : ℕ) (d : Item) → AllItems P is → k < length is → P (get_or is k d)
item_at P [] k d h l = absurd (omega arith)
item_at P (i ∷ is) zero d h l = h.0
item_at P (i ∷ is) (suc k) d h l = item_at P is k d h.1 (omega arith)

-- an item that an opposite leaves as it is
pub against-stays : (n : ℕ) (i j : Item) → pos 0 <ℤ (i.row.bound +ℤ j.row.bound) → against n i j ≡ i
against-stays n i j h =
    let s = i.row.bound +ℤ j.row.bound in
    let a : int_lt s (pos 0) ≡ false = false_from_ne_true (int_lt s (pos 0)) (λ e. omega (arith, ints, h, e)) in
    let b : int_eq s (pos 0) ≡ false = false_from_ne_true (int_eq s (pos 0)) (λ e. let z = is_number s (pos 0) e in omega (arith, ints, h, z)) in
    ap₂ (λ x y. if x then false_item else if y then item (merged_row i.row j.row) (joined i.originals j.originals) n else i) a b

-- whatever number it would take, an item stays
abbrev pub Stays : Item → List Item → Type 0
Stays i js = (n : ℕ) → face_opposite n i js ≡ i

pub stays-passed : (i : Item) (js all : List Item) (k : ℕ) (d : Item) → k < length js → are_opposite i.row (get_or js k d).row ≡ false → ((n : ℕ) → face_opposite n i (drop k js) ≡ face_opposite n i all) → (n : ℕ) → face_opposite n i (drop (k + 1) js) ≡ face_opposite n i all
stays-passed i js all k d h e s n = sym (faced-passed n i js k d h e) ∙ s n

pub stays-found : (i : Item) (js all : List Item) (k : ℕ) (d : Item) → k < length js → are_opposite i.row (get_or js k d).row ≡ true → pos 0 <ℤ (i.row.bound +ℤ (get_or js k d).row.bound) → ((n : ℕ) → face_opposite n i (drop k js) ≡ face_opposite n i all) → (n : ℕ) → face_opposite n i all ≡ i
stays-found i js all k d h e l s n = sym (s n) ∙ (faced-found n i js k d h e ∙ against-stays n i (get_or js k d) l)

pub stays-end : (i : Item) (js all : List Item) (k : ℕ) → length js ≤ k → ((n : ℕ) → face_opposite n i (drop k js) ≡ face_opposite n i all) → (n : ℕ) → face_opposite n i all ≡ i
stays-end i js all k h s n = sym (s n) ∙ faced-end n i js k h

pub ruleset stays_loop = (stays-passed, stays-found, stays-end)

pub faced_all-push : (n : ℕ) (is js : List Item) (i : Item) → faced_all n (is ++ i ∷ []) js ≡ faced_all n is js ++ face_opposite (n + length is) i js ∷ []
faced_all-push n [] js i = let e : n ≡ n + 0 = omega arith in ap (λ m. face_opposite m i js ∷ []) e
faced_all-push n (k ∷ ks) js i =
    let e : suc n + length ks ≡ n + suc (length ks) = omega arith in
    ap (λ hs. face_opposite n k js ∷ hs) (faced_all-push (suc n) ks js i ∙ ap (λ m. faced_all (suc n) ks js ++ face_opposite m i js ∷ []) e)

pub all_stay-more : (is js : List Item) (k : ℕ) (d : Item) → k < length is → ((n : ℕ) → face_opposite n (get_or is k d) js ≡ get_or is k d) → ((n : ℕ) → faced_all n (take k is) js ≡ take k is) → (n : ℕ) → faced_all n (take (k + 1) is) js ≡ take (k + 1) is
all_stay-more is js k d h s a n =
    let e = take_more is k d h in
    ap (λ hs. faced_all n hs js) e ∙ (faced_all-push n (take k is) js (get_or is k d) ∙ (ap₂ (λ (hs : List Item) g. hs ++ g ∷ []) (a n) (s (n + length (take k is))) ∙ sym e))

pub all_stay-end : (is js : List Item) (k : ℕ) → length is ≤ k → ((n : ℕ) → faced_all n (take k is) js ≡ take k is) → (n : ℕ) → faced_all n is js ≡ is
all_stay-end is js k h a n = let e = take_all k is h in ap (λ hs. faced_all n hs js) (sym e) ∙ (a n ∙ e)

pub ruleset all_stay_loop = (all_stay-more, all_stay-end)

pub faced_all-more : (n : ℕ) (is js out new goal : List Item) (k : ℕ) (d : Item) → k < length is → new ≡ out ++ face_opposite (n + k) (get_or is k d) js ∷ [] → out ++ faced_all (n + k) (drop k is) js ≡ goal → new ++ faced_all (n + (k + 1)) (drop (k + 1) is) js ≡ goal
faced_all-more n is js out new goal k d h e a =
    let s : n + (k + 1) ≡ suc (n + k) = omega arith in
    let x : drop k is ≡ get_or is k d ∷ drop (suc k) is = drop-cons is k d h in
    ap₂ (λ m hs. new ++ faced_all m hs js) s (ap (λ m. drop m is) (add-one k))
    ∙ (ap (λ hs. hs ++ faced_all (suc (n + k)) (drop (suc k) is) js) e
    ∙ (append_assoc out (face_opposite (n + k) (get_or is k d) js ∷ []) (faced_all (suc (n + k)) (drop (suc k) is) js)
    ∙ (ap (λ hs. out ++ faced_all (n + k) hs js) (sym x) ∙ a)))

-- ---- the numbers of items

pub next_made-more : (is : List Item) (k m : ℕ) (d : Item) → k < length is → max (max m ((get_or is k d).made + 1)) (next_made (drop (k + 1) is)) ≡ max m (next_made (drop k is))
next_made-more is k m d h =
    let x : drop k is ≡ get_or is k d ∷ drop (suc k) is = drop-cons is k d h in
    rw (add-one k) (ap (λ js. max (max m ((get_or is k d).made + 1)) (next_made js)) refl ∙ (max_chain m (get_or is k d).made (next_made (drop (suc k) is)) ∙ ap (λ js. max m (next_made js)) (sym x)))
  where
    max_chain : (a b c : ℕ) → max (max a (b + 1)) c ≡ max a (max (suc b) c)
    max_chain a b c = omega arith

pub next_made-end : (is : List Item) (k : ℕ) → length is ≤ k → next_made (drop k is) ≡ 0
next_made-end is k h = ap next_made (drop_of_length-le is h)

pub next_made-at : (is : List Item) (k : ℕ) (d : Item) → k < length is → suc (get_or is k d).made ≤ next_made (drop k is)
next_made-at is k d h =
    let x : drop k is ≡ get_or is k d ∷ drop (suc k) is = drop-cons is k d h in
    let y : suc (get_or is k d).made ≤ max (suc (get_or is k d).made) (next_made (drop (suc k) is)) = omega arith in
    subst (λ (js : List Item). suc (get_or is k d).made ≤ next_made js) (sym x) y

pub ruleset next_made_loop = (next_made-more, next_made-at, next_made-end)

pub small_item_at : (is : List Item) (k : ℕ) (i : Item) → ItemsSmall is → k < length is → i ≡ get_or is k i → IsSmallRow i.row
small_item_at is k i h l e = subst (λ (j : Item). IsSmallRow j.row) (sym e) (item_at (λ j. IsSmallRow j.row) is k i h l)
