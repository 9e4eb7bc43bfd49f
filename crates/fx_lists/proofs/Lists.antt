-- Lemmas on lists.
use Rattle.std.proofs.Common.{Bool, List, None, Option, Some, [], add-one, ap, append_assoc, ap₂, arith, drop, drop-cons, false, get_or, if◌then◌else◌, length, map, refl, reverse, subst, suc, sym, take, true, zero, ℕ, ◌++◌, ◌+◌, ◌<◌, ◌||◌, ◌∙◌, ◌∷◌, ◌≡◌, ◌≤◌}
use Rattle.std.proofs.Math.Seq.{set-append_seam}
use Rattle.std.proofs.lemmas.Bool.{eq-eqb, or_parts, or_right}
use Rattle.std.proofs.lemmas.List.{map-append, reverse-append}
use Rattle.std.specs.List.{AllByRecursion, list_any}
use Rattle.std.specs.Prelude.{nat_eq, option_map, slice_get, slice_set, bytes_eq}
use Rattle.std.proofs.lemmas.Slice.Eq.{bytes_eq-Decides}

pub added : {T : Type 0} (x y : T) (xs ys : List T) → x ≡ y → xs ≡ ys → (x ∷ xs) ≡ (y ∷ ys)
added x y xs ys h k = ap (λ z. z ∷ xs) h ∙ ap (λ z. y ∷ z) k

pub append-by : (b : Bool) (l : List ℕ) (x y z : List (List ℕ)) → x ≡ y ++ z → (if b then x else l ∷ x) ≡ (if b then y else l ∷ y) ++ z
append-by true l x y z e = e
append-by false l x y z e = ap (λ (w : List (List ℕ)). l ∷ w) e

pub at_place : {A : Type 0} (xs : List A) (i : ℕ) (x : A) → i < length xs → x ≡ get_or xs i x → drop i xs ≡ x ∷ drop (i + 1) xs
at_place {A} xs i x l g =
    drop-cons xs i x l ∙ ap₂ (λ (y : A) (ys : List A). y ∷ ys) (sym g) (ap (λ n. drop n xs) (sym (add-one i)))

pub dropped-cons : (b : Bool) (l : List ℕ) (ls : List (List ℕ)) → b ≡ true → (if b then ls else l ∷ ls) ≡ ls
dropped-cons true l ls e = refl
dropped-cons false l ls e = cc

pub each_append : {A : Type 0} (P : A → Type 0) (xs ys : List A) → AllByRecursion P xs → AllByRecursion P ys → AllByRecursion P (xs ++ ys)
each_append P [] ys h k = k
each_append P (x ∷ xs) ys h k = (h.0, each_append P xs ys h.1 k)

pub each_short : (t u : Bool) (xs ys zs : List ℕ) (n : ℕ) → length xs ≤ n → length ys ≤ n → length zs ≤ n → length (if t then xs else if u then ys else zs) ≤ n
each_short true u xs ys zs n h i j = h
each_short false true xs ys zs n h i j = i
each_short false false xs ys zs n h i j = j

pub either-nothing : (b : Bool) → ◌≡◌ {A = List (List ℕ)} (if b then [] else []) []
either-nothing true = refl
either-nothing false = refl

pub filled : {A : Type 0} (xs ys zs : List A) (x y : A) (n : ℕ) → zs ≡ (xs ++ x ∷ []) ++ ys → n ≡ length xs → slice_set zs n y ≡ xs ++ y ∷ ys
filled xs ys zs x y n e h =
    ap (λ ws. slice_set ws n y) (e ∙ append_assoc xs (x ∷ []) ys) ∙ ap (λ k. slice_set (xs ++ x ∷ ys) k y) h ∙ set-append_seam xs x ys y

pub head_of : (a b : ℕ) (x y : List ℕ) → a ∷ x ≡ b ∷ y → (a ≡ b) × (x ≡ y)
head_of a b x y e = (cc, cc)

pub joined : {T : Type 0} (xs ys us vs : List T) → xs ≡ us → ys ≡ vs → (xs ++ ys) ≡ (us ++ vs)
joined xs ys us vs h k = ap (λ z. z ++ ys) h ∙ ap (λ z. us ++ z) k

pub kept-cons : (b : Bool) (l : List ℕ) (ls : List (List ℕ)) → b ≡ false → (if b then ls else l ∷ ls) ≡ l ∷ ls
kept-cons true l ls e = cc
kept-cons false l ls e = refl

pub lacks_at : (b : Bool) (o p : Option (List ℕ)) → (if b then o else None) ≡ None → (o ≡ None → p ≡ None) → (if b then p else None) ≡ None
lacks_at true o p h f = f h
lacks_at false o p h f = refl

pub map_length : {A B : Type 0} (f : A → B) (xs : List A) → length (map f xs) ≡ length xs
map_length f [] = refl
map_length f (x ∷ xs) = ap suc (map_length f xs)

pub map_reverse : {A B : Type 0} (f : A → B) (xs : List A) → map f (reverse xs) ≡ reverse (map f xs)
map_reverse f [] = refl
map_reverse f (x ∷ xs) = ap (map f) (reverse-append (x ∷ []) xs) ∙ (map-append f (reverse xs) (x ∷ []) ∙ (ap (λ ys. ys ++ f x ∷ []) (map_reverse f xs) ∙ sym (reverse-append (f x ∷ []) (map f xs))))

pub no_byte : (b c : ℕ) (m : List ℕ) → list_any (λ d. nat_eq d b) (c ∷ m) ≡ false → c ≡ b → ⊥
no_byte b c m h e =
    let f : nat_eq c b ≡ false = (or_parts (nat_eq c b) (list_any (λ d. nat_eq d b) m) h).0 in
    let t : nat_eq b b ≡ false = subst (λ d. nat_eq d b ≡ false) e f in
    let u : nat_eq b b ≡ true = eq-eqb b b refl in
    cc

pub none_left : {A : Type 0} (xs : List A) → length xs < 1 → xs ≡ []
none_left [] l = refl
none_left (x ∷ xs) l = absurd (omega (arith, l))

pub slice_get-map : {A B : Type 0} (f : A → B) (xs : List A) (i : ℕ) → slice_get (map f xs) i ≡ option_map f (slice_get xs i)
slice_get-map f [] i = refl
slice_get-map f (x ∷ xs) zero = refl
slice_get-map f (x ∷ xs) (suc i) = slice_get-map f xs i

pub got_below : {A : Type 0} (xs : List A) (i : ℕ) (x : A) → slice_get xs i ≡ Some x → i < length xs
got_below [] i x e = cc
got_below (y ∷ xs) zero x e = omega arith
got_below (y ∷ xs) (suc i) x e = let less = got_below xs i x e in omega (arith, less)

pub split_at : (b : Bool) (c : ℕ) (cs f s : List ℕ) → f ++ s ≡ cs → (if b then c ∷ f else []) ++ (if b then s else c ∷ cs) ≡ c ∷ cs
split_at true c cs f s h = ap (λ x. c ∷ x) h
split_at false c cs f s h = refl

pub take_all : {A : Type 0} (xs : List A) → take (length xs) xs ≡ xs
take_all [] = refl
take_all (x ∷ xs) = ap (λ ys. x ∷ ys) (take_all xs)

pub other_way : (x y : List ℕ) → bytes_eq x y ≡ false → bytes_eq y x ≡ false
other_way x y h = go (bytes_eq y x) refl
  where
    go : (b : Bool) → bytes_eq y x ≡ b → b ≡ false
    go true q = let t : bytes_eq x y ≡ true = (bytes_eq-Decides x y).1 (sym ((bytes_eq-Decides y x).0 q)) in let z : true ≡ false = sym t ∙ h in cc
    go false q = refl

pub any_left : {A : Type 0} (p : A → Bool) (xs ys : List A) → list_any p xs ≡ true → list_any p (xs ++ ys) ≡ true
any_left p [] ys h = cc
any_left p (x ∷ xs) ys h = go (p x) h (any_left p xs ys)
  where
    go : (b : Bool) → (b || list_any p xs) ≡ true → (list_any p xs ≡ true → list_any p (xs ++ ys) ≡ true) → (b || list_any p (xs ++ ys)) ≡ true
    go true q ih = refl
    go false q ih = ih q

pub any_right : {A : Type 0} (p : A → Bool) (xs ys : List A) → list_any p ys ≡ true → list_any p (xs ++ ys) ≡ true
any_right p [] ys h = h
any_right p (x ∷ xs) ys h = or_right (p x) (list_any p (xs ++ ys)) (any_right p xs ys h)

pub if_short : (b : Bool) (xs ys : List ℕ) (n : ℕ) → length xs ≤ n → length ys ≤ n → length (if b then xs else ys) ≤ n
if_short true xs ys n h k = h
if_short false xs ys n h k = k

pub same_head : {A : Type 0} (a b : A) (xs ys : List A) → (a ∷ xs) ≡ (b ∷ ys) → a ≡ b
same_head a b xs ys e = cc

pub same_tail : {A : Type 0} (a b : A) (xs ys : List A) → (a ∷ xs) ≡ (b ∷ ys) → xs ≡ ys
same_tail a b xs ys e = cc
