-- Lists of which one element is changed, or each in turn.
use Rattle.std.proofs.Common.{◌≡◌, ◌≤◌, ◌<◌, ℕ, zero, suc, List, [], ◌∷◌, ◌++◌, length, map, set, get_or, take, drop, Some, refl, sym, ap, ◌∙◌, subst, arith}
use Rattle.std.specs.Prelude.{slice_get}
use Rattle.std.specs.List.{AllByRecursion}

-- ---- an element of a list that is changed

-- by nothing that shows
pub map-set_same : {A B : Type 0} (f : A → B) (xs : List A) (i : ℕ) (old new : A) → old ≡ get_or xs i old → f new ≡ f old → map f (set xs i new) ≡ map f xs
map-set_same f [] i old new e s = refl
map-set_same f (x ∷ xs) zero old new e s = ap (λ b. b ∷ map f xs) (s ∙ ap f e)
map-set_same f (x ∷ xs) (suc i) old new e s = ap (λ bs. f x ∷ bs) (map-set_same f xs i old new e s)

pub slice_get-map_at : {A B : Type 0} (f : A → B) (xs : List A) (i : ℕ) (x : A) → i < length xs → x ≡ get_or xs i x → slice_get (map f xs) i ≡ Some (f x)
slice_get-map_at f [] i x h e = absurd (omega (arith, h))
slice_get-map_at f (y ∷ xs) zero x h e = ap (λ z. Some (f z)) (sym e)
slice_get-map_at f (y ∷ xs) (suc i) x h e = slice_get-map_at f xs i x (omega (arith, h)) e

-- ---- each element of a list in turn

pub forget_step : {S T : Type 0} (f g : S → T) (xs ys : List S) (i : ℕ) (old new : S) → i < length xs → map f xs ≡ map g (take i ys) ++ map f (drop i ys) → old ≡ get_or xs i old → ((y : S) → f old ≡ f y → f new ≡ g y) → map f (set xs i new) ≡ map g (take (suc i) ys) ++ map f (drop (suc i) ys)
forget_step f g [] ys i old new h e is s = absurd (omega (arith, h))
forget_step f g (x ∷ xs) [] zero old new h e is s = cc
forget_step f g (x ∷ xs) (y ∷ ys) zero old new h e is s =
    let head : f x ≡ f y = cc in
    let tail : map f xs ≡ map f ys = cc in
    ap (λ t. t ∷ map f xs) (s y (ap f is ∙ head)) ∙ ap (λ ts. g y ∷ ts) tail
forget_step f g (x ∷ xs) [] (suc i) old new h e is s = cc
forget_step f g (x ∷ xs) (y ∷ ys) (suc i) old new h e is s =
    let head : f x ≡ g y = cc in
    let tail : map f xs ≡ map g (take i ys) ++ map f (drop i ys) = cc in
    ap (λ t. t ∷ map f (set xs i new)) head ∙ ap (λ ts. g y ∷ ts) (forget_step f g xs ys i old new (omega (arith, h)) tail is s)

pub forget_end : {S T : Type 0} (f g : S → T) (ys : List S) (i : ℕ) → length ys ≤ i → map g (take i ys) ++ map f (drop i ys) ≡ map g ys
forget_end f g [] zero h = refl
forget_end f g [] (suc i) h = refl
forget_end f g (y ∷ ys) zero h = absurd (omega (arith, h))
forget_end f g (y ∷ ys) (suc i) h = ap (λ ts. g y ∷ ts) (forget_end f g ys i (omega (arith, h)))

pub get-set : {A : Type 0} (xs : List A) (i : ℕ) (x : A) → i < length xs → slice_get (set xs i x) i ≡ Some x
get-set [] i x h = absurd (omega (arith, h))
get-set (y ∷ xs) zero x h = refl
get-set (y ∷ xs) (suc i) x h = get-set xs i x (omega (arith, h))

pub get-set_other : {A : Type 0} (xs : List A) (i j : ℕ) (x : A) → (j ≡ i → ⊥) → slice_get (set xs i x) j ≡ slice_get xs j
get-set_other [] i j x d = refl
get-set_other (y ∷ xs) zero zero x d = absurd (d refl)
get-set_other (y ∷ xs) zero (suc j) x d = refl
get-set_other (y ∷ xs) (suc i) zero x d = refl
get-set_other (y ∷ xs) (suc i) (suc j) x d = get-set_other xs i j x (λ e. d (ap suc e))

pub length-set : {A : Type 0} (xs : List A) (i : ℕ) (x : A) → length (set xs i x) ≡ length xs
length-set [] i x = refl
length-set (y ∷ xs) zero x = refl
length-set (y ∷ xs) (suc i) x = ap suc (length-set xs i x)

-- ---- what holds of each element

pub all_at : {A : Type 0} (P : A → Type 0) (xs : List A) (i : ℕ) (x : A) → AllByRecursion P xs → slice_get xs i ≡ Some x → P x
all_at P [] i x h e = cc
all_at P (y ∷ xs) zero x h e = let z : y ≡ x = cc in subst P z h.0
all_at P (y ∷ xs) (suc i) x h e = all_at P xs i x h.1 e

pub all_set : {A : Type 0} (P : A → Type 0) (xs : List A) (i : ℕ) (x : A) → P x → AllByRecursion P xs → AllByRecursion P (set xs i x)
all_set P [] i x f h = tt
all_set P (y ∷ xs) zero x f h = (f, h.1)
all_set P (y ∷ xs) (suc i) x f h = (h.0, all_set P xs i x f h.1)

pub all_more : {A : Type 0} (P : A → Type 0) (xs : List A) (x : A) → AllByRecursion P xs → P x → AllByRecursion P (xs ++ x ∷ [])
all_more P [] x h f = (f, tt)
all_more P (y ∷ xs) x h f = (h.0, all_more P xs x h.1 f)
