-- Steps of bringing rows to normal form in place.
use Rattle.std.proofs.Common.{◌≡◌, ◌∙◌, ℕ, ◌+◌, ◌≤◌, ◌<◌, Bool, true, false, ◌||◌, List, [], ◌∷◌, ◌++◌, length, take, drop, get_or, set, arith, ap, ap₂, sym, refl}
use Rattle.std.proofs.lemmas.List.{length-set, get_or-set_same, take-set-le, drop-set-lt, take_more, append-nil}
use Rattle.std.specs.List.{swap, list_any}
use Rattle.affine_systems.specs.declared.items.Item.{Item}
use Rattle.affine_systems.specs.Normal.{Normal, Kept, Always, Never, TooBig, normal}
use Rattle.affine_systems.specs.Tidy.{with_normal, normal_items, is_too_big, any_too_big}
use Rattle.affine_systems.proofs.ItemSteps.{normal_items-push}
use Rattle.work_area.specs.declared.forming.Fate.{Fate}
use Rattle.work_area.specs.declared.forming.Fate.TheVariants.{Stays, Goes, Lost}
use Rattle.work_area.specs.Choices.{Settles}
use Rattle.work_area.proofs.SortSteps.{take-swap, drop-swap, tails}

pub settles_stays : (n : Normal) (f : Fate) (x y : Item) → Settles n f x y → f ≡ Stays → (with_normal x n [] ≡ y ∷ []) × (is_too_big n ≡ false)
settles_stays (Kept r) f x y s e = (ap (λ z. z ∷ []) (sym s.1), refl)
settles_stays Always f x y s e = cc
settles_stays Never f x y s e = (ap (λ z. z ∷ []) (sym s.1), refl)
settles_stays TooBig f x y s e = cc

pub settles_goes : (n : Normal) (f : Fate) (x y : Item) → Settles n f x y → f ≡ Goes → (with_normal x n [] ≡ []) × (is_too_big n ≡ false)
settles_goes (Kept r) f x y s e = let a = s.0 in cc
settles_goes Always f x y s e = (refl, refl)
settles_goes Never f x y s e = let a = s.0 in cc
settles_goes TooBig f x y s e = cc

pub settles_lost : (n : Normal) (f : Fate) (x y : Item) → Settles n f x y → f ≡ Lost → (with_normal x n [] ≡ []) × (is_too_big n ≡ true)
settles_lost (Kept r) f x y s e = let a = s.0 in cc
settles_lost Always f x y s e = cc
settles_lost Never f x y s e = let a = s.0 in cc
settles_lost TooBig f x y s e = (refl, refl)

any-append : (f : Item → Bool) (xs : List Item) (x : Item) → list_any f (xs ++ x ∷ []) ≡ (list_any f xs || f x)
any-append f [] x = go (f x) where
  go : (b : Bool) → (b || false) ≡ (false || b)
  go true = refl
  go false = refl
any-append f (y ∷ ys) x = ap (λ b. f y || b) (any-append f ys x) ∙ go (f y) (list_any f ys) (f x) where
  go : (a b c : Bool) → (a || (b || c)) ≡ ((a || b) || c)
  go true b c = refl
  go false b c = refl

pub lost_more : (old : List Item) (x : Item) (i : ℕ) (d : Item) (l m : Bool) → i < length old → get_or old i d ≡ x → is_too_big (normal false x.row) ≡ m → l ≡ any_too_big false (take i old) → (l || m) ≡ any_too_big false (take (i + 1) old)
lost_more old x i d l m h e t a =
    ap₂ (λ p q. p || q) a (sym t ∙ ap (λ (y : Item). is_too_big (normal false y.row)) (sym e))
    ∙ (sym (any-append (λ (y : Item). is_too_big (normal false y.row)) (take i old) (get_or old i d)) ∙ ap (any_too_big false) (sym (take_more old i d h)))

normal_more : (old : List Item) (x : Item) (i : ℕ) (d : Item) → i < length old → get_or old i d ≡ x → normal_items false (take (i + 1) old) ≡ normal_items false (take i old) ++ with_normal x (normal false x.row) []
normal_more old x i d h e = ap (normal_items false) (take_more old i d h ∙ ap (λ y. take i old ++ y ∷ []) e) ∙ normal_items-push false (take i old) x

pub form_stays : (old cur mid new : List Item) (x y : Item) (i kept : ℕ) (d : Item) → kept ≤ i → i < length cur → i < length old → get_or old i d ≡ x → with_normal x (normal false x.row) [] ≡ y ∷ [] → mid ≡ set cur i y → new ≡ swap mid kept i → take kept cur ≡ normal_items false (take i old) → take (kept + 1) new ≡ normal_items false (take (i + 1) old)
form_stays old cur mid new x y i kept d l m o e w a b h =
    let n : i < length mid = omega (arith, ap length a, length-set cur i y, m) in
    ap (take (kept + 1)) b ∙ (take-swap mid kept i d l n
    ∙ (ap₂ (λ us z. us ++ z ∷ []) (ap (take kept) a ∙ (take-set-le kept cur i y l ∙ h)) (ap (λ is. get_or is i d) a ∙ get_or-set_same cur i y d m)
    ∙ (ap (λ us. normal_items false (take i old) ++ us) (sym w) ∙ sym (normal_more old x i d o e))))

pub form_goes : (old cur mid : List Item) (x y : Item) (i kept : ℕ) (d : Item) → kept ≤ i → i < length old → get_or old i d ≡ x → with_normal x (normal false x.row) [] ≡ [] → mid ≡ set cur i y → take kept cur ≡ normal_items false (take i old) → take kept mid ≡ normal_items false (take (i + 1) old)
form_goes old cur mid x y i kept d l o e w a h =
    ap (take kept) a ∙ (take-set-le kept cur i y l ∙ (h ∙ (sym (append-nil (normal_items false (take i old))) ∙ (ap (λ us. normal_items false (take i old) ++ us) (sym w) ∙ sym (normal_more old x i d o e)))))

pub rest_set : (old cur mid : List Item) (y : Item) (i : ℕ) (d : Item) → i < length cur → i < length old → mid ≡ set cur i y → drop i cur ≡ drop i old → drop (i + 1) mid ≡ drop (i + 1) old
rest_set old cur mid y i d l m e h = ap (drop (i + 1)) e ∙ (drop-set-lt (i + 1) cur i y (omega arith) ∙ tails cur old i d l m h)

pub rest_swapped : (old cur mid new : List Item) (y : Item) (i kept : ℕ) (d : Item) → kept ≤ i → i < length cur → i < length old → mid ≡ set cur i y → new ≡ swap mid kept i → drop i cur ≡ drop i old → drop (i + 1) new ≡ drop (i + 1) old
rest_swapped old cur mid new y i kept d k l m e s h =
    let n : i < length mid = omega (arith, ap length e, length-set cur i y, l) in
    ap (drop (i + 1)) s ∙ (drop-swap mid kept i (i + 1) d (omega (arith, k)) (omega arith) (omega (arith, k, n)) n ∙ rest_set old cur mid y i d l m e h)
