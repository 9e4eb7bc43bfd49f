-- What is read step by step, and what holds of each of a list.
use Rattle.std.proofs.Common.{◌≡◌, ℕ, ◌<◌, ◌≤◌, ◌⊎◌, inl, inr, arith, Bool, true, false, ◌&&◌, List, [], ◌∷◌, map, Option, Some, None, option_map, option_and_then, refl, ap, ◌∙◌, sym, subst, if◌then◌else◌}
use Rattle.std.specs.List.{list_all}
use Rattle.std.specs.Prelude.{nat_le}
use Rattle.std.proofs.lemmas.List.{map-id}
use Rattle.std.proofs.lemmas.Bool.{false≢true}
use Rattle.std.proofs.lemmas.Bool.Decides.{leb_tells}
use Rattle.serde_json.specs.Data.{Data}
use Rattle.base_json.specs.Shapes.{list_of, each_as, list_as, when}
use Rattle.base_json.specs.Written.{list_data}
use Rattle.base_json.proofs.Parts.{data-items}
use Rattle.base_values.specs.Naming.{Each}
use Rattle.fx_lists.proofs.Booleans.{and_from, and_parts}

-- ---- options

pub and_then_some : {A B : Type 0} (f : A → Option B) (o : Option A) (b : B) → option_and_then f o ≡ Some b → (a : A) × (o ≡ Some a) × (f a ≡ Some b)
and_then_some f None b e = cc
and_then_some f (Some a) b e = (a, refl, e)

pub map_some : {A B : Type 0} (f : A → B) (o : Option A) (b : B) → option_map f o ≡ Some b → (a : A) × (o ≡ Some a) × (f a ≡ b)
map_some f None b e = cc
map_some f (Some a) b e = (a, refl, cc)

pub when_some : {A : Type 0} (t : Bool) (x y : A) → when t x ≡ Some y → (t ≡ true) × (x ≡ y)
when_some true x y e = (refl, cc)
when_some false x y e = cc

pub if_some : {A : Type 0} (t : Bool) (o : Option A) (y : A) → (if t then o else None) ≡ Some y → (t ≡ true) × (o ≡ Some y)
if_some true o y e = (refl, e)
if_some false o y e = cc

-- the same, with what follows from it as the last argument
pub then_read : {A B : Type 0} (P : Type 0) (f : A → Option B) (o : Option A) (b : B) → option_and_then f o ≡ Some b → ((a : A) → o ≡ Some a → f a ≡ Some b → P) → P
then_read P f None b e k = absurd (none_some e) where
  none_some : None ≡ Some b → ⊥
  none_some q = cc
then_read P f (Some a) b e k = k a refl e

pub map_read : {A B : Type 0} (P : B → Type 0) (f : A → B) (o : Option A) (b : B) → option_map f o ≡ Some b → ((a : A) → o ≡ Some a → P (f a)) → P b
map_read P f None b e k = absurd (none_some e) where
  none_some : None ≡ Some b → ⊥
  none_some q = cc
map_read P f (Some a) b e k = let z : f a ≡ b = cc in subst P z (k a refl)

pub if_read : {A : Type 0} (P : Type 0) (t : Bool) (o : Option A) (y : A) → (if t then o else None) ≡ Some y → (o ≡ Some y → P) → P
if_read P true o y e k = k e
if_read P false o y e k = absurd (none_some e) where
  none_some : None ≡ Some y → ⊥
  none_some q = cc

pub when_read : {A : Type 0} (P : A → Type 0) (t : Bool) (x y : A) → when t x ≡ Some y → (t ≡ true → P x) → P y
when_read P true x y e k = let z : x ≡ y = cc in subst P z (k refl)
when_read P false x y e k = absurd (none_some e) where
  none_some : None ≡ Some y → ⊥
  none_some q = cc

-- the test says whether a number is at most another
pub Decides-leb : (a b : ℕ) → (nat_le a b ≡ true → a ≤ b) × (a ≤ b → nat_le a b ≡ true)
Decides-leb a b = go (leb_tells a b) where
  go : ((nat_le a b ≡ true) × (a ≤ b)) ⊎ ((nat_le a b ≡ false) × (b < a)) → (nat_le a b ≡ true → a ≤ b) × (a ≤ b → nat_le a b ≡ true)
  go (inl h) = (λ e. h.1, λ k. h.0)
  go (inr h) =
      let l : b < a = h.1 in
      (λ e. absurd (false≢true (sym h.0 ∙ e)), λ k. absurd (omega arith))

-- ---- each of a list

pub each_map : {A : Type 0} (P Q : A → Type 0) → ((x : A) → P x → Q x) → (xs : List A) → Each P xs → Each Q xs
each_map P Q f [] h = tt
each_map P Q f (x ∷ xs) h = (f x h.0, each_map P Q f xs h.1)

pub each_both : {A : Type 0} (P Q R : A → Type 0) → ((x : A) → P x → Q x → R x) → (xs : List A) → Each P xs → Each Q xs → Each R xs
each_both P Q R f [] h k = tt
each_both P Q R f (x ∷ xs) h k = (f x h.0 k.0, each_both P Q R f xs h.1 k.1)

pub each_all : {A : Type 0} (p : A → Bool) (xs : List A) → list_all p xs ≡ true → Each (λ x. p x ≡ true) xs
each_all p [] e = tt
each_all p (x ∷ xs) e = let h = and_parts (p x) (list_all p xs) e in (h.0, each_all p xs h.1)

pub all_each : {A : Type 0} (p : A → Bool) (xs : List A) → Each (λ x. p x ≡ true) xs → list_all p xs ≡ true
all_each p [] h = refl
all_each p (x ∷ xs) h = and_from (p x) (list_all p xs) h.0 (all_each p xs h.1)

-- ---- lists that are read

pub each_read : {T : Type 0} (f : Data → Option T) (P : T → Type 0) → ((d : Data) (x : T) → f d ≡ Some x → P x) → (ds : List Data) (xs : List T) → each_as f ds ≡ Some xs → Each P xs
each_read f P h [] [] e = tt
each_read f P h [] (x ∷ xs) e = cc
each_read f P h (d ∷ ds) xs e =
    let a = and_then_some (λ y. option_map (λ ys. y ∷ ys) (each_as f ds)) (f d) xs e in
    let b = map_some (λ ys. a.0 ∷ ys) (each_as f ds) xs a.2 in
    subst (Each P) b.2 (h d a.0 a.1, each_read f P h ds b.0 b.1)

pub list_read : {T : Type 0} (f : Data → Option T) (P : T → Type 0) → ((d : Data) (x : T) → f d ≡ Some x → P x) → (d : Data) (xs : List T) → list_as f d ≡ Some xs → Each P xs
list_read f P h d xs e = let a = and_then_some (each_as f) (list_of d) xs e in each_read f P h a.0 xs a.2

pub each_to : {A T : Type 0} (f : Data → Option T) (g : A → Data) (h : A → T) (xs : List A) → Each (λ x. f (g x) ≡ Some (h x)) xs → each_as f (map g xs) ≡ Some (map h xs)
each_to f g h [] e = refl
each_to f g h (x ∷ xs) e =
    ap (option_and_then (λ y. option_map (λ ys. y ∷ ys) (each_as f (map g xs)))) e.0 ∙ ap (option_map (λ ys. h x ∷ ys)) (each_to f g h xs e.1)

pub each_back : {T : Type 0} (f : Data → Option T) (g : T → Data) (xs : List T) → Each (λ x. f (g x) ≡ Some x) xs → each_as f (map g xs) ≡ Some xs
each_back f g xs h = each_to f g (λ x. x) xs h ∙ ap Some (map-id xs)

pub list_back : {T : Type 0} (f : Data → Option T) (g : T → Data) (xs : List T) → Each (λ x. f (g x) ≡ Some x) xs → list_as f (list_data (map g xs)) ≡ Some xs
list_back f g xs h = ap (each_as f) (data-items (map g xs)) ∙ each_back f g xs h
