-- Lemmas on the longest of some words.
use Rattle.std.proofs.Common.{◌≡◌, ℕ, ◌<◌, ◌+◌, List, [], ◌∷◌, length, map, drop, refl, ap, ◌∙◌, arith, get_or, Option, Some, None, option_map, Bool, true, false, nat_lt, if◌then◌else◌, drop-cons, add-one}
use Rattle.std.proofs.lemmas.Bool.Decides.{nat_tests}
use Rattle.f77_forms.specs.Longest.{longer, longest}

pub longer-none : {X : Type 0} (word : X → List ℕ) (a : Option X) → longer word a None ≡ a
longer-none word None = refl
longer-none word (Some a) = refl

pub longer-assoc : {X : Type 0} (word : X → List ℕ) (a b c : Option X) → longer word (longer word a b) c ≡ longer word a (longer word b c)
longer-assoc word None b c = refl
longer-assoc word (Some a) None c = refl
longer-assoc word (Some a) (Some b) None = longer-none word _
longer-assoc word (Some a) (Some b) (Some c) = grind (arith, nat_tests)

pub longest-drop : {X : Type 0} (word : X → List ℕ) (test : X → Bool) (xs : List X) (i : ℕ) (d : X) → i < length xs
    → longest word test (drop i xs) ≡ longer word (if test (get_or xs i d) then Some (get_or xs i d) else None) (longest word test (drop (i + 1) xs))
longest-drop word test xs i d h = rw (add-one, drop-cons xs i d) refl

pub ruleset longest_steps = (longest-drop, longer-assoc, longer-none)

option_map-choice : {X Y : Type 0} (f : X → Y) (t : Bool) (a b : X)
    → option_map f (if t then Some a else Some b) ≡ (if t then Some (f a) else Some (f b))
option_map-choice f true a b = refl
option_map-choice f false a b = refl

longer-map : {X Y : Type 0} (f : X → Y) (word : Y → List ℕ) (a b : Option X)
    → option_map f (longer (λ x. word (f x)) a b) ≡ longer word (option_map f a) (option_map f b)
longer-map f word None b = refl
longer-map f word (Some a) None = refl
longer-map f word (Some a) (Some b) = option_map-choice f (nat_lt (length (word (f a))) (length (word (f b)))) b a

stands-map : {X Y : Type 0} (f : X → Y) (t : Bool) (x : X) → option_map f (if t then Some x else None) ≡ (if t then Some (f x) else None)
stands-map f true x = refl
stands-map f false x = refl

-- of things that are seen as others
pub longest-map : {X Y : Type 0} (f : X → Y) (word : Y → List ℕ) (test : Y → Bool) (xs : List X)
    → option_map f (longest (λ x. word (f x)) (λ x. test (f x)) xs) ≡ longest word test (map f xs)
longest-map f word test [] = refl
longest-map f word test (x ∷ xs) =
    longer-map f word (if test (f x) then Some x else None) (longest (λ x. word (f x)) (λ x. test (f x)) xs)
    ∙ ap (λ a. longer word a (option_map f (longest (λ x. word (f x)) (λ x. test (f x)) xs))) (stands-map f (test (f x)) x)
    ∙ ap (longer word (if test (f x) then Some (f x) else None)) (longest-map f word test xs)
