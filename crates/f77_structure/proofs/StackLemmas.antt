-- A stack is a list whose last element is first.
use Rattle.std.proofs.Common.{◌≡◌, ℕ, ◌-◌, true, false, List, [], ◌∷◌, ◌++◌, length, reverse, Some, None, refl, ap, sym, subst, ◌∙◌, arith, length-append}
use Rattle.std.specs.Prelude.{slice_get}
use Rattle.std.proofs.lemmas.List.{reverse-append, reverse-reverse, length-reverse}
use Rattle.std.proofs.lemmas.Option.{slice_get-get_or}
use Rattle.std.proofs.Math.Seq.{get_or-append_seam}
use Rattle.f77_structure.specs.Lists.{first_of, is_none_of}

at_end : {A : Type 0} (xs : List A) (y : A) (n : ℕ) → n ≡ length xs → slice_get (xs ++ y ∷ []) n ≡ Some y
at_end xs y n e =
    slice_get-get_or (xs ++ y ∷ []) n y (omega (arith, length-append xs (y ∷ [])))
    ∙ ap Some (rw e (get_or-append_seam xs y [] y))

last_is_first : {A : Type 0} (ys : List A) → slice_get (reverse ys) (length (reverse ys) - 1) ≡ first_of ys
last_is_first [] = refl
last_is_first (y ∷ ys) =
    let e : reverse (y ∷ ys) ≡ reverse ys ++ y ∷ [] = reverse-append (y ∷ []) ys in
    rw e (at_end (reverse ys) y _ (omega (arith, length-append (reverse ys) (y ∷ []))))

-- the last element of what a stack holds is its first
pub first-reverse : {A : Type 0} (xs : List A) → slice_get xs (length xs - 1) ≡ first_of (reverse xs)
first-reverse xs =
    let P : List _ → Type 0 = λ zs. slice_get zs (length zs - 1) ≡ first_of (reverse xs) in
    subst P (reverse-reverse xs) (last_is_first (reverse xs))

no_first : {A : Type 0} (xs : List A) → first_of xs ≡ None → is_none_of xs ≡ true
no_first [] e = refl
no_first (x ∷ xs) e = cc

some_first : {A : Type 0} (xs : List A) (y : A) → first_of xs ≡ Some y → is_none_of xs ≡ false
some_first [] y e = cc
some_first (x ∷ xs) y e = refl

pub ruleset stack_steps = (first-reverse, length-reverse, reverse-append, reverse-reverse)

pub empty_without : {A : Type 0} (xs : List A) → slice_get xs (length xs - 1) ≡ None → is_none_of (reverse xs) ≡ true
empty_without xs e = no_first (reverse xs) (sym (first-reverse xs) ∙ e)

pub full_with : {A : Type 0} (xs : List A) (x : A) → slice_get xs (length xs - 1) ≡ Some x → is_none_of (reverse xs) ≡ false
full_with xs x e = some_first (reverse xs) x (sym (first-reverse xs) ∙ e)

pub ruleset empties = (empty_without, full_with)
