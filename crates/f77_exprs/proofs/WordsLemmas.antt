-- A word at the front of a text, as std's slices see it.
use Rattle.std.proofs.Common.{◌≡◌, ℕ, List, [], ◌∷◌, length, take, drop, refl, Option, Some, None, Bool, true, false}
use Rattle.std.specs.Prelude.{nat_eq, if◌then◌else◌, ◌&&◌}
use Rattle.std.specs.Cmp.Lexicographic.{pointwise}
use Rattle.f77_exprs.specs.Words.{after}

cut_at : (t b : Bool) (x y : Option (List ℕ)) → (b ≡ false → x ≡ None) → (t && b) ≡ false → (if t then x else None) ≡ None
cut_at true b x y f h = f h
cut_at false b x y f h = refl

pub after-none : (word text : List ℕ) → pointwise nat_eq (take (length word) text) word ≡ false → after word text ≡ None
after-none [] text h = cc
after-none (w ∷ ws) [] h = refl
after-none (w ∷ ws) (c ∷ cs) h = cut_at (nat_eq c w) _ (after ws cs) None (after-none ws cs) h

found_at : (t b : Bool) (x : Option (List ℕ)) (r : List ℕ) → (b ≡ true → x ≡ Some r) → (t && b) ≡ true → (if t then x else None) ≡ Some r
found_at true b x r f h = f h
found_at false b x r f h = cc

pub after-some : (word text : List ℕ) → pointwise nat_eq (take (length word) text) word ≡ true → after word text ≡ Some (drop (length word) text)
after-some [] text h = refl
after-some (w ∷ ws) [] h = cc
after-some (w ∷ ws) (c ∷ cs) h = found_at (nat_eq c w) _ (after ws cs) (drop (length ws) cs) (after-some ws cs) h

pub ruleset after_stripped = (after-none, after-some)
