-- Names, their places, and what is said of one.
use Rattle.std.proofs.Common.{◌≡◌, ℕ, zero, suc, ◌+◌, ◌-◌, ◌<◌, ◌≤◌, Bool, true, false, List, [], ◌∷◌, ◌++◌, length, map, get_or, set, Option, Some, None, refl, sym, ap, ◌∙◌, arith}
use Rattle.std.specs.Prelude.{if◌then◌else◌, bytes_eq, is_some, IfSome}
use Rattle.f77_ast.specs.Symbols.{number_from}
use Rattle.f77_names.specs.declared.entry.Entry.{Entry}
use Rattle.f77_names.specs.declared.entry.Word.{Word}
use Rattle.f77_names.specs.declared.entry.Word.TheVariants as word
use Rattle.f77_names.specs.Entries.{EntryTree, entry_tree, find, changed, entry_names, place_in, seen, fresh}
use Rattle.f77_names.specs.Words.{with_word}
use Rattle.f77_ast.proofs.NumberedNames.{number_from-least}

-- a name without a place is not found, and nothing is said of it
pub not_there : (n : ℕ) (x : List ℕ) (f : EntryTree → EntryTree) (es : List EntryTree) → number_from n (entry_names es) x ≡ None → (find x es ≡ None) × (changed x f es ≡ es)
unfolding find
not_there n x f [] e = (refl, refl)
not_there n x f (a ∷ es) e = go (bytes_eq x a.name) e (not_there (suc n) x f es)
  where
    go : (b : Bool) → (if b then Some n else number_from (suc n) (entry_names es) x) ≡ None → (number_from (suc n) (entry_names es) x ≡ None → (find x es ≡ None) × (changed x f es ≡ es)) → ((if b then Some a else find x es) ≡ None) × ((if b then f a ∷ es else a ∷ changed x f es) ≡ a ∷ es)
    go true q ih = cc
    go false q ih = ((ih q).0, ap (λ zs. a ∷ zs) (ih q).1)

-- one that has a place is found there, and what is said of it is said there
pub is_there : (n k : ℕ) (x : List ℕ) (f : EntryTree → EntryTree) (es : List Entry) (d new : Entry) → number_from n (entry_names (map entry_tree es)) x ≡ Some k → entry_tree new ≡ f (entry_tree (get_or es (k - n) d))
    → (n ≤ k) × (k - n < length es) × (find x (map entry_tree es) ≡ Some (entry_tree (get_or es (k - n) d))) × (map entry_tree (set es (k - n) new) ≡ changed x f (map entry_tree es))
unfolding find
is_there n k x f [] d new e h = cc
is_there n k x f (a ∷ es) d new e h = go (bytes_eq x a.name) e (is_there (suc n) k x f es d new)
  where
    go : (b : Bool) → (if b then Some n else number_from (suc n) (entry_names (map entry_tree es)) x) ≡ Some k
        → (number_from (suc n) (entry_names (map entry_tree es)) x ≡ Some k → entry_tree new ≡ f (entry_tree (get_or es (k - suc n) d)) → (suc n ≤ k) × (k - suc n < length es) × (find x (map entry_tree es) ≡ Some (entry_tree (get_or es (k - suc n) d))) × (map entry_tree (set es (k - suc n) new) ≡ changed x f (map entry_tree es)))
        → (n ≤ k) × (k - n < length (a ∷ es)) × ((if b then Some (entry_tree a) else find x (map entry_tree es)) ≡ Some (entry_tree (get_or (a ∷ es) (k - n) d))) × (map entry_tree (set (a ∷ es) (k - n) new) ≡ (if b then f (entry_tree a) ∷ map entry_tree es else entry_tree a ∷ changed x f (map entry_tree es)))
    go true q ih =
        let same : n ≡ k = cc in
        let z : k - n ≡ zero = omega arith in
        let here : entry_tree new ≡ f (entry_tree a) = h ∙ ap (λ i. f (entry_tree (get_or (a ∷ es) i d))) z in
        (omega arith, rw z (omega arith), ap (λ i. Some (entry_tree (get_or (a ∷ es) i d))) (sym z), ap (λ i. map entry_tree (set (a ∷ es) i new)) z ∙ ap (λ e. e ∷ map entry_tree es) here)
    go false q ih =
        let least = number_from-least (suc n) k (entry_names (map entry_tree es)) x q in
        let z : k - n ≡ suc (k - suc n) = omega (arith, least) in
        let rest = ih q (h ∙ ap (λ i. f (entry_tree (get_or (a ∷ es) i d))) z) in
        (omega (arith, rest.0), omega (arith, z, rest.1), rest.2 ∙ ap (λ i. Some (entry_tree (get_or (a ∷ es) i d))) (sym z), ap (λ i. map entry_tree (set (a ∷ es) i new)) z ∙ ap (λ zs. entry_tree a ∷ zs) rest.3)

same_name : (w : Word) (e : EntryTree) → (with_word w e).name ≡ e.name
same_name (word.Dummy n) e = refl
same_name (word.Type t) e = refl
same_name (word.Bounds b) e = refl
same_name (word.Common line) e = refl
same_name word.Parameter e = refl
same_name (word.Value c) e = refl
same_name word.Saved e = refl
same_name word.Initial e = refl

-- what is said of a name leaves the names
pub entry_names-changed : (x : List ℕ) (w : Word) (es : List EntryTree) → entry_names (changed x (with_word w) es) ≡ entry_names es
entry_names-changed x w [] = refl
entry_names-changed x w (a ∷ es) = go (bytes_eq x a.name) (entry_names-changed x w es)
  where
    go : (b : Bool) → entry_names (changed x (with_word w) es) ≡ entry_names es → entry_names (if b then with_word w a ∷ es else a ∷ changed x (with_word w) es) ≡ a.name ∷ entry_names es
    go true ih = ap (λ y. y ∷ entry_names es) (same_name w a)
    go false ih = ap (λ ys. a.name ∷ ys) ih

-- ---- by place

pub find-none : (x : List ℕ) (es : List EntryTree) → place_in es x ≡ None → find x es ≡ None
unfolding place_in
find-none x es e = (not_there 0 x (λ a. a) es e).0

pub changed-none : (x : List ℕ) (f : EntryTree → EntryTree) (es : List EntryTree) → place_in es x ≡ None → changed x f es ≡ es
unfolding place_in
changed-none x f es e = (not_there 0 x f es e).1

from_0 : (k : ℕ) → k - 0 ≡ k
from_0 k = omega arith

number_from-within : (n k : ℕ) (x : List ℕ) (es : List Entry) → number_from n (entry_names (map entry_tree es)) x ≡ Some k → k < n + length es
number_from-within n k x [] e = cc
number_from-within n k x (a ∷ es) e = go (bytes_eq x a.name) e (number_from-within (suc n) k x es)
  where
    go : (b : Bool) → (if b then Some n else number_from (suc n) (entry_names (map entry_tree es)) x) ≡ Some k → (number_from (suc n) (entry_names (map entry_tree es)) x ≡ Some k → k < suc n + length es) → k < n + suc (length es)
    go true q ih = let same : n ≡ k = cc in omega arith
    go false q ih = omega (arith, ih q)

-- a place is one of the list
pub place-within : (o : Option ℕ) (x : List ℕ) (es : List Entry) → o ≡ place_in (map entry_tree es) x → IfSome o (λ at. at < length es)
unfolding place_in
place-within None x es e = tt
place-within (Some k) x es e = omega (arith, number_from-within 0 k x es (sym e))

pub find-at : (x : List ℕ) (k : ℕ) (es : List Entry) (d : Entry) → place_in (map entry_tree es) x ≡ Some k → find x (map entry_tree es) ≡ Some (entry_tree (get_or es k d))
unfolding place_in
find-at x k es d e =
    let there = is_there 0 k x (λ a. a) es d (get_or es (k - 0) d) e refl in
    there.2 ∙ ap (λ i. Some (entry_tree (get_or es i d))) (from_0 k)

pub changed-at : (x : List ℕ) (f : EntryTree → EntryTree) (k : ℕ) (es : List Entry) (d new : Entry) → place_in (map entry_tree es) x ≡ Some k → entry_tree new ≡ f (entry_tree (get_or es k d)) → map entry_tree (set es k new) ≡ changed x f (map entry_tree es)
unfolding place_in
changed-at x f k es d new e h =
    let there = is_there 0 k x f es d new e (h ∙ ap (λ i. f (entry_tree (get_or es i d))) (sym (from_0 k))) in
    ap (λ i. map entry_tree (set es i new)) (sym (from_0 k)) ∙ there.3

-- ---- a name more

find_is : (n : ℕ) (x : List ℕ) (es : List EntryTree) → is_some (find x es) ≡ is_some (number_from n (entry_names es) x)
unfolding find
find_is n x [] = refl
find_is n x (a ∷ es) = go (bytes_eq x a.name) (find_is (suc n) x es)
  where
    go : (b : Bool) → is_some (find x es) ≡ is_some (number_from (suc n) (entry_names es) x) → is_some (if b then Some a else find x es) ≡ is_some (if b then Some n else number_from (suc n) (entry_names es) x)
    go true ih = refl
    go false ih = ih

-- a name that is there is not added
pub seen-old : (o : Option ℕ) (x : List ℕ) (line : ℕ) (es : List EntryTree) → o ≡ place_in es x → is_some o ≡ true → es ≡ seen x line es
unfolding place_in
seen-old o x line es e t =
    let here : is_some (find x es) ≡ true = find_is 0 x es ∙ ap is_some (sym e) ∙ t in
    ap (λ b. if b then es else es ++ fresh x line ∷ []) (sym here)

pub not_placed : (o : Option ℕ) (x : List ℕ) (es : List EntryTree) → o ≡ place_in es x → is_some o ≡ false → place_in es x ≡ None
not_placed (Some k) x es e t = cc
not_placed None x es e t = sym e

pub seen-new : (x : List ℕ) (line : ℕ) (es : List EntryTree) → place_in es x ≡ None → seen x line es ≡ es ++ fresh x line ∷ []
seen-new x line es e = ap (λ o. if is_some o then es else es ++ fresh x line ∷ []) (find-none x es e)
