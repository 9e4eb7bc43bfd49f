-- What the entries of names say of dummies: the number of each, and whether it has a value.
use Rattle.std.proofs.Common.{◌≡◌, ℕ, zero, suc, ◌+◌, Bool, true, false, List, [], ◌∷◌, ◌++◌, map, Option, Some, None, refl, sym, ap, ◌∙◌, subst, append_assoc, arith}
use Rattle.std.specs.Prelude.{if◌then◌else◌, bytes_eq, is_some}
use Rattle.f77_ast.specs.declared.constant.Constant.{Constant}
use Rattle.f77_names.specs.Entries.{EntryTree, fresh, find, seen, changed, of_entry, has_dummy}
use Rattle.laws_programs.proofs.SymbolTables.KeptNames.{Said, Typed, Shaped, Shared, Parameter, Saved, Initial, Nothing, with_said}

-- the number and the value of a dummy; other names have no mark
abbrev pub marked : Option ℕ → Option Constant → Option (ℕ × Option Constant)
marked None v = None
marked (Some n) v = Some (n, v)

abbrev pub mark : EntryTree → Option (ℕ × Option Constant)
mark e = marked e.dummy e.value

abbrev pub marks : List EntryTree → List (Option (ℕ × Option Constant))
marks es = map mark es

abbrev pub nones : ℕ → List (Option (ℕ × Option Constant))
nones zero = []
nones (suc k) = None ∷ nones k

-- so many dummies without values, numbered from m on
abbrev pub dummy_marks : ℕ → ℕ → List (Option (ℕ × Option Constant))
dummy_marks m zero = []
dummy_marks m (suc n) = Some (m, None) ∷ dummy_marks (suc m) n

-- the first entries are so many dummies, and the others none
pub record Dummies (n : ℕ) (es : List EntryTree) : Type 0 where
  pub others : ℕ
  pub are : marks es ≡ dummy_marks 1 n ++ nones others

-- ---- one name more

marks-append : (es : List EntryTree) (e : EntryTree) → marks (es ++ e ∷ []) ≡ marks es ++ mark e ∷ []
marks-append [] e = refl
marks-append (x ∷ es) e = ap (λ ms. mark x ∷ ms) (marks-append es e)

nones-more : (k : ℕ) → nones k ++ None ∷ [] ≡ nones (suc k)
nones-more zero = refl
nones-more (suc k) = ap (λ ms. None ∷ ms) (nones-more k)

pub seen_dummies : (n : ℕ) (x : List ℕ) (line : ℕ) (es : List EntryTree) → Dummies n es → Dummies n (seen x line es)
seen_dummies n x line es d = go (is_some (find x es))
  where
    go : (b : Bool) → Dummies n (if b then es else es ++ fresh x line ∷ [])
    go true = d
    go false = record {
      others = suc d.others;
      are = marks-append es (fresh x line) ∙ ap (λ ms. ms ++ None ∷ []) d.are ∙ append_assoc (dummy_marks 1 n) (nones d.others) (None ∷ []) ∙ ap (λ ms. dummy_marks 1 n ++ ms) (nones-more d.others);
    }

-- ---- more said of a name

-- of the first entry with the name
pub marks-changed : (x : List ℕ) (f : EntryTree → EntryTree) (es : List EntryTree) → ((e : EntryTree) → find x es ≡ Some e → mark (f e) ≡ mark e) → marks (changed x f es) ≡ marks es
unfolding find
marks-changed x f [] keeps = refl
marks-changed x f (e ∷ es) keeps = go (bytes_eq x e.name) keeps (marks-changed x f es)
  where
    go : (b : Bool) → ((d : EntryTree) → (if b then Some e else find x es) ≡ Some d → mark (f d) ≡ mark d) → (((d : EntryTree) → find x es ≡ Some d → mark (f d) ≡ mark d) → marks (changed x f es) ≡ marks es) → marks (if b then f e ∷ es else e ∷ changed x f es) ≡ mark e ∷ marks es
    go true k ih = ap (λ m. m ∷ marks es) (k e refl)
    go false k ih = ap (λ ms. mark e ∷ ms) (ih k)

same_mark : (w : Said) (e : EntryTree) → mark (with_said w e) ≡ mark e
same_mark (Typed s) e = refl
same_mark (Shaped line b bs) e = refl
same_mark (Shared line) e = refl
same_mark Parameter e = refl
same_mark Saved e = refl
same_mark Initial e = refl
same_mark Nothing e = refl

pub said_dummies : (n : ℕ) (x : List ℕ) (w : Said) (es : List EntryTree) → Dummies n es → Dummies n (changed x (with_said w) es)
said_dummies n x w es d = record { others = d.others; are = marks-changed x (with_said w) es (λ e h. same_mark w e) ∙ d.are }

-- a name that is no dummy, whatever is said of it
no_dummy : (e : EntryTree) → is_some e.dummy ≡ false → e.dummy ≡ None
no_dummy e h = go e.dummy refl h
  where
    go : (o : Option ℕ) → e.dummy ≡ o → is_some o ≡ false → e.dummy ≡ None
    go None k h = k
    go (Some n) k h = cc

pub changed_other : (n : ℕ) (x : List ℕ) (f : EntryTree → EntryTree) (es : List EntryTree) → ((e : EntryTree) → (f e).dummy ≡ e.dummy) → has_dummy x es ≡ false → Dummies n es → Dummies n (changed x f es)
changed_other n x f es keeps h d = record { others = d.others; are = marks-changed x f es same ∙ d.are }
  where
    same : (e : EntryTree) → find x es ≡ Some e → mark (f e) ≡ mark e
    same e k =
        let none = no_dummy e (sym (ap (of_entry false (λ z. is_some z.dummy)) k) ∙ h) in
        ap (λ o. marked o (f e).value) (keeps e ∙ none) ∙ sym (ap (λ o. marked o e.value) none)
