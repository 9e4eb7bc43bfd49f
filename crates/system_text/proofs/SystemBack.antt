-- Rows and systems are read as they were written.
use Rattle.std.proofs.Common.{◌≡◌, ℕ, Bool, true, false, List, [], ◌∷◌, ◌++◌, map, refl, sym, ap, ◌∙◌, Some, None}
use Rattle.std.specs.Prelude.{nat_eq, codes, if◌then◌else◌, bytes_eq}
use Rattle.std.specs.Option.{option_or}
use Rattle.affine_systems.specs.declared.row.Row.{Row}
use Rattle.affine_systems.specs.declared.row.System.{System}
use Rattle.affine_systems.specs.Rows.{false_row, AllRows}
use Rattle.affine_systems.specs.Given.{IsGiven}
use Rattle.system_text.specs.SystemText.{each_after, joined, row_side, row_text, are_never, rows_text, weak_text}
use Rattle.system_text.specs.Reading.{Bytes, cut, pieces, read_each, read_side, row_of, read_sides, read_row, read_next_row, rows_of, read_rows, read_weak}
use Rattle.system_text.specs.Printed.{AreNames, AreNamed, IsOfNames, IsOrdered}
use Rattle.system_text.specs.Laws.{SystemsReadBack}
use Rattle.system_text.proofs.Texts.{IsFree, AreFree, free-append, free-each_after, cut-at, cut-none, spaced, pieces-spaced, other_text}
use Rattle.system_text.proofs.Parts.{IsOuter}
use Rattle.system_text.proofs.Sides.{side_parts, side_free, side-back}
use Rattle.system_text.proofs.Moved.{row-moved}

less_outer : IsOuter 60
less_outer = record { mark = record { name = refl; apostrophe = refl }; star = refl }

equals_outer : IsOuter 61
equals_outer = record { mark = record { name = refl; apostrophe = refl }; star = refl }

comma_outer : IsOuter 44
comma_outer = record { mark = record { name = refl; apostrophe = refl }; star = refl }

pub brace_outer : IsOuter 125
brace_outer = record { mark = record { name = refl; apostrophe = refl }; star = refl }

-- ---- rows

sides-back : (names : List Bytes) (e : Bool) (sign : ℕ) (r : Row) → IsFree sign (row_side false names r) → AreNames names → IsGiven r → AreNamed names r.terms
    → read_sides names e sign (row_side false names r ++ (sign ∷ (61 ∷ row_side true names r))) ≡ Some (row_of e (side_parts false r) (side_parts true r))
sides-back names e sign r f h g k =
    let c : cut sign (row_side false names r ++ (sign ∷ (61 ∷ row_side true names r))) ≡ Some (row_side false names r, 61 ∷ row_side true names r) =
    cut-at sign (row_side false names r) (61 ∷ row_side true names r) f in
    let l : read_side names (row_side false names r) ≡ Some (side_parts false r) = side-back names false r h g k in
    let m : read_side names (row_side true names r) ≡ Some (side_parts true r) = side-back names true r h g k in
    rw (c, l, m)

none_there : (names : List Bytes) (e : Bool) (sign : ℕ) (x : Bytes) → IsFree sign x → read_sides names e sign x ≡ None
none_there names e sign x f = let c : cut sign x ≡ None = cut-none sign x f in rw c

row_at : (names : List Bytes) (e : Bool) (r : Row) → r.equal ≡ e → AreNames names → IsGiven r → AreNamed names r.terms
    → read_row names (row_side false names r ++ ((if e then codes "==" else codes "<=") ++ row_side true names r)) ≡ Some (row_of e (side_parts false r) (side_parts true r))
row_at names true r e h g k =
    let n : read_sides names false 60 (row_side false names r ++ (61 ∷ (61 ∷ row_side true names r))) ≡ None =
    none_there names false 60 (row_side false names r ++ (61 ∷ (61 ∷ row_side true names r)))
    (free-append 60 (row_side false names r) (61 ∷ (61 ∷ row_side true names r)) (side_free names false r 60 less_outer refl h g k) (refl, (refl, side_free names true r 60 less_outer refl h g k))) in
    ap (λ o. option_or o (read_sides names true 61 (row_side false names r ++ (61 ∷ (61 ∷ row_side true names r))))) n
    ∙ sides-back names true 61 r (side_free names false r 61 equals_outer refl h g k) h g k
row_at names false r e h g k =
    ap (λ o. option_or o (read_sides names true 61 (row_side false names r ++ (60 ∷ (61 ∷ row_side true names r)))))
    (sides-back names false 60 r (side_free names false r 60 less_outer refl h g k) h g k)

pub row-back : (names : List Bytes) (r : Row) → AreNames names → IsGiven r → AreNamed names r.terms → read_row names (row_text names r) ≡ Some r
row-back names r h g k = row_at names r.equal r refl h g k ∙ ap Some (row-moved r g.0)

sign_free : (m : ℕ) (e : Bool) → nat_eq 60 m ≡ false → nat_eq 61 m ≡ false → IsFree m (if e then codes "==" else codes "<=")
sign_free m true l s = (s, (s, tt))
sign_free m false l s = (l, (s, tt))

row_free : (names : List Bytes) (r : Row) (m : ℕ) → IsOuter m → nat_eq 43 m ≡ false → nat_eq 60 m ≡ false → nat_eq 61 m ≡ false → AreNames names → IsGiven r → AreNamed names r.terms → IsFree m (row_text names r)
row_free names r m o p l s h g k =
    free-append m (row_side false names r) ((if r.equal then codes "==" else codes "<=") ++ row_side true names r) (side_free names false r m o p h g k)
    (free-append m (if r.equal then codes "==" else codes "<=") (row_side true names r) (sign_free m r.equal l s) (side_free names true r m o p h g k))

rows_free : (names : List Bytes) (rs : List Row) (m : ℕ) → IsOuter m → nat_eq 43 m ≡ false → nat_eq 60 m ≡ false → nat_eq 61 m ≡ false → AreNames names → AllRows IsGiven rs → AllRows (λ r. AreNamed names r.terms) rs
    → AreFree m (map (row_text names) rs)
rows_free names [] m o p l s h g k = tt
rows_free names (r ∷ rs) m o p l s h g k = (row_free names r m o p l s h g.0 k.0, rows_free names rs m o p l s h g.1 k.1)

-- ---- rows one behind the other

next_rows : (names : List Bytes) (rs : List Row) → AreNames names → AllRows IsGiven rs → AllRows (λ r. AreNamed names r.terms) rs
    → read_each (read_next_row names) (spaced (map (row_text names) rs)) ≡ Some rs
next_rows names [] h g k = refl
next_rows names (r ∷ rs) h g k =
    let a : read_row names (row_text names r) ≡ Some r = row-back names r h g.0 k.0 in
    let b : read_each (read_next_row names) (spaced (map (row_text names) rs)) ≡ Some rs = next_rows names rs h g.1 k.1 in
    rw (a, b)

some_rows : (names : List Bytes) (r : Row) (rs : List Row) → AreNames names → AllRows IsGiven (r ∷ rs) → AllRows (λ s. AreNamed names s.terms) (r ∷ rs)
    → rows_of names (pieces 44 (joined (codes ", ") (map (row_text names) (r ∷ rs)))) ≡ Some (r ∷ rs)
some_rows names r rs h g k =
    let f = rows_free names (r ∷ rs) 44 comma_outer refl refl refl h g k in
    ap (rows_of names) (pieces-spaced (row_text names r) (map (row_text names) rs) f.0 f.1)
    ∙ (let a : read_row names (row_text names r) ≡ Some r = row-back names r h g.0 k.0 in
    let b : read_each (read_next_row names) (spaced (map (row_text names) rs)) ≡ Some rs = next_rows names rs h g.1 k.1 in
    rw (a, b))

-- a text of rows is none that is read otherwise
unlike : (names : List Bytes) (x y : Bytes) (rs : List Row) → rows_of names (pieces 44 x) ≡ Some rs → rows_of names (pieces 44 y) ≡ None → bytes_eq x y ≡ false
unlike names x y rs a b = other_text x y (λ e. let c : rows_of names (pieces 44 x) ≡ rows_of names (pieces 44 y) = ap (λ z. rows_of names (pieces 44 z)) e in cc)

rows_read : (names : List Bytes) (x : Bytes) (rs : List Row) → rows_of names (pieces 44 x) ≡ Some rs → read_rows names x ≡ Some rs
rows_read names x rs e =
    let a : bytes_eq x [] ≡ false = unlike names x [] rs e refl in
    let b : bytes_eq x (codes "FALSE") ≡ false = unlike names x (codes "FALSE") rs e refl in
    rw (a, b) e

each_back : (names : List Bytes) (rs : List Row) → AreNames names → AllRows IsGiven rs → AllRows (λ r. AreNamed names r.terms) rs
    → read_rows names (joined (codes ", ") (map (row_text names) rs)) ≡ Some rs
each_back names [] h g k = refl
each_back names (r ∷ rs) h g k = rows_read names (joined (codes ", ") (map (row_text names) (r ∷ rs))) (r ∷ rs) (some_rows names r rs h g k)

rows_at : (names : List Bytes) (rs : List Row) (b : Bool) → are_never rs ≡ b → AreNames names → AllRows IsGiven rs → (are_never rs ≡ true → rs ≡ false_row ∷ []) → AllRows (λ r. AreNamed names r.terms) rs
    → read_rows names (if b then codes "FALSE" else joined (codes ", ") (map (row_text names) rs)) ≡ Some rs
rows_at names rs true e h g n k = ap Some (sym (n e))
rows_at names rs false e h g n k = each_back names rs h g k

rows-back : (names : List Bytes) (s : System) → AreNames names → IsOrdered s → IsOfNames names s → read_rows names (rows_text names s.rows) ≡ Some s.rows
rows-back names s h o k = rows_at names s.rows (are_never s.rows) refl h o.rows o.never k

-- ---- systems

text_free_at : (names : List Bytes) (rs : List Row) (b : Bool) → AreNames names → AllRows IsGiven rs → AllRows (λ r. AreNamed names r.terms) rs → IsFree 125 (if b then codes "FALSE" else joined (codes ", ") (map (row_text names) rs))
text_free_at names rs true h g k = (refl, (refl, (refl, (refl, (refl, tt)))))
text_free_at names [] false h g k = tt
text_free_at names (r ∷ rs) false h g k =
    let f = rows_free names (r ∷ rs) 125 brace_outer refl refl refl h g k in
    free-append 125 (row_text names r) (each_after (codes ", ") (map (row_text names) rs)) f.0 (free-each_after 125 (codes ", ") (map (row_text names) rs) (refl, (refl, tt)) f.1)

weak-back : (w : Bool) → read_weak (weak_text w) ≡ Some w
weak-back true = refl
weak-back false = refl

pub systems_read_back : SystemsReadBack
systems_read_back names s h o k =
    let c : cut 125 (rows_text names s.rows ++ (125 ∷ weak_text s.weak)) ≡ Some (rows_text names s.rows, weak_text s.weak) =
    cut-at 125 (rows_text names s.rows) (weak_text s.weak) (text_free_at names s.rows (are_never s.rows) h o.rows k) in
    let r : read_rows names (rows_text names s.rows) ≡ Some s.rows = rows-back names s h o k in
    let w : read_weak (weak_text s.weak) ≡ Some s.weak = weak-back s.weak in
    rw (c, r, w)
