-- Lines are read as they were written.
use Rattle.std.proofs.Common.{◌≡◌, ℕ, false, List, [], ◌∷◌, ◌++◌, map, refl, ap, ◌∙◌, Some}
use Rattle.std.specs.Prelude.{codes, bytes_eq}
use Rattle.system_text.specs.SystemText.{each_after, name_at, system_text, cells_text}
use Rattle.system_text.specs.Reading.{Bytes, cut, read_each, read_name, read_cells, read_system}
use Rattle.system_text.specs.Printed.{in_name, AreNames, AreNumbers}
use Rattle.system_text.specs.Laws.{PreconditionLinesReadBack, TransformerLinesReadBack}
use Rattle.system_text.proofs.Texts.{IsFree, AreFree, free-append, free-each_after, cut-at, pieces-each}
use Rattle.system_text.proofs.Names.{made_free, name_made, name_is_no_blank, name_of_number, name-back}
use Rattle.system_text.proofs.SystemBack.{systems_read_back}

pub precondition_lines_read_back : PreconditionLinesReadBack
precondition_lines_read_back names s h o k = systems_read_back names s h o k

-- ---- cells

names_free : (names : List Bytes) (ns : List ℕ) (m : ℕ) → in_name m ≡ false → AreNames names → AreNumbers names ns → AreFree m (map (name_at names) ns)
names_free names [] m e h k = tt
names_free names (n ∷ ns) m e h k = (made_free m (name_at names n) e (name_made (name_at names n) (name_of_number names n h k.0)), names_free names ns m e h k.1)

numbers_read : (names : List Bytes) (ns : List ℕ) → AreNames names → AreNumbers names ns → read_each (read_name names) (map (name_at names) ns) ≡ Some ns
numbers_read names [] h k = refl
numbers_read names (n ∷ ns) h k =
    let a : read_name names (name_at names n) ≡ Some n = name-back names n h k.0 in
    let b : read_each (read_name names) (map (name_at names) ns) ≡ Some ns = numbers_read names ns h k.1 in
    rw (a, b)

cells-back : (names : List Bytes) (ns : List ℕ) → AreNames names → AreNumbers names ns → read_cells names (cells_text names ns) ≡ Some ns
cells-back names [] h k = refl
cells-back names (n ∷ ns) h k =
    let e : bytes_eq (cells_text names (n ∷ ns)) [] ≡ false = name_is_no_blank (name_at names n) (each_after (codes ",") (map (name_at names) ns)) (name_of_number names n h k.0) in
    let f = names_free names (n ∷ ns) 44 refl h k in
    rw e (ap (read_each (read_name names)) (pieces-each 44 (name_at names n) (map (name_at names) ns) f.0 f.1) ∙ numbers_read names (n ∷ ns) h k)

cells_free : (names : List Bytes) (ns : List ℕ) → AreNames names → AreNumbers names ns → IsFree 32 (cells_text names ns)
cells_free names [] h k = tt
cells_free names (n ∷ ns) h k =
    let f = names_free names (n ∷ ns) 32 refl h k in
    free-append 32 (name_at names n) (each_after (codes ",") (map (name_at names) ns)) f.0 (free-each_after 32 (codes ",") (map (name_at names) ns) (refl, tt) f.1)

pub transformer_lines_read_back : TransformerLinesReadBack
transformer_lines_read_back names cells s h c o k =
    let a : cut 32 (cells_text names cells ++ (32 ∷ system_text names s)) ≡ Some (cells_text names cells, system_text names s) = cut-at 32 (cells_text names cells) (system_text names s) (cells_free names cells h c) in
    let b : read_cells names (cells_text names cells) ≡ Some cells = cells-back names cells h c in
    let d : read_system names (system_text names s) ≡ Some s = systems_read_back names s h o k in
    rw (a, b, d)
