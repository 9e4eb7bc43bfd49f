-- Texts in pieces.
use Rattle.std.proofs.Common.{◌≡◌, ℕ, ◌+◌, ◌<◌, Bool, true, false, List, [], ◌∷◌, ◌++◌, length, get_or, drop, map, refl, sym, ap, ◌∙◌, append_assoc, append-nil, add-one}
use Rattle.std.proofs.Math.Seq.{drop-cons}
use Rattle.std.specs.Prelude.{if◌then◌else◌, codes}
use Rattle.affine_systems.specs.declared.row.Term.{Term}
use Rattle.affine_systems.specs.declared.row.Row.{Row}
use Rattle.system_text.specs.SystemText.{Bytes, each_after, has_sign, term_text, term_texts, rest_text, joined, row_text, name_at}

-- one piece more
pub rest_text-piece : (any : Bool) (out x : Bytes) (xs : List Bytes) → ((out ++ (if any then codes "+" else [])) ++ x) ++ rest_text true xs ≡ out ++ rest_text any (x ∷ xs)
rest_text-piece true out x xs = simp append_assoc
rest_text-piece false out x xs = simp (append_assoc, append-nil)

-- the terms from a place on
pub term_texts-drop : (right : Bool) (names : List Bytes) (ts : List Term) (i : ℕ) (d : Term) → i < length ts → term_texts right names (drop i ts) ≡ (if has_sign right (get_or ts i d).factor then term_text names (get_or ts i d) ∷ term_texts right names (drop (i + 1) ts) else term_texts right names (drop (i + 1) ts))
term_texts-drop right names ts i d h = rw (add-one, drop-cons ts i d)

pub ruleset term_steps = (term_texts-drop, rest_text-piece)

pub ruleset side_steps = (rest_text-piece, append-nil)

-- what is left of pieces with a mark between them
abbrev pub left_of : Bool → Bytes → List Bytes → Bytes
left_of any mark xs = if any then each_after mark xs else joined mark xs

pub left_of-piece : (any : Bool) (mark out x : Bytes) (xs : List Bytes) → ((out ++ (if any then mark else [])) ++ x) ++ left_of true mark xs ≡ out ++ left_of any mark (x ∷ xs)
left_of-piece true mark out x xs = simp append_assoc
left_of-piece false mark out x xs = simp (append_assoc, append-nil)

pub left_of-end : (any : Bool) (mark : Bytes) → left_of any mark [] ≡ []
left_of-end true mark = refl
left_of-end false mark = refl

pub rows-drop : (names : List Bytes) (rs : List Row) (i : ℕ) (d : Row) → i < length rs → map (row_text names) (drop i rs) ≡ row_text names (get_or rs i d) ∷ map (row_text names) (drop (i + 1) rs)
rows-drop names rs i d h = rw (add-one, drop-cons rs i d)

pub ruleset row_steps = (left_of-piece, left_of-end, rows-drop, append-nil, append_assoc)

pub cells-drop : (names : List Bytes) (cs : List ℕ) (i d : ℕ) → i < length cs → map (name_at names) (drop i cs) ≡ name_at names (get_or cs i d) ∷ map (name_at names) (drop (i + 1) cs)
cells-drop names cs i d h = rw (add-one, drop-cons cs i d)

pub ruleset cell_steps = (left_of-piece, left_of-end, cells-drop, append-nil, append_assoc)
