-- What is written of systems is of printable characters where the names are.
use Rattle.std.proofs.Common.{◌≡◌, ℕ, zero, suc, ◌+◌, ◌/◌, ◌%◌, ◌<◌, Bool, true, false, List, [], ◌∷◌, ◌++◌, map, ℤ, refl, ap, ◌∙◌, arith}
use Rattle.std.specs.Prelude.{if◌then◌else◌, not, nat_eq, nat_le, codes, decimal, unsigned_abs, slice_index_or}
use Rattle.std.specs.List.{list_any, list_all}
use Rattle.std.specs.Fmt.{digit_glyph, digits_onto, digits}
use Rattle.std.proofs.lemmas.List.Folds.{list_all-append}
use Rattle.std.proofs.lemmas.Bool.{and_parts, and_from, or_from, leb-true, le-leb, ne_eqb, lt-ltb}
use Rattle.affine_systems.specs.declared.row.Var.{Var}
use Rattle.affine_systems.specs.declared.row.Var.TheVariants.{Cell, Exit, Phi, Aux}
use Rattle.affine_systems.specs.declared.row.Term.{Term}
use Rattle.affine_systems.specs.declared.row.Row.{Row}
use Rattle.affine_systems.specs.declared.row.System.{System}
use Rattle.system_text.specs.SystemText.{each_after, joined, name_at, var_text, term_text, has_sign, term_texts, bound_text, side_text, row_side, row_text, are_never, rows_text, weak_text, system_text, precondition_line, cells_text, transformer_line}
use Rattle.fixed_form.specs.TextLines.{unless_return, without_returns}
use Rattle.roundtrip_programs.specs.Cards.Good.{is_printable}
use Rattle.roundtrip_programs.specs.Lines.{IsShown, AreShown, IsClaimLine, LinesArePassedOver}

-- ---- pieces

pub shown_append : (xs ys : List ℕ) → IsShown xs → IsShown ys → IsShown (xs ++ ys)
shown_append xs ys h k = list_all-append is_printable xs ys ∙ and_from (list_all is_printable xs) (list_all is_printable ys) h k

shown_if : (b : Bool) (xs ys : List ℕ) → IsShown xs → IsShown ys → IsShown (if b then xs else ys)
shown_if true xs ys h k = h
shown_if false xs ys h k = k

are_if : (b : Bool) (xss yss : List (List ℕ)) → AreShown xss → AreShown yss → AreShown (if b then xss else yss)
are_if true xss yss h k = h
are_if false xss yss h k = k

each_shown : (mark : List ℕ) (xs : List (List ℕ)) → IsShown mark → AreShown xs → IsShown (each_after mark xs)
each_shown mark [] m h = refl
each_shown mark (x ∷ xs) m h = shown_append mark (x ++ each_after mark xs) m (shown_append x (each_after mark xs) h.first (each_shown mark xs m h.others))

joined_shown : (mark : List ℕ) (xs : List (List ℕ)) → IsShown mark → AreShown xs → IsShown (joined mark xs)
joined_shown mark [] m h = refl
joined_shown mark (x ∷ xs) m h = shown_append x (each_after mark xs) h.first (each_shown mark xs m h.others)

are_append : (xss yss : List (List ℕ)) → AreShown xss → AreShown yss → AreShown (xss ++ yss)
are_append [] yss h k = k
are_append (xs ∷ xss) yss h k = record { first = h.first; others = are_append xss yss h.others k }

-- ---- numbers

glyph_printable : (d : ℕ) → d < 10 → is_printable (digit_glyph false d) ≡ true
glyph_printable d h =
    ap (λ b. is_printable (if b then 48 + d else 87 + d)) (lt-ltb d 10 h)
    ∙ and_from (nat_le 32 (48 + d)) (nat_le (48 + d) 126) (le-leb 32 (48 + d) (omega arith)) (le-leb (48 + d) 126 (omega arith))

onto_shown : (k n : ℕ) (acc : List ℕ) → IsShown acc → IsShown (digits_onto k 10 false n acc)
onto_shown zero n acc h = h
onto_shown (suc k) n acc h =
    let one : IsShown (digit_glyph false (n % 10) ∷ acc) = and_from (is_printable (digit_glyph false (n % 10))) (list_all is_printable acc) (glyph_printable (n % 10) (omega arith)) h in
    shown_if (nat_eq (n / 10) 0) (digit_glyph false (n % 10) ∷ acc) (digits_onto k 10 false (n / 10) (digit_glyph false (n % 10) ∷ acc)) one (onto_shown k (n / 10) (digit_glyph false (n % 10) ∷ acc) one)

decimal_shown : (n : ℕ) → IsShown (decimal n)
unfolding digits
decimal_shown n = onto_shown 64 n [] refl

-- ---- rows

names_at_shown : (names : List (List ℕ)) (k : ℕ) → AreShown names → IsShown (slice_index_or names k [])
names_at_shown [] k h = refl
names_at_shown (x ∷ xs) zero h = h.first
names_at_shown (x ∷ xs) (suc k) h = names_at_shown xs k h.others

name_shown : (names : List (List ℕ)) (n : ℕ) → AreShown names → IsShown (name_at names n)
name_shown names zero h = refl
name_shown names (suc k) h = names_at_shown names k h

var_shown : (names : List (List ℕ)) (v : Var) → AreShown names → IsShown (var_text names v)
var_shown names (Cell n) h = name_shown names n h
var_shown names (Exit n) h = shown_append (name_at names n) (codes "'") (name_shown names n h) refl
var_shown names (Phi n) h = shown_append (codes "PHI") (decimal n) refl (decimal_shown n)
var_shown names (Aux n) h = shown_append (codes "AUX") (decimal n) refl (decimal_shown n)

term_shown : (names : List (List ℕ)) (t : Term) → AreShown names → IsShown (term_text names t)
term_shown names t h =
    let v = var_shown names t.var h in
    shown_if (nat_eq (unsigned_abs t.factor) 1) (var_text names t.var) (decimal (unsigned_abs t.factor) ++ (codes "*" ++ var_text names t.var)) v
    (shown_append (decimal (unsigned_abs t.factor)) (codes "*" ++ var_text names t.var) (decimal_shown (unsigned_abs t.factor)) (shown_append (codes "*") (var_text names t.var) refl v))

terms_shown : (negative : Bool) (names : List (List ℕ)) (ts : List Term) → AreShown names → AreShown (term_texts negative names ts)
terms_shown negative names [] h = tt
terms_shown negative names (t ∷ ts) h =
    let others = terms_shown negative names ts h in
    are_if (has_sign negative t.factor) (term_text names t ∷ term_texts negative names ts) (term_texts negative names ts) (record { first = term_shown names t h; others = others }) others

bound_shown : (negative : Bool) (n : ℤ) → AreShown (bound_text negative n)
bound_shown negative n = are_if (has_sign negative n) (decimal (unsigned_abs n) ∷ []) [] (record { first = decimal_shown (unsigned_abs n); others = tt }) tt

side_shown : (xs : List (List ℕ)) → AreShown xs → IsShown (side_text xs)
side_shown [] h = refl
side_shown (x ∷ xs) h = joined_shown (codes "+") (x ∷ xs) refl h

row_side_shown : (right : Bool) (names : List (List ℕ)) (r : Row) → AreShown names → IsShown (row_side right names r)
row_side_shown right names r h =
    side_shown (term_texts right names r.terms ++ bound_text (not right) r.bound)
    (are_append (term_texts right names r.terms) (bound_text (not right) r.bound) (terms_shown right names r.terms h) (bound_shown (not right) r.bound))

row_shown : (names : List (List ℕ)) (r : Row) → AreShown names → IsShown (row_text names r)
row_shown names r h =
    let mark = if r.equal then codes "==" else codes "<=" in
    shown_append (row_side false names r) (mark ++ row_side true names r) (row_side_shown false names r h)
    (shown_append mark (row_side true names r) (shown_if r.equal (codes "==") (codes "<=") refl refl) (row_side_shown true names r h))

all_rows_shown : (names : List (List ℕ)) (rs : List Row) → AreShown names → AreShown (map (row_text names) rs)
all_rows_shown names [] h = tt
all_rows_shown names (r ∷ rs) h = record { first = row_shown names r h; others = all_rows_shown names rs h }

weak_shown : (weak : Bool) → IsShown (weak_text weak)
weak_shown true = refl
weak_shown false = refl

system_shown : (names : List (List ℕ)) (s : System) → AreShown names → IsShown (system_text names s)
system_shown names s h =
    let rows : IsShown (rows_text names s.rows) =
    shown_if (are_never s.rows) (codes "FALSE") (joined (codes ", ") (map (row_text names) s.rows)) refl (joined_shown (codes ", ") (map (row_text names) s.rows) refl (all_rows_shown names s.rows h)) in
    shown_append (codes "{") (rows_text names s.rows ++ (codes "}" ++ weak_text s.weak)) refl
    (shown_append (rows_text names s.rows) (codes "}" ++ weak_text s.weak) rows (shown_append (codes "}") (weak_text s.weak) refl (weak_shown s.weak)))

cells_shown : (names : List (List ℕ)) (cs : List ℕ) → AreShown names → AreShown (map (name_at names) cs)
cells_shown names [] h = tt
cells_shown names (c ∷ cs) h = record { first = name_shown names c h; others = cells_shown names cs h }

-- ---- lines of printable characters that begin with C>

pub not_feed : (c : ℕ) → is_printable c ≡ true → nat_eq 10 c ≡ false
not_feed c h = let low = leb-true 32 c (and_parts (nat_le 32 c) (nat_le c 126) h).0 in ne_eqb 10 c (λ e. absurd (omega arith))

not_return : (c : ℕ) → is_printable c ≡ true → nat_eq c 13 ≡ false
not_return c h = let low = leb-true 32 c (and_parts (nat_le 32 c) (nat_le c 126) h).0 in ne_eqb c 13 (λ e. absurd (omega arith))

no_feed : (l : List ℕ) → IsShown l → list_any (nat_eq 10) l ≡ false
no_feed [] h = refl
no_feed (c ∷ cs) h =
    let both = and_parts (is_printable c) (list_all is_printable cs) h in
    or_from (nat_eq 10 c) (list_any (nat_eq 10) cs) (not_feed c both.0) (no_feed cs both.1)

unless_kept : (c : ℕ) (cs : List ℕ) → is_printable c ≡ true → unless_return c cs ≡ c ∷ cs
unless_kept c [] h = ap (λ b. if b then [] else c ∷ []) (not_return c h)
unless_kept c (d ∷ cs) h = refl

no_return : (l : List ℕ) → IsShown l → without_returns l ≡ l
no_return [] h = refl
no_return (c ∷ cs) h =
    let both = and_parts (is_printable c) (list_all is_printable cs) h in
    ap (unless_return c) (no_return cs both.1) ∙ unless_kept c cs both.0

claim : (more : List ℕ) → IsShown (67 ∷ 62 ∷ more) → IsClaimLine (67 ∷ 62 ∷ more)
claim more h = record {
  comment = record { comment = refl; one_line = no_feed (67 ∷ 62 ∷ more) h; no_return = no_return (67 ∷ 62 ∷ more) h };
  dropped = refl;
}

pub precondition_passed : (names : List (List ℕ)) (s : System) → AreShown names → IsClaimLine (precondition_line names s)
precondition_passed names s h = claim (codes " P " ++ system_text names s) (system_shown names s h)

pub transformer_passed : (names : List (List ℕ)) (cs : List ℕ) (s : System) → AreShown names → IsClaimLine (transformer_line names cs s)
transformer_passed names cs s h =
    claim (codes " T " ++ (cells_text names cs ++ (codes " " ++ system_text names s)))
    (shown_append (cells_text names cs) (codes " " ++ system_text names s) (joined_shown (codes ",") (map (name_at names) cs) refl (cells_shown names cs h)) (system_shown names s h))

pub lines_are_passed_over : LinesArePassedOver
lines_are_passed_over names cells s h = (precondition_passed names s h, transformer_passed names cells s h)
