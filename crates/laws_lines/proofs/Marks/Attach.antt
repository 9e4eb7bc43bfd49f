-- The directives of a written text stand before the statements of which they were written.
use Rattle.std.proofs.Common.{◌≡◌, ℕ, ◌+◌, ◌<◌, ◌≤◌, Bool, false, List, [], ◌∷◌, ◌++◌, length, refl, sym, ap, ◌∙◌, arith, Option, Some, None, if◌then◌else◌, eq-eqb, ne_eqb}
use Rattle.std.specs.Prelude.{nat_eq, option_map}
use Rattle.f77_ast.specs.declared.places.Part.{Part}
use Rattle.f77_ast.specs.declared.places.Part.TheVariants as parts
use Rattle.f77_ast.specs.declared.places.Spot.{Spot}
use Rattle.f77_ast.specs.declared.results.At.{At}
use Rattle.f77_parser.specs.SoFar.{spot}
use Rattle.laws_programs.specs.roundtrip_programs.Cards.Cards.{kept}
use Rattle.laws_programs.specs.roundtrip_programs.ModuleTexts.Cards.{Card}
use Rattle.laws_programs.specs.roundtrip_programs.ModuleTexts.Page.{behind}
use Rattle.system_text.specs.Reading.{Bytes}
use Rattle.laws_programs.proofs.RoundtripPrograms.Texts.Rows.{Row, row_of, rows_of}
use Rattle.laws_programs.proofs.RoundtripPrograms.Texts.RowsBack.{read_rows, line_behind, lines_behind}
use Rattle.laws_programs.proofs.RoundtripPrograms.Texts.Standing.{inner_spots, spots_of}
use Rattle.laws_lines.specs.Marks.Directives.{Clauses, Directive}
use Rattle.laws_lines.specs.Marks.Marked.{number_in, Attached, attached_by, attached}
use Rattle.laws_lines.proofs.Marks.Found.{found_at, found}

-- ---- spots

-- the next directive stands before a later line
abbrev IsBehind : ℕ → List Directive → Type 0
IsBehind k [] = Unit {0}
IsBehind k (d ∷ ds) = k < d.line

-- or before this one
abbrev pub IsFrom : ℕ → List Directive → Type 0
IsFrom k [] = Unit {0}
IsFrom k (d ∷ ds) = k ≤ d.line

none_left : (ss : List Spot) → attached ss [] ≡ ([], [])
unfolding attached
none_left [] = refl
none_left (s ∷ ss) = refl

skip_one : (s : Spot) (d : Directive) (ss : List Spot) (ds : List Directive) → nat_eq s.first d.line ≡ false → attached (s ∷ ss) (d ∷ ds) ≡ attached ss (d ∷ ds)
unfolding attached
skip_one s d ss ds e =
    ap (λ (b : Bool). attached_by (if b then option_map (λ (n : ℕ). record { id = n; value = d.says }) (number_in s.part) else None) (attached ss ds) (attached ss (d ∷ ds))) e

skip : (s : Spot) (ss : List Spot) (ds : List Directive) → IsBehind s.first ds → attached (s ∷ ss) ds ≡ attached ss ds
skip s ss [] h = none_left (s ∷ ss) ∙ sym (none_left ss)
skip s ss (d ∷ ds) h = skip_one s d ss ds (ne_eqb s.first d.line (λ e. absurd (omega (arith, h, e))))

take : (i f : ℕ) (cs : List Bytes) (says : Clauses) (ss : List Spot) (ds : List Directive)
    → attached (spot (parts.Stmt i) f cs ∷ ss) (record { line = f; says = says } ∷ ds) ≡ (record { id = i; value = says } ∷ (attached ss ds).0, (attached ss ds).1)
unfolding attached
take i f cs says ss ds =
    ap (λ (b : Bool). attached_by (if b then Some (record { id = i; value = says }) else None) (attached ss ds) (attached ss (record { line = f; says = says } ∷ ds))) (eq-eqb f f refl)

skip_inner : (f : ℕ) (part : Option Part) (ss : List Spot) (ds : List Directive) → IsBehind f ds → attached (inner_spots f part ++ ss) ds ≡ attached ss ds
skip_inner f None ss ds h = refl
skip_inner f (Some part) ss ds h = skip (spot part f []) ss ds h

-- ---- statements

abbrev entry_at : Option ℕ → Clauses → List (At Clauses)
entry_at None says = []
entry_at (Some i) says = record { id = i; value = says } ∷ []

abbrev pub entry : Part → Option Clauses → List (At Clauses)
entry part None = []
entry part (Some says) = entry_at (number_in part) says

-- the marked ones of these statements
abbrev pub marks_at : List Card → List (Option Clauses) → List (At Clauses)
marks_at [] ms = []
marks_at (c ∷ cs) [] = []
marks_at (c ∷ cs) (m ∷ ms) = entry c.part m ++ marks_at cs ms

-- such a one is executable
abbrev pub IsMarkable : Card → Option Clauses → Type 0
IsMarkable c None = Unit {0}
IsMarkable c (Some says) = (i : ℕ) × (c.part ≡ parts.Stmt i)

abbrev pub AreMarkable : List Card → List (Option Clauses) → Type 0
AreMarkable [] [] = Unit {0}
AreMarkable [] (m ∷ ms) = ⊥
AreMarkable (c ∷ cs) [] = ⊥
AreMarkable (c ∷ cs) (m ∷ ms) = IsMarkable c m × AreMarkable cs ms

from_less : (ds : List Directive) (k n : ℕ) → n ≤ k → IsFrom k ds → IsFrom n ds
from_less [] k n l h = tt
from_less (d ∷ ds) k n l h = omega (arith, l, h)

behind_less : (ds : List Directive) (k n : ℕ) → n < k → IsFrom k ds → IsBehind n ds
behind_less [] k n l h = tt
behind_less (d ∷ ds) k n l h = omega (arith, l, h)

line_less : (n : ℕ) (r : Row) → n + length r.comments < line_behind n r
line_less n r = omega arith

lines_less : (rs : List Row) (n : ℕ) → n ≤ lines_behind n rs
lines_less [] n = omega arith
lines_less (r ∷ rs) n = let h = lines_less rs (line_behind n r) in let l = line_less n r in omega (arith, h, l)

pub found_from : (rs : List Row) (ms : List (Option Clauses)) (n : ℕ) (rest : List Directive) → IsFrom (lines_behind n rs) rest → IsFrom n (found n rs ms ++ rest)
found_from [] ms n rest h = h
found_from (r ∷ rs) [] n rest h = from_less rest (lines_behind n (r ∷ rs)) n (lines_less (r ∷ rs) n) h
found_from (r ∷ rs) (None ∷ ms) n rest h =
    let l = line_less n r in
    from_less (found (line_behind n r) rs ms ++ rest) (line_behind n r) n (omega (arith, l)) (found_from rs ms (line_behind n r) rest h)
found_from (r ∷ rs) (Some says ∷ ms) n rest h = omega arith

-- one statement, whose directive stands in the line n
attach_one : (m : Option Clauses) (c : Card) (f : ℕ) (cs : List Bytes) (ss : List Spot) (ds : List Directive) → IsMarkable c m → IsBehind f ds
    → attached ((spot c.part f cs ∷ inner_spots f c.inner) ++ ss) (found_at f m ds) ≡ (entry c.part m ++ (attached ss ds).0, (attached ss ds).1)
attach_one None c f cs ss ds h b = skip (spot c.part f cs) (inner_spots f c.inner ++ ss) ds b ∙ skip_inner f c.inner ss ds b
attach_one (Some says) c f cs ss ds h b =
    ap (λ (p : Part). attached (spot p f cs ∷ (inner_spots f c.inner ++ ss)) (record { line = f; says = says } ∷ ds)) h.1
    ∙ take h.0 f cs says (inner_spots f c.inner ++ ss) ds
    ∙ ap (λ (x : Attached). (record { id = h.0; value = says } ∷ x.0, x.1)) (skip_inner f c.inner ss ds b)
    ∙ ap (λ (p : Part). (entry_at (number_in p) says ++ (attached ss ds).0, (attached ss ds).1)) (sym h.1)

found_more : (k : ℕ) (m : Option Clauses) (ds rest : List Directive) → found_at k m ds ++ rest ≡ found_at k m (ds ++ rest)
found_more k None ds rest = refl
found_more k (Some says) ds rest = refl

pub attach_rows : (added : Part → List Bytes) (spots : List Spot) (cs : List Card) (ms : List (Option Clauses)) (n : ℕ) (rest : List Directive) → AreMarkable cs ms
    → IsFrom (lines_behind n (rows_of added spots cs)) rest
    → attached (spots_of cs (read_rows n (rows_of added spots cs))) (found n (rows_of added spots cs) ms ++ rest) ≡ (marks_at cs ms, rest)
unfolding attached
attach_rows added spots [] [] n rest h b = refl
attach_rows added spots [] (m ∷ ms) n rest h b = absurd h
attach_rows added spots (c ∷ cs) [] n rest h b = absurd h
attach_rows added spots (c ∷ cs) (m ∷ ms) n rest h b =
    let r = row_of added spots c in
    let k = line_behind n r in
    let f : ℕ = n + length r.comments in
    let later = rows_of added (behind c spots) cs in
    let tail = found k later ms ++ rest in
    let ss = spots_of cs (read_rows k later) in
    let ahead : IsBehind f tail = behind_less tail k f (line_less n r) (found_from later ms k rest b) in
    ap (attached (spots_of (c ∷ cs) (read_rows n (rows_of added spots (c ∷ cs))))) (found_more f m (found k later ms) rest)
    ∙ attach_one m c f (kept r.comments) ss tail h.0 ahead
    ∙ ap (λ (x : Attached). (entry c.part m ++ x.0, x.1)) (attach_rows added (behind c spots) cs ms k rest h.1 b)
