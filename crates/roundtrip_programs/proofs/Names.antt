-- Names as the grammar gives them are of printable characters.
use Rattle.std.proofs.Common.{◌≡◌, ℕ, ◌≤◌, Bool, true, false, List, [], ◌∷◌, refl, arith, inl, inr}
use Rattle.std.specs.Prelude.{if◌then◌else◌, ◌||◌, nat_eq, nat_le}
use Rattle.std.specs.Char.{is_ascii_uppercase, is_ascii_digit}
use Rattle.std.specs.List.{list_all}
use Rattle.std.proofs.lemmas.Bool.{and_parts, and_from, or_cases, leb-true, le-leb, eqb-true}
use Rattle.f77_exprs.specs.Lexical.{in_name, skip_name}
use Rattle.roundtrip_programs.specs.Cards.Good.{is_printable}
use Rattle.roundtrip_programs.specs.Statements.Formed.{IsName}
use Rattle.roundtrip_programs.specs.Lines.{IsShown}

between : (c : ℕ) → 32 ≤ c → c ≤ 126 → is_printable c ≡ true
between c h k = and_from (nat_le 32 c) (nat_le c 126) (le-leb 32 c h) (le-leb c 126 k)

letter_printable : (c : ℕ) → is_ascii_uppercase c ≡ true → is_printable c ≡ true
letter_printable c h =
    let both = and_parts (nat_le 65 c) (nat_le c 90) h in
    let low = leb-true 65 c both.0 in
    let high = leb-true c 90 both.1 in
    between c (omega arith) (omega arith)

digit_printable : (c : ℕ) → is_ascii_digit c ≡ true → is_printable c ≡ true
digit_printable c h =
    let both = and_parts (nat_le 48 c) (nat_le c 57) h in
    let low = leb-true 48 c both.0 in
    let high = leb-true c 57 both.1 in
    between c (omega arith) (omega arith)

mark_printable : (c : ℕ) → nat_eq c 95 ≡ true → is_printable c ≡ true
mark_printable c h = let e = eqb-true c 95 h in between c (omega arith) (omega arith)

printable : (c : ℕ) → in_name c ≡ true → is_printable c ≡ true
printable c h =
    elim (or_cases (is_ascii_uppercase c || is_ascii_digit c) (nat_eq c 95) h) [
      | inl a ↦ elim (or_cases (is_ascii_uppercase c) (is_ascii_digit c) a) [ inl u ↦ letter_printable c u | inr d ↦ digit_printable c d ]
      | inr m ↦ mark_printable c m
    ]

skipped_by : (b : Bool) (c : ℕ) (cs : List ℕ) → in_name c ≡ b → (if b then skip_name cs else c ∷ cs) ≡ [] → (skip_name cs ≡ [] → IsShown cs) → IsShown (c ∷ cs)
skipped_by true c cs e h f = and_from (is_printable c) (list_all is_printable cs) (printable c e) (f h)
skipped_by false c cs e h f = cc

skipped : (x : List ℕ) → skip_name x ≡ [] → IsShown x
skipped [] h = refl
skipped (c ∷ cs) h = skipped_by (in_name c) c cs refl h (skipped cs)

pub name_shown : (x : List ℕ) → IsName x → IsShown x
name_shown x n = skipped x n.whole
