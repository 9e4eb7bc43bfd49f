-- Names: what reading takes as a name is one, and a name before what does not go on is read as it is.
use Rattle.std.proofs.Common.{◌≡◌, ℕ, ◌-◌, ◌≤◌, List, [], ◌∷◌, ◌++◌, length, refl, ap, subst, arith, length-append, Some, None, Bool, true, false, if◌then◌else◌, ◌∙◌}
use Rattle.std.specs.Prelude.{nat_eq, nat_lt, ◌||◌}
use Rattle.std.specs.Char.{is_ascii_digit, is_ascii_uppercase}
use Rattle.std.proofs.lemmas.Bool.{le-ltb, ltb-false, or_parts, or_left}
use Rattle.std.proofs.lemmas.List.{take_at}
use Rattle.f77_exprs.specs.declared.at.Notes.{Notes}
use Rattle.f77_exprs.specs.Words.{before}
use Rattle.f77_exprs.specs.State.{State}
use Rattle.f77_exprs.specs.Lexical.{in_name, letter_first, skip_name, noted_name, named, name_at}
use Rattle.roundtrip_programs.specs.Statements.Formed.{IsName}
use Rattle.roundtrip_programs.specs.Statements.Follows.{standing, IsClean}
use Rattle.roundtrip_programs.proofs.Statements.Readings.{After}
use Rattle.fx_lists.proofs.Lists.{split_at}

-- ---- a name before a text

pub or-false : (b c : Bool) → c ≡ false → (b || c) ≡ b
or-false true c h = refl
or-false false c h = h

noted_short : (n : List ℕ) (k : Notes) → length n ≤ 31 → noted_name n k ≡ k
noted_short n k h = ap (λ (b : Bool). record k { long = b }) (or-false k.long (nat_lt 31 (length n)) (le-ltb 31 (length n) h))

skip_at : (b : Bool) (c : ℕ) (cs t : List ℕ) → (skip_name cs ≡ [] → skip_name (cs ++ t) ≡ t) → (if b then skip_name cs else c ∷ cs) ≡ []
    → (if b then skip_name (cs ++ t) else c ∷ (cs ++ t)) ≡ t
skip_at true c cs t f h = f h
skip_at false c cs t f h = cc

skip-append : (n t : List ℕ) → skip_name n ≡ [] → skip_name t ≡ t → skip_name (n ++ t) ≡ t
skip-append [] t h e = e
skip-append (c ∷ cs) t h e = skip_at (in_name c) c cs t (λ g. skip-append cs t g e) h

pub before-append : (n t : List ℕ) → before (n ++ t) t ≡ n
before-append n t = take_at n t (length (n ++ t) - length t) (omega (arith, length-append n t))

pub letter-append : (n t : List ℕ) → letter_first n ≡ true → letter_first (n ++ t) ≡ true
letter-append [] t h = cc
letter-append (c ∷ cs) t h = h

pub name-back : (n t : List ℕ) (k : Notes) → IsName n → skip_name t ≡ t → name_at (standing (n ++ t) k) ≡ Some (n, standing t k)
unfolding name_at
name-back n t k h e =
    let l : letter_first (n ++ t) ≡ true = letter-append n t h.letter in
    let s : skip_name (n ++ t) ≡ t = skip-append n t h.whole e in
    let b : before (n ++ t) t ≡ n = before-append n t in
    let o : noted_name n k ≡ k = noted_short n k h.short in
    rw (l, s, b, o)

-- ---- what is read as a name

front : List ℕ → List ℕ
front [] = []
front (c ∷ cs) = if in_name c then c ∷ front cs else []

front-split : (t : List ℕ) → front t ++ skip_name t ≡ t
unfolding front
front-split [] = refl
front-split (c ∷ cs) = split_at (in_name c) c cs (front cs) (skip_name cs) (front-split cs)

whole_at : (b : Bool) (c : ℕ) (f : List ℕ) → in_name c ≡ b → skip_name f ≡ [] → skip_name (if b then c ∷ f else []) ≡ []
whole_at true c f e h = rw e h
whole_at false c f e h = refl

front-whole : (t : List ℕ) → skip_name (front t) ≡ []
unfolding front
front-whole [] = refl
front-whole (c ∷ cs) = whole_at (in_name c) c (front cs) refl (front-whole cs)

front-letter : (t : List ℕ) → letter_first t ≡ true → letter_first (front t) ≡ true
unfolding front
front-letter [] h = h
front-letter (c ∷ cs) h =
    let e : in_name c ≡ true = or_left (is_ascii_uppercase c || is_ascii_digit c) (nat_eq c 95) (or_left (is_ascii_uppercase c) (is_ascii_digit c) h) in
    rw e h

before_front : (t : List ℕ) → before t (skip_name t) ≡ front t
before_front t = subst (λ (x : List ℕ). before x (skip_name t) ≡ front t) (front-split t) (before-append (front t) (skip_name t))

long_clean : (n : List ℕ) (k : Notes) → IsClean (noted_name n k) → record { clean : IsClean k; short : length n ≤ 31 }
long_clean n k h =
    let p = or_parts k.long (nat_lt 31 (length n)) h.long in
    record { clean = record { real = h.real; big = h.big; long = p.0 }; short = ltb-false 31 (length n) p.1 }

named_at : (b : Bool) (s : State) (n : List ℕ) → letter_first s.rest ≡ b → n ≡ front s.rest → After (if b then Some (named n s) else None) s.notes IsName
named_at false s n l e = tt
named_at true s n l e = λ h.
    let g = long_clean n s.notes h in
    (g.clean, record { letter = rw e (front-letter s.rest l); whole = rw e (front-whole s.rest); short = g.short })

pub name-formed : (s : State) → After (name_at s) s.notes IsName
unfolding name_at
name-formed s = named_at (letter_first s.rest) s (before s.rest (skip_name s.rest)) refl (before_front s.rest)

split_by : (b : Bool) (s : State) (n : List ℕ) → n ≡ front s.rest → After (if b then Some (named n s) else None) s.notes (λ m. m ++ skip_name s.rest ≡ s.rest)
split_by false s n e = tt
split_by true s n e = λ h. ((long_clean n s.notes h).clean, ap (λ (x : List ℕ). x ++ skip_name s.rest) e ∙ front-split s.rest)

-- the name that is read stands at the front of the text
pub name-stands : (s : State) → After (name_at s) s.notes (λ n. n ++ skip_name s.rest ≡ s.rest)
unfolding name_at
name-stands s = split_by (letter_first s.rest) s (before s.rest (skip_name s.rest)) (before_front s.rest)
