-- A balanced text stays as it is where the lines of a program are stripped and folded to capitals.
use Rattle.std.proofs.Common.{◌≡◌, ℕ, ◌≤◌, List, [], ◌∷◌, ◌++◌, refl, ap, ◌∙◌, sym, arith, append_assoc, Bool, true, false, if◌then◌else◌}
use Rattle.std.specs.Prelude.{nat_eq, nat_le, ◌&&◌}
use Rattle.std.proofs.lemmas.Bool.{lt-leb, ne_eqb, and_left, and_right}
use Rattle.fixed_form.specs.Body.{stripped, has_tab}
use Rattle.f77_printer.specs.ExprText.{doubled}
use Rattle.roundtrip_programs.proofs.Statements.Balanced.{Kind, is_quiet, Balanced, empty, char, comma, inner_comma, equal, quoted, nested, pair}
use Rattle.roundtrip_programs.proofs.Statements.Stripping.{quiet_parts}

-- the text stays, whatever follows
abbrev pub Stays : List ℕ → Type 0
Stays t = (u : List ℕ) → stripped false (t ++ u) ≡ t ++ stripped false u

inside_at : (b : Bool) (c : ℕ) (cs u : List ℕ) → nat_eq c 39 ≡ b → stripped true (doubled cs ++ (39 ∷ u)) ≡ doubled cs ++ (39 ∷ stripped false u)
    → stripped true ((if b then 39 ∷ 39 ∷ doubled cs else c ∷ doubled cs) ++ (39 ∷ u)) ≡ (if b then 39 ∷ 39 ∷ doubled cs else c ∷ doubled cs) ++ (39 ∷ stripped false u)
inside_at true c cs u e h = ap (λ (x : List ℕ). 39 ∷ 39 ∷ x) h
inside_at false c cs u e h = rw e (ap (λ (x : List ℕ). c ∷ x) h)

inside_stays : (c u : List ℕ) → stripped true (doubled c ++ (39 ∷ u)) ≡ doubled c ++ (39 ∷ stripped false u)
inside_stays [] u = refl
inside_stays (c ∷ cs) u = inside_at (nat_eq c 39) c cs u refl (inside_stays cs u)

char_stays : (c : ℕ) → is_quiet c ≡ true → Stays (c ∷ [])
char_stays c h u =
    let q = quiet_parts c h in
    let l : 42 ≤ c = q.low in
    let m : c ≤ 95 = q.high in
    let a : nat_eq c 39 ≡ false = q.apostrophe in
    let b : nat_eq c 32 ≡ false = q.blank in
    let f : (nat_le 97 c && nat_le c 122) ≡ false = and_left (nat_le 97 c) (nat_le c 122) (lt-leb 97 c (omega arith)) in
    rw (b, f, a)

pair_stays : (a b : List ℕ) → Stays a → Stays b → Stays (a ++ b)
pair_stays a b x y u = ap (stripped false) (append_assoc a b u) ∙ x (b ++ u) ∙ ap (λ (z : List ℕ). a ++ z) (y u) ∙ sym (append_assoc a b (stripped false u))

pub stays : {d : Kind} {t : List ℕ} → Balanced d t → Stays t
stays (empty d) = λ u. refl
stays (char d c h) = char_stays c h
stays comma = λ u. refl
stays inner_comma = λ u. refl
stays equal = λ u. refl
stays (quoted d c) = λ u. ap (λ (x : List ℕ). 39 ∷ stripped true x) (append_assoc (doubled c) (39 ∷ []) u)
    ∙ ap (λ (x : List ℕ). 39 ∷ x) (inside_stays c u) ∙ ap (λ (x : List ℕ). 39 ∷ x) (sym (append_assoc (doubled c) (39 ∷ []) (stripped false u)))
stays (nested d t x) = λ u. ap (λ (y : List ℕ). 40 ∷ y) (pair_stays t (41 ∷ []) (stays x) (λ v. refl) u)
stays (pair d a b x y) = pair_stays a b (stays x) (stays y)

-- ---- tabs and open constants

abbrev pub Tabless : List ℕ → Type 0
Tabless t = (u : List ℕ) → has_tab false (t ++ u) ≡ has_tab false u

tab_at : (b : Bool) (c : ℕ) (cs u : List ℕ) → nat_eq c 39 ≡ b → has_tab true (doubled cs ++ (39 ∷ u)) ≡ has_tab false u
    → has_tab true ((if b then 39 ∷ 39 ∷ doubled cs else c ∷ doubled cs) ++ (39 ∷ u)) ≡ has_tab false u
tab_at true c cs u e h = h
tab_at false c cs u e h = let f : (nat_eq c 9 && false) ≡ false = and_right (nat_eq c 9) false refl in rw (f, e) h

tab_inside : (c u : List ℕ) → has_tab true (doubled c ++ (39 ∷ u)) ≡ has_tab false u
tab_inside [] u = refl
tab_inside (c ∷ cs) u = tab_at (nat_eq c 39) c cs u refl (tab_inside cs u)

char_tabless : (c : ℕ) → is_quiet c ≡ true → Tabless (c ∷ [])
char_tabless c h u =
    let q = quiet_parts c h in
    let l : 42 ≤ c = q.low in
    let t : nat_eq c 9 ≡ false = ne_eqb c 9 (λ e. omega arith) in
    let a : nat_eq c 39 ≡ false = q.apostrophe in
    rw (t, a)

pub pair_tabless : (a b : List ℕ) → Tabless a → Tabless b → Tabless (a ++ b)
pair_tabless a b x y u = ap (has_tab false) (append_assoc a b u) ∙ x (b ++ u) ∙ y u

pub tabless : {d : Kind} {t : List ℕ} → Balanced d t → Tabless t
tabless (empty d) = λ u. refl
tabless (char d c h) = char_tabless c h
tabless comma = λ u. refl
tabless inner_comma = λ u. refl
tabless equal = λ u. refl
tabless (quoted d c) = λ u. ap (has_tab true) (append_assoc (doubled c) (39 ∷ []) u) ∙ tab_inside c u
tabless (nested d t x) = λ u. pair_tabless t (41 ∷ []) (tabless x) (λ v. refl) u
tabless (pair d a b x y) = pair_tabless a b (tabless x) (tabless y)
