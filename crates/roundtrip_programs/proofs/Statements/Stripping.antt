-- A balanced text has no blanks outside its character constants.
use Rattle.std.proofs.Common.{◌≡◌, ℕ, List, [], ◌∷◌, ◌++◌, refl, ap, ◌∙◌, sym, append_assoc, Bool, true, false, if◌then◌else◌, ◌≤◌, arith, not}
use Rattle.std.specs.Prelude.{nat_eq, nat_le, ◌||◌, ◌&&◌}
use Rattle.std.proofs.lemmas.Bool.{not-true, or_parts, and_parts, leb-true, ne_eqb}
use Rattle.f77_printer.specs.ExprText.{doubled}
use Rattle.f77_printer.specs.Layout.{stripped}
use Rattle.roundtrip_programs.proofs.Statements.Balanced.{Kind, is_quiet, Balanced, empty, char, comma, inner_comma, equal, quoted, nested, pair}

-- the character tests of a quiet character
pub record Quiet (c : ℕ) : Type 0 where
  pub apostrophe : nat_eq c 39 ≡ false
  pub opening : nat_eq c 40 ≡ false
  pub closing : nat_eq c 41 ≡ false
  pub comma : nat_eq c 44 ≡ false
  pub equal : nat_eq c 61 ≡ false
  pub blank : nat_eq c 32 ≡ false
  pub low : 42 ≤ c
  pub high : c ≤ 95

pub quiet_parts : (c : ℕ) → is_quiet c ≡ true → Quiet c
quiet_parts c h =
    let p = and_parts (nat_le 42 c && nat_le c 95) (not (nat_eq c 44 || nat_eq c 61)) h in
    let q = and_parts (nat_le 42 c) (nat_le c 95) p.0 in
    let n = or_parts (nat_eq c 44) (nat_eq c 61) (not-true (nat_eq c 44 || nat_eq c 61) p.1) in
    let l = leb-true 42 c q.0 in
    let u = leb-true c 95 q.1 in
    record {
      apostrophe = ne_eqb c 39 (λ e. omega arith);
      opening = ne_eqb c 40 (λ e. omega arith);
      closing = ne_eqb c 41 (λ e. omega arith);
      comma = n.0;
      equal = n.1;
      blank = ne_eqb c 32 (λ e. omega arith);
      low = l;
      high = u;
    }

-- stripping keeps the text, whatever follows
abbrev pub Solid : List ℕ → Type 0
Solid t = (u : List ℕ) → stripped false (t ++ u) ≡ t ++ stripped false u

one_kept : (b : Bool) (c : ℕ) (x : List ℕ) → (if b then c ∷ x else c ∷ x) ≡ c ∷ x
one_kept true c x = refl
one_kept false c x = refl

inside_at : (b : Bool) (c : ℕ) (cs u : List ℕ) → nat_eq c 39 ≡ b → stripped true (doubled cs ++ (39 ∷ u)) ≡ doubled cs ++ (39 ∷ stripped false u)
    → stripped true ((if b then 39 ∷ 39 ∷ doubled cs else c ∷ doubled cs) ++ (39 ∷ u)) ≡ (if b then 39 ∷ 39 ∷ doubled cs else c ∷ doubled cs) ++ (39 ∷ stripped false u)
inside_at true c cs u e h = ap (λ (x : List ℕ). 39 ∷ 39 ∷ x) h
inside_at false c cs u e h = rw e (one_kept (nat_eq c 32) c (stripped true (doubled cs ++ (39 ∷ u))) ∙ ap (λ (x : List ℕ). c ∷ x) h)

inside_kept : (c u : List ℕ) → stripped true (doubled c ++ (39 ∷ u)) ≡ doubled c ++ (39 ∷ stripped false u)
inside_kept [] u = refl
inside_kept (c ∷ cs) u = inside_at (nat_eq c 39) c cs u refl (inside_kept cs u)

char_solid : (c : ℕ) → is_quiet c ≡ true → Solid (c ∷ [])
char_solid c h u = let q = quiet_parts c h in let a : nat_eq c 39 ≡ false = q.apostrophe in let b : nat_eq c 32 ≡ false = q.blank in rw (a, b)

pub pair_solid : (a b : List ℕ) → Solid a → Solid b → Solid (a ++ b)
pair_solid a b x y u = ap (stripped false) (append_assoc a b u) ∙ x (b ++ u) ∙ ap (λ (z : List ℕ). a ++ z) (y u) ∙ sym (append_assoc a b (stripped false u))

pub solid : {d : Kind} {t : List ℕ} → Balanced d t → Solid t
solid (empty d) = λ u. refl
solid (char d c h) = char_solid c h
solid comma = λ u. refl
solid inner_comma = λ u. refl
solid equal = λ u. refl
solid (quoted d c) = λ u. ap (λ (x : List ℕ). 39 ∷ stripped true x) (append_assoc (doubled c) (39 ∷ []) u)
    ∙ ap (λ (x : List ℕ). 39 ∷ x) (inside_kept c u) ∙ ap (λ (x : List ℕ). 39 ∷ x) (sym (append_assoc (doubled c) (39 ∷ []) (stripped false u)))
solid (nested d t x) = λ u. ap (λ (y : List ℕ). 40 ∷ y) (pair_solid t (41 ∷ []) (solid x) (λ v. refl) u)
solid (pair d a b x y) = pair_solid a b (solid x) (solid y)
