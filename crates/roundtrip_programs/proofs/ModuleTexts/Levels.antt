-- How a text changes the number of open parentheses.
use Rattle.std.proofs.Common.{◌≡◌, ℕ, ◌+◌, ◌-◌, List, [], ◌∷◌, ◌++◌, refl, ap, sym, ◌∙◌, arith, append_assoc, Bool, true, false, not, if◌then◌else◌}
use Rattle.std.specs.Prelude.{codes, nat_eq, nat_lt, nat_le, ◌||◌}
use Rattle.std.specs.List.{list_all}
use Rattle.std.proofs.lemmas.Bool.{and_parts, or_parts, not-true, ne_eqb, lt-ltb}
use Rattle.f77_structure.specs.declared.depth.Depth.{Depth}
use Rattle.f77_structure.specs.Depth.{is_deep_from}

abbrev pub at : ℕ → Depth
at n = record { opened = n; quoted = false }

-- with so many parentheses open before it the text does not stand too deep
abbrev pub IsShallow : ℕ → List ℕ → Type 0
IsShallow n t = is_deep_from (at n) t ≡ false

-- the text leads from so many open parentheses to so many, and does not stand too deep
pub record Leads (n m : ℕ) (t : List ℕ) : Type 0 where
  pub over : (u : List ℕ) → is_deep_from (at n) (t ++ u) ≡ is_deep_from (at m) u

pub join : {n k m : ℕ} {a b : List ℕ} → Leads n k a → Leads k m b → Leads n m (a ++ b)
join {n = n} {a = a} {b = b} x y = record { over = λ u. ap (is_deep_from (at n)) (append_assoc a b u) ∙ x.over (b ++ u) ∙ y.over u }

-- what follows the text does not stand too deep either
pub past : {n m : ℕ} {t : List ℕ} (u : List ℕ) → Leads n m t → IsShallow n (t ++ u) → IsShallow m u
past u x h = sym (x.over u) ∙ h

-- ---- without parentheses

abbrev pub is_plain : ℕ → Bool
is_plain c = not (nat_eq c 39 || nat_eq c 40 || nat_eq c 41)

pub plain_at : (n c : ℕ) (u : List ℕ) → is_plain c ≡ true → is_deep_from (at n) (c ∷ u) ≡ is_deep_from (at n) u
plain_at n c u h =
    let p = or_parts (nat_eq c 39 || nat_eq c 40) (nat_eq c 41) (not-true (nat_eq c 39 || nat_eq c 40 || nat_eq c 41) h) in
    let q = or_parts (nat_eq c 39) (nat_eq c 40) p.0 in
    let a : nat_eq c 39 ≡ false = q.0 in
    let b : nat_eq c 40 ≡ false = q.1 in
    let d : nat_eq c 41 ≡ false = p.1 in
    rw (a, b, d) refl

pub plain : (n : ℕ) (t : List ℕ) → list_all is_plain t ≡ true → Leads n n t
plain n [] h = record { over = λ u. refl }
plain n (c ∷ cs) h =
    let p = and_parts (is_plain c) (list_all is_plain cs) h in
    record { over = λ u. plain_at n c (cs ++ u) p.0 ∙ (plain n cs p.1).over u }

-- characters of a kind to which neither an apostrophe nor a parenthesis belongs
pub plain_by : (p : ℕ → Bool) (c : ℕ) → p 39 ≡ false → p 40 ≡ false → p 41 ≡ false → p c ≡ true → is_plain c ≡ true
plain_by p c x y z h =
    let a : nat_eq c 39 ≡ false = ne_eqb c 39 (λ e. apart (sym x ∙ ap p (sym e) ∙ h)) in
    let b : nat_eq c 40 ≡ false = ne_eqb c 40 (λ e. apart (sym y ∙ ap p (sym e) ∙ h)) in
    let d : nat_eq c 41 ≡ false = ne_eqb c 41 (λ e. apart (sym z ∙ ap p (sym e) ∙ h)) in
    rw (a, b, d) refl
  where
    apart : false ≡ true → ⊥
    apart e = cc

-- ---- parentheses

room_by : (b : Bool) (n : ℕ) (x : Bool) → nat_le 64 n ≡ b → (if b then true else x) ≡ false → nat_le 64 n ≡ false
room_by true n x e h = cc
room_by false n x e h = e

room : (n : ℕ) (u : List ℕ) → IsShallow n (40 ∷ u) → nat_le 64 n ≡ false
room n u h = room_by (nat_le 64 n) n (is_deep_from (at (n + 1)) u) refl h

pub opens : (n : ℕ) (u : List ℕ) → IsShallow n (40 ∷ u) → Leads n (n + 1) (codes "(")
opens n u h = let e = room n u h in record { over = λ v. rw e refl }

pub opened : (n : ℕ) (u : List ℕ) → IsShallow n (40 ∷ u) → IsShallow (n + 1) u
opened n u h = past u (opens n u h) h

pub closes : (n : ℕ) → Leads (n + 1) n (codes ")")
closes n =
    let a : nat_lt 0 (n + 1) ≡ true = lt-ltb 0 (n + 1) (omega arith) in
    let e : n + 1 - 1 ≡ n = omega arith in
    record { over = λ u. rw (a, e) refl }

pub closed : (n : ℕ) (u : List ℕ) → IsShallow (n + 1) (41 ∷ u) → IsShallow n u
closed n u h = past u (closes n) h
