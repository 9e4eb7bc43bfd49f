-- In a character constant no parenthesis counts.
use Rattle.std.proofs.Common.{◌≡◌, ℕ, List, [], ◌∷◌, ◌++◌, refl, ap, sym, ◌∙◌, append_assoc, Bool, true, false, if◌then◌else◌}
use Rattle.std.specs.Prelude.{codes, nat_eq, ◌&&◌}
use Rattle.std.proofs.lemmas.Bool.{and_right}
use Rattle.f77_structure.specs.declared.depth.Depth.{Depth}
use Rattle.f77_structure.specs.Depth.{is_deep_from}
use Rattle.f77_printer.specs.ExprText.{doubled}
use Rattle.roundtrip_programs.proofs.ModuleTexts.Levels.{at, IsShallow, Leads}

abbrev in_quotes : ℕ → Depth
in_quotes n = record { opened = n; quoted = true }

inside_at : (b : Bool) (n c : ℕ) (cs u : List ℕ) → nat_eq c 39 ≡ b → is_deep_from (in_quotes n) (doubled cs ++ (39 ∷ u)) ≡ is_deep_from (at n) u
    → is_deep_from (in_quotes n) ((if b then 39 ∷ 39 ∷ doubled cs else c ∷ doubled cs) ++ (39 ∷ u)) ≡ is_deep_from (at n) u
inside_at true n c cs u e h = h
inside_at false n c cs u e h = let f : (nat_eq c 40 && false) ≡ false = and_right (nat_eq c 40) false refl in rw (f, e) h

inside : (n : ℕ) (c u : List ℕ) → is_deep_from (in_quotes n) (doubled c ++ (39 ∷ u)) ≡ is_deep_from (at n) u
inside n [] u = refl
inside n (c ∷ cs) u = inside_at (nat_eq c 39) n c cs u refl (inside n cs u)

pub constant-leads : (n : ℕ) (c : List ℕ) → Leads n n (codes "'" ++ doubled c ++ codes "'")
constant-leads n c = record { over = λ u. ap (is_deep_from (in_quotes n)) (append_assoc (doubled c) (39 ∷ []) u) ∙ inside n c u }

pub past_constant : (n : ℕ) (c u : List ℕ) → IsShallow n (39 ∷ (doubled c ++ (39 ∷ u))) → IsShallow n u
past_constant n c u h = sym (inside n c u) ∙ h
