-- Texts appended one after another.
use Rattle.std.proofs.Common.{◌≡◌, ℕ, List, ◌++◌, append_assoc, ap, ◌∙◌}

pub joined : (o o1 o2 o3 o4 o5 a b c d e : List ℕ) → o1 ≡ o ++ a → o2 ≡ o1 ++ b → o3 ≡ o2 ++ c → o4 ≡ o3 ++ d → o5 ≡ o4 ++ e → o5 ≡ o ++ (a ++ (b ++ (c ++ (d ++ e))))
joined o o1 o2 o3 o4 o5 a b c d e p q r s t =
    t ∙ (ap (λ x. x ++ e) (s ∙ ap (λ x. x ++ d) (r ∙ ap (λ x. x ++ c) (q ∙ ap (λ x. x ++ b) p))) ∙ simp append_assoc)
