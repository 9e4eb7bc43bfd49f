-- Seven texts appended one after another.
use Rattle.std.proofs.Common.{◌≡◌, ℕ, List, ◌++◌, append_assoc, ap, ◌∙◌}
use Rattle.base_values.proofs.Joins.{joined}

pub joined_seven : (o o1 o2 o3 o4 o5 o6 o7 a b c d e f g : List ℕ)
    → o1 ≡ o ++ a → o2 ≡ o1 ++ b → o3 ≡ o2 ++ c → o4 ≡ o3 ++ d → o5 ≡ o4 ++ e → o6 ≡ o5 ++ f → o7 ≡ o6 ++ g → o7 ≡ o ++ (a ++ (b ++ (c ++ (d ++ (e ++ (f ++ g))))))
joined_seven o o1 o2 o3 o4 o5 o6 o7 a b c d e f g p q r s t u v =
    v ∙ (ap (λ x. x ++ g) (u ∙ ap (λ x. x ++ f) (joined o o1 o2 o3 o4 o5 a b c d e p q r s t)) ∙ simp append_assoc)
