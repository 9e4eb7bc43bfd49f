-- The ends of unions.
use Rattle.std.proofs.Common.{◌≡◌, ◌<◌, ◌⊎◌, inl, inr, List, [], ◌∷◌, ◌++◌, length, append-nil, ap, sym, ◌∙◌, refl, arith}
use Rattle.f77_ast.specs.declared.variable.Variable.{Variable}
use Rattle.f77_ast.specs.Variables.{union}

pub union-nil : (vs : List Variable) → union vs [] ≡ vs
union-nil [] = refl
union-nil (v ∷ vs) = ap (λ ws. v ∷ ws) (union-nil vs)

-- one of the lists has ended
pub ended : (made left right : List Variable) → (length left < 1) ⊎ (length right < 1) → (made ++ left) ++ right ≡ made ++ union left right
ended made [] right h = ap (λ xs. xs ++ right) (append-nil made)
ended made (v ∷ left) [] h = append-nil (made ++ v ∷ left) ∙ ap (λ xs. made ++ xs) (sym (union-nil (v ∷ left)))
ended made (v ∷ left) (w ∷ right) (inl h) = absurd (omega arith)
ended made (v ∷ left) (w ∷ right) (inr h) = absurd (omega arith)
