-- The title of a module and its first part.
use Rattle.std.proofs.Common.{◌≡◌, ℕ, List, [], ◌∷◌, ◌++◌, refl, append_assoc, append-nil}
use Rattle.f77_printer.specs.DeclText.{joined_by}
use Rattle.f77_printer.specs.ModuleText.{dummies_text}

pub dummies-some : (ds : List (List ℕ)) → (ds ≡ [] → ⊥) → dummies_text ds ≡ 40 ∷ (joined_by (λ n. n) ds ++ 41 ∷ [])
dummies-some [] h = absurd (h refl)
dummies-some (d ∷ ds) h = append_assoc (40 ∷ []) (joined_by (λ n. n) (d ∷ ds)) (41 ∷ [])

pub ruleset dummy_steps = (dummies-some, append_assoc, append-nil)
