-- For functions over declarations. The plain tree of a declaration computes form by form, so that only lists have a lemma.
use Rattle.std.proofs.Common.{◌≡◌, ℕ, ◌+◌, ◌<◌, List, ◌∷◌, map, length, get_or, drop, add-one, append_assoc, append-nil}
use Rattle.std.proofs.Math.Seq.{drop-cons}

-- what is left of a list, one tree later
pub mapped-drop : {A B : Type 0} (f : A → B) (xs : List A) (i : ℕ) (d : A) → i < length xs → map f (drop i xs) ≡ f (get_or xs i d) ∷ map f (drop (i + 1) xs)
mapped-drop f xs i d h = rw (add-one, drop-cons xs i d)

-- loops over a list of declarations, entities or other parts
pub ruleset decl_lists = (mapped-drop, append_assoc, append-nil)
