-- A list that is mapped in place.
use Rattle.std.proofs.Common.{◌≡◌, ℕ, ◌+◌, ◌<◌, List, [], ◌∷◌, ◌++◌, map, take, drop, length, get_or, set, refl, sym, ap, ◌∙◌, arith}
use Rattle.std.proofs.lemmas.Grind.{take-set_at, take_at_read, drop_more_same}
use Rattle.std.proofs.lemmas.List.{get_or-drop, map-append, drop-set-lt}

module _ {A : Type 0} (f : A → A) (old now : List A) (i : ℕ) (d s : A) (small : i < length old) (same : length now ≡ length old) where
  read_same : drop i now ≡ drop i old → get_or now i d ≡ get_or old i d
  read_same e =
      let z : i + 0 ≡ i = omega arith in
      ap (λ n. get_or now n d) (sym z) ∙ sym (get_or-drop i now 0 d) ∙ ap (λ xs. get_or xs 0 d) e ∙ get_or-drop i old 0 d ∙ ap (λ n. get_or old n d) z

  pub mapped_more : take i now ≡ map f (take i old) → drop i now ≡ drop i old → s ≡ f (get_or now i d) → take (i + 1) (set now i s) ≡ map f (take (i + 1) old)
  mapped_more done left e =
      let within : i < length now = omega arith in
      take-set_at now i (i + 1) s refl within ∙ ap (λ xs. xs ++ s ∷ []) done ∙ ap (λ x. map f (take i old) ++ x ∷ []) (e ∙ ap f (read_same left))
      ∙ sym (map-append f (take i old) (get_or old i d ∷ [])) ∙ ap (map f) (sym (take_at_read old i d small).1)

  pub left_more : drop i now ≡ drop i old → drop (i + 1) (set now i s) ≡ drop (i + 1) old
  left_more left = drop-set-lt (i + 1) now i s (omega arith) ∙ drop_more_same now old i left
