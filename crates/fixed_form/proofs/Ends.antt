-- The last statement.
use Rattle.std.proofs.Common.{◌≡◌, ◌<◌, ◌+◌, ◌-◌, List, [], ◌∷◌, ◌++◌, length, take, get_or, refl, ap, sym, ◌∙◌, arith}
use Rattle.std.proofs.lemmas.List.{take_all, take_more}
use Rattle.fixed_form.specs.declared.line.Line.{Line}
use Rattle.fixed_form.specs.Reading.{ends_well, is_end}

pub ends_well-append : (xs : List Line) (s : Line) → ends_well (xs ++ s ∷ []) ≡ is_end s
ends_well-append [] s = refl
ends_well-append (x ∷ []) s = refl
ends_well-append (x ∷ y ∷ ys) s = ends_well-append (y ∷ ys) s

front_and_last : (xs : List Line) (d : Line) → 0 < length xs → xs ≡ take (length xs - 1) xs ++ get_or xs (length xs - 1) d ∷ []
front_and_last xs d h =
    let e : length xs ≡ (length xs - 1) + 1 = omega arith in
    sym (take_all (length xs) xs (omega arith)) ∙ ap (λ k. take k xs) e ∙ take_more xs (length xs - 1) d (omega arith)

pub ends_well-last : (xs : List Line) (d : Line) → 0 < length xs → ends_well xs ≡ is_end (get_or xs (length xs - 1) d)
ends_well-last xs d h = ap ends_well (front_and_last xs d h) ∙ ends_well-append (take (length xs - 1) xs) (get_or xs (length xs - 1) d)
