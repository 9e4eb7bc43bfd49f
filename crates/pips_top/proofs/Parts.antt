-- One part after another.
use Rattle.std.proofs.Common.{◌≡◌, ℕ, ◌+◌, List, ◌++◌, append_assoc, append-nil, add-one, ap, sym, ◌∙◌}
use Rattle.pips_top.specs.Sample.{part, parts_to}

-- one part more
pub parts-more : (out new before : List ℕ) (k : ℕ) → out ≡ before ++ parts_to k → new ≡ out ++ part (k + 1) → new ≡ before ++ parts_to (k + 1)
parts-more out new before k e h =
    h ∙ (ap (λ xs. xs ++ part (k + 1)) e ∙ (append_assoc before (parts_to k) (part (k + 1))
    ∙ (ap (λ n. before ++ (parts_to k ++ part n)) (add-one k) ∙ sym (ap (λ n. before ++ parts_to n) (add-one k)))))

pub ruleset part_steps = (parts-more, append-nil)
