-- The numbers of statements and what is said of them, one by one.
use Rattle.std.proofs.Common.{◌≡◌, ℕ, ◌-◌, ◌<◌, ◌≤◌, List, [], ◌∷◌, length, map, take, drop, get_or, take_all, ap, ap₂, ◌∙◌, sym, arith}
use Rattle.f77_ast.specs.declared.results.At.{At}

pub at_rest : {T : Type 0} (as' : List (At T)) (ns : List ℕ) (a : At T) → 0 < length as' → 0 < length ns → a ≡ get_or as' 0 a → a.id ≡ get_or ns 0 0
    → map (λ (b : At T). b.id) (take (length as' - 1) (drop 1 as')) ≡ take (length ns - 1) (drop 1 ns) → map (λ (b : At T). b.id) as' ≡ ns
at_rest [] ns a l m e f h = absurd (omega arith)
at_rest (b ∷ bs) [] a l m e f h = absurd (omega arith)
at_rest {T} (b ∷ bs) (n ∷ ns) a l m e f h =
    let j : length bs ≤ length (b ∷ bs) - 1 = omega arith in
    let k : length ns ≤ length (n ∷ ns) - 1 = omega arith in
    let same : b.id ≡ n = sym (ap (λ (c : At T). c.id) e) ∙ f in
    let rest : map (λ (c : At T). c.id) bs ≡ ns = sym (ap (map (λ (c : At T). c.id)) (take_all (length (b ∷ bs) - 1) bs j)) ∙ (h ∙ take_all (length (n ∷ ns) - 1) ns k) in
    ap₂ (λ x xs. x ∷ xs) same rest
