-- The types of the letters, one after another.
use Rattle.std.proofs.Common.{◌≡◌, ℕ, ◌+◌, ◌<◌, List, [], ◌∷◌, ◌++◌, take, get_or, refl, ap, ◌∙◌, arith, add-one}
use Rattle.std.proofs.Math.Seq.{take-suc}
use Rattle.std.proofs.lemmas.List.FromFn.{get_or-range_with_len}
use Rattle.std.specs.List.{range_with_len}
use Rattle.f77_ast.specs.DeclTrees.{DeclTree}
use Rattle.f77_names.specs.Kinds.{alphabet, kinds_from, letter_kind}

kinds_from-append : (ds : List DeclTree) (c n : ℕ) (ns : List ℕ) → kinds_from ds c (ns ++ n ∷ []) ≡ kinds_from ds c ns ++ letter_kind ds (c + n) ∷ []
kinds_from-append ds c n [] = refl
kinds_from-append ds c n (m ∷ ns) = ap (λ ks. letter_kind ds (c + m) ∷ ks) (kinds_from-append ds c n ns)

is_range : alphabet ≡ range_with_len 0 26
is_range = refl

letter_at : (n : ℕ) → n < 26 → get_or alphabet n 0 ≡ n
letter_at n h = let z : 0 + n ≡ n = omega arith in ap (λ xs. get_or xs n 0) is_range ∙ get_or-range_with_len 0 26 n 0 h ∙ z

-- one letter more
pub kinds_from-more : (ds : List DeclTree) (n : ℕ) → n < 26 → kinds_from ds 65 (take (n + 1) alphabet) ≡ kinds_from ds 65 (take n alphabet) ++ letter_kind ds (65 + n) ∷ []
kinds_from-more ds n h =
    ap (λ k. kinds_from ds 65 (take k alphabet)) (add-one n)
    ∙ ap (kinds_from ds 65) (take-suc alphabet n 0 (omega (arith, h)))
    ∙ kinds_from-append ds 65 (get_or alphabet n 0) (take n alphabet)
    ∙ ap (λ k. kinds_from ds 65 (take n alphabet) ++ letter_kind ds (65 + k) ∷ []) (letter_at n h)
