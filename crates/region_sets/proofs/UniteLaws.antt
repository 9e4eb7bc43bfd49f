-- A union has the points of both regions; each point of an exact one is one of one of them that is exact.
use Rattle.std.proofs.Common.{◌≡◌, List, [], ◌∷◌, ◌++◌, ◌&&◌, Bool, true, false, refl, ◌⊎◌, inl, inr, ⊎_elim}
use Rattle.std.specs.Prelude.{if◌then◌else◌, not}
use Rattle.std.proofs.lemmas.Bool.{and_parts}
use Rattle.affine_systems.specs.declared.row.System.{System}
use Rattle.affine_systems.specs.Points.{Point}
use Rattle.hull_projection.specs.Unions.{HoldsSome}
use Rattle.transformers.proofs.TransformerAlgebra.Members.{in_left, in_right}
use Rattle.region_sets.specs.declared.region.Region.{Region}
use Rattle.region_sets.specs.Regions.{any_weak, remade}
use Rattle.region_sets.specs.Within.{all_within}
use Rattle.region_sets.specs.Trim.{trim, or_infeasible, trimmed_to}
use Rattle.region_sets.specs.Unite.{unite}
use Rattle.region_sets.specs.Laws.{HasBoth, IsOneExact}
use Rattle.region_sets.proofs.TrimLaws.{itself, each_within, trim_has, trimmed_back}

abbrev of_both : Region → Region → Region
of_both a b = trimmed_to a (a.exact && b.exact) (a.pieces ++ b.pieces)

pub unite_has : (a b : Region) → HasBoth a b (unite a b)
unite_has a b = go (all_within a.pieces b.pieces) refl (all_within b.pieces a.pieces) refl
  where
    go : (m : Bool) → all_within a.pieces b.pieces ≡ m → (n : Bool) → all_within b.pieces a.pieces ≡ n → HasBoth a b (if m then remade a a.exact a.pieces else if n then remade b b.exact b.pieces else of_both a b)
    go true e n f = ((λ s i. itself s a.pieces i), (λ s i. each_within a.pieces b.pieces e s i))
    go false e true f = ((λ s i. each_within b.pieces a.pieces f s i), (λ s i. itself s b.pieces i))
    go false e false f = ((λ s i. trim_has s (a.pieces ++ b.pieces) (in_left s a.pieces b.pieces i)), (λ s i. trim_has s (a.pieces ++ b.pieces) (in_right s a.pieces b.pieces i)))

some_split : (p : Point) (ss ts : List System) → HoldsSome p (ss ++ ts) → HoldsSome p ss ⊎ HoldsSome p ts
some_split p [] ts h = inr h
some_split p (s ∷ ss) ts (inl h) = inl (inl h)
some_split p (s ∷ ss) ts (inr h) = ⊎_elim (λ k. inl (inr k)) (λ k. inr k) (some_split p ss ts h)

pub unite_exact : (a b : Region) → IsOneExact a b (unite a b)
unite_exact a b = go (all_within a.pieces b.pieces) (all_within b.pieces a.pieces)
  where
    go : (m n : Bool) → IsOneExact a b (if m then remade a a.exact a.pieces else if n then remade b b.exact b.pieces else of_both a b)
    go true n = λ e p h. inl ((and_parts a.exact (not (any_weak a.pieces)) e).0, h)
    go false true = λ e p h. inr ((and_parts b.exact (not (any_weak b.pieces)) e).0, h)
    go false false = λ e p h.
        let ss = a.pieces ++ b.pieces in
        let x = and_parts ((a.exact && b.exact) && (trim ss).exact) (not (any_weak (or_infeasible (trim ss).pieces))) e in
        let y = and_parts (a.exact && b.exact) (trim ss).exact x.0 in
        let z = and_parts a.exact b.exact y.0 in
        ⊎_elim (λ k. inl (z.0, k)) (λ k. inr (z.1, k)) (some_split p a.pieces b.pieces (trimmed_back p ss y.1 h))
