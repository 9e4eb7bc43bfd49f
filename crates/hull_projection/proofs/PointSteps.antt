-- Rows with a point are not refuted.
use Rattle.std.proofs.Common.{◌≡◌, List, Bool, true, false, refl, ℤ, ◌+ℤ◌, ◌*ℤ◌, arith, ap, ◌∙◌}
use Rattle.std.proofs.lemmas.Int.{ints}
use Rattle.affine_systems.specs.declared.row.Row.{Row}
use Rattle.affine_systems.specs.Points.{Point, HoldsAll}
use Rattle.hull_projection.specs.Refute.{refuted}
use Rattle.hull_projection.proofs.RefuteLaws.{refuted_none}

-- one term more of a sum
pub one_term_more : (sum part all rest f n m : ℤ) → part ≡ f *ℤ n → n ≡ m → sum +ℤ ((f *ℤ m) +ℤ rest) ≡ all → (sum +ℤ part) +ℤ rest ≡ all
one_term_more sum part all rest f n m e g h =
    let k : part ≡ f *ℤ m = e ∙ ap (λ (z : ℤ). f *ℤ z) g in
    omega (arith, ints, k, h)

pub not_refuted : (p : Point) (rs : List Row) → HoldsAll p rs → false ≡ refuted rs
not_refuted p rs h = go (refuted rs) refl
  where
    go : (b : Bool) → refuted rs ≡ b → false ≡ b
    go true e = absurd (refuted_none p rs e h)
    go false e = refl
