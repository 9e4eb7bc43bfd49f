-- Subscripts that lie between the bounds of their dimensions are those of an element.
use Rattle.std.proofs.Common.{◌≡◌, ℕ, ◌<◌, ◌≤◌, List, [], ◌∷◌, Some, None, Bool, true, false, refl, sym, ap, ◌∙◌, subst, arith, ℤ}
use Rattle.std.specs.Prelude.{if◌then◌else◌, nat_lt, IsSome}
use Rattle.std.proofs.lemmas.Bool.Decides.{nat_tests}
use Rattle.f77_ast.specs.Places.{Dim, Place, total_size, dim_has, in_column, position, within, element_in}
use Rattle.laws_programs.proofs.Storage.PositionLaws.{Closed, position_below}

-- each subscript lies in its dimension, whose upper bound is known; there are as many
abbrev pub Between : List Dim → List ℤ → Type 0
Between [] [] = Unit {0}
Between [] (n ∷ ns) = ⊥
Between (d ∷ ds) [] = ⊥
Between (d ∷ ds) (n ∷ ns) = (dim_has d n ≡ true) × ((h : ℤ) × (d.high ≡ Some h)) × Between ds ns

pub between_closed : (ds : List Dim) (ns : List ℤ) → Between ds ns → Closed ds
between_closed [] ns b = tt
between_closed (d ∷ ds) [] b = absurd b
between_closed (d ∷ ds) (n ∷ ns) b = (b.1, between_closed ds ns b.2)

-- so they have a position
pub record HasPosition (ds : List Dim) (ns : List ℤ) : Type 0 where
  pub offset : ℕ
  pub is_position : position ds ns ≡ Some offset

pub positioned : (ds : List Dim) (ns : List ℤ) → Between ds ns → HasPosition ds ns
positioned [] [] b = record { offset = 0; is_position = refl }
positioned [] (n ∷ ns) b = absurd b
positioned (d ∷ ds) [] b = absurd b
positioned (d ∷ ds) (n ∷ ns) b =
    let r = positioned ds ns b.2 in
    record { offset = _; is_position = ap (λ c. if c then in_column d n (position ds ns) else None) b.0 ∙ ap (in_column d n) r.is_position }

-- which is one of the units
pub inside : (p : Place) (ns : List ℤ) → Between p.dims ns → (Closed p.dims → total_size p.dims ≤ p.extent) → IsSome (element_in p ns)
inside p ns b reaches =
    let r = positioned p.dims ns b in
    let c = between_closed p.dims ns b in
    let below = position_below p.dims ns r.offset c r.is_position in
    let less = reaches c in
    subst (λ o. IsSome (within p o)) (sym r.is_position) (go r.offset (omega (arith, below, less)) (nat_lt r.offset p.extent) refl)
  where
    go : (k : ℕ) → k < p.extent → (c : Bool) → nat_lt k p.extent ≡ c → IsSome (if c then Some k else None)
    go k l true e = refl
    go k l false e = absurd (let q : p.extent ≤ k = grind (arith, nat_tests) in omega (arith, q, l))
