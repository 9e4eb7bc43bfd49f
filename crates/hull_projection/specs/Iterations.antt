-- Pairs of stores joined by iterations.
use Rattle.std.specs.Prelude.{◌≡◌, ℕ, zero, suc, ℤ}
use Rattle.affine_systems.specs.declared.row.Var.TheVariants.{Cell, Exit, Phi, Aux}
use Rattle.affine_systems.specs.declared.row.System.{System}
use Rattle.affine_systems.specs.Points.{Point, HoldsAll}

-- what each cell holds
abbrev pub Store : Type 0
Store = ℕ → ℤ

-- cells by the first store, exits by the second, all else by the point
abbrev pub between : Point → Store → Store → Point
between p s w (Cell n) = s n
between p s w (Exit n) = w n
between p s w (Phi n) = p (Phi n)
between p s w (Aux n) = p (Aux n)

-- the second store comes from the first by that number of iterations, each of which the system describes, with its own numbers for all else
abbrev pub Joined : ℕ → System → Store → Store → Type 0
Joined zero t s w = (c : ℕ) → s c ≡ w c
Joined (suc n) t s w = (u : Store) × (q : Point) × HoldsAll (between q s u) t.rows × Joined n t u w
