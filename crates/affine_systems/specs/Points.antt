-- What rows mean: a point gives each variable a number.
use Rattle.std.specs.Prelude.{◌≡◌, Bool, true, false, not, List, [], ◌∷◌, if◌then◌else◌, ℤ, pos, ◌+ℤ◌, ◌*ℤ◌, ◌≤ℤ◌}
use Rattle.std.specs.Ordering.{int_eq}
use Rattle.affine_systems.specs.declared.row.Var.{Var}
use Rattle.affine_systems.specs.declared.row.Term.{Term}
use Rattle.affine_systems.specs.declared.row.Row.{Row}
use Rattle.affine_systems.specs.Terms.{var_eq}

abbrev pub Point : Type 0
Point = Var → ℤ

-- the sum of the terms at a point
abbrev pub value : Point → List Term → ℤ
value p [] = pos 0
value p (t ∷ ts) = (t.factor *ℤ p t.var) +ℤ value p ts

-- how a row's value stands to its bound
abbrev pub Meets : Bool → ℤ → ℤ → Type 0
Meets true x b = x ≡ b
Meets false x b = x ≤ℤ b

-- a row holds at a point
abbrev pub Holds : Point → Row → Type 0
Holds p r = Meets r.equal (value p r.terms) r.bound

abbrev pub HoldsAll : Point → List Row → Type 0
HoldsAll p [] = Unit {0}
HoldsAll p (r ∷ rs) = Holds p r × HoldsAll p rs

-- the point with another number at v
abbrev pub moved : Point → Var → ℤ → Point
moved p v x w = if var_eq v w then x else p w

-- the point that is 1 at v and 0 elsewhere
abbrev pub only : Var → Point
only v w = if var_eq v w then pos 1 else pos 0

-- the factor of a variable
unfoldable pub factor_of : Var → List Term → ℤ
factor_of v ts = value (only v) ts

abbrev pub occurs : Var → Row → Bool
occurs v r = not (int_eq (factor_of v r.terms) (pos 0))
