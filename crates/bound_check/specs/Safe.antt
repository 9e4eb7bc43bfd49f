-- References that cannot leave their array (ANSI X3.9-1978 §5.4.3): by what holds before a statement, each subscript lies between its bounds.
use Rattle.std.specs.Prelude.{ℕ, Bool, true, false, ◌&&◌, List, [], ◌∷◌, Option, Some, None}
use Rattle.affine_systems.specs.declared.row.Row.{Row}
use Rattle.affine_systems.specs.Normal.{Normal, Kept, Always, Never, TooBig, normal}
use Rattle.hull_projection.specs.Refute.{refuted, entails}
use Rattle.f77_ast.specs.Trees.{ExprTree, ExprTrees}
use Rattle.f77_ast.specs.Trees as tree
use Rattle.f77_ast.specs.Symbols.{BoundTree}
use Rattle.affine_forms.specs.declared.affine.Affine.{Affine}
use Rattle.affine_forms.specs.Forms.{affine_of}
use Rattle.affine_forms.specs.Scalars.{Scalars}
use Rattle.affine_forms.specs.Comparisons.{at_most_row}
use Rattle.call_equations.specs.Forms.{unless_among}
use Rattle.preconditions.specs.call_translation.Scopes.{ScopeTree}
use Rattle.bound_check.specs.References.{bounds_of}

-- ---- rows

-- rows give another one: it holds wherever they do, as refutation shows
abbrev pub gives_normal : List Row → Normal → Bool
gives_normal rs (Kept r) = entails rs r
gives_normal rs Always = true
gives_normal rs Never = refuted rs
gives_normal rs TooBig = refuted rs

abbrev pub gives : List Row → Row → Bool
gives rs r = gives_normal rs (normal false r)

-- a form is at most another
abbrev pub at_most : List Row → Option Affine → Option Affine → Bool
at_most rs None g = false
at_most rs (Some f) None = false
at_most rs (Some f) (Some g) = gives rs (at_most_row f g)

-- ---- subscripts

-- a bound is that of the array while the module runs, where no statement changes a variable of it; `*` is none
abbrev pub fixed_bound : Scalars → List ℕ → Option ExprTree → Option Affine
fixed_bound k changed None = None
fixed_bound k changed (Some e) = unless_among changed (affine_of k e)

abbrev pub lies_between : List Row → Option Affine → Option Affine → Option Affine → Bool
lies_between rs low s high = at_most rs low s && at_most rs s high

-- a subscript lies between its bounds; `written` are the variables that the statement itself has changed before
abbrev pub fits_bound : Scalars → List ℕ → List ℕ → List Row → ExprTree → BoundTree → Bool
fits_bound k changed written rs e b = lies_between rs (fixed_bound k changed (Some b.low)) (unless_among written (affine_of k e)) (fixed_bound k changed b.high)

-- as many subscripts as bounds, each of them between its own
abbrev pub fits_bounds : Scalars → List ℕ → List ℕ → List Row → ExprTrees → List BoundTree → Bool
fits_bounds k changed written rs tree.no_exprs [] = true
fits_bounds k changed written rs tree.no_exprs (b ∷ bs) = false
fits_bounds k changed written rs (tree.more_exprs e es) [] = false
fits_bounds k changed written rs (tree.more_exprs e es) (b ∷ bs) = fits_bound k changed written rs e b && fits_bounds k changed written rs es bs

abbrev pub is_safe : ScopeTree → List ℕ → List ℕ → List Row → ExprTree → Bool
is_safe m changed written rs (tree.int n) = false
is_safe m changed written rs (tree.log b) = false
is_safe m changed written rs (tree.name x) = false
is_safe m changed written rs (tree.element x es) = fits_bounds m.scalars changed written rs es (bounds_of m x)
is_safe m changed written rs (tree.paren e) = false
is_safe m changed written rs (tree.unary o e) = false
is_safe m changed written rs (tree.binary o a b) = false
is_safe m changed written rs (tree.chars t) = false
